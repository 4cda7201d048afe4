-- Texts: lists of bytes, as the strings of TN5176 are (section 10). Equality as a test, and byte order.
use Rattle.std.specs.Prelude.{ℕ, Bool, true, false, List, [], ◌∷◌, ltb, eqb}
use Prim.Native.Char.{code}
use Prim.Native.String.{String, [] as []ˢ, ◌∷◌ as ◌∷ˢ◌}
use Rattle.octets.specs.Pick.{pick}
use Rattle.std.specs.declared.cmp.Ordering.{Ordering}
use Rattle.std.specs.declared.cmp.Ordering.TheVariants.{Less, Equal, Greater}

-- the bytes of a text that is written out
unfoldable pub codes : String → List ℕ
codes []ˢ = []
codes (c ∷ˢ s) = code c ∷ codes s

-- whether two texts are equal
unfoldable pub same_text_lem : List ℕ → List ℕ → Bool
same_text_lem [] [] = true
same_text_lem [] (y ∷ ys) = false
same_text_lem (x ∷ xs) [] = false
same_text_lem (x ∷ xs) (y ∷ ys) = pick (eqb x y) (same_text_lem xs ys) false

-- how a text stands to another: by the first byte in which they differ, and a text that ends there is less
unfoldable pub order_of : List ℕ → List ℕ → Ordering
order_of [] [] = Equal
order_of [] (y ∷ ys) = Less
order_of (x ∷ xs) [] = Greater
order_of (x ∷ xs) (y ∷ ys) = pick (ltb x y) Less (pick (ltb y x) Greater (order_of xs ys))
