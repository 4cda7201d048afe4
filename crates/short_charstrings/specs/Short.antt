-- Short charstrings (document 02, Wish 13): 'every plain charstring of 1 to 4 bytes that makes no call and whose last byte is its only endchar.
-- Shorter ones come first, and those of one length rise byte by byte.' Plain is document 01's (crates/unfold).
use Rattle.std.specs.Prelude.{ℕ, ◌-◌, Bool, true, false, List, [], ◌∷◌, ltb, eqb, length, take, get_or}
use Rattle.octets.specs.Pick.{pick}
use Rattle.octets.specs.Lists.{all_below}
use Rattle.unfold.specs.Unfold.{Glyph, not_plain_lem, plain, unfold_glyph}

-- a charstring unfolded with no subroutines: whatever calls is not plain
abbrev pub alone : List ℕ → Glyph
alone s = unfold_glyph [] [] 0 0 s

abbrev pub is_plain : Glyph → Bool
is_plain not_plain_lem = false
is_plain (plain ts rows) = true

-- whether an endchar runs: a plain charstring ends by one, but for the empty one, which is plain and runs nothing (Tokens `ends-tokens`)
unfoldable pub ends : List ℕ → Bool
ends s = pick (ltb (length s) 1) false (is_plain (alone s))

-- 1 to 4 bytes, the last of them endchar, 14. An endchar runs in all of them and none in those before the last, so that the last byte is it and no
-- other is: of operators, since a byte of a number or of a mask may be 14 too
unfoldable pub is_short : List ℕ → Bool
is_short s =
    pick (all_below 256 s)
    (pick (ltb (length s) 1) false
    (pick (ltb 4 (length s)) false
    (pick (eqb (get_or s (length s - 1) 0) 14)
    (pick (ends s) (pick (ends (take (length s - 1) s)) false true) false) false))) false

-- byte by byte, of those of one length
unfoldable pub below : List ℕ → List ℕ → Bool
below [] t = false
below (x ∷ xs) [] = false
below (x ∷ xs) (y ∷ ys) = pick (ltb x y) true (pick (eqb x y) (below xs ys) false)

-- shorter ones first
unfoldable pub comes_before : List ℕ → List ℕ → Bool
comes_before s t = pick (ltb (length s) (length t)) true (pick (eqb (length s) (length t)) (below s t) false)
