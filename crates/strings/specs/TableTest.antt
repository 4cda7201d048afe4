-- The one test of the table of standard strings (TN5176, Appendix A), computed over the whole of it: the offsets rise from 0 to the end of the text
-- by the lengths of the names, and the order has each of the 391 ids once, in the strictly rising byte order of their names, so
-- that all names differ.
use Rattle.std.specs.Prelude.{ℕ, zero, suc, ◌+◌, Bool, true, false, ◌&&◌, List, [], ◌∷◌, map, ltb, length}
use Rattle.octets.specs.Lists.{all_below, before}
use Rattle.strings.specs.Table.{standard_offsets, standard_order}
use Rattle.strings.specs.Text.{same_text_lem, order_of}
use Rattle.strings.specs.Strings.{standard_strings, standard_string}
use Rattle.std.specs.declared.cmp.Ordering.{Ordering}
use Rattle.std.specs.declared.cmp.Ordering.TheVariants.{Less, Equal, Greater}

-- each number is above the one before it
unfoldable pub rises : List ℕ → Bool
rises [] = true
rises (a ∷ []) = true
rises (a ∷ (b ∷ ns)) = ltb a b && rises (b ∷ ns)

-- where texts begin that stand one behind the other, the first at a, and where the last ends
unfoldable pub offsets_from : ℕ → List (List ℕ) → List ℕ
offsets_from a [] = a ∷ []
offsets_from a (s ∷ ss) = a ∷ offsets_from (a + length s) ss

-- the order is Less
unfoldable pub is_less : Ordering → Bool
is_less Less = true
is_less Equal = false
is_less Greater = false

-- each text is less than the next
unfoldable pub ordered : List (List ℕ) → Bool
ordered [] = true
ordered (s ∷ []) = true
ordered (s ∷ (t ∷ ss)) = is_less (order_of s t) && ordered (t ∷ ss)

-- the list has each number below n
unfoldable pub has_all : ℕ → List ℕ → Bool
has_all zero ks = true
has_all (suc n) ks = ltb (before n ks) (length ks) && has_all n ks

-- every test holds
unfoldable pub every : List Bool → Bool
every [] = true
every (t ∷ ts) = t && every ts

-- what is tested of the table
unfoldable pub table_tests : List Bool
table_tests =
    rises standard_offsets
    ∷ same_text_lem standard_offsets (offsets_from 0 standard_strings)
    ∷ ordered (map standard_string standard_order)
    ∷ all_below 391 standard_order
    ∷ has_all 391 standard_order
    ∷ []
