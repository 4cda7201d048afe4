-- What a custom encoding says (TN5176, section 12), where its checks pass (Encoding): one after the other, which glyph a code names. By the glyph's number in
-- format 0, a byte for each code, and in format 1, a first code and how many follow it for each range, the glyphs being 1, 2 and so on; by a string id in the
-- supplements, a code and two bytes each, which come after the rest.
use Rattle.std.specs.Prelude.{ℕ, zero, suc, ◌+◌, ◌*◌, ◌/◌, ◌%◌, List, [], ◌∷◌, ◌++◌, eqb, take, drop, get_or}
use Rattle.octets.specs.Pick.{pick}
use Rattle.octets.specs.Octets.{be}

-- a code, and the number of a glyph or a string id
pub data Naming : Type 0 where
  by_number : ℕ → ℕ → Naming
  by_string : ℕ → ℕ → Naming

-- codes of glyphs from g on
unfoldable pub codes_from : ℕ → List ℕ → List Naming
codes_from g [] = []
codes_from g (code ∷ bs) = by_number code g ∷ codes_from (g + 1) bs

-- n codes from one on, of glyphs from g on; also those above 255, which no code is
unfoldable pub range_from : ℕ → ℕ → ℕ → List Naming
range_from zero code g = []
range_from (suc n) code g = by_number code g ∷ range_from n (code + 1) (g + 1)

-- the ranges at the front of bs, of glyphs from g on
unfoldable pub ranges_from : ℕ → ℕ → List ℕ → List Naming
ranges_from zero g bs = []
ranges_from (suc n) g bs = range_from (get_or bs 1 0 + 1) (get_or bs 0 0) g ++ ranges_from n (g + (get_or bs 1 0 + 1)) (drop 2 bs)

-- the supplements at the front of bs
unfoldable pub supplied_from : ℕ → List ℕ → List Naming
supplied_from zero bs = []
supplied_from (suc n) bs = by_string (get_or bs 0 0) (be 0 (take 2 (drop 1 bs))) ∷ supplied_from n (drop 3 bs)

-- the encoding of a format and a count, whose codes or ranges stand at the front of bs
unfoldable pub namings_by : ℕ → ℕ → List ℕ → List Naming
namings_by format count bs =
    pick (eqb (format % 128) 0) (codes_from 1 (take count bs)) (ranges_from count 1 bs)
    ++ pick (eqb (format / 128) 0) [] (supplied_from (get_or bs (count * (format % 128 + 1)) 0) (drop (count * (format % 128 + 1) + 1) bs))

-- the encoding at a place
unfoldable pub namings_at : List ℕ → ℕ → List Naming
namings_at b at = namings_by (get_or b at 0) (get_or b (at + 1) 0) (drop (at + 2) b)
