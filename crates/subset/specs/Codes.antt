-- The glyphs of codes (TN5176, section 12; document 02, Wish 4), and the encoding of a subset: format 0 without codes of its own, and a
-- supplement for each code whose glyph is kept, codes rising.
use Rattle.std.specs.Prelude.{ℕ, zero, suc, ◌+◌, Bool, List, [], ◌∷◌, ◌++◌, ltb, eqb, length, get_or, None, Option, Some}
use Rattle.octets.specs.Pick.{pick}
use Rattle.octets.specs.Octets.{bytes_of}
use Rattle.strings.specs.Strings.{string_text}
use Rattle.charset.specs.Codes.{Naming, by_number, by_string}
use Rattle.charset.specs.Predefined.{standard_encoding, expert_encoding}
use Rattle.find.specs.Find.{glyph_with_text}
use Rattle.dict_write.specs.Written.{offset_entry}
use Rattle.cff.specs.Font.{Coding, standard, expert, custom, Program, encoding}
use Rattle.subset.specs.Kept.{is_in}
use Rattle.subset.specs.Texts.{name_of, new_id}

-- ---- the glyph of a code

-- the glyph that finding gives for the string of an id
abbrev pub string_glyph : Program → ℕ → Option ℕ
string_glyph p sid = glyph_with_text p.strings (string_text p.strings sid) 0 p.ids

-- the code of a naming, and the glyph that it names: none past the font, and none for a string that no glyph has
abbrev pub code_of : Naming → ℕ
code_of (by_number code g) = code
code_of (by_string code sid) = code

abbrev pub glyph_by : Program → Naming → Option ℕ
glyph_by p (by_number code g) = pick (ltb g (length p.charstrings)) (Some g) None
glyph_by p (by_string code sid) = string_glyph p sid

abbrev pub or_else : Option ℕ → Option ℕ → Option ℕ
or_else (Some g) f = Some g
or_else None f = f

-- the last glyph that a code names, or else the one before
unfoldable pub last_named : Program → ℕ → Option ℕ → List Naming → Option ℕ
last_named p code f [] = f
last_named p code f (n ∷ ns) = last_named p code (pick (eqb (code_of n) code) (or_else (glyph_by p n) f) f) ns

-- by a predefined table, or by the font's own
unfoldable pub glyph_of : Program → Coding → ℕ → Option ℕ
glyph_of p standard code = string_glyph p (get_or standard_encoding code 0)
glyph_of p expert code = string_glyph p (get_or expert_encoding code 0)
glyph_of p (custom ns) code = last_named p code None ns

-- ---- the encoding of a subset

-- a code and the new string id of its glyph
pub record Pair : Type 0 where
  pub code : ℕ
  pub id : ℕ

abbrev pub pair_of : Program → List ℕ → List (List ℕ) → ℕ → Option ℕ → List Pair
pair_of p kept own code None = []
pair_of p kept own code (Some g) = pick (is_in g kept) (record { code = code; id = new_id own (name_of p g) } ∷ []) []

-- those of n codes from one on
unfoldable pub pairs_from : Program → List Naming → List ℕ → List (List ℕ) → ℕ → ℕ → List Pair
pairs_from p ns kept own zero code = []
pairs_from p ns kept own (suc n) code = pair_of p kept own code (last_named p code None ns) ++ pairs_from p ns kept own n (code + 1)

-- what a subset has: no encoding, the Expert one, or these pairs
pub data Coded : Type 0 where
  none : Coded
  predefined : Coded
  pairs : List Pair → Coded

unfoldable pub coded_by_lem : Program → List ℕ → List (List ℕ) → Coding → Coded
coded_by_lem p kept own standard = none
coded_by_lem p kept own expert = predefined
coded_by_lem p kept own (custom ns) = pairs (pairs_from p ns kept own 256 0)

-- where it was asked for
abbrev pub coded_if : Bool → Program → List ℕ → List (List ℕ) → Coded
coded_if ask p kept own = pick ask (coded_by_lem p kept own p.coding) none

-- how many pairs there are: 13 above 255
abbrev pub pair_count : Coded → ℕ
pair_count none = 0
pair_count predefined = 0
pair_count (pairs ps) = length ps

unfoldable pub pair_bytes : List Pair → List ℕ
pair_bytes [] = []
pair_bytes (q ∷ qs) = q.code ∷ (bytes_of 2 q.id ++ pair_bytes qs)

abbrev pub encoding_bytes : List Pair → List ℕ
encoding_bytes ps = 0x80 ∷ 0x00 ∷ length ps ∷ pair_bytes ps

-- its bytes behind the charset
abbrev pub coded_bytes : Coded → List ℕ
coded_bytes none = []
coded_bytes predefined = []
coded_bytes (pairs ps) = encoding_bytes ps

-- its offset, the bytes standing at a place: 0, the standard encoding, for none, and 1 for the Expert one
abbrev pub coded_at : Coded → ℕ → ℕ
coded_at none at = 0
coded_at predefined at = 1
coded_at (pairs ps) at = at

-- the entry of the top DICT: none for the standard encoding
abbrev pub encoding_entry : ℕ → List ℕ
encoding_entry v = pick (eqb v 0) [] (offset_entry encoding v)

-- ---- reading the subset: each code whose glyph is kept has the glyph of the same name, and no other code has any

-- a code's glyph by its name
pub data Meant : Type 0 where
  nothing : Meant
  named : List ℕ → Meant

abbrev pub meant : Program → Option ℕ → Meant
meant p None = nothing
meant p (Some g) = named (name_of p g)

-- the same, where the glyph is kept
abbrev pub kept_meant : Program → List ℕ → Option ℕ → Meant
kept_meant p kept None = nothing
kept_meant p kept (Some g) = pick (is_in g kept) (named (name_of p g)) nothing
