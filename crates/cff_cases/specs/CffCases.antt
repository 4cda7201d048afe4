-- The answers of stored cases R, N, C and I (tools/compare/README.md, 'Stored cases'), over what reading, finding and items are.
use Rattle.std.specs.Prelude.{ℕ, List, [], ◌∷◌, ◌++◌, ltb, eqb, length, get_or, None, Option, Some, Result, Ok, Err}
use Rattle.octets.specs.Pick.{pick}
use Rattle.octets.specs.Octets.{num_at, bytes_of}
use Rattle.cases.specs.Inputs.{font_input, over}
use Rattle.refusal.specs.Refusal.{number_of}
use Rattle.refusal.specs.declared.Refusal.{Refusal}
use Rattle.cff.specs.Font.{read_font}
use Rattle.cff.specs.Find.{read_as, name_as, cid_as, item_refusal_lem, item_of}
use Rattle.cff.specs.declared.Counts.{Counts}
use Rattle.cff.specs.declared.ItemKind.{ItemKind}
use Rattle.cff_entries.specs.Kinds.{kind_of}

-- glyphs, global subroutines and strings
unfoldable pub sizes_bytes : Counts → List ℕ
sizes_bytes c = bytes_of 4 c.glyphs ++ bytes_of 4 c.globals ++ bytes_of 4 c.strings

-- of a font that is read: no refusal, the sizes, 1 where it is CID-keyed, W
unfoldable pub font_bytes : Counts → List ℕ
font_bytes c = (0 ∷ sizes_bytes c) ++ bytes_of 1 (pick c.cid 1 0) ++ bytes_of 8 c.work

-- the answer of reading
abbrev pub read_bytes : Result Counts Refusal → List ℕ
read_bytes (Err n) = number_of n ∷ []
read_bytes (Ok c) = font_bytes c

-- the answer of finding: no refusal, then 1 and the glyph, or 0 and 0
abbrev pub found_bytes : Result (Option ℕ) Refusal → List ℕ
found_bytes (Err n) = number_of n ∷ []
found_bytes (Ok None) = bytes_of 4 0
found_bytes (Ok (Some g)) = 0 ∷ 1 ∷ bytes_of 2 g

-- kind R: nothing more is asked
unfoldable pub read_answer : List ℕ → List ℕ → Option (List ℕ)
read_answer font asked = pick (ltb 0 (length asked)) None (Some (read_bytes (read_as (read_font font))))

-- kind N: a name
abbrev pub name_answer : List ℕ → List ℕ → Option (List ℕ)
name_answer font name = Some (found_bytes (name_as (read_font font) name))

-- kind C: a CID
unfoldable pub cid_answer : List ℕ → List ℕ → Option (List ℕ)
cid_answer font asked = pick (eqb (length asked) 2) (Some (found_bytes (cid_as (read_font font) (num_at asked 0 2)))) None

-- the refusal of a lookup, or no refusal and the item, of at most 4,095 bytes
abbrev pub item_bytes : Result Unit Refusal → List ℕ → Option (List ℕ)
item_bytes (Err n) bs = Some (number_of n ∷ [])
item_bytes (Ok u) bs = pick (ltb 4095 (length bs)) None (Some (0 ∷ bs))

unfoldable pub item_of_kind : List ℕ → ItemKind → ℕ → Option (List ℕ)
item_of_kind font kind number = item_bytes (item_refusal_lem (read_font font) kind number) (item_of (read_font font) kind number)

-- kind I: a kind and a number
unfoldable pub item_answer : List ℕ → List ℕ → Option (List ℕ)
item_answer font asked =
    pick (eqb (length asked) 5) (pick (ltb 2 (get_or asked 0 0)) None (item_of_kind font (kind_of (get_or asked 0 0)) (num_at asked 1 4))) None

-- the kinds' letters: R, N, C, I
abbrev pub kinds : List ℕ
kinds = 82 ∷ 78 ∷ 67 ∷ 73 ∷ []

-- by the kind's letter
unfoldable pub asked_answer : ℕ → List ℕ → List ℕ → Option (List ℕ)
asked_answer kind font asked =
    pick (eqb kind 82) (read_answer font asked)
    (pick (eqb kind 78) (name_answer font asked)
    (pick (eqb kind 67) (cid_answer font asked)
    (pick (eqb kind 73) (item_answer font asked) None)))

-- an input: the font's length in two bytes, the font, and what is asked of it
unfoldable pub cff_answer : ℕ → List ℕ → Option (List ℕ)
cff_answer kind s = over (asked_answer kind) (font_input s)
