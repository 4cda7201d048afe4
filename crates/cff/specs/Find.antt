-- What is asked of a program (document 01, 'Entries and their refusals'): counts, the glyph of a name or a CID, an INDEX item.
use Rattle.std.specs.Prelude.{ℕ, ◌+◌, ◌*◌, List, [], ◌∷◌, ltb, length, get_or, None, Option, Result, Ok, Err}
use Rattle.octets.specs.Pick.{pick}
use Rattle.bits.specs.Bits.{words_for}
use Rattle.find.specs.Find.{glyph_with_id, glyph_with_text}
use Rattle.dict.specs.Lookup.{cid_keyed}
use Rattle.cff.specs.Font.{Private, Program}
use Rattle.cff.specs.declared.Counts.{Counts}
use Rattle.cff.specs.declared.ItemKind.{ItemKind}
use Rattle.cff.specs.declared.ItemKind.TheVariants.{Charstring, Global, Text}
use Rattle.refusal.specs.declared.Refusal.{Refusal}
use Rattle.refusal.specs.declared.Refusal.TheVariants.{NoSuchNumber}

-- the local subroutines of all FDs
unfoldable pub locals_total : List Private → ℕ
locals_total [] = 0
locals_total (p ∷ ps) = length p.locals + locals_total ps

-- the words that hold a bit for each local subroutine of all FDs
unfoldable pub locals_words : List Private → ℕ
locals_words [] = 0
locals_words (q ∷ qs) = words_for (length q.locals) + locals_words qs

-- W: 2 × glyphs, and a bit for each subroutine: of the globals, and of the locals of each FD, rounded up to words
abbrev pub work_size : Program → ℕ
work_size p = 2 * length p.charstrings + words_for (length p.globals) + locals_words p.privates

abbrev pub counts_of : Program → Counts
counts_of p =
    record {
      glyphs = length p.charstrings;
      globals = length p.globals;
      strings = length p.strings;
      cid = cid_keyed p.top;
      work = work_size p;
    }

-- the answer of reading
abbrev pub read_as : Result Program Refusal → Result Counts Refusal
read_as (Err n) = Err n
read_as (Ok p) = Ok (counts_of p)

-- by name in a name-keyed font, by CID in a CID-keyed one; absent with the other keying
abbrev pub find_name : Program → List ℕ → Option ℕ
find_name p name = pick (cid_keyed p.top) None (glyph_with_text p.strings name 0 p.ids)

abbrev pub find_cid : Program → ℕ → Option ℕ
find_cid p cid = pick (cid_keyed p.top) (glyph_with_id cid 0 p.ids) None

-- the answer of finding
abbrev pub name_as : Result Program Refusal → List ℕ → Result (Option ℕ) Refusal
name_as (Err n) name = Err n
name_as (Ok p) name = Ok (find_name p name)

abbrev pub cid_as : Result Program Refusal → ℕ → Result (Option ℕ) Refusal
cid_as (Err n) cid = Err n
cid_as (Ok p) cid = Ok (find_cid p cid)

-- the items of a kind
abbrev pub items_in : ItemKind → Program → List (List ℕ)
items_in Charstring p = p.charstrings
items_in Global p = p.globals
items_in Text p = p.strings

-- the refusal of a lookup, if it is refused: reading's, then 6 where there is no such item; and the item, empty where refused
abbrev pub item_refusal_lem : Result Program Refusal → ItemKind → ℕ → Result Unit Refusal
item_refusal_lem (Err n) kind k = Err n
item_refusal_lem (Ok p) kind k = pick (ltb k (length (items_in kind p))) (Ok tt) (Err NoSuchNumber)

abbrev pub item_of : Result Program Refusal → ItemKind → ℕ → List ℕ
item_of (Err n) kind k = []
item_of (Ok p) kind k = get_or (items_in kind p) k []
