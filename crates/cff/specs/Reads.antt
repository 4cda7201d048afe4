-- What the code's answers say of a font (TN5176, section 2 and those of its parts): it holds positions where Font.antt holds lists. Each answer of the code is a refusal, which is then the step's
-- own, or positions, and what stands there is then what the step got.
use Rattle.std.specs.Prelude.{ℕ, ◌+◌, ◌-◌, ◌≤◌, ◌<◌, ◌≡◌, Bool, true, false, ◌&&◌, List, [], ◌∷◌, eqb, length, position, Option, Result, Ok, Err}
use Rattle.octets.specs.Pick.{pick}
use Rattle.bits.specs.Bits.{words_for}
use Rattle.octets.specs.Lists.{all_below, part_of}
use Rattle.index.specs.Index.{items_of, read_index, empty_at}
use Rattle.index.specs.Good.{Good}
use Rattle.index.specs.declared.Index.{Index}
use Rattle.dict.specs.Places.{entries_of, Good as GoodDict}
use Rattle.dict.specs.Dict.{Entry, dict_of}
use Rattle.dict.specs.Lookup.{offset_in, private_in, cid_keyed, charstring_type_in}
use Rattle.charset.specs.CharsetPlaces.{ids_of, GoodCharset}
use Rattle.charset.specs.FdPlaces.{fds_of, GoodSelect}
use Rattle.cff.specs.Font.{charset, encoding, char_strings, fd_array, then, Private, Coding, Added, Program, index_got, needed, or_zero, private_data, private_at, privates_at, dicts_at, ids_at, coding_at, coding_refusal, encoding_got, cid_parts, name_parts, font_at, fonts_at, first_of, index_then}
use Rattle.cff.specs.Find.{locals_words}
use Rattle.cff.specs.declared.private.PrivateAt.{PrivateAt}
use Rattle.cff.specs.declared.ItemKind.{ItemKind}
use Rattle.cff.specs.declared.ItemKind.TheVariants.{Charstring, Global, Text}
use Rattle.cff.specs.declared.font.Parts.{Parts}
use Rattle.cff.specs.declared.font.Font.{Font}
use Rattle.charset.specs.declared.fd_select.FdSelect.{FdSelect}
use Rattle.charset.specs.declared.Charset.{Charset}
use Rattle.cff.specs.declared.private.PrivateWords.{PrivateWords}
use Rattle.cff.specs.declared.private.SeenPrivate.{SeenPrivate}
use Rattle.refusal.specs.declared.Refusal.{Refusal}
use Rattle.refusal.specs.declared.Refusal.TheVariants.{Malformed}

-- ---- an INDEX

-- an INDEX whose items can be had
pub record Holds (b : List ℕ) (ix : Index) : Type 0 where
  pub good : Good b ix
  pub few : ix.count < 65536

abbrev pub ReadsItems : List ℕ → Result (List (List ℕ)) Refusal → Result Index Refusal → Type 0
ReadsItems b g (Err n) = g ≡ Err n
ReadsItems b g (Ok ix) = Holds b ix × (g ≡ Ok (items_of b ix))

-- ---- a Private DICT

-- the Private DICT at these places
abbrev pub private_of : List ℕ → PrivateAt → Private
private_of b q = record { entries = entries_of (part_of b q.start q.size); locals = items_of b q.locals }

-- it lies within the font, and is not refused
pub record GoodPrivate (b : List ℕ) (q : PrivateAt) : Type 0 where
  pub within : q.start + q.size ≤ length b
  pub dict : GoodDict (part_of b q.start q.size)
  pub locals : Holds b q.locals

-- an empty one
abbrev pub no_private : PrivateAt
no_private = record { start = 0; size = 0; locals = empty_at 0 }

abbrev pub ReadsPrivate : List ℕ → Result Private Refusal → Result PrivateAt Refusal → Type 0
ReadsPrivate b g (Err n) = g ≡ Err n
ReadsPrivate b g (Ok q) = GoodPrivate b q × (g ≡ Ok (private_of b q))

-- the Private DICT of a size at an offset was read, and the bits of its local subroutines take so many words
pub record Known (b : List ℕ) (q : PrivateWords) : Type 0 where
  pub private : Private
  pub few : q.words < 65536
  pub counted : words_for (length private.locals) ≡ q.words
  pub is : private_data b q.size q.offset ≡ Ok private

-- the place of the first that has a size and an offset, if one has
abbrev pub recall : List PrivateWords → ℕ → ℕ → Option ℕ
recall last size offset = position (λ q. eqb q.size size && eqb q.offset offset) last

-- the place for the next that is read, after one that stands at a place: round and round
abbrev pub free_after : ℕ → ℕ → ℕ
free_after free place = pick (eqb place free) (pick (eqb free 127) 0 (free + 1)) free

-- the Private DICT of the FD with these bytes
abbrev pub fd_private : List ℕ → List ℕ → Result Private Refusal
fd_private b d = then (dict_of d) (λ es. private_at b (private_in es))

abbrev pub ReadsNext : List ℕ → Result Private Refusal → Result SeenPrivate Refusal → Type 0
ReadsNext b g (Err n) = g ≡ Err n
ReadsNext b g (Ok l) = (k : Known b l.read) × (g ≡ Ok k.private) × (l.place < 128)

-- those of all FDs: the words of their local subroutines together
abbrev pub ReadsLocals : Result (List Private) Refusal → Result ℕ Refusal → Type 0
ReadsLocals g (Err n) = g ≡ Err n
ReadsLocals g (Ok t) = (ps : List Private) × (locals_words ps ≡ t) × (g ≡ Ok ps) × (t ≤ 4294967296)

-- ---- what an operator of a DICT names

-- an INDEX that must be there; the ids; the encoding
abbrev pub named_index : List ℕ → List Entry → ℕ → Result (List (List ℕ)) Refusal
named_index b es op = then (needed (offset_in op es)) (λ at. index_got (read_index b at))

abbrev pub named_ids : List ℕ → List Entry → ℕ → Result (List ℕ) Refusal
named_ids b es n = then (or_zero (offset_in charset es)) (ids_at b n)

abbrev pub named_encoding : List ℕ → List Entry → Result Coding Refusal
named_encoding b es = then (or_zero (offset_in encoding es)) (encoding_got b)

abbrev pub ReadsIds : List ℕ → ℕ → Result (List ℕ) Refusal → Result Charset Refusal → Type 0
ReadsIds b n g (Err e) = g ≡ Err e
ReadsIds b n g (Ok c) = GoodCharset b c n × (g ≡ Ok (ids_of b c n))

abbrev pub ReadsCoding : List ℕ → Result Coding Refusal → Result ℕ Refusal → Type 0
ReadsCoding b g (Err e) = g ≡ Err e
ReadsCoding b g (Ok v) = (coding_refusal b v ≡ Ok tt) × (g ≡ Ok (coding_at b v))

abbrev pub ReadsFds : List ℕ → ℕ → Result (List ℕ) Refusal → Result FdSelect Refusal → Type 0
ReadsFds b n g (Err e) = g ≡ Err e
ReadsFds b n g (Ok s) = GoodSelect b s × (g ≡ Ok (fds_of b s n))

-- ---- font dictionaries

-- what was got, or nothing
abbrev pub or_none : Result (List Private) Refusal → List Private
or_none (Err n) = []
or_none (Ok ps) = ps

-- the Private DICTs: those of the FDs in a CID-keyed font, else the one
abbrev pub privates_of : List ℕ → Bool → Index → PrivateAt → List Private
privates_of b true dicts q = or_none (privates_at b (items_of b dicts))
privates_of b false dicts q = private_of b q ∷ []

-- the entries of the Font DICTs: none in a name-keyed font
abbrev pub dicts_of : List ℕ → Bool → Index → List (List Entry)
dicts_of b cid dicts = pick cid (dicts_at (items_of b dicts)) []

-- what the keying adds, at these places
abbrev pub added_of : List ℕ → Bool → ℕ → Parts → Added
added_of b cid n q = record { privates = privates_of b cid q.dicts q.private; fds = fds_of b q.select n; dicts = dicts_of b cid q.dicts; coding = coding_at b q.encoding }

-- they were read, and no glyph of a CID-keyed font has an FD past them
pub record GoodParts (b : List ℕ) (cid : Bool) (n : ℕ) (q : Parts) : Type 0 where
  pub dicts : Holds b q.dicts
  pub private : GoodPrivate b q.private
  pub read : cid ≡ true → privates_at b (items_of b q.dicts) ≡ Ok (privates_of b cid q.dicts q.private)
  pub select : GoodSelect b q.select
  pub below : cid ≡ true → all_below q.dicts.count (fds_of b q.select n) ≡ true
  pub coded : coding_refusal b q.encoding ≡ Ok tt
  pub words : q.words ≡ locals_words (privates_of b cid q.dicts q.private)
  pub few : q.words ≤ 4294967296

abbrev pub ReadsParts : List ℕ → Bool → ℕ → Result Added Refusal → Result Parts Refusal → Type 0
ReadsParts b cid n g (Err e) = g ≡ Err e
ReadsParts b cid n g (Ok q) = GoodParts b cid n q × (g ≡ Ok (added_of b cid n q))

-- by the font's keying
abbrev pub parts_by : Bool → List ℕ → List Entry → ℕ → Result Added Refusal
parts_by cid b es n = pick cid (cid_parts b es n) (name_parts b es n)

-- the FD array was read; and the Private DICTs of its FDs, of which there are some
pub record HasDicts (b : List ℕ) (es : List Entry) (dicts : Index) : Type 0 where
  pub held : Holds b dicts
  pub is : named_index b es fd_array ≡ Ok (items_of b dicts)

pub record HasLocals (b : List ℕ) (es : List Entry) (dicts : Index) (total : ℕ) : Type 0 where
  pub array : HasDicts b es dicts
  pub some : dicts.count ≡ 0 → ⊥
  pub read : ReadsLocals (privates_at b (items_of b dicts)) (Ok total)

-- ---- a font

-- the bytes of its top DICT
abbrev pub top_of : List ℕ → ℕ → ℕ → List ℕ
top_of b top end = part_of b top (end - top)

-- the font at these places
abbrev pub program_of : List ℕ → Font → Program
program_of b f =
    record {
      top = entries_of (top_of b f.top f.top_end);
      strings = items_of b f.strings;
      globals = items_of b f.globals;
      charstrings = items_of b f.charstrings;
      ids = ids_of b f.charset f.charstrings.count;
      privates = privates_of b f.cid f.dicts f.private;
      fds = fds_of b f.select f.charstrings.count;
      dicts = dicts_of b f.cid f.dicts;
      coding = coding_at b f.encoding;
    }

-- the step that reads it
abbrev pub font_of : List ℕ → Index → Index → ℕ → ℕ → Result Program Refusal
font_of b strings globals top end = font_at b (items_of b strings) (items_of b globals) (top_of b top end)

-- the top DICT lies in the font, with the INDEXes of the set
pub record HasTop (b : List ℕ) (top end : ℕ) (strings globals : Index) : Type 0 where
  pub rises : top ≤ end
  pub within : end ≤ length b
  pub some : 2 ≤ length b
  pub strings-held : Holds b strings
  pub globals-held : Holds b globals

-- it was read, and names charstrings
pub record HasGlyphs (b : List ℕ) (top end : ℕ) (charstrings : Index) : Type 0 where
  pub dict : GoodDict (top_of b top end)
  pub plain : charstring_type_in (entries_of (top_of b top end)) ≡ Ok tt
  pub held : Holds b charstrings
  pub is : named_index b (entries_of (top_of b top end)) char_strings ≡ Ok (items_of b charstrings)

-- the font was read
pub record GoodFont (b : List ℕ) (f : Font) : Type 0 where
  pub begun : HasTop b f.top f.top_end f.strings f.globals
  pub glyphs : HasGlyphs b f.top f.top_end f.charstrings
  pub some : 0 < f.charstrings.count
  pub cid : f.cid ≡ cid_keyed (entries_of (top_of b f.top f.top_end))
  pub ids : GoodCharset b f.charset f.charstrings.count
  pub parts : GoodParts b f.cid f.charstrings.count (record { dicts = f.dicts; private = f.private; select = f.select; encoding = f.encoding; words = f.words })

abbrev pub ReadsFont : List ℕ → Result Program Refusal → Result Font Refusal → Type 0
ReadsFont b g (Err n) = g ≡ Err n
ReadsFont b g (Ok f) = GoodFont b f × (g ≡ Ok (program_of b f))

-- the INDEX of a kind of items
abbrev pub index_in_lem : ItemKind → Font → Index
index_in_lem Charstring f = f.charstrings
index_in_lem Global f = f.globals
index_in_lem Text f = f.strings

-- ---- a set

-- the INDEXes of a set were read
pub record HasSet (b : List ℕ) (tops strings globals : Index) : Type 0 where
  pub some : 2 ≤ length b
  pub tops_held : Holds b tops
  pub strings-held : Holds b strings
  pub globals-held : Holds b globals

-- the step that reads the font whose top DICT has these bytes, and the one that reads all
abbrev pub font_with : List ℕ → Index → Index → List ℕ → Result Program Refusal
font_with b strings globals top = font_at b (items_of b strings) (items_of b globals) top

abbrev pub fonts_of : List ℕ → Index → Index → List (List ℕ) → Result Program Refusal
fonts_of b strings globals tops = then (fonts_at b (items_of b strings) (items_of b globals) tops) first_of

-- what follows the names, of which there are so many, and the top DICTs
abbrev pub behind_tops : List ℕ → ℕ → List (List ℕ) → ℕ → Result Program Refusal
behind_tops b names tops at₂ =
    index_then (read_index b at₂) (λ strings at₃.
    index_then (read_index b at₃) (λ globals at₄.
    pick (eqb names (length tops)) (then (fonts_at b strings globals tops) first_of) (Err Malformed)))
