-- Reading a font (TN5176; the Rust's parse_fonts, from_top, private_of and PrivateDict::parse): from its bytes to a refusal or a
-- program, in exactly the Rust's order of steps. 4 above 67,108,864 bytes comes first, then where the font stands in the file (document 02, Wish 9);
-- 5 stands where a real is met.
use Rattle.std.specs.Prelude.{ℕ, ◌+◌, List, [], ◌∷◌, ltb, eqb, length, take, drop, get_or, Result, Ok, Err, Option, Some, None}
use Rattle.octets.specs.Pick.{pick}
use Rattle.octets.specs.Lists.{all_below, part_of}
use Rattle.index.specs.Index.{Read, refused as refusedIndex, found, read_index}
use Rattle.dict.specs.Dict.{Entry, dict_of}
use Rattle.dict.specs.Op.{esc, subrs}
use Rattle.dict.specs.Lookup.{offset_in, private_in, cid_keyed, charstring_type_in}
use Rattle.dict.specs.Places.{entries_of}
use Rattle.charset.specs.Charset.{charset_at, iso_adobe}
use Rattle.charset.specs.FdSelect.{fd_select_at, no_fds}
use Rattle.charset.specs.Encoding.{encoding_at}
use Rattle.charset.specs.Codes.{Naming, namings_at}
use Rattle.opentype.specs.Opentype.{place_of}
use Rattle.opentype.specs.declared.TableAt.{TableAt}
use Rattle.dict.specs.declared.PrivateEntry.{PrivateEntry}
use Rattle.refusal.specs.declared.Refusal.{Refusal}
use Rattle.refusal.specs.declared.Refusal.TheVariants.{Truncated, Malformed, Unsupported}

-- the operators of the offsets that reading follows
abbrev pub charset : ℕ
charset = 15

abbrev pub encoding : ℕ
encoding = 16

abbrev pub char_strings : ℕ
char_strings = 17

abbrev pub fd_array : ℕ
fd_array = esc 36

abbrev pub fd_select_lem : ℕ
fd_select_lem = esc 37

-- one step and then the next
abbrev pub then : {A B : Type 0} → Result A Refusal → (A → Result B Refusal) → Result B Refusal
then (Err n) f = Err n
then (Ok a) f = f a

-- a Private DICT: its entries, and the local subroutines
pub record Private : Type 0 where
  pub entries : List Entry
  pub locals : List (List ℕ)

-- one with no entry and no subroutine
abbrev pub empty_private : Private
empty_private = record { entries = []; locals = [] }

-- an encoding: one of the two predefined ones, or what a table of the font says
pub data Coding : Type 0 where
  standard : Coding
  expert : Coding
  custom : List Naming → Coding

-- what the keying adds to a font: the Private DICT of each FD, in a name-keyed font the one; the FD of each glyph; the entries of each
-- Font DICT, of which a name-keyed font has none; and the encoding, which a CID-keyed font does not have: the standard one stands for none
pub record Added : Type 0 where
  pub privates : List Private
  pub fds : List ℕ
  pub dicts : List (List Entry)
  pub coding : Coding

-- a font: the entries of its top DICT; strings, global subroutines and charstrings; the id of each glyph, a string id or a CID; and what
-- its keying adds
pub record Program : Type 0 where
  pub top : List Entry
  pub strings : List (List ℕ)
  pub globals : List (List ℕ)
  pub charstrings : List (List ℕ)
  pub ids : List ℕ
  pub privates : List Private
  pub fds : List ℕ
  pub dicts : List (List Entry)
  pub coding : Coding

-- ---- the parts' answers as steps

abbrev pub index_got : Read → Result (List (List ℕ)) Refusal
index_got (refusedIndex n) = Err n
index_got (found items end) = Ok items

-- what must not be none: malformed where it is
abbrev pub not_none : ℕ → Result Unit Refusal
not_none n = pick (eqb n 0) (Err Malformed) (Ok tt)

-- an offset that must be there: malformed without it
abbrev pub needed : Result (Option ℕ) Refusal → Result ℕ Refusal
needed (Ok None) = Err Malformed
needed (Err n) = Err n
needed (Ok (Some v)) = Ok v

-- an offset that is 0 where it is absent
abbrev pub or_zero : Result (Option ℕ) Refusal → Result ℕ Refusal
or_zero (Ok None) = Ok 0
or_zero (Err n) = Err n
or_zero (Ok (Some v)) = Ok v

-- ---- Private DICTs

-- the local subroutines: Subrs is counted from the Private DICT
unfoldable pub locals_at : List ℕ → ℕ → Result (Option ℕ) Refusal → Result (List (List ℕ)) Refusal
locals_at b offset (Ok None) = Ok []
locals_at b offset (Err n) = Err n
locals_at b offset (Ok (Some relative)) = index_got (read_index b (offset + relative))

-- the Private DICT of a size at an offset
unfoldable pub private_data : List ℕ → ℕ → ℕ → Result Private Refusal
private_data b size offset =
    pick (ltb (length b) (offset + size)) (Err Truncated)
    (then (dict_of (take size (drop offset b))) (λ es.
    then (locals_at b offset (offset_in subrs es)) (λ subrs.
    Ok (record { entries = es; locals = subrs }))))

-- the Private DICT that a DICT names; empty where it names none
unfoldable pub private_at : List ℕ → Result (Option PrivateEntry) Refusal → Result Private Refusal
private_at b (Ok None) = Ok empty_private
private_at b (Err n) = Err n
private_at b (Ok (Some q)) = private_data b q.size q.offset

-- those of the FDs, one after the other
unfoldable pub privates_at : List ℕ → List (List ℕ) → Result (List Private) Refusal
privates_at b [] = Ok []
privates_at b (d ∷ ds) =
    then (dict_of d) (λ es.
    then (private_at b (private_in es)) (λ p.
    then (privates_at b ds) (λ ps. Ok (p ∷ ps))))

-- the entries of the Font DICTs
unfoldable pub dicts_at : List (List ℕ) → List (List Entry)
dicts_at [] = []
dicts_at (d ∷ ds) = entries_of d ∷ dicts_at ds

-- ---- a font of the set

-- the ids of n glyphs: the charset at an offset, of which 0 is ISOAdobe and 1 and 2, the expert ones, are unsupported
unfoldable pub ids_at : List ℕ → ℕ → ℕ → Result (List ℕ) Refusal
ids_at b n v = pick (eqb v 0) (Ok (iso_adobe n)) (pick (ltb v 3) (Err Unsupported) (charset_at b v n))

-- the FDs of n glyphs: FDSelect, where it is there
unfoldable pub fds_at : List ℕ → ℕ → Result (Option ℕ) Refusal → Result (List ℕ) Refusal
fds_at b n (Ok None) = Ok (no_fds n)
fds_at b n (Err e) = Err e
fds_at b n (Ok (Some v)) = fd_select_at b v n

-- the encoding at an offset: 0 is the standard one and 1 the expert one (document 02, Wish 4), which have no checks
unfoldable pub coding_at : List ℕ → ℕ → Coding
coding_at b v = pick (eqb v 0) standard (pick (eqb v 1) expert (custom (namings_at b v)))

abbrev pub coding_refusal : List ℕ → ℕ → Result Unit Refusal
coding_refusal b v = pick (ltb v 2) (Ok tt) (encoding_at b v)

unfoldable pub encoding_got : List ℕ → ℕ → Result Coding Refusal
encoding_got b v = then (coding_refusal b v) (λ u. Ok (coding_at b v))

-- what a CID-keyed font adds: the Private DICTs of its FDs, which must be there, and FDs that exist
unfoldable pub cid_parts : List ℕ → List Entry → ℕ → Result Added Refusal
cid_parts b es n =
    then (then (needed (offset_in fd_array es)) (λ at. index_got (read_index b at))) (λ dicts.
    then (privates_at b dicts) (λ ps.
    then {A = Unit} (not_none (length ps)) (λ u.
    then (fds_at b n (offset_in fd_select_lem es)) (λ l.
    pick (all_below (length ps) l) (Ok (record { privates = ps; fds = l; dicts = dicts_at dicts; coding = standard })) (Err Malformed)))))

-- what a name-keyed font adds: its Private DICT, and its encoding
unfoldable pub name_parts : List ℕ → List Entry → ℕ → Result Added Refusal
name_parts b es n =
    then (private_at b (private_in es)) (λ p.
    then (then (or_zero (offset_in encoding es)) (encoding_got b)) (λ coding.
    Ok (record { privates = p ∷ []; fds = no_fds n; dicts = []; coding = coding })))

-- a font by the bytes of its top DICT
unfoldable pub font_at : List ℕ → List (List ℕ) → List (List ℕ) → List ℕ → Result Program Refusal
font_at b strings globals top =
    then (dict_of top) (λ es.
    then (charstring_type_in es) (λ u.
    then (then (needed (offset_in char_strings es)) (λ at. index_got (read_index b at))) (λ charstrings.
    then {A = Unit} (not_none (length charstrings)) (λ u.
    then (then (or_zero (offset_in charset es)) (ids_at b (length charstrings))) (λ ids.
    then (pick (cid_keyed es) (cid_parts b es (length charstrings)) (name_parts b es (length charstrings))) (λ added.
    Ok (record {
      top = es;
      strings = strings;
      globals = globals;
      charstrings = charstrings;
      ids = ids;
      privates = added.privates;
      fds = added.fds;
      dicts = added.dicts;
      coding = added.coding;
    })))))))

-- every font of the set
unfoldable pub fonts_at : List ℕ → List (List ℕ) → List (List ℕ) → List (List ℕ) → Result (List Program) Refusal
fonts_at b strings globals [] = Ok []
fonts_at b strings globals (t ∷ ts) = then (font_at b strings globals t) (λ p. then (fonts_at b strings globals ts) (λ ps. Ok (p ∷ ps)))

-- the first of them is used; a set of none is malformed
abbrev pub first_of : List Program → Result Program Refusal
first_of [] = Err Malformed
first_of (p ∷ ps) = Ok p

-- ---- the whole

-- an INDEX, and what stands after it
abbrev pub index_then : {B : Type 0} → Read → (List (List ℕ) → ℕ → Result B Refusal) → Result B Refusal
index_then (refusedIndex n) f = Err n
index_then (found items end) f = f items end

-- from the end of the header: names, top DICTs, strings and global subroutines
unfoldable pub set_at : List ℕ → ℕ → Result Program Refusal
set_at b at =
    index_then (read_index b at) (λ names at₁.
    index_then (read_index b at₁) (λ tops at₂.
    index_then (read_index b at₂) (λ strings at₃.
    index_then (read_index b at₃) (λ globals at₄.
    pick (eqb (length names) (length tops)) (then (fonts_at b strings globals tops) first_of) (Err Malformed)))))

-- a table. The header: four bytes, major version 1, its size in the third
unfoldable pub read_table : List ℕ → Result Program Refusal
read_table b = pick (ltb (length b) 4) (Err Truncated) (pick (eqb (get_or b 0 0) 1) (set_at b (get_or b 2 0)) (Err Unsupported))

-- the font at a place of a file (document 02, Wish 9): all its places count from the table's start
abbrev pub read_at : List ℕ → Result TableAt Refusal → Result Program Refusal
read_at file (Err n) = Err n
read_at file (Ok t) = read_table (part_of file t.start t.len)

-- the font of a file
unfoldable pub read_font : List ℕ → Result Program Refusal
read_font file = read_at file (place_of file)
