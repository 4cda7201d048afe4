-- What holds of every font that was read (document 01, 'Entries and their refusals'), from what holds of its parts: the program that
-- reading gives is one that a subset can be cut from.
use Rattle.std.specs.Prelude.{ℕ, zero, suc, ◌≡◌, Bool, true, false, ltb, eqb, get_or, Ok}
use Rattle.std.proofs.Math.Path.{sym, ap, subst}
use Rattle.std.proofs.Common.{◌∙◌}
use mathlib.Core.List.{List, [], ◌∷◌}
use Rattle.std.proofs.Math.ListN.{length}
use Rattle.octets.specs.Pick.{pick}
use Rattle.octets.specs.Octets.{Octets}
use Rattle.octets.specs.Lists.{all_below}
use Rattle.index.specs.Index.{read_index}
use Rattle.dict.specs.Dict.{Entry, dict_of}
use Rattle.dict.specs.Lookup.{offset_in, private_in, cid_keyed, charstring_type_in}
use Rattle.dict.specs.Proper.{AllProper}
use Rattle.dict.proofs.ProperLaws.{entries_proper, dict_proper}
use Rattle.charset.specs.FdSelect.{no_fds}
use Rattle.cff.specs.Font.{charset, encoding, char_strings, fd_array, fd_select_lem, then, standard, Added, Program, index_got, not_none, needed, or_zero, private_at, privates_at, dicts_at, ids_at, fds_at, encoding_got, cid_parts, name_parts, font_at, fonts_at, first_of, set_at, read_table, read_font, empty_private}
use Rattle.cff.specs.FileLaws.{read-within, within_octets}
use Rattle.cff.specs.ReadsLaws.{no}
use Rattle.faithful.specs.Laid.{GoodBodies, GoodProgram}
use Rattle.faithful.specs.GoodPartsLaws.{then_gave, got_same, index_gave, index-good, test-past, test-held, some-got, offset-good, Sound, none_sound, sound_front, private_sound, privates_sound, ids-good, FdsFor, no-fds, no_fds_below, fds_good}
use Rattle.refusal.specs.declared.Refusal.TheVariants.{Truncated, Malformed, Unsupported}

-- ---- what the keying adds

-- Private DICTs and the FDs of n glyphs: each FD has its Private DICT
record PartsFor (n : ℕ) (parts : Added) : Type 0 where
  sound : (f : ℕ) → Sound (get_or parts.privates f empty_private)
  fds : FdsFor n parts.fds
  there : all_below (length parts.privates) parts.fds ≡ true
  dicts : (f : ℕ) → AllProper (get_or parts.dicts f [])

none_proper : AllProper []
unfolding AllProper
none_proper = tt

-- the entries of Font DICTs that are bytes are proper
dicts_proper : (items : List (List ℕ)) → ((i : ℕ) → Octets (get_or items i [])) → (f : ℕ) → AllProper (get_or (dicts_at items) f [])
unfolding dicts_at AllProper
dicts_proper [] o f = tt
dicts_proper (d ∷ ds) o zero = entries_proper d (o 0)
dicts_proper (d ∷ ds) o (suc f) = dicts_proper ds (λ i. o (suc i)) f

module _ (b : List ℕ) (o : Octets b) (es : List Entry) (n : ℕ) (parts : Added) where
  -- CID-keyed
  cid_good : cid_parts b es n ≡ Ok parts → PartsFor n parts
  unfolding cid_parts
  cid_good h =
      let d = then_gave (then (needed (offset_in fd_array es)) (λ at. index_got (read_index b at))) _ parts h in
      let q = then_gave (privates_at b d.0) _ parts d.2 in
      let u = then_gave (not_none (length q.0)) _ parts q.2 in
      let l = then_gave (fds_at b n (offset_in fd_select_lem es)) _ parts u.2 in
      let t = test-held (all_below (length q.0) l.0) Malformed _ parts l.2 in
      let e : record { privates = q.0; fds = l.0; dicts = dicts_at d.0; coding = standard } ≡ parts = cc in
      subst (PartsFor n) e
      (record { sound = privates_sound b o d.0 q.0 q.1; fds = fds_good b o n (offset_in fd_select_lem es) l.0 l.1; there = t.0; dicts = dicts_proper d.0 (offset-good b o (needed (offset_in fd_array es)) d.0 d.1).octets })

  -- name-keyed: one Private DICT, and FD 0 for each glyph
  name-good : name_parts b es n ≡ Ok parts → PartsFor n parts × (length parts.privates ≡ 1)
  unfolding name_parts
  name-good h =
      let q = then_gave (private_at b (private_in es)) _ parts h in
      let u = then_gave (then (or_zero (offset_in encoding es)) (encoding_got b)) _ parts q.2 in
      let e : record { privates = q.0 ∷ []; fds = no_fds n; dicts = []; coding = u.0 } ≡ parts = cc in
      let s = private_sound b o (private_in es) q.0 q.1 in (
        subst (PartsFor n) e (record { sound = sound_front q.0 [] s (λ f. none_sound); fds = no-fds n; there = no_fds_below 0 n; dicts = λ f. none_proper }),
        sym (ap (λ (x : Added). length x.privates) e),
      )

  -- either, by the keying
  parts-good : (cid : Bool) → pick cid (cid_parts b es n) (name_parts b es n) ≡ Ok parts → PartsFor n parts × (cid ≡ false → length parts.privates ≡ 1)
  parts-good true h = (cid_good h, λ e. absurd (no cc))
  parts-good false h = let g = name-good h in (g.0, λ e. g.1)

-- ---- a font

module _ (b : List ℕ) (o : Octets b) (strings globals : List (List ℕ)) (good : GoodBodies globals) where
  -- a font by the bytes of its top DICT
  top-good : (top : List ℕ) → Octets top → (p : Program) → font_at b strings globals top ≡ Ok p → GoodProgram p
  unfolding font_at
  top-good top t p h =
      let d = then_gave (dict_of top) _ p h in
      let es = d.0 in
      let u = then_gave (charstring_type_in es) _ p d.2 in
      let c = then_gave (then (needed (offset_in char_strings es)) (λ at. index_got (read_index b at))) _ p u.2 in
      let n = length c.0 in
      let v = then_gave (not_none n) _ p c.2 in
      let i = then_gave (then (or_zero (offset_in charset es)) (ids_at b n)) _ p v.2 in
      let j = then_gave (or_zero (offset_in charset es)) (ids_at b n) i.0 i.1 in
      let k = then_gave (pick (cid_keyed es) (cid_parts b es n) (name_parts b es n)) _ p i.2 in
      let glyphs = offset-good b o (needed (offset_in char_strings es)) c.0 c.1 in
      let some = some-got n v.1 in
      let ids = ids-good b o n glyphs.count some j.0 i.0 j.2 in
      let parts = parts-good b o es n k.0 (cid_keyed es) k.1 in
      let e : record { top = es; strings = strings; globals = globals; charstrings = c.0; ids = i.0; privates = k.0.privates; fds = k.0.fds; dicts = k.0.dicts; coding = k.0.coding } ≡ p = got_same _ p k.2 in
      subst GoodProgram e
      (record {
        some = some;
        charstrings = glyphs;
        globals = good;
        locals = λ f. (parts.0.sound f).bodies;
        ids_count = ids.count;
        ids = ids.small;
        notdef = ids.first;
        fds_count = parts.0.fds.count;
        fds = parts.0.fds.small;
        fds_there = parts.0.there;
        one_private = parts.1;
        top = dict_proper top t es d.1;
        privates = λ f. (parts.0.sound f).proper;
        dicts = parts.0.dicts;
      })

  -- the first of the set
  first_good : (tops : List (List ℕ)) → GoodBodies tops → (p : Program) → then (fonts_at b strings globals tops) first_of ≡ Ok p → GoodProgram p
  unfolding fonts_at
  first_good [] g p h = absurd (no cc)
  first_good (t ∷ ts) g p h =
      let f = then_gave (then (font_at b strings globals t) (λ q. then (fonts_at b strings globals ts) (λ ps. Ok (q ∷ ps)))) first_of p h in
      let q = then_gave (font_at b strings globals t) _ f.0 f.1 in
      let r = then_gave (fonts_at b strings globals ts) _ f.0 q.2 in
      let e : q.0 ∷ r.0 ≡ f.0 = cc in
      let z : Ok q.0 ≡ Ok p = ap first_of e ∙ f.2 in
      top-good t (g.octets 0) p (q.1 ∙ z)

-- ---- the whole

-- from the end of the header
set-good : (b : List ℕ) → Octets b → (at : ℕ) (p : Program) → set_at b at ≡ Ok p → GoodProgram p
unfolding set_at
set-good b o at p h =
    let names = index_gave (read_index b at) _ p h in
    let tops = index_gave (read_index b names.1) _ p names.3 in
    let strings = index_gave (read_index b tops.1) _ p tops.3 in
    let globals = index_gave (read_index b strings.1) _ p strings.3 in
    let t = test-held (eqb (length names.0) (length tops.0)) Malformed _ p globals.3 in
    first_good b o strings.0 globals.0 (index-good b o strings.1 globals.0 globals.1 globals.2) tops.0
    (index-good b o names.1 tops.0 tops.1 tops.2) p t.1

table-good : (b : List ℕ) (p : Program) → Octets b → read_table b ≡ Ok p → GoodProgram p
unfolding read_table
table-good b p o h =
    let m = test-past (ltb (length b) 4) Truncated _ p h in
    set-good b o (get_or b 2 0) p (test-held (eqb (get_or b 0 0) 1) Unsupported _ p m).1

-- what holds of a font that was read in a file
pub font-good : (file : List ℕ) (p : Program) → Octets file → read_font file ≡ Ok p → GoodProgram p
font-good file p o h = let w = read-within file p h in table-good _ p (within_octets file p w o) w.is
