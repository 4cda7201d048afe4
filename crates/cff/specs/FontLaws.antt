-- Laws of reading a font of a set: one for each way out of the functions that read it.
use Rattle.std.specs.Prelude.{ℕ, suc, ◌≤◌, ◌<◌, ◌≡◌, refl, Bool, false, eqb, Result, Ok, Err, Option, Some, None, IfOk, unwrap_or}
use Rattle.std.proofs.Math.Path.{sym, ap, subst}
use Rattle.std.proofs.Common.{◌∙◌, arith}
use Rattle.std.proofs.Math.Bool.{true}
use mathlib.Core.List.{List, [], ◌∷◌}
use borrow.Author.Tests.{lt-ltb, le-ltb, eq-eqb, ne_eqb}
use Rattle.std.proofs.Math.ListN.{length}
use Rattle.octets.specs.Pick.{pick}
use Rattle.bits.specs.Bits.{words_for}
use Rattle.octets.specs.Lists.{all_below}
use Rattle.index.specs.Index.{empty_at, index_at, items_of, read_index}
use Rattle.index.specs.IndexLaws.{items-length}
use Rattle.index.specs.declared.Index.{Index}
use Rattle.dict.specs.Dict.{Entry, dict_of}
use Rattle.dict.specs.Lookup.{offset_in, private_in, cid_keyed, charstring_type_in}
use Rattle.dict.specs.Places.{refusal_of, entries_of, Good as GoodDict}
use Rattle.charset.specs.Charset.{charset_at}
use Rattle.charset.specs.CharsetPlaces.{table_at, predefined, charset_answer}
use Rattle.charset.specs.CharsetFound.{found-good as charset-good, found-ids, predefined-ids, predefined-good}
use Rattle.charset.specs.FdSelect.{fd_select_at}
use Rattle.charset.specs.FdPlaces.{no_select, select_at, select_answer, fds_of, GoodSelect}
use Rattle.charset.specs.FdFound.{found-good as Select-Good, found_fds, no_select-good, no_select_fds}
use Rattle.charset.specs.Encoding.{encoding_at}
use Rattle.charset.specs.declared.Charset.{Charset}
use Rattle.charset.specs.declared.fd_select.FdSelect.{FdSelect}
use Rattle.cff.specs.Font.{charset, encoding, char_strings, fd_array, fd_select_lem, then, standard, Coding, Private, Added, Program, index_got, needed, or_zero, private_at, privates_at, dicts_at, ids_at, fds_at, coding_at, encoding_got, cid_parts, name_parts, font_at}
use Rattle.cff.specs.Find.{locals_words}
use Rattle.cff.specs.Reads.{Holds, ReadsItems, private_of, GoodPrivate, no_private, ReadsPrivate, fd_private, ReadsLocals, named_index, named_ids, named_encoding, ReadsIds, ReadsCoding, ReadsFds, or_none, privates_of, ReadsParts, parts_by, HasDicts, HasLocals, top_of, font_of, HasTop, HasGlyphs, ReadsFont}
use Rattle.cff.specs.ReadsLaws.{no, reads-index, none-held, dict_refused, dict-entries, empty-dict, then_refused, then-got, privates-split}
use Rattle.cff.specs.declared.private.PrivateAt.{PrivateAt}
use Rattle.cff.specs.declared.font.Parts.{Parts}
use Rattle.refusal.specs.declared.Refusal.{Refusal}
use Rattle.refusal.specs.declared.Refusal.TheVariants.{Malformed, Unsupported}

-- an offset that is 0 where it is absent
or_zero_is : (o : Option ℕ) → or_zero (Ok o) ≡ Ok (unwrap_or o 0)
or_zero_is None = refl
or_zero_is (Some v) = refl

-- ---- an INDEX that an operator names

module _ (b : List ℕ) (es : List Entry) (op : ℕ) (r : Result (Option ℕ) Refusal) (e : r ≡ offset_in op es) where
  named_as : (o : Result (Option ℕ) Refusal) → r ≡ o → named_index b es op ≡ then (needed o) (λ at. index_got (read_index b at))
  named_as o q = ap (λ x. then (needed x) (λ at. index_got (read_index b at))) (sym e ∙ q)

  pub named-absent : r ≡ Ok None → ReadsItems b (named_index b es op) (Err Malformed)
  named-absent q = named_as (Ok None) q

  pub named_refused : (n : Refusal) → r ≡ Err n → ReadsItems b (named_index b es op) (Err n)
  named_refused n q = named_as (Err n) q

  pub named-read : (v : ℕ) → r ≡ Ok (Some v) → (x : Result Index Refusal) → x ≡ index_at b v → IfOk x (Holds b) → ReadsItems b (named_index b es op) x
  named-read v q x i h = subst (λ g. ReadsItems b g x) (sym (named_as (Ok (Some v)) q)) (reads-index b v x i h)

-- ---- ids

charset_refused : (c : Charset) (l : Result (List ℕ) Refusal) (e : Refusal) → Err e ≡ charset_answer c l → l ≡ Err e
charset_refused c (Err n) e h = cc
charset_refused c (Ok l) e h = absurd (no cc)

ids-told : (b : List ℕ) (v n : ℕ) → n < 65536 → (r : Result Charset Refusal) → r ≡ charset_answer (table_at b v) (charset_at b v n) → ReadsIds b n (charset_at b v n) r
ids-told b v n few (Err e) h = charset_refused (table_at b v) (charset_at b v n) e h
ids-told b v n few (Ok c) h = (charset-good b v n c few (sym h), found-ids b v n c few (sym h))

module _ (b : List ℕ) (n v : ℕ) (few : n < 65536) where
  pub ids-own : v ≡ 0 → (c : Charset) → c ≡ predefined → ReadsIds b n (ids_at b n v) (Ok c)
  unfolding ids_at
  ids-own q c i =
      subst (λ x. ReadsIds b n (ids_at b n v) (Ok x)) (sym i)
      (predefined-good b n few, rw (eq-eqb v 0 q) (ap Ok (sym (predefined-ids b n few))))

  pub ids_expert : (v ≡ 0 → ⊥) → v < 3 → ReadsIds b n (ids_at b n v) (Err Unsupported)
  unfolding ids_at
  ids_expert q h = rw (ne_eqb v 0 q, lt-ltb v 3 h)

  pub ids-read : (v ≡ 0 → ⊥) → 3 ≤ v → (r : Result Charset Refusal) → r ≡ charset_answer (table_at b v) (charset_at b v n) → ReadsIds b n (ids_at b n v) r
  unfolding ids_at
  ids-read q h r i = rw (ne_eqb v 0 q, le-ltb v 3 h) (ids-told b v n few r i)

module _ (b : List ℕ) (es : List Entry) (n : ℕ) (r : Result (Option ℕ) Refusal) (e : r ≡ offset_in charset es) where
  ids_as : (o : Result (Option ℕ) Refusal) → r ≡ o → named_ids b es n ≡ then (or_zero o) (ids_at b n)
  ids_as o q = ap (λ x. then (or_zero x) (ids_at b n)) (sym e ∙ q)

  pub named-ids_refused : (m : Refusal) → r ≡ Err m → ReadsIds b n (named_ids b es n) (Err m)
  named-ids_refused m q = ids_as (Err m) q

  pub named-ids-read : (o : Option ℕ) → r ≡ Ok o → (x : Result Charset Refusal) → ReadsIds b n (ids_at b n (unwrap_or o 0)) x → ReadsIds b n (named_ids b es n) x
  named-ids-read o q x h = subst (λ g. ReadsIds b n g x) (sym (ids_as (Ok o) q ∙ ap (λ y. then y (ids_at b n)) (or_zero_is o))) h

-- ---- FDs

select_refused : (s : FdSelect) (l : Result (List ℕ) Refusal) (e : Refusal) → Err e ≡ select_answer s l → l ≡ Err e
select_refused s (Err n) e h = cc
select_refused s (Ok l) e h = absurd (no cc)

fds_told : (b : List ℕ) (v n : ℕ) (r : Result FdSelect Refusal) → r ≡ select_answer (select_at b v n) (fd_select_at b v n) → ReadsFds b n (fd_select_at b v n) r
fds_told b v n (Err e) h = select_refused (select_at b v n) (fd_select_at b v n) e h
fds_told b v n (Ok s) h = (Select-Good b v n s (sym h), found_fds b v n s (sym h))

module _ (b : List ℕ) (n : ℕ) (s r : Result (Option ℕ) Refusal) (e : r ≡ s) where
  pub fds_none : r ≡ Ok None → (x : FdSelect) → x ≡ no_select → ReadsFds b n (fds_at b n s) (Ok x)
  unfolding fds_at
  fds_none q x i =
      subst (λ y. ReadsFds b n (fds_at b n s) (Ok y)) (sym i)
      (no_select-good b, ap (fds_at b n) (sym e ∙ q) ∙ ap Ok (sym (no_select_fds b n)))

  pub fds_refused : (m : Refusal) → r ≡ Err m → ReadsFds b n (fds_at b n s) (Err m)
  unfolding fds_at
  fds_refused m q = ap (fds_at b n) (sym e ∙ q)

  pub fds_read : (v : ℕ) → r ≡ Ok (Some v) → (x : Result FdSelect Refusal) → x ≡ select_answer (select_at b v n) (fd_select_at b v n) → ReadsFds b n (fds_at b n s) x
  unfolding fds_at
  fds_read v q x i = subst (λ g. ReadsFds b n g x) (sym (ap (fds_at b n) (sym e ∙ q))) (fds_told b v n x i)

-- ---- the encoding

module _ (b : List ℕ) (v : ℕ) where
  pub encoding-predefined : v < 2 → ReadsCoding b (encoding_got b v) (Ok v)
  unfolding encoding_got
  encoding-predefined h = let k = lt-ltb v 2 h in (rw k, rw k)

  pub encoding_refused : 2 ≤ v → (n : Refusal) → encoding_at b v ≡ Err n → ReadsCoding b (encoding_got b v) (Err n)
  unfolding encoding_got
  encoding_refused h n e = rw (le-ltb v 2 h) (then_refused _ _ n e)

  pub encoding-checked : 2 ≤ v → encoding_at b v ≡ Ok tt → ReadsCoding b (encoding_got b v) (Ok v)
  unfolding encoding_got
  encoding-checked h e = let k = le-ltb v 2 h in (rw k e, rw k (then-got _ _ tt e))

module _ (b : List ℕ) (es : List Entry) (r : Result (Option ℕ) Refusal) (e : r ≡ offset_in encoding es) where
  encoding_as : (o : Result (Option ℕ) Refusal) → r ≡ o → named_encoding b es ≡ then (or_zero o) (encoding_got b)
  encoding_as o q = ap (λ x. then (or_zero x) (encoding_got b)) (sym e ∙ q)

  pub named-encoding_refused : (n : Refusal) → r ≡ Err n → ReadsCoding b (named_encoding b es) (Err n)
  named-encoding_refused n q = encoding_as (Err n) q

  pub named-encoding-read : (o : Option ℕ) → r ≡ Ok o → (x : Result ℕ Refusal) → ReadsCoding b (encoding_got b (unwrap_or o 0)) x → ReadsCoding b (named_encoding b es) x
  named-encoding-read o q x h = subst (λ g. ReadsCoding b g x) (sym (encoding_as (Ok o) q ∙ ap (λ y. then y (encoding_got b)) (or_zero_is o))) h

-- ---- the parts of a CID-keyed font

-- there is a Private DICT for each FD
cons_length : (g : Result Private Refusal) (h : Result (List Private) Refusal) (ps : List Private) (m : ℕ) → ((qs : List Private) → h ≡ Ok qs → length qs ≡ m)
    → then g (λ p. then h (λ qs. Ok (p ∷ qs))) ≡ Ok ps → length ps ≡ suc m
cons_length (Err n) h ps m k e = absurd (no cc)
cons_length (Ok p) (Err n) ps m k e = absurd (no cc)
cons_length (Ok p) (Ok qs) ps m k e = let i : p ∷ qs ≡ ps = cc in sym (ap length i) ∙ ap suc (k qs refl)

pub privates-length : (b : List ℕ) (items : List (List ℕ)) (ps : List Private) → privates_at b items ≡ Ok ps → length ps ≡ length items
unfolding privates_at
privates-length b [] ps e = let i : [] ≡ ps = cc in sym (ap length i)
privates-length b (d ∷ ds) ps e =
    cons_length (fd_private b d) (privates_at b ds) ps (length ds) (privates-length b ds) (sym (privates-split b d ds) ∙ e)

module _ (b : List ℕ) (es : List Entry) (n : ℕ) where
  pub cid_unread : (r : Result Index Refusal) → ReadsItems b (named_index b es fd_array) r → (e : Refusal) → r ≡ Err e → ReadsParts b true n (cid_parts b es n) (Err e)
  unfolding cid_parts
  cid_unread r reads e q = then_refused _ _ e (subst (ReadsItems b (named_index b es fd_array)) q reads)

  pub has-dicts : (r : Result Index Refusal) → ReadsItems b (named_index b es fd_array) r → (dicts : Index) → r ≡ Ok dicts → HasDicts b es dicts
  has-dicts r reads dicts q = let h = subst (ReadsItems b (named_index b es fd_array)) q reads in record { held = h.0; is = h.1 }

  module _ (dicts : Index) (d : HasDicts b es dicts) where
    pub cid_bad : (r : Result ℕ Refusal) → ReadsLocals (privates_at b (items_of b dicts)) r → (e : Refusal) → r ≡ Err e
        → ReadsParts b true n (cid_parts b es n) (Err e)
    unfolding cid_parts
    cid_bad r reads e q = then-got _ _ (items_of b dicts) d.is ∙ then_refused _ _ e (subst (ReadsLocals (privates_at b (items_of b dicts))) q reads)

    module _ (r : Result ℕ Refusal) (reads : ReadsLocals (privates_at b (items_of b dicts)) r) (total : ℕ) (q : r ≡ Ok total) where
      h : ReadsLocals (privates_at b (items_of b dicts)) (Ok total)
      h = subst (ReadsLocals (privates_at b (items_of b dicts))) q reads

      pub cid_empty : dicts.count ≡ 0 → ReadsParts b true n (cid_parts b es n) (Err Malformed)
      unfolding cid_parts
      cid_empty z =
          let l : length h.0 ≡ 0 = privates-length b (items_of b dicts) h.0 h.2 ∙ items-length b dicts ∙ z in
          let k = eq-eqb (length h.0) 0 l in
          then-got _ _ (items_of b dicts) d.is ∙ then-got _ _ h.0 h.2 ∙ rw k

      pub has-locals : (dicts.count ≡ 0 → ⊥) → HasLocals b es dicts total
      has-locals z = record { array = d; some = z; read = h }

  module _ (dicts : Index) (total : ℕ) (l : HasLocals b es dicts total) where
    -- what is added, by the FDs
    abbrev added_by : List Private → List ℕ → Added
    added_by ps fds = record { privates = ps; fds = fds; dicts = dicts_at (items_of b dicts); coding = standard }

    abbrev added : List ℕ → Added
    added fds = added_by l.read.0 fds

    -- the FDSelect decides
    cid_steps : cid_parts b es n ≡ then (fds_at b n (offset_in fd_select_lem es)) (λ fds. pick (all_below dicts.count fds) (Ok (added fds)) (Err Malformed))
    unfolding cid_parts
    cid_steps =
        let m : length l.read.0 ≡ dicts.count = privates-length b (items_of b dicts) l.read.0 l.read.2 ∙ items-length b dicts in
        let k = ne_eqb (length l.read.0) 0 (λ z. l.some (sym m ∙ z)) in
        then-got _ _ (items_of b dicts) l.array.is ∙ then-got _ _ l.read.0 l.read.2
        ∙ rw k (ap (λ c. then (fds_at b n (offset_in fd_select_lem es)) (λ fds. pick (all_below c fds) (Ok (added fds)) (Err Malformed))) m)

    module _ (r : Result FdSelect Refusal) (reads : ReadsFds b n (fds_at b n (offset_in fd_select_lem es)) r) where
      pub cid_unselected : (e : Refusal) → r ≡ Err e → ReadsParts b true n (cid_parts b es n) (Err e)
      cid_unselected e q = cid_steps ∙ then_refused _ _ e (subst (ReadsFds b n (fds_at b n (offset_in fd_select_lem es))) q reads)

      module _ (s : FdSelect) (q : r ≡ Ok s) where
        selected : ReadsFds b n (fds_at b n (offset_in fd_select_lem es)) (Ok s)
        selected = subst (ReadsFds b n (fds_at b n (offset_in fd_select_lem es))) q reads

        pub cid_selected : GoodSelect b s
        cid_selected = selected.0

        module _ (t : Bool) (below : t ≡ all_below dicts.count (fds_of b s n)) where
          pub cid_past : t ≡ false → ReadsParts b true n (cid_parts b es n) (Err Malformed)
          cid_past f =
              cid_steps ∙ then-got _ _ (fds_of b s n) selected.1
              ∙ ap (λ x. pick x (Ok (added (fds_of b s n))) (Err Malformed)) (sym below ∙ f)

          pub cid-found : t ≡ true → 2 ≤ length b → (p : PrivateAt) → p ≡ no_private
              → ReadsParts b true n (cid_parts b es n) (Ok (record { dicts = dicts; private = p; select = s; encoding = 0; words = total }))
          unfolding coding_at
          cid-found f w p i =
              let u : privates_of b true dicts p ≡ l.read.0 = ap or_none l.read.2 in (
                record {
                  dicts = l.array.held;
                  private = subst (GoodPrivate b) (sym i) (record { within = omega arith; dict = empty-dict; locals = none-held b w });
                  read = λ z. l.read.2 ∙ ap Ok (sym u);
                  select = selected.0;
                  below = λ z. sym below ∙ f;
                  coded = refl;
                  words = sym l.read.1 ∙ ap locals_words (sym u);
                  few = l.read.3;
                },
                cid_steps ∙ then-got _ _ (fds_of b s n) selected.1
                    ∙ ap (λ x. pick x (Ok (added (fds_of b s n))) (Err Malformed)) (sym below ∙ f)
                    ∙ ap (λ (x : List Private). Ok (added_by x (fds_of b s n))) (sym u),
              )

-- ---- the parts of a name-keyed font

-- what is added, by the Private DICT, the FDs and the encoding
abbrev added_one : Private → List ℕ → Coding → Added
added_one p fds coding = record { privates = p ∷ []; fds = fds; dicts = []; coding = coding }

not_both : false ≡ true → ⊥
not_both z = no cc

module _ (b : List ℕ) (es : List Entry) (n : ℕ) (r : Result PrivateAt Refusal) (reads : ReadsPrivate b (private_at b (private_in es)) r) where
  pub name-unread : (e : Refusal) → r ≡ Err e → ReadsParts b false n (name_parts b es n) (Err e)
  unfolding name_parts
  name-unread e q = then_refused _ _ e (subst (ReadsPrivate b (private_at b (private_in es))) q reads)

  module _ (p : PrivateAt) (q : r ≡ Ok p) (x : Result ℕ Refusal) (coded : ReadsCoding b (named_encoding b es) x) where
    found : ReadsPrivate b (private_at b (private_in es)) (Ok p)
    found = subst (ReadsPrivate b (private_at b (private_in es))) q reads

    pub name_unencoded : (e : Refusal) → x ≡ Err e → ReadsParts b false n (name_parts b es n) (Err e)
    unfolding name_parts
    name_unencoded e i = then-got _ _ (private_of b p) found.1 ∙ then_refused _ _ e (subst (ReadsCoding b (named_encoding b es)) i coded)

    pub name-found : (v : ℕ) → x ≡ Ok v → 2 ≤ length b → (ix : Index) → ix ≡ empty_at 0 → (s : FdSelect) → s ≡ no_select → (t : ℕ) → t ≡ words_for p.locals.count
        → ReadsParts b false n (name_parts b es n) (Ok (record { dicts = ix; private = p; select = s; encoding = v; words = t }))
    unfolding name_parts locals_words
    name-found v k w ix i s j t h =
        let g = subst (ReadsCoding b (named_encoding b es)) k coded in (
          record {
            dicts = subst (Holds b) (sym i) (none-held b w);
            private = found.0;
            read = λ z. absurd (not_both z);
            select = subst (GoodSelect b) (sym j) (no_select-good b);
            below = λ z. absurd (not_both z);
            coded = g.0;
            words = let k = items-length b p.locals in omega (arith, h);
            few = let k = found.0.locals.few in omega (arith, h);
          },
          then-got _ _ (private_of b p) found.1 ∙ then-got _ _ (coding_at b v) g.1
              ∙ ap (λ (l : List ℕ). Ok (added_one (private_of b p) l (coding_at b v))) (sym (no_select_fds b n) ∙ ap (λ x. fds_of b x n) (sym j)),
        )

-- by the keying
module _ (b : List ℕ) (es : List Entry) (n : ℕ) (x : Result Parts Refusal) (cid : Bool) where
  pub by-cid : cid ≡ true → ReadsParts b true n (cid_parts b es n) x → ReadsParts b cid n (parts_by cid b es n) x
  by-cid q h = subst (λ t. ReadsParts b t n (parts_by t b es n) x) (sym q) h

  pub by_name : cid ≡ false → ReadsParts b false n (name_parts b es n) x → ReadsParts b cid n (parts_by cid b es n) x
  by_name q h = subst (λ t. ReadsParts b t n (parts_by t b es n) x) (sym q) h

-- ---- the font

module _ (b : List ℕ) (top end : ℕ) (strings globals : Index) where
  -- from the charstrings on, of n glyphs
  abbrev glyph_steps : Index → ℕ → Result Program Refusal
  glyph_steps charstrings n =
      then {A = Unit} (pick (eqb n 0) (Err Malformed) (Ok tt)) (λ u.
      then (named_ids b (entries_of (top_of b top end)) n) (λ ids.
      then (parts_by (cid_keyed (entries_of (top_of b top end))) b (entries_of (top_of b top end)) n) (λ added.
      Ok (record {
        top = entries_of (top_of b top end);
        strings = items_of b strings;
        globals = items_of b globals;
        charstrings = items_of b charstrings;
        ids = ids;
        privates = added.privates;
        fds = added.fds;
        dicts = added.dicts;
        coding = added.coding;
      }))))

  pub top_refused : (n : Refusal) → refusal_of (dict_of (top_of b top end)) ≡ Some n → ReadsFont b (font_of b strings globals top end) (Err n)
  unfolding font_at
  top_refused n e = then_refused _ _ n (dict_refused (top_of b top end) n e)

  module _ (good : GoodDict (top_of b top end)) where
    pub top_typed : (n : Refusal) → charstring_type_in (entries_of (top_of b top end)) ≡ Err n → ReadsFont b (font_of b strings globals top end) (Err n)
    unfolding font_at
    top_typed n e = then-got _ _ _ (dict-entries (top_of b top end) good) ∙ then_refused _ _ n e

    module _ (y : charstring_type_in (entries_of (top_of b top end)) ≡ Ok tt)
        (r : Result Index Refusal) (reads : ReadsItems b (named_index b (entries_of (top_of b top end)) char_strings) r) where
      pub top-unread : (e : Refusal) → r ≡ Err e → ReadsFont b (font_of b strings globals top end) (Err e)
      unfolding font_at
      top-unread e q =
          then-got _ _ _ (dict-entries (top_of b top end) good) ∙ then-got _ _ tt y
          ∙ then_refused _ _ e (subst (ReadsItems b (named_index b (entries_of (top_of b top end)) char_strings)) q reads)

      pub has-glyphs : (ix : Index) → r ≡ Ok ix → HasGlyphs b top end ix
      has-glyphs ix q =
          let h = subst (ReadsItems b (named_index b (entries_of (top_of b top end)) char_strings)) q reads in
          record { dict = good; plain = y; held = h.0; is = h.1 }

  module _ (charstrings : Index) (h : HasGlyphs b top end charstrings) where
    steps : font_of b strings globals top end ≡ glyph_steps charstrings charstrings.count
    unfolding font_at
    steps =
        then-got _ _ _ (dict-entries (top_of b top end) h.dict) ∙ then-got _ _ tt h.plain ∙ then-got _ _ (items_of b charstrings) h.is
        ∙ ap (glyph_steps charstrings) (items-length b charstrings)

    pub no_glyphs : charstrings.count ≡ 0 → ReadsFont b (font_of b strings globals top end) (Err Malformed)
    no_glyphs z = steps ∙ ap (glyph_steps charstrings) z

    module _ (some : charstrings.count ≡ 0 → ⊥) (r : Result Charset Refusal) (reads : ReadsIds b charstrings.count (named_ids b (entries_of (top_of b top end)) charstrings.count) r) where
      begun : glyph_steps charstrings charstrings.count
          ≡ then (named_ids b (entries_of (top_of b top end)) charstrings.count) (λ ids.
          then (parts_by (cid_keyed (entries_of (top_of b top end))) b (entries_of (top_of b top end)) charstrings.count) (λ added.
          Ok (record {
            top = entries_of (top_of b top end);
            strings = items_of b strings;
            globals = items_of b globals;
            charstrings = items_of b charstrings;
            ids = ids;
            privates = added.privates;
            fds = added.fds;
            dicts = added.dicts;
            coding = added.coding;
          })))
      begun = let k = ne_eqb charstrings.count 0 some in rw k

      pub ids-bad : (e : Refusal) → r ≡ Err e → ReadsFont b (font_of b strings globals top end) (Err e)
      ids-bad e q = steps ∙ begun ∙ then_refused _ _ e (subst (ReadsIds b charstrings.count (named_ids b (entries_of (top_of b top end)) charstrings.count)) q reads)

      module _ (c : Charset) (q : r ≡ Ok c) (cid : Bool) (keyed : cid ≡ cid_keyed (entries_of (top_of b top end)))
          (x : Result Parts Refusal) (parts : ReadsParts b cid charstrings.count (parts_by cid b (entries_of (top_of b top end)) charstrings.count) x) where
        ids : ReadsIds b charstrings.count (named_ids b (entries_of (top_of b top end)) charstrings.count) (Ok c)
        ids = subst (ReadsIds b charstrings.count (named_ids b (entries_of (top_of b top end)) charstrings.count)) q reads

        by-keying : parts_by (cid_keyed (entries_of (top_of b top end))) b (entries_of (top_of b top end)) charstrings.count
            ≡ parts_by cid b (entries_of (top_of b top end)) charstrings.count
        by-keying = ap (λ t. parts_by t b (entries_of (top_of b top end)) charstrings.count) (sym keyed)

        pub parts-bad : (e : Refusal) → x ≡ Err e → ReadsFont b (font_of b strings globals top end) (Err e)
        parts-bad e i =
            steps ∙ begun ∙ then-got _ _ _ ids.1
            ∙ then_refused _ _ e (by-keying ∙ subst (ReadsParts b cid charstrings.count (parts_by cid b (entries_of (top_of b top end)) charstrings.count)) i parts)

        pub font-found : HasTop b top end strings globals → (p : Parts) → x ≡ Ok p
            → ReadsFont b (font_of b strings globals top end)
            (Ok (record {
              start = 0;
              len = length b;
              cid = cid;
              top = top;
              top_end = end;
              strings = strings;
              globals = globals;
              charstrings = charstrings;
              charset = c;
              dicts = p.dicts;
              private = p.private;
              select = p.select;
              encoding = p.encoding;
              words = p.words;
            }))
        font-found t p i =
            let g = subst (ReadsParts b cid charstrings.count (parts_by cid b (entries_of (top_of b top end)) charstrings.count)) i parts in (
              record { begun = t; glyphs = h; some = omega (arith, some); cid = keyed; ids = ids.0; parts = g.0 },
              steps ∙ begun ∙ then-got _ _ _ ids.1 ∙ then-got _ _ _ (by-keying ∙ g.1),
            )
