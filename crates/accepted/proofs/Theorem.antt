-- What the checker promises (document 02, Wish 6), whatever the font, the keep list and the record are: it accepts a record exactly where the three
-- conditions hold; a subset from an accepted record, cut with flag 1, holds every kept glyph; what was traced with flag 1 is accepted; and with a second
-- length for a mask that is met a subset call that is not refused answers with stubs.
use Rattle.std.specs.Prelude.{ℕ, ◌≤◌, ◌<◌, ◌≡◌, refl, Bool, false, List, [], ◌∷◌, ◌⊎◌, ltb, eqb, length, get_or, None, Option, Some, Result, Ok, Err}
use Rattle.std.proofs.Common.{sym, ◌∙◌, subst, inr, ⊎_elim, arith, ltb-true, lt-ltb, eqb-true}
use Rattle.std.proofs.Math.Path.{ap}
use Rattle.std.proofs.Math.Bool.{true}
use Rattle.octets.specs.Pick.{pick, pick_ind}
use Rattle.octets.specs.PickLaws.{not_true, both_hold}
use Rattle.octets.specs.Octets.{Octets}
use Rattle.octets.specs.Lists.{all_below}
use Rattle.unfold.specs.Unfold.{Tok, Row, not_plain_lem, plain, Site, glyph, local, global, entered, masked}
use Rattle.prune.specs.Bodies.{All}
use Rattle.prune.specs.StepLaws.{zero_one}
use Rattle.record.specs.Record.{rows_of, row_fine_lem, record_fine, lists}
use Rattle.dict.specs.Lookup.{cid_keyed}
use Rattle.cff.specs.Font.{Program, read_font}
use Rattle.cff.specs.Find.{work_size}
use Rattle.cff.specs.ReadingRefusals.{reading-refusal}
use Rattle.subset.specs.Kept.{is_in, kept_of, written_order, fds_of, used_fds, locals_of}
use Rattle.subset.specs.KeptListLaws.{in_none, in_head, in_more, in_cases, those_in}
use Rattle.subset.specs.Cut.{subset, all_found_lem, cut_program, cut_read, cut_with, cut_of}
use Rattle.faithful.specs.Faithful.{unfolded, IsKept, Holds, Faithful}
use Rattle.faithful.specs.Laid.{GoodProgram}
use Rattle.faithful.specs.GoodLaws.{font-good}
use Rattle.faithful.specs.KeptLaws.{kept_is, order_same}
use Rattle.faithful.specs.UsedLaws.{uses, used-has}
use Rattle.faithful.proofs.Theorem.{faithful}
use Rattle.traced.specs.Traced.{refused, traced, answered, trace_program, trace_read, trace_of}
use Rattle.traced.specs.Has.{Has}
use Rattle.traced.specs.HasLaws.{has_listed, listed_has, all-at, all_from}
use Rattle.traced.proofs.MetLaws.{Meets, met-within, met-from, met-fails, in_kept}
use Rattle.traced.specs.Theorem.{kept_rows}
use Rattle.traced.proofs.Theorem.{trace_all, trace_lists, trace_met, trace_fine}
use Rattle.accepted.specs.Accepted.{each_row, lists_met, number_is, accepted_by, check_program, check_read, check_of}
use Rattle.accepted.specs.RowsLaws.{each_at, each_from, record-row, local_row, global_row}
use Rattle.accepted.proofs.EnteredLaws.{Runs, Known, enters_local, enters_global, masks_in, met-known}
use Rattle.accepted.specs.StubLaws.{two-listed, Rewritten, two-stubbed, cut-way}
use Rattle.refusal.specs.Refusal.{number_of}
use Rattle.refusal.specs.declared.Refusal.{Refusal}
use Rattle.refusal.specs.declared.Refusal.TheVariants.{NoSuchNumber, NotFound, BadRecord, NotAccepted}
use Rattle.subset.specs.declared.Way.{Way}
use Rattle.subset.specs.declared.Way.TheVariants.{Stubbed}

-- ---- the conditions

-- the call is not refused by 6, 7 or 8
pub record InForm (p : Program) (keep rec : List ℕ) : Type 0 where
  pub below : all_below (length p.charstrings) keep ≡ true
  pub found : all_found_lem p (kept_of (length p.charstrings) keep) ≡ true
  pub fine : record_fine (cid_keyed p.top) rec 1 ≡ true

-- the three conditions of document 02
pub record Accepted (p : Program) (keep rec : List ℕ) : Type 0 where
  -- every kept glyph is plain
  pub plains : (g : ℕ) → IsKept p keep g → (ts : List Tok) × (met : List Row) × (unfolded p g ≡ plain ts met)
  -- the record lists all that their unfoldings meet
  pub listed : (g : ℕ) → IsKept p keep g → (ts : List Tok) (met : List Row) → unfolded p g ≡ plain ts met → All (λ r. lists (rows_of rec) r ≡ true) met
  -- each subroutine that it lists as reached exists: the local ones of the FDs of kept glyphs, and the global ones
  pub locals : (g : ℕ) → IsKept p keep g → (k : ℕ) → lists (rows_of rec) (entered (local (get_or p.fds g 0) k)) ≡ true
      → k < length (locals_of p (get_or p.fds g 0))
  pub globals : (k : ℕ) → lists (rows_of rec) (entered (global k)) ≡ true → k < length p.globals

-- an FD that is in use is that of a kept glyph
pub fd-from : (p : Program) (gs : List ℕ) (f : ℕ) → is_in f (fds_of p gs) ≡ true → (g : ℕ) × (is_in g gs ≡ true) × (get_or p.fds g 0 ≡ f)
unfolding fds_of
fd-from p [] f h = absurd (in_none f h)
fd-from p (x ∷ gs) f h =
    ⊎_elim (λ e. (x, in_head x x gs refl, e)) (λ i. let m = fd-from p gs f i in (m.0, in_more x m.0 gs m.1, m.2)) (in_cases (get_or p.fds x 0) f (fds_of p gs) h)

module _ (p : Program) (keep rec : List ℕ) (good : GoodProgram p) where
  abbrev kept : List ℕ
  kept = kept_of (length p.charstrings) keep

  abbrev used : List ℕ
  used = used_fds p kept

  -- ---- from the test to the conditions

  module _ (e : accepted_by p keep rec ≡ true) where
    both : (each_row (number_is p used) (rows_of rec) ≡ true) × (lists_met (rows_of rec) (kept_rows p keep) ≡ true)
    unfolding accepted_by
    both = both_hold (each_row (number_is p used) (rows_of rec)) (lists_met (rows_of rec) (kept_rows p keep)) e

    rows-met : (met : List Row) × (kept_rows p keep ≡ Some met) × (each_row (lists (rows_of rec)) met ≡ true)
    rows-met = by (kept_rows p keep) refl both.1
      where
        by : (m : Option (List Row)) → kept_rows p keep ≡ m → lists_met (rows_of rec) m ≡ true → (met : List Row) × (kept_rows p keep ≡ Some met) × (each_row (lists (rows_of rec)) met ≡ true)
        by None a h = absurd (zero_one cc)
        by (Some met) a h = (met, a, h)

    pub accepted-holds : Accepted p keep rec
    accepted-holds =
        let m = rows-met in
        record {
          plains = λ g k. let w = met-within p kept m.0 m.1 g (kept_is p keep g k) in (w.tokens, w.met, w.plainly);
          listed = λ g k ts met u. lists-all g k ts met u;
          locals = λ g k i h. local_there g k i h;
          globals = λ i h. ltb-true i (length p.globals) (each_at (number_is p used) (rows_of rec) both.0 (entered (global i)) (listed_has (entered (global i)) (rows_of rec) h));
        }
      where
        lists-all : (g : ℕ) → IsKept p keep g → (ts : List Tok) (met : List Row) → unfolded p g ≡ plain ts met → All (λ r. lists (rows_of rec) r ≡ true) met
        lists-all g k ts met u =
            let m = rows-met in
            let w = met-within p kept m.0 m.1 g (kept_is p keep g k) in
            let s : plain w.tokens w.met ≡ plain ts met = sym w.plainly ∙ u in
            let i : met ≡ w.met = cc in
            all_from (λ r. lists (rows_of rec) r ≡ true) met (λ r h. each_at (lists (rows_of rec)) m.0 m.2 r (w.inside r (subst (Has Row r) i h)))

        local_there : (g : ℕ) → IsKept p keep g → (i : ℕ) → lists (rows_of rec) (entered (local (get_or p.fds g 0) i)) ≡ true → i < length (locals_of p (get_or p.fds g 0))
        local_there g k i h =
            let f = get_or p.fds g 0 in
            let t = each_at (number_is p used) (rows_of rec) both.0 (entered (local f i)) (listed_has (entered (local f i)) (rows_of rec) h) in
            let s : pick true (ltb i (length (locals_of p f))) true ≡ true
            = ap (λ (b : Bool). pick b (ltb i (length (locals_of p f))) true) (sym (used-has p kept g good (kept_is p keep g k) k.there)) ∙ t in
            ltb-true i (length (locals_of p f)) s

  -- ---- and back

  module _ (fine : record_fine (cid_keyed p.top) rec 1 ≡ true) (a : Accepted p keep rec) where
    plain-all : (met : List Row) × (kept_rows p keep ≡ Some met)
    plain-all = by (kept_rows p keep) refl
      where
        by : (m : Option (List Row)) → kept_rows p keep ≡ m → (met : List Row) × (kept_rows p keep ≡ Some met)
        by None e =
            let f = met-fails p kept e in
            let u = a.plains f.0 (in_kept p keep f.0 f.1) in
            let s : not_plain_lem ≡ plain u.0 u.1 = sym f.2 ∙ u.2 in
            absurd (zero_one cc)
        by (Some met) e = (met, e)

    met-listed : each_row (lists (rows_of rec)) plain-all.0 ≡ true
    met-listed =
        each_from (lists (rows_of rec)) plain-all.0
        (λ r h. let m = met-from p kept plain-all.0 plain-all.1 r h in
        all-at (λ q. lists (rows_of rec) q ≡ true) r m.2.met (a.listed m.0 (in_kept p keep m.0 m.1) m.2.tokens m.2.met m.2.plainly) m.2.has)

    row_there : (r : Row) → Has Row r (rows_of rec) → number_is p used r ≡ true
    row_there r h =
        pick_ind (λ (t : Bool). t ≡ true) (eqb r.kind 0) (pick (is_in r.fd used) (ltb r.number (length (locals_of p r.fd))) true)
        (pick (eqb r.kind 1) (ltb r.number (length p.globals)) true)
        (λ k. pick_ind (λ (t : Bool). t ≡ true) (is_in r.fd used) (ltb r.number (length (locals_of p r.fd))) true (λ u. of_local (eqb-true r.kind 0 k) u) (λ u. refl))
        (λ n. pick_ind (λ (t : Bool). t ≡ true) (eqb r.kind 1) (ltb r.number (length p.globals)) true (λ k. of_global (eqb-true r.kind 1 k)) (λ k. refl))
      where
        form : row_fine_lem (cid_keyed p.top) r ≡ true
        form = record-row (cid_keyed p.top) rec 1 fine r h

        of_local : r.kind ≡ 0 → is_in r.fd used ≡ true → ltb r.number (length (locals_of p r.fd)) ≡ true
        of_local k u =
            let g = fd-from p kept r.fd (those_in (uses p kept) (length p.privates) 0 r.fd u).2 in
            let l : lists (rows_of rec) (entered (local r.fd r.number)) ≡ true
            = has_listed (entered (local r.fd r.number)) (rows_of rec) (subst (λ (q : Row). Has Row q (rows_of rec)) (local_row (cid_keyed p.top) r k form) h) in
            lt-ltb r.number (length (locals_of p r.fd))
            (subst (λ (f : ℕ). r.number < length (locals_of p f)) g.2
            (a.locals g.0 (in_kept p keep g.0 g.1) r.number (subst (λ (f : ℕ). lists (rows_of rec) (entered (local f r.number)) ≡ true) (sym g.2) l)))

        of_global : r.kind ≡ 1 → ltb r.number (length p.globals) ≡ true
        of_global k =
            lt-ltb r.number (length p.globals)
            (a.globals r.number (has_listed (entered (global r.number)) (rows_of rec) (subst (λ (q : Row). Has Row q (rows_of rec)) (global_row (cid_keyed p.top) r k form) h)))

    pub accepted_true : accepted_by p keep rec ≡ true
    unfolding accepted_by
    accepted_true =
        let n : each_row (number_is p used) (rows_of rec) ≡ true = each_from (number_is p used) (rows_of rec) row_there in
        let l : lists_met (rows_of rec) (kept_rows p keep) ≡ true = ap (lists_met (rows_of rec)) plain-all.1 ∙ met-listed in
        rw (n, l)

-- ---- the answer

module _ (p : Program) (keep rec : List ℕ) where
  -- the answer to a call in form
  abbrev decided : Result Unit Refusal
  decided = pick (accepted_by p keep rec) (Ok tt) (Err NotAccepted)

  -- from an answer that is neither 6, 7 nor 8
  in_form : (r : Result Unit Refusal) → (r ≡ Err NoSuchNumber → ⊥) → (r ≡ Err NotFound → ⊥) → (r ≡ Err BadRecord → ⊥) → check_program p keep rec ≡ r
      → InForm p keep rec × (decided ≡ r)
  in_form r six seven eight e = by-below (all_below (length p.charstrings) keep) refl e
    where
      by_fine : all_below (length p.charstrings) keep ≡ true → all_found_lem p (kept_of (length p.charstrings) keep) ≡ true → (t : Bool) → record_fine (cid_keyed p.top) rec 1 ≡ t
          → pick t decided (Err BadRecord) ≡ r → InForm p keep rec × (decided ≡ r)
      by_fine b f true k h = (record { below = b; found = f; fine = k }, h)
      by_fine b f false k h = absurd (eight (sym h))

      by-found : all_below (length p.charstrings) keep ≡ true → (t : Bool) → all_found_lem p (kept_of (length p.charstrings) keep) ≡ t
          → pick t (pick (record_fine (cid_keyed p.top) rec 1) decided (Err BadRecord)) (Err NotFound) ≡ r → InForm p keep rec × (decided ≡ r)
      by-found b true f h = by_fine b f (record_fine (cid_keyed p.top) rec 1) refl h
      by-found b false f h = absurd (seven (sym h))

      by-below : (t : Bool) → all_below (length p.charstrings) keep ≡ t
          → pick t (pick (all_found_lem p (kept_of (length p.charstrings) keep)) (pick (record_fine (cid_keyed p.top) rec 1) decided (Err BadRecord)) (Err NotFound)) (Err NoSuchNumber) ≡ r
          → InForm p keep rec × (decided ≡ r)
      by-below true b h = by-found b (all_found_lem p (kept_of (length p.charstrings) keep)) refl h
      by-below false b h = absurd (six (sym h))

  formed : InForm p keep rec → check_program p keep rec ≡ decided
  formed f = rw (f.below, f.found, f.fine)

  was_true : (t : Bool) → ◌≡◌ {A = Result Unit Refusal} (pick t (Ok tt) (Err NotAccepted)) (Ok tt) → t ≡ true
  was_true true e = refl
  was_true false e = absurd (zero_one cc)

  was_false : (t : Bool) → ◌≡◌ {A = Result Unit Refusal} (pick t (Ok tt) (Err NotAccepted)) (Err NotAccepted) → t ≡ false
  was_false true e = absurd (zero_one cc)
  was_false false e = refl

-- ---- rows that are met

-- the rows of masks are not of kind 0 or 1, and say which body they are of
mask-kind : (site : Site) (offset len : ℕ) → 2 ≤ (masked site offset len).kind
mask-kind (glyph g) offset len = omega arith
mask-kind (local f k) offset len = omega arith
mask-kind (global k) offset len = omega arith

abbrev body_of_lem : Row → Site
body_of_lem r = pick (eqb r.kind 2) (glyph r.number) (pick (eqb r.kind 3) (local r.fd r.number) (global r.number))

mask-body : (site : Site) (offset len : ℕ) → body_of_lem (masked site offset len) ≡ site
mask-body (glyph g) offset len = refl
mask-body (local f k) offset len = refl
mask-body (global k) offset len = refl

module _ (p : Program) (f g : ℕ) (met : List Row) where
  abbrev KnownIn : Row → Type 0
  KnownIn r = Known p.globals (locals_of p f) f g met r

  known_local : (fd i : ℕ) → KnownIn (entered (local fd i)) → i < length (locals_of p fd)
  known_local fd i (enters_local k h e) =
      let a : i ≡ k = ap (λ (r : Row). r.number) e in
      let b : fd ≡ f = ap (λ (r : Row). r.fd) e in
      subst (λ (n : ℕ). n < length (locals_of p fd)) (sym a) (subst (λ (x : ℕ). k < length (locals_of p x)) (sym b) h)
  known_local fd i (enters_global k h e) = absurd (zero_one (ap (λ (r : Row). r.kind) e))
  known_local fd i (masks_in site o l h e) = let z : 0 ≡ (masked site o l).kind = ap (λ (r : Row). r.kind) e in absurd (omega (arith, z, mask-kind site o l))

  known_global : (i : ℕ) → KnownIn (entered (global i)) → i < length p.globals
  known_global i (enters_local k h e) = absurd (zero_one (sym (ap (λ (r : Row). r.kind) e)))
  known_global i (enters_global k h e) = let a : i ≡ k = ap (λ (r : Row). r.number) e in subst (λ (n : ℕ). n < length p.globals) (sym a) h
  known_global i (masks_in site o l h e) = let z : 1 ≡ (masked site o l).kind = ap (λ (r : Row). r.kind) e in absurd (omega (arith, z, mask-kind site o l))

  known-mask : (site : Site) (offset len : ℕ) → KnownIn (masked site offset len) → Runs p.globals (locals_of p f) f g met site
  known-mask site offset len (enters_local k h e) = let z : (masked site offset len).kind ≡ 0 = ap (λ (r : Row). r.kind) e in absurd (omega (arith, z, mask-kind site offset len))
  known-mask site offset len (enters_global k h e) = let z : (masked site offset len).kind ≡ 1 = ap (λ (r : Row). r.kind) e in absurd (omega (arith, z, mask-kind site offset len))
  known-mask site offset len (masks_in other o l h e) =
      subst (Runs p.globals (locals_of p f) f g met) (sym (mask-body other o l) ∙ ap body_of_lem (sym e) ∙ mask-body site offset len) h

-- a trace that is not refused passed the tests of its keep list
trace_tests : (p : Program) (keep : List ℕ) (room flag : ℕ) (rec : List ℕ) → trace_program p keep room ≡ traced flag rec
    → (all_below (length p.charstrings) keep ≡ true) × (all_found_lem p (kept_of (length p.charstrings) keep) ≡ true)
trace_tests p keep room flag rec e = by (all_below (length p.charstrings) keep) refl (all_found_lem p (kept_of (length p.charstrings) keep)) refl e
  where
    by : (t : Bool) → all_below (length p.charstrings) keep ≡ t → (u : Bool) → all_found_lem p (kept_of (length p.charstrings) keep) ≡ u
        → pick t (pick u (answered room (kept_rows p keep)) (refused NotFound)) (refused NoSuchNumber) ≡ traced flag rec
        → (all_below (length p.charstrings) keep ≡ true) × (all_found_lem p (kept_of (length p.charstrings) keep) ≡ true)
    by true b true f h = (b, f)
    by true b false f h = absurd (zero_one cc)
    by false b u f h = absurd (zero_one cc)

-- ---- the theorems

-- 14 is no refusal of reading: where the record is accepted or not the font was read
pub answer-reads : (font keep rec : List ℕ) → (check_of font keep rec ≡ Ok tt) ⊎ (check_of font keep rec ≡ Err NotAccepted) → (p : Program) × (read_font font ≡ Ok p)
unfolding check_of
answer-reads font keep rec = go (read_font font) refl
  where
    go : (x : Result Program Refusal) → read_font font ≡ x → (check_read x keep rec ≡ Ok tt) ⊎ (check_read x keep rec ≡ Err NotAccepted) → (p : Program) × (read_font font ≡ Ok p)
    go (Err n) h e =
        let r = reading-refusal font n h in
        absurd (⊎_elim (λ z. zero_one cc) (λ z. let i : n ≡ NotAccepted = cc in let k : number_of n ≡ 14 = ap number_of i in omega (arith, k, r.only (omega (arith, k)))) e)
    go (Ok p) h e = (p, h)

module _ (font keep rec : List ℕ) (octets : Octets font) (p : Program) (is : read_font font ≡ Ok p) where
  answer_is : check_of font keep rec ≡ check_program p keep rec
  unfolding check_of
  answer_is = ap (λ (g : Result Program Refusal). check_read g keep rec) is

  trace_is : (room : ℕ) → trace_program p keep room ≡ trace_of font keep room
  unfolding trace_of
  trace_is room = ap (λ (g : Result Program Refusal). trace_read g keep room) (sym is)

  cut_is : (cid ask : Bool) (name : List ℕ) (words lent : ℕ) → cut_program work_size cid ask p name keep rec 1 words lent ≡ cut_of cid ask font name keep rec 1 words lent
  unfolding cut_with
  cut_is cid ask name words lent = ap (λ (g : Result Program Refusal). cut_read work_size cid ask g name keep rec 1 words lent) (sym is)

  good : GoodProgram p
  good = font-good font p octets is

  -- ACCEPTED EXACTLY where the call is in form and the three conditions hold
  pub accepted-only : check_of font keep rec ≡ Ok tt → InForm p keep rec × Accepted p keep rec
  accepted-only e =
      let f = in_form p keep rec (Ok tt) (λ d. zero_one cc) (λ d. zero_one cc) (λ d. zero_one cc) (sym answer_is ∙ e) in
      (f.0, accepted-holds p keep rec good (was_true p keep rec (accepted_by p keep rec) f.1))

  pub accepted_whenever : InForm p keep rec → Accepted p keep rec → check_of font keep rec ≡ Ok tt
  accepted_whenever f a =
      answer_is ∙ formed p keep rec f ∙ ap (λ (t : Bool). pick t (Ok tt) (Err NotAccepted)) (accepted_true p keep rec good f.fine a)

  -- and 14 exactly where it is in form and one of them does not
  pub refused_only : check_of font keep rec ≡ Err NotAccepted → InForm p keep rec × (Accepted p keep rec → ⊥)
  refused_only e =
      let f = in_form p keep rec (Err NotAccepted) (λ d. zero_one cc) (λ d. zero_one cc) (λ d. zero_one cc) (sym answer_is ∙ e) in
      (f.0, λ a. zero_one (clash (accepted_true p keep rec good f.0.fine a) (was_false p keep rec (accepted_by p keep rec) f.1)))
    where
      clash : {t : Bool} → t ≡ true → t ≡ false → ◌≡◌ {A = ℕ} 0 1
      clash a b = cc

  pub refused_whenever : InForm p keep rec → (Accepted p keep rec → ⊥) → check_of font keep rec ≡ Err NotAccepted
  refused_whenever f n =
      answer_is ∙ formed p keep rec f ∙ ap (λ (t : Bool). pick t (Ok tt) (Err NotAccepted)) (not_true (accepted_by p keep rec) (λ t. n (accepted-holds p keep rec good t)))

  -- A SUBSET from an accepted record, cut with flag 1 and not refused, holds every kept glyph
  pub accepted-held : check_of font keep rec ≡ Ok tt → Octets rec
      → (cid ask : Bool) (name : List ℕ) (words lent : ℕ) (way : Way) (bs : List ℕ) → cut_of cid ask font name keep rec 1 words lent ≡ subset way bs
      → (g : ℕ) → IsKept p keep g → (ts : List Tok) × (met : List Row) × (unfolded p g ≡ plain ts met) × Holds p g ts bs
  accepted-held e bytes cid ask name words lent way bs c g k =
      let a = (accepted-only e).1 in
      let u = a.plains g k in
      let f : Faithful font keep rec 1 (subset way bs) = subst (Faithful font keep rec 1) c (faithful work_size cid ask font name keep rec 1 words lent octets bytes) in
      (u.0, u.1, u.2, f p is g k u.0 u.1 u.2 (inr (a.listed g k u.0 u.1 u.2)))

  -- what each row is that a kept glyph meets
  kept-known : (g : ℕ) (ts : List Tok) (met : List Row) → unfolded p g ≡ plain ts met → (r : Row) → Has Row r met
      → Known p.globals (locals_of p (get_or p.fds g 0)) (get_or p.fds g 0) g met r
  kept-known g ts met u = met-known p.globals (locals_of p (get_or p.fds g 0)) (get_or p.fds g 0) g (get_or p.charstrings g []) ts met u

  -- THE TRACER PASSES: what was traced with flag 1 is accepted
  pub trace_accepted : (room : ℕ) → trace_of font keep room ≡ traced 1 rec → check_of font keep rec ≡ Ok tt
  trace_accepted room e =
      accepted_whenever
      (record { below = tests.0; found = tests.1; fine = trace_fine font keep room octets p is 1 rec e })
      (record {
        plains = trace_all font keep room octets p is rec e;
        listed = trace_lists font keep room octets p is rec e;
        locals = λ g k i h. local_met (get_or p.fds g 0) i (trace_met font keep room octets p is rec e (entered (local (get_or p.fds g 0) i)) h);
        globals = λ i h. global_met i (trace_met font keep room octets p is rec e (entered (global i)) h);
      })
    where
      tests : (all_below (length p.charstrings) keep ≡ true) × (all_found_lem p (kept_of (length p.charstrings) keep) ≡ true)
      tests = trace_tests p keep room 1 rec (trace_is room ∙ e)

      local_met : (fd i : ℕ) → ((g : ℕ) × IsKept p keep g × Meets p g (entered (local fd i))) → i < length (locals_of p fd)
      local_met fd i m = known_local p (get_or p.fds m.0 0) m.0 m.2.met fd i (kept-known m.0 m.2.tokens m.2.met m.2.plainly (entered (local fd i)) m.2.has)

      global_met : (i : ℕ) → ((g : ℕ) × IsKept p keep g × Meets p g (entered (global i))) → i < length p.globals
      global_met i m = known_global p (get_or p.fds m.0 0) m.0 m.2.met i (kept-known m.0 m.2.tokens m.2.met m.2.plainly (entered (global i)) m.2.has)

  -- A SECOND LENGTH for a mask that a kept glyph meets: a subset call with the accepted record and flag 1 that is not refused answers way 1
  pub second-length_stubs : check_of font keep rec ≡ Ok tt
      → (g : ℕ) → IsKept p keep g → (ts : List Tok) (met : List Row) → unfolded p g ≡ plain ts met
      → (site : Site) (offset len other : ℕ) → Has Row (masked site offset len) met → lists (rows_of rec) (masked site offset other) ≡ true → (len ≡ other → ⊥)
      → (cid ask : Bool) (name : List ℕ) (words lent : ℕ) (way : Way) (bs : List ℕ) → cut_of cid ask font name keep rec 1 words lent ≡ subset way bs → way ≡ Stubbed
  second-length_stubs e g k ts met u site offset len other h o differ cid ask name words lent way bs c =
      let rows = rows_of rec in
      let all = (accepted-only e).1.listed g k ts met u in
      let l = all-at (λ r. lists rows r ≡ true) (masked site offset len) met all h in
      let runs = known-mask p (get_or p.fds g 0) g met site offset len (kept-known g ts met u (masked site offset len) h) in
      cut-way ask p name keep rec 1 lent cid words way bs (cut_is cid ask name words lent ∙ c)
      ∙ two-stubbed rows p used order site (rewritten all site runs) (two-listed rows site offset len other l o differ)
    where
      kept : List ℕ
      kept = kept_of (length p.charstrings) keep

      used : List ℕ
      used = used_fds p kept

      order : List ℕ
      order = written_order p kept

      rewritten : All (λ r. lists (rows_of rec) r ≡ true) met → (s : Site) → Runs p.globals (locals_of p (get_or p.fds g 0)) (get_or p.fds g 0) g met s → Rewritten (rows_of rec) p used order s
      rewritten all (glyph x) r = ap (λ (n : ℕ). is_in n order) r ∙ order_same p kept g ∙ kept_is p keep g k
      rewritten all (local f i) r = (
        ap (λ (n : ℕ). is_in n used) r.0 ∙ used-has p kept g good (kept_is p keep g k) k.there,
        all-at (λ q. lists (rows_of rec) q ≡ true) (entered (local f i)) met all r.2,
        subst (λ (n : ℕ). i < length (locals_of p n)) (sym r.0) r.1,
      )
      rewritten all (global i) r = (all-at (λ q. lists (rows_of rec) q ≡ true) (entered (global i)) met all r.1, r.0)
