-- Laws of one list that is tried: what its trace hands on, what measuring asks, and that the outcome is the traced cut's.
use Rattle.std.specs.Prelude.{ℕ, ◌+◌, ◌≤◌, refl, Bool, List, [], ltb, eqb, length, take, None, Option, Some, Result, Ok, Err}
use Rattle.std.proofs.Math.Path.{◌≡◌, ap}
use Rattle.std.proofs.Common.{sym, ◌∙◌, subst, arith, le-ltb, ltb-false}
use Rattle.std.proofs.Math.Bool.{true, false}
use Rattle.octets.specs.Pick.{pick, pick_ind}
use Rattle.octets.specs.Octets.{Octets, put}
use Rattle.octets.specs.PutLaws.{take_put, put-length}
use Rattle.octets.specs.Lists.{all_below}
use Rattle.unfold.specs.Unfold.{Row}
use Rattle.prune.specs.StepLaws.{zero_one}
use Rattle.record.specs.Record.{record_fine}
use Rattle.dict.specs.Lookup.{ros_in, cid_keyed}
use Rattle.cff.specs.Font.{Program}
use Rattle.cff.specs.Find.{work_size}
use Rattle.cff.specs.Reads.{program_of}
use Rattle.cff.specs.File.{InFile}
use Rattle.cff.specs.declared.font.Font.{Font}
use Rattle.subset.specs.Flag.{flag_of}
use Rattle.subset.specs.Kept.{kept_of}
use Rattle.subset.specs.Cut.{Outcome, refused as refusedCut, subset, all_found_lem, has_ros_lem, unsupported_in}
use Rattle.small.specs.Theorem.{small-less}
use Rattle.outcome.specs.Entry.{answer_of, refusal_of, cut_behind, Passed}
use Rattle.write.specs.EntryLaws.{unless_refused, program-cut}
use Rattle.write.specs.FlagLaws.{flag_is}
use Rattle.traced.specs.Traced.{Traced, refused, traced, record_of, met_all, answered, trace_program, trace_read, trace_of, traced_as, leaves_record, Traces}
use Rattle.traced.specs.Theorem.{kept_rows}
use Rattle.traced.proofs.Theorem.{trace_fine, kept-fits}
use Rattle.culprit.specs.Culprit.{cut_traced, traced_cut, has_way}
use Rattle.failing.specs.Failing.{Recorded}
use Rattle.blocking.specs.Search.{CanCut, renumbered_in}
use Rattle.traced.specs.declared.Recorded.{Recorded as AsRecorded}
use Rattle.early_traced.specs.EarlyLaws.{same_self}
use Rattle.outcome.specs.declared.Subsetted.{Subsetted}
use Rattle.refusal.specs.declared.Refusal.{Refusal}
use Rattle.refusal.specs.declared.Refusal.TheVariants.{Malformed, Unsupported, TooLong, NoSuchNumber, NotFound, Work, Output}
use Rattle.subset.specs.declared.Way.TheVariants.{Renumbered}

-- ---- a trace

-- 6 and 7 are passed, and the record has room
pub record Passes (p : Program) (keep rec : List ℕ) (lent : ℕ) : Type 0 where
  pub below : all_below (length p.charstrings) keep ≡ true
  pub found : all_found_lem p (kept_of (length p.charstrings) keep) ≡ true
  pub short : length rec ≤ lent

pub trace_passes : (p : Program) (keep : List ℕ) (lent flag : ℕ) (rec : List ℕ) → trace_program p keep lent ≡ traced flag rec → Passes p keep rec lent
trace_passes p keep lent flag rec e = by (all_below (length p.charstrings) keep) (all_found_lem p (kept_of (length p.charstrings) keep)) refl refl e
  where
    short : (m : Option (List Row)) → answered lent m ≡ traced flag rec → length rec ≤ lent
    short None h = let z : [] ≡ rec = cc in omega (arith, ap length (sym z))
    short (Some rows) h =
        pick_ind (λ t. t ≡ traced flag rec → length rec ≤ lent) (ltb lent (length (record_of rows))) (refused Output) (traced 1 (record_of rows))
        (λ q k. absurd (zero_one cc))
        (λ q k. let z : record_of rows ≡ rec = cc in omega (arith, ap length (sym z), ltb-false lent (length (record_of rows)) q))
        h

    by : (d f : Bool) → all_below (length p.charstrings) keep ≡ d → all_found_lem p (kept_of (length p.charstrings) keep) ≡ f
        → pick d (pick f (answered lent (met_all p (kept_of (length p.charstrings) keep))) (refused NotFound)) (refused NoSuchNumber) ≡ traced flag rec → Passes p keep rec lent
    by true true a b h = record { below = a; found = b; short = short (met_all p (kept_of (length p.charstrings) keep)) h }
    by true false a b h = absurd (zero_one cc)
    by false f a b h = absurd (zero_one cc)

-- then the answer is by the rows
passes-answered : (p : Program) (keep : List ℕ) (lent : ℕ) (t : Traced) → trace_program p keep lent ≡ t → (flag : ℕ) (rec : List ℕ) → t ≡ traced flag rec
    → answered lent (kept_rows p keep) ≡ traced flag rec
passes-answered p keep lent t e flag rec z =
    let h = trace_passes p keep lent flag rec (e ∙ z) in
    sym (ap (λ (d : Bool). pick d (pick (all_found_lem p (kept_of (length p.charstrings) keep)) (answered lent (kept_rows p keep)) (refused NotFound)) (refused NoSuchNumber)) h.below
    ∙ ap (λ (d : Bool). pick d (answered lent (kept_rows p keep)) (refused NotFound)) h.found) ∙ e ∙ z

-- ---- the tests of a traced cut

-- of the subset call's refusals 9 alone is left where all tests before it are passed
pub nine-left : (p : Program) (name : ℕ) (keep rec : List ℕ) (flag words lent : ℕ) → unsupported_in false p ≡ false
    → pick (cid_keyed p.top) (has_ros_lem (ros_in p.top)) true ≡ true → ltb 65535 name ≡ false → Passes p keep rec lent → record_fine (cid_keyed p.top) rec flag ≡ true
    → refusal_of work_size (cid_keyed p.top) false p name keep rec flag words ≡ pick (ltb words (work_size p)) (Err Work) (Ok tt)
unfolding refusal_of
nine-left p name keep rec flag words lent s b c h fine = rw (same_self (cid_keyed p.top), s, b, c, h.below, h.found, fine)

-- behind 3, 2 and 4, which are passed, the call with what was traced
tests_passed : (s b c : Bool) (o : Outcome) → s ≡ false → b ≡ true → c ≡ false → pick s (refusedCut Unsupported) (pick b (pick c (refusedCut TooLong) o) (refusedCut Malformed)) ≡ o
tests_passed s b c o x y z = rw (x, y, z)

module _ (p : Program) (name keep : List ℕ) (words lent : ℕ) (can : CanCut p (length name) words) where
  pub cut-passed : traced_cut p name keep words lent ≡ cut_traced p name keep words (trace_program p keep lent)
  unfolding traced_cut
  cut-passed =
      tests_passed (unsupported_in false p) (pick (cid_keyed p.top) (has_ros_lem (ros_in p.top)) true) (ltb 65535 (length name)) _ can.supported can.ros
      (le-ltb 65535 (length name) can.named)

  -- a trace that is refused
  pub cut_refused : (n : Refusal) → trace_program p keep lent ≡ refused n → traced_cut p name keep words lent ≡ refusedCut n
  cut_refused n e = cut-passed ∙ ap (cut_traced p name keep words) e

  module _ (flag : ℕ) (rec : List ℕ) (e : trace_program p keep lent ≡ traced flag rec) (fine : record_fine (cid_keyed p.top) rec flag ≡ true) where
    -- what measuring asks
    pub passed-all : Passed (cid_keyed p.top) false p (length name) keep rec flag words
    passed-all =
        let h = trace_passes p keep lent flag rec e in
        record {
          keying = refl;
          supported = can.supported;
          ros = can.ros;
          named = can.named;
          below = h.below;
          found = h.found;
          recorded = fine;
          room = omega (arith, can.room, small-less p);
        }

    no_refusal : refusal_of work_size (cid_keyed p.top) false p (length name) keep rec flag words ≡ Ok tt
    no_refusal =
        nine-left p (length name) keep rec flag words lent can.supported can.ros (le-ltb 65535 (length name) can.named) (trace_passes p keep lent flag rec e) fine
        ∙ ap (λ (t : Bool). pick t (Err Work) (Ok tt)) (le-ltb words (work_size p) can.room)

    -- the cut behind all refusals
    pub cut-behind : traced_cut p name keep words lent ≡ cut_behind false p name keep rec flag 67108864
    cut-behind =
        cut-passed ∙ ap (cut_traced p name keep words) e ∙ program-cut work_size (cid_keyed p.top) false p name keep rec flag words 67108864
        ∙ ap (λ (r : Result Unit Refusal). unless_refused r (cut_behind false p name keep rec flag 67108864)) no_refusal

-- ---- the code

-- what a trace leaves in the slice is handed on
pub record Handed (t : Traced) (flag len : ℕ) (slice : List ℕ) : Type 0 where
  pub short : len ≤ length slice
  pub is : t ≡ traced flag (take len slice)

pub handed : (t : Traced) (r : AsRecorded) (old new : List ℕ) → Ok r ≡ traced_as t → new ≡ leaves_record t old
    → ((f : ℕ) (rec : List ℕ) → t ≡ traced f rec → length rec ≤ length old) → Handed t r.flag r.len new
handed (refused n) r old new e o fits = absurd (zero_one cc)
handed (traced f rec) r old new e o fits =
    let z : r ≡ record { flag = f; len = length rec } = cc in
    let l : r.len ≡ length rec = ap (λ (q : AsRecorded). q.len) z in
    let short : length rec ≤ length old = fits f rec refl in
    let long : length (put old 0 rec) ≡ length old = put-length old 0 rec (omega arith) in
    let i : 0 + length rec ≡ length rec = omega arith in
    record {
      short = omega (arith, l, ap length o, long);
      is =
          ap (λ (q : AsRecorded). traced q.flag rec) (sym z)
          ∙ ap (traced r.flag) (sym (ap (λ (k : ℕ). take k new) l ∙ ap (take (length rec)) o ∙ ap (λ (k : ℕ). take k (put old 0 rec)) (sym i) ∙ take_put old 0 rec (omega arith)));
    }

module _ (file : List ℕ) (f : Font) (b : List ℕ) (octets : Octets file) (held : InFile file f b) (name keep : List ℕ) where
  abbrev p : Program
  p = program_of b f

  trace_is : (lent : ℕ) → trace_of file keep lent ≡ trace_program p keep lent
  unfolding trace_of
  trace_is lent = ap (λ (g : Result Program Refusal). trace_read g keep lent) held.is

  -- measured with what was traced
  module _ (words lent flag : ℕ) (rec : List ℕ) (can : CanCut p (length name) words) (e : trace_program p keep lent ≡ traced flag rec) where
    fine : record_fine (cid_keyed p.top) rec flag ≡ true
    fine = trace_fine file keep lent octets p held.is flag rec (trace_is lent ∙ e)

    -- the flag by whether it is 1
    same-flag : flag ≡ flag_of (eqb flag 1)
    same-flag = sym (flag_is (cid_keyed p.top) rec flag fine)

    pub measure_asked : Passed f.cid false p (length name) keep rec (flag_of (eqb flag 1)) words
    measure_asked =
        subst (λ (c : Bool). Passed c false p (length name) keep rec (flag_of (eqb flag 1)) words) (sym held.good.cid)
        (subst (λ (n : ℕ). Passed (cid_keyed p.top) false p (length name) keep rec n words) same-flag (passed-all p name keep words lent can flag rec e fine))

    pub measured : (r : Result Subsetted Refusal) → r ≡ answer_of (cut_behind false p name keep rec (flag_of (eqb flag 1)) 67108864) → r ≡ answer_of (traced_cut p name keep words lent)
    measured r h =
        h ∙ ap (λ (n : ℕ). answer_of (cut_behind false p name keep rec n 67108864)) (sym same-flag)
        ∙ ap answer_of (sym (cut-behind p name keep words lent can flag rec e fine))

  -- what a trace leaves
  module _ (old new : List ℕ) (a : Result AsRecorded Refusal) (t : Traces file keep old new a) where
    pub traced_handed : (r : AsRecorded) → a ≡ Ok r → Handed (trace_program p keep (length old)) r.flag r.len new
    traced_handed r e =
        subst (λ (x : Traced). Handed x r.flag r.len new) (trace_is (length old))
        (handed (trace_of file keep (length old)) r old new (sym e ∙ t.answers) t.output
        (λ g rec q. (trace_passes p keep (length old) g rec (sym (trace_is (length old)) ∙ q)).short))

    -- flag 1: the record is that of the rows that the kept glyphs meet
    pub handed_recorded : (r : AsRecorded) → a ≡ Ok r → r.flag ≡ 1 → Recorded p keep (take r.len new)
    handed_recorded r e one =
        by r.len (kept_rows p keep) refl
        (passes-answered p keep (length old) (traced r.flag (take r.len new)) (traced_handed r e).is r.flag (take r.len new) refl ∙ ap (λ (k : ℕ). traced k (take r.len new)) one)
      where
        by : (len : ℕ) (m : Option (List Row)) → kept_rows p keep ≡ m → answered (length old) m ≡ traced 1 (take len new) → Recorded p keep (take len new)
        by len None z h = absurd (zero_one cc)
        by len (Some rows) z h =
            pick_ind (λ t. t ≡ traced 1 (take len new) → Recorded p keep (take len new)) (ltb (length old) (length (record_of rows))) (refused Output) (traced 1 (record_of rows))
            (λ q k. absurd (zero_one cc))
            (λ q k. let i : record_of rows ≡ take len new = cc in record { rows = rows; met = z; is = sym i; fits = kept-fits file keep (length old) octets p held.is rows z })
            h

  -- traced
  module _ (words : ℕ) (old new : List ℕ) (can : CanCut p (length name) words) (a : Result AsRecorded Refusal) (t : Traces file keep old new a) where
    pub tried_refused : (n : Refusal) → a ≡ Err n → Err n ≡ answer_of (traced_cut p name keep words (length old))
    tried_refused n e =
        ap answer_of (sym (cut_refused p name keep words (length old) can n (sym (trace_is (length old)) ∙ by (trace_of file keep (length old)) (sym e ∙ t.answers))))
      where
        by : (x : Traced) → Err n ≡ traced_as x → x ≡ refused n
        by (refused m) h = let z : n ≡ m = cc in ap refused (sym z)
        by (traced g rec) h = absurd (zero_one cc)

    pub tried_handed : (r : AsRecorded) → a ≡ Ok r → Handed (trace_program p keep (length old)) r.flag r.len new
    tried_handed = traced_handed old new a t

-- the way of an answer is its outcome's
pub way-of : (o : Outcome) → renumbered_in (answer_of o) ≡ has_way Renumbered o
way-of (refusedCut n) = refl
way-of (subset way bs) = refl
