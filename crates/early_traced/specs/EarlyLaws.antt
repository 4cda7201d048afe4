-- Laws of the refusals of a traced cut before the work words are used: the code's tests are the definition's.
use Rattle.std.specs.Prelude.{ℕ, ◌≤◌, ◌<◌, ◌+◌, ◌*◌, ◌≡◌, refl, Bool, true, not, List, [], ltb, length, take, None, Option, Some, Result, Ok, Err}
use Rattle.std.proofs.Common.{sym, ◌∙◌, subst, arith}
use Rattle.std.proofs.Math.Path.{ap}
use Rattle.std.proofs.Math.Bool.{false}
use borrow.Author.Tests.{lt-ltb, le-ltb}
use Rattle.octets.specs.Pick.{pick}
use Rattle.bits.specs.Bits.{words_for}
use Rattle.octets.specs.Lists.{all_below}
use Rattle.prune.specs.StepLaws.{zero_one}
use Rattle.index.specs.IndexLaws.{items-length}
use Rattle.record.specs.Record.{rows_from, rows_of, rows_fine_lem, record_fine}
use Rattle.dict.specs.Lookup.{ros_in, cid_keyed}
use Rattle.cff.specs.Font.{Program}
use Rattle.cff.specs.Find.{work_size}
use Rattle.cff.specs.Reads.{program_of, GoodFont}
use Rattle.cff.specs.declared.font.Font.{Font}
use Rattle.subset.specs.Kept.{kept_of}
use Rattle.unfold.specs.Unfold.{Row}
use Rattle.subset.specs.Cut.{all_found_lem, has_ros_lem, same_bool_lem, unsupported_in}
use Rattle.outcome.specs.Entry.{refusal_of}
use Rattle.early_refusals.specs.RefusalLaws.{work_is}
use Rattle.traced.specs.Traced.{Traced, refused, traced, record_of, met_all, answered, trace_program}
use Rattle.early_traced.specs.Early.{fits_in, refused_or, early_of}
use Rattle.refusal.specs.declared.Refusal.{Refusal}
use Rattle.refusal.specs.declared.Refusal.TheVariants.{Malformed, Unsupported, TooLong, NoSuchNumber, NotFound, Work, Output}

-- ---- by the tests

-- 3, 2, 4, 6 and 7, by what their tests say
abbrev own : Bool → Bool → Bool → Bool → Bool → Result Unit Refusal
own s b c d e = pick s (Err Unsupported) (pick b (pick c (Err TooLong) (pick d (pick e (Ok tt) (Err NotFound)) (Err NoSuchNumber))) (Err Malformed))

-- they come first in both
first : (s b c d e : Bool) (t : Traced) (r : Result Unit Refusal) (n : Refusal) → own s b c d e ≡ Err n
    → Err n ≡ pick s (Err Unsupported) (pick b (pick c (Err TooLong) (refused_or (pick d (pick e t (refused NotFound)) (refused NoSuchNumber)) r)) (Err Malformed))
first true b c d e t r n h = sym h
first false false c d e t r n h = sym h
first false true true d e t r n h = sym h
first false true false false e t r n h = sym h
first false true false true false t r n h = sym h
first false true false true true t r n h = absurd (zero_one cc)

passes : (s b c d e : Bool) → own s b c d e ≡ Ok tt → (s ≡ false) × (b ≡ true) × (c ≡ false) × (d ≡ true) × (e ≡ true)
passes true b c d e h = absurd (zero_one cc)
passes false false c d e h = absurd (zero_one cc)
passes false true true d e h = absurd (zero_one cc)
passes false true false false e h = absurd (zero_one cc)
passes false true false true false h = absurd (zero_one cc)
passes false true false true true h = (refl, refl, refl, refl, refl)

-- an empty record and flag 1 are of the right form
none_fine : (cid : Bool) → record_fine cid [] 1 ≡ true
unfolding record_fine rows_of rows_from rows_fine_lem
none_fine cid = refl

-- a keying is itself
pub same_self : (a : Bool) → same_bool_lem a a ≡ true
same_self true = refl
same_self false = refl

-- a trace behind 6 and 7 is refused with 11 alone
only_eleven : (lent : ℕ) (m : Option (List Row)) (r : Result Unit Refusal) → fits_in (answered lent m) ≡ false → refused_or (answered lent m) r ≡ Err Output
only_eleven lent None r e = absurd (zero_one cc)
only_eleven lent (Some rows) r e = by (ltb lent (length (record_of rows))) e
  where
    by : (t : Bool) → fits_in (pick t (refused Output) (traced 1 (record_of rows))) ≡ false → refused_or (pick t (refused Output) (traced 1 (record_of rows))) r ≡ Err Output
    by true q = refl
    by false q = absurd (zero_one cc)

eleven : (m : Traced) (r : Result Unit Refusal) → fits_in m ≡ true → refused_or m r ≡ r
eleven (refused n) r e = absurd (zero_one cc)
eleven (traced flag rec) r e = refl

module _ (p : Program) (name : ℕ) (keep : List ℕ) (words lent : ℕ) where
  abbrev n : ℕ
  n = length p.charstrings

  abbrev kept : List ℕ
  kept = kept_of n keep

  abbrev ros : Bool
  ros = pick (cid_keyed p.top) (has_ros_lem (ros_in p.top)) true

  abbrev first_of_them : Result Unit Refusal
  first_of_them = own (unsupported_in false p) ros (ltb 65535 name) (all_below n keep) (all_found_lem p kept)

  -- 9, or none
  abbrev last : Result Unit Refusal
  last = pick (ltb words (work_size p)) (Err Work) (Ok tt)

  -- the subset call's, with an empty record and words enough
  asked-first : refusal_of work_size (cid_keyed p.top) false p name keep [] 1 (work_size p) ≡ first_of_them
  unfolding refusal_of
  asked-first = rw (same_self (cid_keyed p.top), none_fine (cid_keyed p.top), le-ltb (work_size p) (work_size p) (omega arith))

  pub early-first : (e : Refusal) → refusal_of work_size (cid_keyed p.top) false p name keep [] 1 (work_size p) ≡ Err e → Err e ≡ early_of p name keep words lent
  unfolding early_of
  early-first e h =
      first (unsupported_in false p) ros (ltb 65535 name) (all_below n keep) (all_found_lem p kept) (answered lent (met_all p kept)) last e (sym asked-first ∙ h)

  module _ (not_refused : refusal_of work_size (cid_keyed p.top) false p name keep [] 1 (work_size p) ≡ Ok tt) where
    tests : (unsupported_in false p ≡ false) × (ros ≡ true) × (ltb 65535 name ≡ false) × (all_below n keep ≡ true) × (all_found_lem p kept ≡ true)
    tests = passes (unsupported_in false p) ros (ltb 65535 name) (all_below n keep) (all_found_lem p kept) (sym asked-first ∙ not_refused)

    pub keep-passes : (all_below n keep ≡ true) × (all_found_lem p kept ≡ true)
    keep-passes = (tests.3, tests.4)

    trace_is : trace_program p keep lent ≡ answered lent (met_all p kept)
    trace_is = rw (tests.3, tests.4)

    left : early_of p name keep words lent ≡ refused_or (trace_program p keep lent) last
    unfolding early_of
    left = rw (tests.0, tests.1, tests.2)

    -- too long
    pub early_long : fits_in (trace_program p keep lent) ≡ false → Err Output ≡ early_of p name keep words lent
    early_long e =
        sym (left ∙ ap (λ (t : Traced). refused_or t last) trace_is
        ∙ only_eleven lent (met_all p kept) last (ap fits_in (sym trace_is) ∙ e))

    -- room enough
    module _ (e : fits_in (trace_program p keep lent) ≡ true) where
      behind : early_of p name keep words lent ≡ last
      behind = left ∙ eleven (trace_program p keep lent) last e

      pub early-words : words < work_size p → Err Work ≡ early_of p name keep words lent
      early-words h = sym (behind ∙ ap (λ (t : Bool). pick t (Err Work) (Ok tt)) (lt-ltb words (work_size p) h))

      pub early-none : work_size p ≤ words → Ok tt ≡ early_of p name keep words lent
      early-none h = sym (behind ∙ ap (λ (t : Bool). pick t (Err Work) (Ok tt)) (le-ltb words (work_size p) h))

-- ---- a font by its places

module _ (b : List ℕ) (f : Font) (good : GoodFont b f) where
  abbrev q : Program
  q = program_of b f

  many : length q.charstrings ≡ f.charstrings.count
  many = items-length b f.charstrings

  keyed : f.cid ≡ cid_keyed q.top
  keyed = good.cid

  module _ (name : ℕ) (keep : List ℕ) (words lent w : ℕ) (r : Result Unit Refusal) (size : w ≡ 2 * f.charstrings.count + words_for f.globals.count + f.words)
      (is : r ≡ refusal_of work_size f.cid false q name keep (take 0 b) 1 w) where
    wide : w ≡ work_size q
    wide = size ∙ work_is b f good

    asked : r ≡ refusal_of work_size (cid_keyed q.top) false q name keep [] 1 (work_size q)
    asked = is ∙ ap (λ (c : Bool). refusal_of work_size c false q name keep [] 1 w) keyed ∙ ap (refusal_of work_size (cid_keyed q.top) false q name keep [] 1) wide

    -- refused by the subset call's own
    pub own-refusal : (e : Refusal) → r ≡ Err e → Err e ≡ early_of q name keep words lent
    own-refusal e h = early-first q name keep words lent e (sym asked ∙ h)

    module _ (passed : r ≡ Ok tt) where
      not_refused : refusal_of work_size (cid_keyed q.top) false q name keep [] 1 (work_size q) ≡ Ok tt
      not_refused = sym asked ∙ passed

      -- what the trace asks
      pub traced-asked : (all_below f.charstrings.count keep ≡ true) × (all_found_lem q (kept_of f.charstrings.count keep) ≡ true)
      traced-asked =
          let h = keep-passes q name keep words lent not_refused in
          (ap (λ (m : ℕ). all_below m keep) (sym many) ∙ h.0, ap (λ (m : ℕ). all_found_lem q (kept_of m keep)) (sym many) ∙ h.1)

      module _ (t : Bool) (fits : t ≡ fits_in (trace_program q keep lent)) where
        pub long_refusal : not t ≡ true → Err Output ≡ early_of q name keep words lent
        long_refusal h = early_long q name keep words lent not_refused (sym fits ∙ was_false t h)
          where
            was_false : (r : Bool) → not r ≡ true → r ≡ false
            was_false true e = absurd (zero_one cc)
            was_false false e = refl

        module _ (room : not t ≡ false) where
          has_room : fits_in (trace_program q keep lent) ≡ true
          has_room = sym fits ∙ was_true t room
            where
              was_true : (r : Bool) → not r ≡ false → r ≡ true
              was_true true e = refl
              was_true false e = absurd (zero_one cc)

          pub words-refusal : words < w → Err Work ≡ early_of q name keep words lent
          words-refusal h = early-words q name keep words lent not_refused has_room (subst (λ (k : ℕ). words < k) wide h)

          pub no_refusal : w ≤ words → Ok tt ≡ early_of q name keep words lent
          no_refusal h = early-none q name keep words lent not_refused has_room (subst (λ (k : ℕ). k ≤ words) wide h)
