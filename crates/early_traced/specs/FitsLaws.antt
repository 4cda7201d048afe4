-- Laws of counting the rows of a record: it has room where the tracer would not refuse it with 11.
use Rattle.std.specs.Prelude.{ℕ, ◌/◌, ◌≤◌, ◌<◌, ◌≡◌, refl, Bool, true, false, List, [], length, Err}
use Rattle.std.proofs.Common.{sym, ap, ◌∙◌, arith}
use Rattle.octets.specs.Pick.{pick}
use Rattle.octets.specs.Octets.{put}
use Rattle.octets.specs.Lists.{all_below}
use Rattle.prune.specs.StepLaws.{zero_one}
use Rattle.index.specs.IndexLaws.{items-length}
use Rattle.cff.specs.Font.{Program}
use Rattle.cff.specs.Reads.{program_of, GoodFont}
use Rattle.cff.specs.declared.font.Font.{Font}
use Rattle.subset.specs.Kept.{keeps, kept_of}
use Rattle.subset.specs.Cut.{all_found_lem}
use Rattle.kept.specs.Packed.{Marks}
use Rattle.kept.specs.OrderLaws.{kept-marked}
use Rattle.row_window.specs.Key.{keys_bytes}
use Rattle.traced.specs.Traced.{met_all, Traced, refused, traced, answered, trace_program, traced_as, a_record}
use Rattle.tracer.specs.Met.{met_in}
use Rattle.tracer.specs.Tracing.{met, keys_of, sorted, Shown, Counted, Answers}
use Rattle.tracer.specs.AnswerLaws.{answer_long, answer-written}
use Rattle.tracer.specs.WindowsLaws.{shows-count}
use Rattle.tracer.specs.declared.marked.Plain.{Plain}
use Rattle.early_traced.specs.Early.{fits_in}
use Rattle.refusal.specs.declared.Refusal.{Refusal}
use Rattle.refusal.specs.declared.Refusal.TheVariants.{NoSuchNumber, NotFound, Output}

-- ---- by the answer of a trace

is_refused : (t : Traced) (n : Refusal) → Err n ≡ traced_as t → fits_in t ≡ false
is_refused (refused m) n e = refl
is_refused (traced flag rec) n e = absurd (zero_one cc)

is_record : (t : Traced) (flag len : ℕ) → a_record flag len ≡ traced_as t → fits_in t ≡ true
is_record (refused m) flag len e = absurd (zero_one cc)
is_record (traced f rec) flag len e = refl

-- a glyph that is not plain
pub fits_broken : (t : Traced) (out out' : List ℕ) (flag len : ℕ) → Answers t out out' (a_record flag len) → true ≡ fits_in t
fits_broken t out out' flag len a = sym (is_record t flag len a.answers)

-- ---- the kept glyphs are those that are marked

module _ (b : List ℕ) (f : Font) (good : GoodFont b f) (keep : List ℕ) (lent : ℕ) (below : all_below f.charstrings.count keep ≡ true)
    (found : all_found_lem (program_of b f) (kept_of f.charstrings.count keep) ≡ true) (old marks : List ℕ) (m : Marks f.charstrings.count (keeps keep) old marks) where
  abbrev q : Program
  q = program_of b f

  -- the outcome of so many glyphs
  abbrev traced_with : ℕ → Traced
  traced_with n = pick (all_below n keep) (pick (all_found_lem q (kept_of n keep)) (answered lent (met_all q (kept_of n keep))) (refused NotFound)) (refused NoSuchNumber)

  trace_is : trace_program q keep lent ≡ answered lent (met_in b f marks)
  trace_is =
      let n = f.charstrings.count in
      let passed : traced_with n ≡ answered lent (met_all q (kept_of n keep)) = rw (below, found) refl in
      ap traced_with (items-length b f.charstrings) ∙ passed ∙ ap (λ (gs : List ℕ). answered lent (met_all q gs)) (sym (kept-marked b f good keep old marks m))

  pub fits_trace : (r : Bool) → r ≡ fits_in (answered lent (met_in b f marks)) → r ≡ fits_in (trace_program q keep lent)
  fits_trace r e = e ∙ ap fits_in (sym trace_is)

-- ---- by the count

module _ (p : Plain) (out : List ℕ) where
  abbrev all : Traced
  all = answered (length out) (met p.marked)

  -- too many rows
  pub fits_not : (n : ℕ) → n ≤ length (sorted p) → length out / 10 < n → false ≡ fits_in all
  fits_not n l h = sym (is_refused all Output (answer_long p out (length out / 10) refl n l h).answers)

  -- few enough
  pub fits_all : length (sorted p) ≤ length out / 10 → true ≡ fits_in all
  fits_all h =
      let bs = keys_bytes (sorted p) in
      sym (is_record all 1 (length bs)
      (answer-written p out (length out / 10) refl h (put out 0 bs) (length bs) (record { is = refl; behind = omega arith })).answers)

  -- counted by windows
  module _ (n : ℕ) (c : Counted (sorted p) (length out / 10) n) where
    pub counted-past : length out / 10 < n → false ≡ fits_in all
    counted-past h = fits_not n c.most h

    pub counted-whole : n ≤ length out / 10 → true ≡ fits_in all
    counted-whole h = fits_all (omega (arith, c.whole h))

  -- the first window, where it is not full
  module _ (keys : List ℕ) (n : ℕ) (s : Shown (keys_of p) keys n) (last : n ≡ 64512 → ⊥) where
    one_long : n ≡ length (sorted p)
    one_long = omega (arith, shows-count (keys_of p) [] keys n s last)

    pub first_past : length out / 10 < n → false ≡ fits_in all
    first_past h = fits_not n (omega (arith, one_long)) h

    pub first-whole : n ≤ length out / 10 → true ≡ fits_in all
    first-whole h = fits_all (omega (arith, one_long))
