-- Unused letters leave no trace, over the calls (document 02, Wish 8): by the contracts of the entries.
use Rattle.std.specs.Prelude.{ℕ, ◌<◌, ◌≡◌, List, length}
use Rattle.std.proofs.Common.{sym, ap, ◌∙◌}
use Rattle.cff.specs.Font.{Program, read_font}
use Rattle.subset.specs.Cut.{Outcome, cut_with, leaves_out, leaves_work}
use Rattle.outcome.specs.Entry.{answer_of, work_in}
use Rattle.alike.specs.Alike.{CountsAlone, ListedAlike, AllAlike, SameReply, SameCalls}
use Rattle.alike.specs.CountsLaws.{alike_counts}
use Rattle.alike.proofs.Theorem.{no_trace, no_trace_copied}

-- calls with the same outcome on fonts that ask for as many work words
calls_same : (size : Program → ℕ) (p q : Program) (keep rec : List ℕ) (flag : ℕ) → SameReply size p q keep rec flag → size p ≡ size q → SameCalls size p q keep rec flag
calls_same size p q keep rec flag same count cid ask font font' name work out work₁ out₁ work₂ out₂ r s e f a b =
    let o = same cid ask font font' name (length work) (length out) e f in
    let w : work_in size (read_font font) ≡ work_in size (read_font font') = ap (work_in size) e ∙ (count ∙ sym (ap (work_in size) f)) in
    let other = cut_with size cid ask font' name keep rec flag (length work) (length out) in (
      a.answers ∙ (ap answer_of o ∙ sym b.answers),
      a.output ∙ (ap (λ (x : Outcome). leaves_out x out) o ∙ sym b.output),
      a.words ∙ (ap (λ (x : Outcome). leaves_work x (work_in size (read_font font)) work) o ∙ (ap (λ (n : ℕ). leaves_work other n work) w ∙ sym b.words)),
    )

-- calls whose W goes by counts alone: the large one and the small one (document 02, Wish 10)
module _ (size : Program → ℕ) (counts : CountsAlone size) (p q : Program) (keep rec : List ℕ) where
  -- flag 1, and every flag but 0
  pub calls-alike : (flag : ℕ) → 0 < flag → ListedAlike keep rec p q → SameCalls size p q keep rec flag
  calls-alike flag h a = calls_same size p q keep rec flag (no_trace size counts p q keep rec flag h a) (counts p q (alike_counts a))

  -- flag 0
  pub calls-alike-copied : AllAlike keep p q → SameCalls size p q keep rec 0
  calls-alike-copied a = calls_same size p q keep rec 0 (no_trace_copied size counts p q keep rec a) (counts p q (alike_counts a))
