-- Laws of a cut that is measured: its answer is that of a cut into an output of 67,108,864 bytes, whatever that holds.
use Rattle.std.specs.Prelude.{ℕ, ◌≤◌, ◌≡◌, refl, Bool, List, length, Result}
use Rattle.std.proofs.Common.{sym, ap, ◌∙◌, subst}
use Rattle.cff.specs.Font.{Program}
use Rattle.subset.specs.Cut.{Outcome, leaves_out}
use Rattle.outcome.specs.Entry.{answer_of, Cut, Passed}
use Rattle.measure.specs.Room.{of_length}
use Rattle.outcome.specs.declared.Subsetted.{Subsetted}
use Rattle.refusal.specs.declared.Refusal.{Refusal}

-- such an output
pub lent : List ℕ
lent = (of_length 67108864).0

pub lent_long : length lent ≡ 67108864
unfolding lent
lent_long = (of_length 67108864).1

pub lent-room : (n : ℕ) → n ≤ 67108864 → n ≤ length lent
lent-room n h = subst (λ (m : ℕ). n ≤ m) (sym lent_long) h

-- from a cut into it to what is measured, and back
pub as_measured : (o : ℕ → Outcome) (out' : List ℕ) (a : Result Subsetted Refusal) → Cut (o (length lent)) lent out' a → a ≡ answer_of (o 67108864)
as_measured o out' a c = c.answers ∙ ap (λ (n : ℕ). answer_of (o n)) lent_long

pub as_cut : (o : ℕ → Outcome) (a : Result Subsetted Refusal) → a ≡ answer_of (o 67108864) → Cut (o (length lent)) lent (leaves_out (o (length lent)) lent) a
as_cut o a e = record { answers = e ∙ sym (ap (λ (n : ℕ). answer_of (o n)) lent_long); output = refl }

-- the keying, when it was found
pub passed-keyed : (cid ask t : Bool) (p : Program) (name : ℕ) (keep rec : List ℕ) (flag words : ℕ) → Passed cid ask p name keep rec flag words → cid ≡ t
    → Passed t ask p name keep rec flag words
passed-keyed cid ask t p name keep rec flag words h e = subst (λ (x : Bool). Passed x ask p name keep rec flag words) e h
