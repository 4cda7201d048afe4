-- Cutting one sheet (document 01, 'One sheet, whole'): a text that was taken, and the outcome that an answer and the output tell.
use Rattle.std.specs.Prelude.{ℕ, List, take, Result, Ok, Err}
use Rattle.refusal.specs.declared.Refusal.{Refusal}
use Rattle.subset.specs.Cut.{Outcome, refused, subset}
use Rattle.outcome.specs.declared.Subsetted.{Subsetted}
use Rattle.sheet.specs.Taking.{Took}

-- how many bytes of the output an answer speaks of
abbrev pub length_in : Result Subsetted Refusal → ℕ
length_in (Err n) = 0
length_in (Ok c) = c.len

-- the refusal, or the way and the subset, which is in front of the output
abbrev pub outcome_in : Result Subsetted Refusal → List ℕ → Outcome
outcome_in (Err n) out = refused n
outcome_in (Ok c) out = subset c.way (take c.len out)

-- some text was taken: len bytes of it are in the buffer, or it was too much
pub data Given (len : ℕ) (buffer : List ℕ) : Type 0 where
  given : (text : List ℕ) (mode : ℕ) → Took text len mode buffer → Given len buffer
