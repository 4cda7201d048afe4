-- The outcome of what the subset of a CID-keyed font is written from: that of its bytes.
use Rattle.std.specs.Prelude.{ℕ, List, Result}
use Rattle.subset.specs.Cut.{Outcome}
use Rattle.outcome.specs.Entry.{Cut}
use Rattle.outcome.specs.declared.Subsetted.{Subsetted}
use Rattle.refusal.specs.declared.Refusal.{Refusal}
use Rattle.cid_parts.specs.Cid.{sized}
use Rattle.cid_parts.specs.Subset.{subset_in}
use Rattle.cid_parts.specs.declared.cid.CidSubset.{CidSubset}

-- with room for so many bytes
abbrev pub outcome_in : CidSubset → ℕ → Outcome
outcome_in c room = sized c.parts.cut.plan.how.way (subset_in c) room

-- its cut is one of this outcome
abbrev pub CutsAs : CidSubset → (ℕ → Outcome) → Type 0
CutsAs c o = (room : ℕ) (out out' : List ℕ) (a : Result Subsetted Refusal) → Cut (outcome_in c room) out out' a → Cut (o room) out out' a
