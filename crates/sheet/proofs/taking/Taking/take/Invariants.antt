-- The invariant: the bytes of the piece so far were taken.
use Rattle.std.proofs.Common.{List, take, ℕ, ◌++◌}
use Rattle.sheet.specs.Taking.{Took}
use Rattle.sheet.proofs.taking.Taking.take.Given as goal

abbrev pub invariant-loop-b : goal.invariant-loop-b
invariant-loop-b l = (text : List ℕ) → Took text l.initial.len l.initial.mode l.initial.buffer → Took (text ++ take l.b-index l.piece) l.len l.mode l.buffer
