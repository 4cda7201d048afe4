-- Some text was taken.
use Rattle.sheet_read.specs.Program.{Begun}
use Rattle.sheet_read.proofs.take_input.Given as goal

abbrev pub invariant-loop : goal.invariant-loop
invariant-loop g l = Begun l.taking.len l.taking.mode l.taking.buffer.now
