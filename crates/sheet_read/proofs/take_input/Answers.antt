-- A failed read leaves nothing that was taken; at the end, and after the last turn, some text was.
use Rattle.sheet_read.specs.ProgramLaws.{goes_begun, given_begun, given-none}
use Rattle.sheet_read.proofs.take_input.Goals as goal

pub returns-in-Failed : goal.returns-in-Failed
returns-in-Failed g c = given-none _

pub returns-in-End : goal.returns-in-End
returns-in-End g c = given_begun (goes_begun _ _ _ _ _ c.take_read-next.ensures c.loop.invariant)

pub loop-preserved : goal.loop-preserved
loop-preserved g c = goes_begun _ _ _ _ _ c.take_read-next.ensures c.loop.invariant

pub returns : goal.returns
returns g c = given_begun c.loop.invariant
