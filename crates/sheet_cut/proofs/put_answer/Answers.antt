-- `put_answer` meets its contract: a refusal, or the subset in front of the output.
use Rattle.octets.specs.PutLaws.{wrote_as}
use Rattle.sheet_cut.specs.CuttingLaws.{refused_told, subset-told, number-room}
use Rattle.sheet_cut.proofs.put_answer.Goals as goal

pub put_subset-requires : goal.put_subset-requires
put_subset-requires c = number-room _ _ _ c.before.args.out.now _ c.in-Ok.is c.before.requires.0 c.before.requires.1

pub returns-in-Err : goal.returns-in-Err
returns-in-Err c = wrote_as c.put_refused.ensures (refused_told _ _ _ c.args.out.now c.in-Err.is c.number.ensures)

pub returns-in-Ok : goal.returns-in-Ok
returns-in-Ok c = wrote_as c.put_subset.ensures (subset-told _ _ _ c.before.args.out.now c.in-Ok.is c.number-in-Ok.ensures)
