-- `renumbered::put_run` meets its contract: one part after the other.
use Rattle.std.proofs.Common.{arith, length-append}
use Rattle.octets.specs.OutLaws.{writes_then, writes-room}
use Rattle.renumber.specs.Turn.{held_bytes_lem}
use Rattle.renumber.specs.CodeLaws.{front-room}
use Rattle.renumber.specs.Run.{part}
use Rattle.renumbered.proofs.put_run.Goals as goal

pub put_held-requires : goal.put_held-requires
put_held-requires c = front-room _ (held_bytes_lem c.args.h) (part c.args.code.now c.args.from c.args.last) _ c.requires.2

pub copy-requires : goal.copy-requires
copy-requires c = writes-room _ c.put_held.ensures (omega (arith, length-append (held_bytes_lem c.args.h) (part c.args.code.now c.args.from c.args.last), c.requires.2))

pub returns : goal.returns
returns c = writes_then (omega (arith, c.requires.2)) c.put_held.ensures c.copy.ensures
