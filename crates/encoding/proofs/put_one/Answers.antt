-- `put_one` meets its contract: nothing, or the code and the two bytes of the id.
use Rattle.std.proofs.Common.{arith}
use Rattle.encoding.specs.PutLaws.{one_none, one-room, one-second, one-wrote}
use Rattle.encoding.proofs.put_one.Goals as goal

pub returns-in-None : goal.returns-in-None
returns-in-None c = one_none c.args.out.now c.args.code c.args.held c.in-None.is

pub byte-requires : goal.byte-requires
byte-requires c = omega (arith, one-room c.args.out.now c.args.code c.args.held _ c.in-Some.is c.requires.1)

pub num-requires : goal.num-requires
num-requires c = one-second _ _ _ _ c.in-Some.is c.requires.1 c.byte.ensures

pub returns-in-Some : goal.returns-in-Some
returns-in-Some c = one-wrote _ _ _ _ c.in-Some.is c.requires.1 c.byte.ensures c.num.ensures
