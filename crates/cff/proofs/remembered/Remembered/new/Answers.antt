-- `cff::remembered::Remembered::new` meets its contract: no Private DICT is one of no bytes at 0.
use Rattle.std.proofs.Common.{arith}
use Rattle.cff.specs.ReadsLaws.{known_start}
use Rattle.cff.proofs.remembered.Remembered.new.Goals as goal

pub invariant_of-result : goal.invariant_of-result
invariant_of-result c = record { known = known_start c.args.font.now 128; within = omega arith }
