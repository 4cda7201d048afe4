-- `cut_parts` meets its contract: the answer and the output tell the outcome, and three bytes are printed for each of the output at most.
use Rattle.std.proofs.Common.{arith, rules}
use Rattle.octets.specs.PutLaws.{wrote_as}
use Rattle.sheet_cut.specs.CuttingLaws.{cuts-within, cuts-told}
use Rattle.sheet_cut.proofs.cut_parts.Goals as goal

pub put_answer-requires : goal.put_answer-requires
put_answer-requires c = (cuts-within _ _ _ _ _ _ _ _ _ _ _ c.cut_by_keying-answer.ensures, omega (arith, c.cut_by_keying-answer.auto.out, c.requires))

pub returns : goal.returns
returns c = wrote_as c.put_answer.ensures (cuts-told _ _ _ _ _ _ _ _ _ _ _ c.cut_by_keying-answer.ensures 8192 32768 (search rules) (search rules))
