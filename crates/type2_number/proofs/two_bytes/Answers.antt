-- `type2_number::two_bytes` meets its contract: each `return` is a case of `number_at`.
use Rattle.std.proofs.Common.{arith}
use Rattle.type2_number.specs.NumberLaws.{cut_2, got-up, got-down}
use Rattle.type2_number.proofs.two_bytes.Goals as goal

pub returns-then-code-at-lt2 : goal.returns-then-code-at-lt2
returns-then-code-at-lt2 c = cut_2 _ _ _ c.requires.1 (omega arith) (omega arith) (omega arith)

pub returns-then-v-lt251 : goal.returns-then-v-lt251
returns-then-v-lt251 c = got-up _ _ _ _ c.requires.1 c.from-w.ensures (omega arith) (omega arith) (omega arith) _ c.whole.ensures

pub returns : goal.returns
returns c = got-down _ _ _ _ c.requires.1 c.from-w.ensures (omega arith) (omega arith) (omega arith) _ c.whole-2.ensures
