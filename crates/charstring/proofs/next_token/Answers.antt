-- `charstring::next_token` meets its contract: each `return` is a case of `token_at`.
use Rattle.charstring.specs.TokenLaws.{byte_left, step-mask, step-num, step_cut, step-operator}
use Rattle.charstring.proofs.next_token.Goals as goal

pub returns-then-due : goal.returns-then-due
returns-then-due c = step-mask _ _ _ _ _ c.if-due.true c.mask_len.ensures c.mask_at.ensures

pub read_number-requires : goal.read_number-requires
read_number-requires c = let a = c.args in byte_left a.code.now a.c c.if-due.false c.requires.1

pub operator_at-requires : goal.operator_at-requires
operator_at-requires c = let a = c.args in (c.requires.0, byte_left a.code.now a.c c.if-due.false c.requires.1)

pub returns-in-Num : goal.returns-in-Num
returns-in-Num c = step-num _ _ _ _ c.read_number.ensures c.if-due.false _ _ c.in-Num.is _ c.float.ensures

pub returns-in-Cut : goal.returns-in-Cut
returns-in-Cut c = step_cut _ _ _ _ c.read_number.ensures c.if-due.false c.in-Cut.is

pub returns-in-Operator : goal.returns-in-Operator
returns-in-Operator c = step-operator _ _ _ _ c.read_number.ensures c.if-due.false c.in-Operator.is _ c.operator_at.ensures
