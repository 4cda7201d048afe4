-- `FontInput::split` meets its contract: an input is a font and what is asked of it.
use Rattle.cases.specs.InputsLaws.{input_short, input_cut, input_parts}
use Rattle.cases.proofs.inputs.FontInput.split.Goals as goal

pub returns-then-n-lt2 : goal.returns-then-n-lt2
returns-then-n-lt2 c = input_short _ c.if-n-lt2.true

pub returns-then-n-end : goal.returns-then-n-end
returns-then-n-end c = input_cut _ c.if-n-lt2.false _ c.u16_at-end.ensures.0 c.if-n-end.true

pub returns : goal.returns
returns c = input_parts _ c.if-n-lt2.false _ c.u16_at-end.ensures.0 c.if-n-end.false
