-- `printing::digit` meets its contract: a case of `digit_of` each.
use Rattle.sheet.specs.Printing.{digit_low, digit-high}
use Rattle.sheet.proofs.printing.digit.Goals as goal

pub returns-then-v-lt10 : goal.returns-then-v-lt10
returns-then-v-lt10 c = digit_low _ c.if-v-lt10.true

pub returns : goal.returns
returns c = digit-high _ c.if-v-lt10.false
