-- The code's answer for what stands at a position.
use Rattle.type2_number.specs.Number.{Read, cut, operator, number}
use Rattle.type2_number.specs.declared.Number.{Number}
use Rattle.type2_number.specs.declared.Number.TheVariants.{Num, Cut, Operator}

abbrev pub number_of : Read → Number
number_of cut = Cut
number_of operator = Operator
number_of (number z n) = Num z n
