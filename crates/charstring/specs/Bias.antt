-- The subroutine bias of TN5177, section 4.7 (callsubr): by the number of subroutines; the number that an operand names with it; and the operand
-- of a call.
use Rattle.std.specs.Prelude.{ℕ, suc, ◌+◌, ◌-◌, ◌/◌, ◌%◌, List, ltb, leb, eqb, ℤ, pos, negsuc, None, Option, Some}
use Rattle.octets.specs.Pick.{pick}
use Rattle.type2_number.specs.Number.{Read, cut, operator, number, number_at}

abbrev pub bias_of : ℕ → ℕ
bias_of count = pick (ltb count 1240) 107 (pick (ltb count 33900) 1131 32768)

-- an operand, in 65536ths, plus the bias: whole, and not below 0
abbrev pub numbered : ℕ → ℤ → Option ℕ
numbered bias (pos n) = pick (eqb (n % 65536) 0) (Some (n / 65536 + bias)) None
numbered bias (negsuc m) = pick (eqb (suc m % 65536) 0) (pick (leb (suc m / 65536) bias) (Some (bias - suc m / 65536)) None) None

-- the number just before a place: the one that starts at `from`, none where that is the place itself
abbrev pub last_of : Read → Option ℤ
last_of cut = None
last_of operator = None
last_of (number z n) = Some z

abbrev pub last_at : List ℕ → ℕ → ℕ → Option ℤ
last_at s from at = pick (ltb from at) (last_of (number_at s from)) None
