-- `dicts::put_decimal` meets its contract: one write after the other.
use Rattle.std.proofs.Common.{append_assoc, arith, true, false, refl, Bool, ◌≡◌}
use Rattle.std.specs.Int.{from_bool}
use Rattle.octets.specs.Pick.{pick}
use Rattle.format_cases.specs.Dicts.{decimal_bytes}
use Rattle.format_cases.proofs.dicts.put_decimal.Goals as goal

sign : (t : Bool) → from_bool t ≡ pick t 1 0
sign true = refl
sign false = refl

pub returns : goal.returns
unfolding decimal_bytes
returns c = (
  rw (← c.d.view_is) (simp (c.num-3.ensures.0, c.num-2.ensures.0, c.num.ensures.0, c.byte.ensures.0, c.from.ensures, sign c.d.inside.neg, append_assoc)),
  omega (arith, c.num-3.ensures.1, c.num-2.ensures.1, c.num.ensures.1, c.byte.ensures.1),
)
