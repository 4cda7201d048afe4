-- `decimal::real::ended` meets its contract: each arm of the match is a case of `form_from` with no nibble left.
use Rattle.std.proofs.Common.{false, arith}
use Rattle.decimal.specs.RealLaws.{held_bounded, ended_start, ended_mantissa, ended_bare, ended_exponent, ended_power, ended_e, ended_malformed}
use Rattle.decimal.proofs.real.ended.Goals as goal

pub returns-then-any : goal.returns-then-any
returns-then-any c = let a = c.args in ended_mantissa a.stage a.bytes a.next _ _ _ c.in-Mantissa.is _ c.if-any.true c.finished-then-any.ensures

pub returns-then-any-2 : goal.returns-then-any-2
returns-then-any-2 c = let a = c.args in ended_power a.stage a.bytes a.next _ _ _ _ c.in-Power.is _ c.if-any-2.true c.finished-then-any-2.ensures

pub returns-in-Start : goal.returns-in-Start
returns-in-Start c = let a = c.args in ended_start a.stage a.bytes a.next _ _ c.in-Start.is c.no_digits.ensures c.finished.ensures

pub returns-else-any : goal.returns-else-any
returns-else-any c = let a = c.args in ended_bare a.stage a.bytes a.next _ _ _ c.in-Mantissa.is c.if-any.false

pub returns-in-Exponent : goal.returns-in-Exponent
returns-in-Exponent c = let a = c.args in ended_exponent a.stage a.bytes a.next _ c.in-Exponent.is

pub returns-else-any-2 : goal.returns-else-any-2
returns-else-any-2 c = let a = c.args in ended_e a.stage a.bytes a.next _ _ _ _ c.in-Power.is c.if-any-2.false

pub returns-in-Malformed : goal.returns-in-Malformed
returns-in-Malformed c = let a = c.args in ended_malformed a.stage a.bytes a.next c.in-Malformed.is

pub finished-requires : goal.finished-requires
finished-requires c = (held_bounded _ false 0 0 c.no_digits.ensures, omega arith)
