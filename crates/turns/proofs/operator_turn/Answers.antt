-- `turns::operator_turn` meets its contract: the tests of the definition, in its order.
use Rattle.std.proofs.Common.{eq-eqb, le-ltb, lt-ltb, ne_eqb}
use Rattle.turns.specs.Turns.{operator_turn_lem}
use Rattle.turns.proofs.operator_turn.Goals as goal

pub returns-then-b-eq10 : goal.returns-then-b-eq10
unfolding operator_turn_lem
returns-then-b-eq10 c = rw (eq-eqb _ _ c.if-b-eq10.true) c.call_turn.ensures

pub returns-then-b-eq29 : goal.returns-then-b-eq29
unfolding operator_turn_lem
returns-then-b-eq29 c = rw (ne_eqb _ _ c.if-b-eq10.false, eq-eqb _ _ c.if-b-eq29.true) c.call_turn-then-b-eq29.ensures

pub returns-then-own : goal.returns-then-own
unfolding operator_turn_lem
returns-then-own c = rw (ne_eqb _ _ c.if-b-eq10.false, ne_eqb _ _ c.if-b-eq29.false, eq-eqb _ _ c.if-b-eq11.true, c.if-own.true)

pub returns-then-b-eq11 : goal.returns-then-b-eq11
unfolding operator_turn_lem
returns-then-b-eq11 c = rw (ne_eqb _ _ c.if-b-eq10.false, ne_eqb _ _ c.if-b-eq29.false, eq-eqb _ _ c.if-b-eq11.true, c.if-own.false)

pub returns-then-x-gt1 : goal.returns-then-x-gt1
unfolding operator_turn_lem
returns-then-x-gt1 c = rw (ne_eqb _ _ c.if-b-eq10.false, ne_eqb _ _ c.if-b-eq29.false, ne_eqb _ _ c.if-b-eq11.false, eq-eqb _ _ c.if-b-eq14.true, lt-ltb _ _ c.if-x-gt1.true)

pub returns-then-x-lt65536 : goal.returns-then-x-lt65536
unfolding operator_turn_lem
returns-then-x-lt65536 c = rw (ne_eqb _ _ c.if-b-eq10.false, ne_eqb _ _ c.if-b-eq29.false, ne_eqb _ _ c.if-b-eq11.false, eq-eqb _ _ c.if-b-eq14.true, le-ltb _ _ c.if-x-gt1.false, lt-ltb _ _ c.if-x-lt65536.true)

pub returns-then-b-eq14 : goal.returns-then-b-eq14
unfolding operator_turn_lem
returns-then-b-eq14 c = rw (ne_eqb _ _ c.if-b-eq10.false, ne_eqb _ _ c.if-b-eq29.false, ne_eqb _ _ c.if-b-eq11.false, eq-eqb _ _ c.if-b-eq14.true, le-ltb _ _ c.if-x-gt1.false, le-ltb _ _ c.if-x-lt65536.false)

pub returns : goal.returns
unfolding operator_turn_lem
returns c = rw (ne_eqb _ _ c.if-b-eq10.false, ne_eqb _ _ c.if-b-eq29.false, ne_eqb _ _ c.if-b-eq11.false, ne_eqb _ _ c.if-b-eq14.false) c.clearing_turn.ensures
