-- `bodies::subrs::is_reached` meets its contract: its bit says whether a subroutine is reached.
use Rattle.std.proofs.Common.{arith, sym, ◌∙◌, le-ltb}
use Rattle.bodies.specs.SubrsLaws.{reached-none}
use Rattle.bodies.specs.CodeLaws.{bit-reached}
use Rattle.bodies.proofs.subrs.is_reached.Goals as goal

pub has_bit-requires : goal.has_bit-requires
has_bit-requires c = omega (arith, c.args.all.now.sourced.inside)

pub returns-then-k-own : goal.returns-then-k-own
returns-then-k-own c = bit-reached c.args.all.now.words.now c.args.all.now.from.own c.args.k c.if-k-own.true _ c.has_bit.ensures

pub returns-else-k-own : goal.returns-else-k-own
returns-else-k-own c = le-ltb c.args.k c.args.all.now.from.own.count c.if-k-own.false ∙ sym (reached-none c.args.all.now.words.now c.args.all.now.from.own c.args.k c.if-k-own.false)
