-- `short_charstrings::size_of` meets its contract: the k-th, by the bounds.
use Rattle.std.proofs.Common.{ap, length, sym}
use Rattle.short_charstrings.specs.CodeLaws.{candidate_1, candidate_2, candidate_3, candidate_4}
use Rattle.short_charstrings.proofs.size_of.Goals as goal

pub returns-then-k-lt1 : goal.returns-then-k-lt1
returns-then-k-lt1 c = sym (ap length (candidate_1 c.args.k c.if-k-lt1.true))

pub returns-then-k-lt257 : goal.returns-then-k-lt257
returns-then-k-lt257 c = sym (ap length (candidate_2 c.args.k c.if-k-lt1.false c.if-k-lt257.true))

pub returns-then-k-lt65793 : goal.returns-then-k-lt65793
returns-then-k-lt65793 c = sym (ap length (candidate_3 c.args.k c.if-k-lt1.false c.if-k-lt257.false c.if-k-lt65793.true))

pub returns : goal.returns
returns c = sym (ap length (candidate_4 c.args.k c.if-k-lt1.false c.if-k-lt257.false c.if-k-lt65793.false))
