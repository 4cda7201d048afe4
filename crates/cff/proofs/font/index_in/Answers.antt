-- `font::index_in` meets its contract: each kind has its INDEX.
use Rattle.std.proofs.Common.{ap, sym}
use Rattle.cff.specs.Reads.{index_in_lem}
use Rattle.cff.proofs.font.index_in.Goals as goal

pub returns-in-Charstring : goal.returns-in-Charstring
returns-in-Charstring c = sym (ap (λ k. index_in_lem k c.args.f) c.in-Charstring.is)

pub returns-in-Global : goal.returns-in-Global
returns-in-Global c = sym (ap (λ k. index_in_lem k c.args.f) c.in-Global.is)

pub returns-in-Text : goal.returns-in-Text
returns-in-Text c = sym (ap (λ k. index_in_lem k c.args.f) c.in-Text.is)
