-- `top_dict::integer` meets its contract: the number that is sent is the integer.
use Rattle.std.proofs.Common.{subst, sym}
use Rattle.decimal.specs.declared.Decimal.{Decimal}
use Rattle.decimal.specs.Written.{number_bytes}
use Rattle.top_dict.proofs.integer.Goals as goal

pub number-requires : goal.number-requires
number-requires g c = subst (λ (x : Decimal). g.S.Sink.room c.args.to.now (number_bytes x)) (sym c.whole.ensures) c.requires.1

pub returns : goal.returns
returns g c = subst (λ (x : Decimal). g.S.Sink.takes c.args.to.now (number_bytes x) c.number.new.self) c.whole.ensures c.number.ensures
