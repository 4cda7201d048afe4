-- `top_dict::count` meets its contract: CIDCount is below 4294967296.
use Rattle.std.proofs.Common.{refl, subst, sym, ℕ, ◌<◌}
use Rattle.dict.specs.Op.{cid_count}
use Rattle.top_dict.specs.Top.{value_entry}
use Rattle.top_dict.specs.TopLaws.{count_small}
use Rattle.top_dict.proofs.count.Goals as goal

pub value-requires : goal.value-requires
value-requires g c = let e = sym c.cid_count.ensures in (g.met.S.Sink.operators _ refl, subst (λ (n : ℕ). n < 1000000000000000) e (count_small _), subst (λ (n : ℕ). g.S.Sink.room c.args.to.now (value_entry cid_count n)) e c.requires)

pub returns : goal.returns
returns g c = subst (λ (n : ℕ). g.S.Sink.takes c.args.to.now (value_entry cid_count n) c.value.new.to) c.cid_count.ensures c.value.ensures
