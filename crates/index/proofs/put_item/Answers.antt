-- `index::put_item` meets its contract: the item's bytes, and then the offset of its end.
use Rattle.std.proofs.Common.{arith, subst, sym, length, ℕ, ◌∙◌}
use Rattle.index.specs.Good.{Lies}
use Rattle.index.specs.ItemOutLaws.{writes-item}
use Rattle.index.proofs.put_item.Goals as goal

pub put_end-requires : goal.put_end-requires
put_end-requires c =
    (subst (λ (n : ℕ). Lies n c.args.ix) (sym c.copy.ensures.size) c.requires.0, c.requires.1, omega (arith, c.requires.2, c.copy.ensures.wrote.behind))

pub returns : goal.returns
returns c = writes-item c.copy.ensures c.put_end.ensures
