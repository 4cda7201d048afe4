-- `indexes::put_item` meets its contract: the item's two offsets.
use Rattle.std.proofs.Common.{List, append_assoc, ap, arith, ℕ, ◌++◌}
use Rattle.index.specs.IndexLaws.{item-within}
use Rattle.format_cases.specs.IndexesLaws.{item_is}
use Rattle.format_cases.proofs.indexes.put_item.Goals as goal

pub overflow_add-items : goal.overflow_add-items
overflow_add-items c = omega (arith, item-within _ _ c.args.items.now.good c.args.k c.requires.0, c.offset-start.ensures, c.offset-end.ensures)

pub overflow_sub-end : goal.overflow_sub-end
overflow_sub-end c = omega (arith, item-within _ _ c.args.items.now.good c.args.k c.requires.0, c.offset-start.ensures, c.offset-end.ensures)

pub returns : goal.returns
returns c = (
  rw (c.num-2.ensures.0, c.num.ensures.0, append_assoc)
      (ap (λ (l : List ℕ). c.args.to.now ++ l) (item_is c.args.items.now.bytes.now c.args.items.now.ix c.args.k _ _ c.offset-start.ensures c.offset-end.ensures)),
  omega (arith, c.num-2.ensures.1, c.num.ensures.1),
)
