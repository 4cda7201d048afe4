-- `indexes::put_items` meets its contract.
use Rattle.std.proofs.Common.{arith}
use Rattle.cases.specs.Adding.{adding-turn, adding_end}
use Rattle.format_cases.specs.IndexesLaws.{items-next, items-none}
use Rattle.format_cases.proofs.indexes.put_items.Goals as goal

pub loop-k-preserved : goal.loop-k-preserved
loop-k-preserved c =
    let l = c.loop-k in
    let a = c.args in
    let w = c.put_item.ensures in
    (omega (arith, w.1, l.invariant.0), adding-turn l.invariant.1 _ _ (items-next a.items.now.bytes.now a.items.now.ix l.k a.items.now.ix.count (omega arith)) w.0)

pub returns : goal.returns
returns c = adding_end c.loop-k.invariant.1 (items-none c.args.items.now.bytes.now c.args.items.now.ix c.loop-k.k c.args.items.now.ix.count (omega arith))
