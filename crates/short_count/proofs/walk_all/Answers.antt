-- `short_count::walk_all` meets its contract.
use Rattle.std.proofs.Common.{Ok, ap, arith, lit<, refl, take, ◌∙◌}
use Rattle.short_count.specs.CountLaws.{On, going-starts, going_as, walk_ends, walk-on}
use Rattle.short_count.proofs.walk_all.Goals as goal
use Rattle.short_count.proofs.walk_all.Goals.{In-Ok-Some}

-- the next one
on : (c : In-Ok-Some) → let l = c.loop-k in
    On l.counts (take l.n l.code) l.hash c.next_charstring.new.out c.in-Ok-Some.k
on c = walk-on _ _ _ c.loop-k.invariant.2 _ _ refl _ c.next_charstring.ensures _ (c.in-Ok-Some.is ∙ ap Ok c.in-Ok-Some.field-0-is)

pub loop-k-init : goal.loop-k-init
loop-k-init c = (refl, omega arith, going-starts _ c.requires)

pub returns-in-Err : goal.returns-in-Err
returns-in-Err c = walk_ends _ _ _ c.loop-k.invariant.2 _ _ refl _ c.next_charstring.ensures _ c.in-Err.is (lit< tt)

pub returns-in-Ok-None : goal.returns-in-Ok-None
returns-in-Ok-None c = walk_ends _ _ _ c.loop-k.invariant.2 _ _ refl _ c.next_charstring.ensures _ (c.in-Ok-None.is ∙ ap Ok c.in-Ok-None.field-0-is) (lit< tt)

pub loop-k-smaller : goal.loop-k-smaller
loop-k-smaller c = let o = on (goal.at.loop-k-smaller c).In-Ok-Some in let r = o.rises in let w = o.going.within in omega (arith, r, w)

pub loop-k-preserved : goal.loop-k-preserved
loop-k-preserved c = let o = on (goal.at.loop-k-preserved c).In-Ok-Some in (o.kept, o.low, going_as o.going c.mix_all-hash.ensures)
