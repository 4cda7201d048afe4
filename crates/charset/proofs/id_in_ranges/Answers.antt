-- `charset::id_in_ranges` meets its contract.
use Rattle.std.proofs.Common.{arith, length, ◌+◌, ◌≤◌}
use Rattle.charset.specs.IdLaws.{range_there, reach-start, reach_there, behind_there, reach-next, reach_end, reach-small}
use Rattle.charset.proofs.id_in_ranges.Goals as goal
use Rattle.charset.proofs.id_in_ranges.Goals.{Start}

-- the first range is there
there : (c : Start) → c.args.at + 2 + c.args.width ≤ length c.args.font.now
there c = let a = c.args in range_there a.font.now a.at a.width a.n _ c.requires.3 (omega arith)

pub overflow_add-q : goal.overflow_add-q
overflow_add-q c = omega (arith, there (goal.at.overflow_add-q c).Start)

pub num_at-left-requires : goal.num_at-left-requires
num_at-left-requires c = omega (arith, there (goal.at.num_at-left-requires c).Start)

pub loop-left-init : goal.loop-left-init
loop-left-init c = reach-start _ _ _ _ _ _ _ c.requires.3 c.num_at-left.ensures.0

pub overflow_add-q-in-loop-left : goal.overflow_add-q-in-loop-left
overflow_add-q-in-loop-left c = omega (arith, reach_there _ _ _ _ _ _ _ _ c.loop-left.invariant c.requires.2)

pub overflow_add-q-in-loop-left-2 : goal.overflow_add-q-in-loop-left-2
overflow_add-q-in-loop-left-2 c = omega (arith, reach_there _ _ _ _ _ _ _ _ c.loop-left.invariant c.requires.2)

pub overflow_add-q-in-loop-left-3 : goal.overflow_add-q-in-loop-left-3
overflow_add-q-in-loop-left-3 c = omega (arith, behind_there _ _ _ _ _ _ _ _ c.loop-left.invariant c.requires.2 c.loop-left-test.true)

pub num_at-left-requires-in-loop-left : goal.num_at-left-requires-in-loop-left
num_at-left-requires-in-loop-left c = omega (arith, behind_there _ _ _ _ _ _ _ _ c.loop-left.invariant c.requires.2 c.loop-left-test.true)

pub loop-left-preserved : goal.loop-left-preserved
loop-left-preserved c =
    reach-next _ _ _ _ _ _ _ _ c.loop-left.invariant c.requires.2 c.loop-left-test.true _ c.num_at-left-in-loop-left.ensures.0

pub u16_at-requires : goal.u16_at-requires
u16_at-requires c = omega (arith, reach_there _ _ _ _ _ _ _ _ c.loop-left.invariant c.requires.2)

pub returns : goal.returns
returns c =
    let l = c.loop-left in
    let h = c.requires.2 in
    let t = c.loop-left-test.false in
    (reach_end _ _ _ _ _ _ _ _ l.invariant h _ c.u16_at.ensures.0 t, reach-small _ _ _ _ _ _ _ _ l.invariant h _ c.u16_at.ensures.0 c.u16_at.ensures.1 t)
