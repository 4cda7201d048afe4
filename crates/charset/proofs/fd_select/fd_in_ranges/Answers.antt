-- `charset::fd_select::fd_in_ranges` meets its contract.
use Rattle.std.proofs.Common.{arith, length, ℕ, ◌*◌, ◌+◌, ◌-◌, ◌/◌, ◌<◌, ◌≤◌}
use Rattle.charset.specs.FdSearchLaws.{search_start, mid_there, search_left, search_right, found_there, search_found, search_none}
use Rattle.charset.proofs.fd_select.fd_in_ranges.Goals as goal
use Rattle.charset.proofs.fd_select.fd_in_ranges.Goals.{In-loop-low, Then-low-count}

-- the middle of a turn
abbrev middle : In-loop-low → ℕ
middle c = let l = c.loop-low in l.low + (l.high - l.low) / 2

there : (c : In-loop-low) → c.args.at + 3 * middle c + 3 ≤ length c.args.font.now
there c = mid_there _ _ _ _ _ _ _ c.loop-low.invariant (middle c) (omega arith) (omega arith)

-- the range that was found is there
found : (c : Then-low-count)
    → c.args.at + 3 * c.loop-low.low < length c.args.font.now
found c = found_there _ _ _ _ _ _ _ c.loop-low.invariant c.loop-low-test.false c.if-low-count.true

pub loop-low-init : goal.loop-low-init
loop-low-init c = search_start _ _ _ _ _ c.requires.0 c.requires.1

pub overflow_mul-mid : goal.overflow_mul-mid
overflow_mul-mid c = omega (arith, there c)

pub overflow_add-at : goal.overflow_add-at
overflow_add-at c = omega (arith, there c)

pub overflow_add-at-in-loop-low : goal.overflow_add-at-in-loop-low
overflow_add-at-in-loop-low c = omega (arith, there c)

pub u16_at-end-requires : goal.u16_at-end-requires
u16_at-end-requires c = omega (arith, there c)

pub loop-low-preserved-then-gid-end : goal.loop-low-preserved-then-gid-end
loop-low-preserved-then-gid-end c =
    search_left _ _ _ _ _ _ _ c.loop-low.invariant (middle (goal.at.loop-low-preserved-then-gid-end c).In-loop-low) (omega arith) (omega arith) _ c.u16_at-end.ensures.0 c.if-gid-end.true

pub overflow_add-low : goal.overflow_add-low
overflow_add-low c = omega (arith, there (goal.at.overflow_add-low c).In-loop-low)

pub loop-low-preserved : goal.loop-low-preserved
loop-low-preserved c =
    search_right _ _ _ _ _ _ _ c.loop-low.invariant (middle (goal.at.loop-low-preserved c).In-loop-low) (omega arith) (omega arith) _ c.u16_at-end.ensures.0 c.if-gid-end.false

pub overflow_mul-result : goal.overflow_mul-result
overflow_mul-result c = omega (arith, found c)

pub overflow_add-result : goal.overflow_add-result
overflow_add-result c = omega (arith, found c)

pub bounds-font-at : goal.bounds-font-at
bounds-font-at c = found (goal.at.bounds-font-at c).Then-low-count

pub returns-then-low-count : goal.returns-then-low-count
returns-then-low-count c = search_found _ _ _ _ _ _ _ c.loop-low.invariant c.loop-low-test.false c.if-low-count.true

pub returns : goal.returns
returns c = search_none _ _ _ _ _ _ _ c.loop-low.invariant c.if-low-count.false
