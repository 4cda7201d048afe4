-- `reach::masks::first_at` meets its contract.
use Rattle.std.proofs.Common.{ap, arith, ℕ, ◌+◌, ◌-◌, ◌/◌, ◌∙◌, ◌≡◌}
use Rattle.reach.specs.Reach.{key_of_lem, row_no}
use Rattle.reach.specs.SearchLaws.{search_start, search_left, search_right, search_done}
use Rattle.reach.proofs.masks.first_at.Goals as goal
use Rattle.reach.proofs.masks.first_at.Goals.{After-key_of-here}

-- the middle of a turn, and its key
abbrev middle : ℕ → ℕ → ℕ
middle low high = low + (high - low) / 2

here : (c : After-key_of-here) → c.key_of-here.result ≡ key_of_lem (row_no c.args.rows.now.bytes.now (middle c.loop-low.low c.loop-low.high))
here c = c.key_of-here.ensures ∙ ap key_of_lem c.row_at.ensures

pub loop-low-init : goal.loop-low-init
loop-low-init c = search_start _ _

pub loop-low-preserved-then-here-key : goal.loop-low-preserved-then-here-key
loop-low-preserved-then-here-key c =
    search_right _ _ _ _ c.loop-low.invariant c.args.rows.now.order (middle c.loop-low.low c.loop-low.high) (omega arith) (omega arith) (omega (arith, here (goal.at.loop-low-preserved-then-here-key c).After-key_of-here))

pub loop-low-preserved : goal.loop-low-preserved
loop-low-preserved c =
    search_left _ _ _ _ c.loop-low.invariant c.args.rows.now.order (middle c.loop-low.low c.loop-low.high) (omega arith) (omega arith) (omega (arith, here (goal.at.loop-low-preserved c).After-key_of-here))

pub returns : goal.returns
returns c = search_done _ _ _ _ c.loop-low.invariant c.loop-low-test.false
