-- `strings::sid_of` meets its contract: each comparison halves the names that are left, in their order.
use Rattle.std.proofs.Common.{arith, rules, ℕ, ◌+◌, ◌-◌, ◌/◌, ◌<◌, ◌∙◌, ◌≡◌}
use Rattle.strings.specs.Table.{standard_order}
use Rattle.strings.specs.Text.{order_of}
use Rattle.strings.proofs.NamesLaws.{in_order, order-within}
use Rattle.strings.proofs.SearchLaws.{narrowed_not, narrowed_up, narrowed_down, compared, searched_same, searched_none}
use Rattle.strings.proofs.sid_of.Goals as goal
use Rattle.strings.proofs.sid_of.Goals.{After-order_of-found, In-loop-low}

abbrev middle : In-loop-low → ℕ
middle c = c.loop-low.low + (c.loop-low.high - c.loop-low.low) / 2

within : (c : In-loop-low) → middle c < 391
within c = omega arith

-- what a turn's comparison says
said : (c : After-order_of-found) → order_of (in_order (c.loop-low.low + (c.loop-low.high - c.loop-low.low) / 2)) c.args.text.now ≡ c.order_of-found.result
unfolding standard_order
said c = compared (c.loop-low.low + (c.loop-low.high - c.loop-low.low) / 2) (omega arith) _ _ _ c.standard_string.ensures c.order_of-found.ensures

pub loop-low-init : goal.loop-low-init
loop-low-init c = (search rules, search rules, narrowed_not _)

pub standard_string-requires : goal.standard_string-requires
unfolding standard_order
standard_string-requires c = order-within _ (within (goal.at.standard_string-requires c).In-loop-low)

pub returns-in-Equal : goal.returns-in-Equal
unfolding standard_order
returns-in-Equal c =
    searched_same _ (within (goal.at.returns-in-Equal c).In-loop-low) _ (said (goal.at.returns-in-Equal c).After-order_of-found ∙ c.in-Equal.is)

pub loop-low-preserved-in-Less : goal.loop-low-preserved-in-Less
loop-low-preserved-in-Less c =
    let t = goal.at.loop-low-preserved-in-Less c in
    (omega arith, omega arith, narrowed_up _ _ _ _ c.loop-low.invariant.2 (within t.In-loop-low) (said t.After-order_of-found ∙ c.in-Less.is))

pub loop-low-preserved : goal.loop-low-preserved
loop-low-preserved c =
    let t = goal.at.loop-low-preserved c in
    (omega arith, omega arith, narrowed_down _ _ _ _ c.loop-low.invariant.2 (within t.In-loop-low) (said t.After-order_of-found ∙ c.in-Greater.is))

pub returns : goal.returns
returns c = searched_none _ c.loop-low.low c.loop-low.high c.loop-low.invariant.2 c.loop-low-test.false
