-- The invariant: the window does not begin behind the place that is asked for, and one that held it has stayed.
use Rattle.std.proofs.Common.{◌≤◌, ◌-◌}
use Rattle.order_window.specs.Stays.{Stays, StaysAt}
use Rattle.order_window.proofs.window.Kept.moved_to.Given as goal

abbrev pub invariant-loop-self : goal.invariant-loop-self
invariant-loop-self l = (l.self.o.held.from ≤ l.i) × (Stays l.initial.self l.self) × StaysAt l.i l.initial.self l.self

abbrev pub decreases-loop-self : goal.decreases-loop-self
decreases-loop-self l = l.self.o.count - l.self.o.held.walk.done
