-- `reach::ranks::mark_rows` meets its contract.
use Rattle.std.proofs.Common.{arith, sym, ap, ◌∙◌}
use Rattle.octets.specs.Pick.{pick}
use Rattle.std.specs.Prelude.{false}
use Rattle.reach.specs.MarkLaws.{marking_start, marking_next, marking_done}
use Rattle.reach.proofs.ranks.mark_rows.Goals as goal
use Rattle.reach.proofs.ranks.mark_rows.Goals.{then-not-mark_row, else-not-mark_row}

pub loop-i-init : goal.loop-i-init
loop-i-init c = marking_start _ _ _ _ _

pub loop-i-preserved : goal.loop-i-preserved
loop-i-preserved c =
    let l = c.loop-i in
    let r = c.mark_row.ensures in
    let next = marking_next _ _ _ _ _ _ _ _ l.invariant (omega arith) _ c.row_at-r.ensures _ _ r.0 r.1 in
    elim c.if-not-mark_row.branch [
      | then-not-mark_row w ↦ next _ (w.all-is ∙ sym (ap (λ t. pick t l.all false) w.if-not-mark_row.true))
      | else-not-mark_row w ↦ next _ (w.all-is ∙ sym (ap (λ t. pick t l.all false) w.if-not-mark_row.false))
    ]

pub returns : goal.returns
returns c = marking_done _ _ _ _ _ _ _ _ c.loop-i.invariant (omega arith)
