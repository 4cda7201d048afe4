-- `reach::ranks::rank_marks` meets its contract: no mark stays 0.
use Rattle.std.proofs.Common.{arith, eq-eqb, ne_eqb, ◌∙◌}
use Rattle.reach.specs.MarkLaws.{ranking_start, ranking_next, ranking_done}
use Rattle.reach.proofs.ranks.rank_marks.Goals as goal
use Rattle.reach.proofs.ranks.rank_marks.Goals.{then-mark-ne0, else-mark-ne0}

pub loop-mark-init : goal.loop-mark-init
loop-mark-init c = ranking_start _

pub loop-mark-preserved : goal.loop-mark-preserved
loop-mark-preserved c =
    let l = c.loop-mark in
    elim c.if-mark-ne0.branch [
      | then-mark-ne0 w ↦
          let f = ne_eqb _ _ w.if-mark-ne0.true in ranking_next _ _ _ _ l.invariant (omega arith) _ _ (rw f w.marks-is) (rw f w.reached-is)
      | else-mark-ne0 w ↦
          let e = w.if-mark-ne0.false in
          let f = eq-eqb _ _ e in
          ranking_next _ _ _ _ l.invariant (omega arith) _ _ (rw f (w.marks-is ∙ rw e)) (rw f w.reached-is)
    ]

pub returns : goal.returns
returns c = ranking_done _ _ _ _ c.loop-mark.invariant (omega arith)
