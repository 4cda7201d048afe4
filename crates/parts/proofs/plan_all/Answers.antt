-- `parts::plan_all` meets its contract: ranking leaves the bits of the glyphs, so that what measuring asks is there.
use Rattle.std.proofs.Common.{arith, refl, rules, ◌∙◌}
use Rattle.record.specs.Record.{rows_of}
use Rattle.plan.specs.FontLaws.{narrow_rows}
use Rattle.parts.specs.PlannedLaws.{rank_room, plan_ordered, plan_asked, returns_standing, stays_gathered}
use Rattle.parts.proofs.plan_all.Goals as goal

pub rank_all-ranked-requires : goal.rank_all-ranked-requires
rank_all-ranked-requires c = (rank_room _ _ _ _ _ c.requires.0, c.requires.1)

pub invariant_of-kept : goal.invariant_of-kept
invariant_of-kept c =
    let a = c.args in
    let u = c.rank_all-ranked in
    record { gathered = plan_ordered _ _ _ _ _ c.requires.0 (rows_of a.rows.now) (narrow_rows a.rows.now (λ i. (c.type_inv.rows i).fits)) _ _ _ u.ensures u.auto.words }

pub plan_bodies-found-requires : goal.plan_bodies-found-requires
plan_bodies-found-requires c =
    let a = c.args in
    let u = c.rank_all-ranked in (
      plan_asked _ _ _ _ _ c.requires.0 (rows_of a.rows.now) (narrow_rows a.rows.now (λ i. (c.type_inv.rows i).fits)) _ _ _ u.ensures u.auto.words _ c.rises-rising.ensures
          (omega (arith, c.requires.1, u.auto.table)) a.o.held c.first_way.result,
      c.requires.2,
    )

pub returns : goal.returns
returns c =
    let a = c.args in
    let u = c.rank_all-ranked in
    let s = c.plan_bodies-found.ensures.1 in
    returns_standing _ _ _ _ _ c.requires.0 (rows_of a.rows.now) (narrow_rows a.rows.now (λ i. (c.type_inv.rows i).fits)) _ _ _ u.ensures u.auto.words _
    c.rises-rising.ensures (omega (arith, c.requires.1, u.auto.table)) _ a.traced _ c.first_way.ensures _ _ c.plan_bodies-found.ensures.0
    (omega (arith, c.requires.2, c.plan_bodies-found.auto.totals)) _ s.f s.count _ (stays_gathered _ _ s _ (search rules)) (λ h. let e = s.whole h in (e.0, (search rules) ∙ e.1))
    _ c.standing.ensures refl
