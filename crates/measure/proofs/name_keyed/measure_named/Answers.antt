-- `measure::name_keyed::measure_named` meets its contract: what is prepared is measured, or the cut is refused.
use Rattle.std.proofs.Common.{arith, false, subst, Result, ◌<◌, ◌≤◌, ◌≡◌}
use Rattle.cff.specs.Loaded.{program}
use Rattle.subset.specs.Flag.{flag_of}
use Rattle.outcome.specs.Entry.{answer_of, cut_behind}
use Rattle.outcome.specs.declared.Subsetted.{Subsetted}
use Rattle.refusal.specs.HandedOn.{handed_on}
use Rattle.refusal.specs.declared.Refusal.{Refusal}
use Rattle.named_parts.specs.Subset.{outcome_in}
use Rattle.by_name.specs.Prepares.{CutsAs}
use Rattle.measure.specs.RoomLaws.{lent, as_measured, as_cut}
use Rattle.measure.proofs.name_keyed.measure_named.Goals as goal

pub prepare-requires : goal.prepare-requires
prepare-requires c =
    let h : 0 < 4096 = omega arith in
    let s : 8 ≤ 8 = omega arith in
    let k : 256 ≤ 256 = omega arith in
    (c.requires, h, s, k)

pub returns-in_err-c : goal.returns-in_err-c
returns-in_err-c c =
    let a = c.args in
    let o = cut_behind false (program a.font.now.loaded) a.asked.now.name.now a.keep.now a.asked.now.rows.now (flag_of a.asked.now.traced) in
    handed_on _ _ (λ (r : Result Subsetted Refusal). r ≡ answer_of (o 67108864)) c.from_residual.ensures.1 (as_measured o _ _ (subst (CutsAs o) c.in_err-c.was c.prepare.ensures.0 lent))

pub returns : goal.returns
returns c =
    let a = c.args in
    let o = cut_behind false (program a.font.now.loaded) a.asked.now.name.now a.keep.now a.asked.now.rows.now (flag_of a.asked.now.traced) in
    as_measured o _ _ (subst (CutsAs o) c.in_ok-c.was c.prepare.ensures.0 lent _ _ (as_cut (outcome_in c.in_ok-c.c) _ c.measure_planned.ensures))
