-- `by_name::cut_named` meets its contract: what is prepared is cut, or the cut is refused.
use Rattle.std.proofs.Common.{arith, length, subst, Result, ◌<◌, ◌≤◌}
use Rattle.cff.specs.Loaded.{program}
use Rattle.subset.specs.Flag.{flag_of}
use Rattle.outcome.specs.Entry.{cut_behind, Cut}
use Rattle.outcome.specs.declared.Subsetted.{Subsetted}
use Rattle.refusal.specs.HandedOn.{handed_on}
use Rattle.refusal.specs.declared.Refusal.{Refusal}
use Rattle.by_name.specs.Prepares.{CutsAs}
use Rattle.by_name.proofs.cut_named.Goals as goal

pub prepare-requires : goal.prepare-requires
prepare-requires c =
    let h : 0 < 4096 = omega arith in
    let s : 8 ≤ 8 = omega arith in
    let k : 256 ≤ 256 = omega arith in
    (c.requires, h, s, k)

pub returns-in_err-c : goal.returns-in_err-c
returns-in_err-c c =
    let a = c.args in
    let o = cut_behind a.ask (program a.font.now.loaded) a.asked.now.name.now a.keep.now a.asked.now.rows.now (flag_of a.asked.now.traced) in
    handed_on _ _ (λ (r : Result Subsetted Refusal). Cut (o (length a.out.now)) a.out.now a.out.now r) c.from_residual.ensures.1 (subst (CutsAs o) c.in_err-c.was c.prepare.ensures.0 a.out.now)

pub returns : goal.returns
returns c =
    let a = c.args in
    let o = cut_behind a.ask (program a.font.now.loaded) a.asked.now.name.now a.keep.now a.asked.now.rows.now (flag_of a.asked.now.traced) in
    subst (CutsAs o) c.in_ok-c.was c.prepare.ensures.0 _ _ _ c.cut_planned.ensures
