-- `by_name::prepare` meets its contract: the kept glyphs are gathered and planned, and what their subset has is a cut of theirs, or the cut is refused.
use Rattle.std.proofs.Common.{arith, refl, subst, sym, length, List, Result, ℕ}
use Rattle.std.specs.Prelude.{Option}
use Rattle.refusal.specs.declared.Refusal.{Refusal}
use Rattle.encoding.specs.Encoded.{Past}
use Rattle.named_parts.specs.declared.named.NamedSubset.{NamedSubset}
use Rattle.subset.specs.Flag.{flag_of}
use Rattle.subset.specs.Cut.{Outcome}
use Rattle.outcome.specs.BothLaws.{gather_asks}
use Rattle.outcome.specs.Entry.{cut_behind, Cut}
use Rattle.cff.specs.Loaded.{program}
use Rattle.refusal.specs.HandedOn.{handed_on}
use Rattle.named_parts.specs.Subset.{made-outcome}
use Rattle.by_name.specs.NamedKeptLaws.{gathered-asked, gathered-cut}
use Rattle.by_name.specs.PrepareLaws.{prepared_ok, prepared-err}
use Rattle.by_name.specs.Prepares.{CodesFit, CutsAs}
use Rattle.by_name.proofs.prepare.Goals as goal

pub gather-o-requires : goal.gather-o-requires
gather-o-requires c =
    let p = c.requires.0 in
    gather_asks c.args.font.now.loaded.bytes.now c.args.font.now.loaded.f c.args.keep.now c.args.words.now c.args.window.now p.below p.found p.room c.requires.1

pub plan_cut-requires : goal.plan_cut-requires
plan_cut-requires c =
    let a = c.args in
    let g = c.gather-o.ensures in
    (gathered-asked a.ask _ a.asked.now.rows.now a.asked.now.name.now (flag_of a.asked.now.traced) _ a.font.now.held a.keep.now a.words.now c.requires.0 c.gather-o.result _ _ g.0 g.1 g.2 c.gather-o.auto.words, c.requires.2, c.requires.3)

pub returns-in_err-coded : goal.returns-in_err-coded
returns-in_err-coded c =
    let a = c.args in
    let g = c.gather-o.ensures in
    let o = cut_behind a.ask (program a.font.now.loaded) a.asked.now.name.now a.keep.now a.asked.now.rows.now (flag_of a.asked.now.traced) in
    handed_on _ _ (λ (r : Result NamedSubset Refusal). CutsAs o r × CodesFit a.codes.now r) c.from_residual.ensures.1 (
      λ out. gathered-cut a.ask _ a.asked.now.rows.now a.asked.now.name.now (flag_of a.asked.now.traced) _ a.font.now.held a.keep.now a.words.now c.requires.0 c.gather-o.result _ _ g.0 g.1 g.2 out _ _
          (prepared-err a.ask _ a.asked.now.rows.now (flag_of a.asked.now.traced) c.gather-o.result _ _ _ _ _ _ _ c.plan_cut.ensures.0 _ c.in_err-coded.was a.asked.now.name.now out),
      tt,
    )

pub new-requires : goal.new-requires
new-requires c =
    let a = c.args in
    let p = prepared_ok a.ask _ a.asked.now.rows.now (flag_of a.asked.now.traced) c.gather-o.result _ _ _ _ _ _ _ c.plan_cut.ensures.0 _ c.in_ok-coded.was in
    (p.gathered, record { plan = p.plan; strings = p.strings _ c.requires.0.named; codes = p.codes; walked = record { f = refl; count = refl } }, omega (arith, c.plan_cut.auto.codes, c.requires.3))

pub returns : goal.returns
returns c =
    let a = c.args in
    let g = c.gather-o.ensures in
    let p = prepared_ok a.ask _ a.asked.now.rows.now (flag_of a.asked.now.traced) c.gather-o.result _ _ _ _ _ _ _ c.plan_cut.ensures.0 _ c.in_ok-coded.was in (
      λ out out' r x.
          gathered-cut a.ask _ a.asked.now.rows.now a.asked.now.name.now (flag_of a.asked.now.traced) _ a.font.now.held a.keep.now a.words.now c.requires.0 c.gather-o.result _ _ g.0 g.1 g.2 out _ _
          (p.cuts a.asked.now.name.now out _ _ (subst (λ (z : Outcome). Cut z out out' r) (made-outcome c.new.result _ _ _ _ _ c.new.ensures (length out)) x)),
      λ l. subst (λ (t : List (Option ℕ)). Past t 256 4294967296) (sym c.new.ensures.4) (c.plan_cut.ensures.1 l),
    )
