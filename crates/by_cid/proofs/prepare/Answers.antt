-- `by_cid::prepare` meets its contract: the kept glyphs are gathered and planned, and what their subset has is a cut of theirs.
use Rattle.std.proofs.Common.{refl, subst}
use Rattle.subset.specs.Flag.{flag_of}
use Rattle.subset.specs.Cut.{Outcome}
use Rattle.cid_parts.specs.Cid.{sized}
use Rattle.cid_parts.specs.Subset.{made-subset}
use Rattle.outcome.specs.BothLaws.{gather_asks}
use Rattle.outcome.specs.Entry.{Cut}
use Rattle.by_cid.specs.CidKeptLaws.{gathered-asked, gathered-cut}
use Rattle.by_cid.proofs.prepare.Goals as goal

pub gather-o-requires : goal.gather-o-requires
gather-o-requires c =
    let a = c.args in
    let p = c.requires.0 in
    gather_asks a.font.now.loaded.bytes.now a.font.now.loaded.f a.keep.now a.words.now a.window.now p.below p.found p.room c.requires.1

pub plan_cut-cut-requires : goal.plan_cut-cut-requires
plan_cut-cut-requires c =
    let a = c.args in (
      gathered-asked a.font.now.loaded.bytes.now a.asked.now.rows.now a.asked.now.name.now (flag_of a.asked.now.traced) a.font.now.loaded.f a.font.now.held c.requires.0.keying _ c.gather-o.ensures.1 a.words.now _ _
          c.requires.0.room c.gather-o.auto.words c.gather-o.ensures.0,
      c.requires.2,
    )

pub new-requires : goal.new-requires
new-requires c =
    let p = c.plan_cut-cut.ensures in
    (p.gathered, record { cid = p.cid; summed = p.summed; strings = p.strings; short = c.requires.0.named; counted = p.counted; walked = record { f = refl; count = refl } })

pub returns : goal.returns
returns c =
    let a = c.args in
    let g = c.gather-o.ensures in
    λ room out out' r x.
    subst (λ (z : Outcome). Cut z out out' r)
    (gathered-cut a.font.now.loaded.bytes.now a.asked.now.rows.now a.asked.now.name.now (flag_of a.asked.now.traced) a.font.now.loaded.f a.keep.now c.gather-o.result _ g.1 g.2 room)
    (c.plan_cut-cut.ensures.cuts a.asked.now.name.now out out' room r (made-subset c.new.result _ _ _ c.new.ensures (λ p l. Cut (sized p.cut.plan.how.way l room) out out' r) x))
