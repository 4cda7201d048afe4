-- `blocking::blocking_glyph` meets its contract: a font that is refused leaves all as it was, and one that is read is searched.
use Rattle.std.proofs.Common.{subst, ℕ, List}
use Rattle.refusal.specs.HandedOn.{handed_on}
use Rattle.cff.specs.SetLaws.{opens_not, opened}
use Rattle.culprit.specs.Culprit.{Blocks}
use Rattle.blocking.specs.EntryLaws.{unread_blocks}
use Rattle.blocking.proofs.blocking_glyph.Goals as goal

pub returns-in_err-read : goal.returns-in_err-read
returns-in_err-read c =
    let a = c.args in
    handed_on _ _ (Blocks a.font.now a.name.now a.keep.now a.work.now a.slice.now a.work.now a.slice.now) c.from_residual.ensures.1
    (unread_blocks a.font.now a.name.now a.keep.now a.work.now a.slice.now _ (opens_not a.font.now _ c.read.ensures _ c.in_err-read.was))

pub returns : goal.returns
returns c =
    let a = c.args in
    subst (λ (font : List ℕ). Blocks font a.name.now a.keep.now a.work.now a.slice.now c.culprit_font.new.work c.culprit_font.new.slice c.culprit_font.result)
    (opened a.font.now _ c.read.ensures _ c.in_ok-read.was) c.culprit_font.ensures
