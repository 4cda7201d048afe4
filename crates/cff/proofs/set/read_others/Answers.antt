-- `cff::set::read_others` meets its contract: the fonts from k on decide between the first and a refusal.
use Rattle.std.proofs.Common.{arith}
use Rattle.index.specs.Index.{items_of}
use Rattle.index.specs.IndexLaws.{items-length}
use Rattle.refusal.specs.HandedOn.{handed_on}
use Rattle.cff.specs.Reads.{ReadsFont}
use Rattle.cff.specs.SetLaws.{reading-start, reading_refused, reading-more, reading-over}
use Rattle.cff.proofs.set.read_others.Goals as goal

pub loop-k-init : goal.loop-k-init
loop-k-init c = reading-start c.args.font.now c.args.strings c.args.globals (items_of c.args.font.now c.args.tops) (omega (arith, c.requires.1, items-length c.args.font.now c.args.tops)) c.args.first c.requires.2

pub returns-in_err-font_of : goal.returns-in_err-font_of
returns-in_err-font_of c =
    handed_on _ _ (ReadsFont _ _) c.from_residual.ensures.1 (reading_refused c.args.font.now c.args.strings c.args.globals (items_of c.args.font.now c.args.tops) c.args.first _ c.loop-k.invariant (omega (arith, c.loop-k-test.true, items-length c.args.font.now c.args.tops)) _ c.in_err-font_of.ensures)

pub loop-k-preserved : goal.loop-k-preserved
loop-k-preserved c = reading-more c.args.font.now c.args.strings c.args.globals (items_of c.args.font.now c.args.tops) c.args.first _ c.loop-k.invariant (omega (arith, c.loop-k-test.true, items-length c.args.font.now c.args.tops)) _ c.in_ok-font_of.ensures

pub returns : goal.returns
returns c = reading-over c.args.font.now c.args.strings c.args.globals (items_of c.args.font.now c.args.tops) c.args.first _ c.loop-k.invariant (omega (arith, c.loop-k-test.false, items-length c.args.font.now c.args.tops))
