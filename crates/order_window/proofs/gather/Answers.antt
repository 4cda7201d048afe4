-- `gather` meets its contract: the words have the bits of the kept glyphs, and of no others.
use Rattle.std.proofs.Common.{arith}
use Rattle.order_window.specs.GatheredLaws.{gathered-kept, gathered-marked}
use Rattle.order_window.proofs.gather.Goals as goal

pub begin-requires : goal.begin-requires
begin-requires c = (
  gathered-marked c.args.font.now.bytes.now c.args.font.now.f c.args.words.now _ c.args.keep.now c.mark.ensures c.args.font.now.good c.requires.1
      (omega (arith, c.requires.2, c.mark.auto.words)),
  c.requires.3,
)

pub returns : goal.returns
returns c =
    (c.begin.ensures.0, c.begin.ensures.1, gathered-kept c.args.font.now.bytes.now c.args.font.now.f c.args.words.now _ c.args.keep.now c.mark.ensures, c.begin.ensures.2)
