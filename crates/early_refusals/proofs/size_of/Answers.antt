-- `early_refusals::size_of` meets its contract: the words by the call.
use Rattle.std.proofs.Common.{arith}
use Rattle.early_refusals.specs.RefusalLaws.{size_small, size_large}
use Rattle.early_refusals.proofs.size_of.Goals as goal

pub returns-then-small : goal.returns-then-small
returns-then-small c =
    size_small c.args.font.now.bytes.now c.args.font.now.f c.args.font.now.good c.args.small c.if-small.true _ (omega (arith, c.words_for.ensures.0, c.words_for-then-small.ensures.0))

pub returns : goal.returns
returns c =
    size_large c.args.font.now.bytes.now c.args.font.now.f c.args.font.now.good c.args.small c.if-small.false _ c.work_size.ensures
