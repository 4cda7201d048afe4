-- A failure and the end leave the buffer, and the bytes that came are taken.
use Rattle.std.proofs.Common.{true, false, length}
use Rattle.sheet_read.specs.ProgramLaws.{below-zero, counted, goes_failed, goes_end, goes_more}
use Rattle.sheet_read.proofs.take_read.Goals as goal

pub returns-then-got-lt0 : goal.returns-then-got-lt0
returns-then-got-lt0 c = goes_failed _ _ c.args.got (below-zero c.args.got true c.ranges.got c.if-got-lt0.true)

pub returns-then-n-eq0 : goal.returns-then-n-eq0
returns-then-n-eq0 c =
    goes_end c.args.piece.now _ c.args.got _ (below-zero c.args.got false c.ranges.got c.if-got-lt0.false)
    (counted c.args.got _ (length c.args.piece.now) c.ranges.got c.count-n.ensures.value) c.if-n-eq0.true

pub returns : goal.returns
returns c =
    goes_more c.args.piece.now _ c.args.got _ _ (below-zero c.args.got false c.ranges.got c.if-got-lt0.false)
    (counted c.args.got _ (length c.args.piece.now) c.ranges.got c.count-n.ensures.value) c.if-n-eq0.false c.take.ensures
