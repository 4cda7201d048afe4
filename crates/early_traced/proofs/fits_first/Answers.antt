-- `early_traced::fits_first` meets its contract: a first window that is not full has all rows; behind a full one they are counted.
use Rattle.std.proofs.Common.{rules}
use Rattle.tracer.specs.AnswerLaws.{shown_as}
use Rattle.early_traced.specs.FitsLaws.{counted-past, counted-whole, first_past, first-whole}
use Rattle.early_traced.proofs.fits_first.Goals as goal

pub count_rows-count-requires : goal.count_rows-count-requires
count_rows-count-requires c = (shown_as _ _ _ _ c.if-first-eq-WINDOW.true c.requires, search rules)

pub returns-then-room-count : goal.returns-then-room-count
returns-then-room-count c = counted-past c.args.glyphs.now c.args.lent.now _ c.count_rows-count.ensures.0 c.if-room-count.true

pub returns-then-first-eq-WINDOW : goal.returns-then-first-eq-WINDOW
returns-then-first-eq-WINDOW c = counted-whole c.args.glyphs.now c.args.lent.now _ c.count_rows-count.ensures.0 c.if-room-count.false

pub returns-then-room-first : goal.returns-then-room-first
returns-then-room-first c =
    first_past c.args.glyphs.now c.args.lent.now c.args.keys.now _ c.requires c.if-first-eq-WINDOW.false c.if-room-first.true

pub returns : goal.returns
returns c =
    first-whole c.args.glyphs.now c.args.lent.now c.args.keys.now _ c.requires c.if-first-eq-WINDOW.false c.if-room-first.false
