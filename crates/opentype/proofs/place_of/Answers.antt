-- `opentype::place_of` meets its contract: its tests are those of `place_of`, in order.
use Rattle.std.proofs.Common.{◌∙◌}
use Rattle.opentype.specs.OpentypeLaws.{file_long, file_tiny, file_bare, head_lost, rows_lost, rows_there}
use Rattle.opentype.proofs.place_of.Goals as goal

pub returns-then-n-gt-LONGEST : goal.returns-then-n-gt-LONGEST
returns-then-n-gt-LONGEST c = file_long _ c.if-n-gt-LONGEST.true

pub returns-then-n-lt4 : goal.returns-then-n-lt4
returns-then-n-lt4 c = file_tiny _ c.if-n-gt-LONGEST.false c.if-n-lt4.true

pub returns-then-u32_at-ne-OTTO : goal.returns-then-u32_at-ne-OTTO
returns-then-u32_at-ne-OTTO c = file_bare _ c.if-n-gt-LONGEST.false c.if-n-lt4.false _ c.u32_at.ensures.0 c.if-u32_at-ne-OTTO.true

pub returns-then-n-lt12 : goal.returns-then-n-lt12
returns-then-n-lt12 c = head_lost _ c.if-n-gt-LONGEST.false c.if-n-lt4.false _ c.u32_at.ensures.0 c.if-u32_at-ne-OTTO.false c.if-n-lt12.true

pub returns-then-n-count : goal.returns-then-n-count
returns-then-n-count c =
    rows_lost _ c.if-n-gt-LONGEST.false c.if-n-lt4.false _ c.u32_at.ensures.0 c.if-u32_at-ne-OTTO.false c.if-n-lt12.false _ c.u16_at-count.ensures.0 c.if-n-count.true

pub returns : goal.returns
returns c =
    c.row_from.ensures
    ∙ rows_there _ c.if-n-gt-LONGEST.false c.if-n-lt4.false _ c.u32_at.ensures.0 c.if-u32_at-ne-OTTO.false c.if-n-lt12.false _ c.u16_at-count.ensures.0 c.if-n-count.false
