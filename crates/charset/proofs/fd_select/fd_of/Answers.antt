-- `charset::fd_select::fd_of` meets its contract: by the kind of the FDSelect, the glyph's own byte or the search through its ranges.
use Rattle.std.proofs.Common.{arith, ◌∙◌}
use Rattle.charset.specs.FdSearchLaws.{before-first, ranges_sound, ranges-fd, each_there, each-fd, each_none}
use Rattle.charset.proofs.fd_select.fd_of.Goals as goal

pub returns-then-gid-first : goal.returns-then-gid-first
returns-then-gid-first c = before-first _ _ _ c.if-gid-first.true

pub overflow_add-result : goal.overflow_add-result
overflow_add-result c = omega (arith, each_there _ _ _ c.requires c.if-gid-first.false c.if-wide-eq0.true c.if-g-count.true)

pub bounds-font-at : goal.bounds-font-at
bounds-font-at c =
    each_there _ _ _ c.requires c.if-gid-first.false c.if-wide-eq0.true c.if-g-count.true

pub returns-then-g-count : goal.returns-then-g-count
returns-then-g-count c =
    each-fd _ _ _ c.requires c.if-gid-first.false c.if-wide-eq0.true c.if-g-count.true

pub returns-then-wide-eq0 : goal.returns-then-wide-eq0
returns-then-wide-eq0 c = each_none _ _ _ c.requires c.if-gid-first.false c.if-wide-eq0.true c.if-g-count.false

pub fd_in_ranges-requires : goal.fd_in_ranges-requires
fd_in_ranges-requires c =
    let p = c.requires in
    (c.if-gid-first.false, ranges_sound _ _ _ p c.if-gid-first.false c.if-wide-eq0.false)

pub returns : goal.returns
returns c = c.fd_in_ranges.ensures ∙ ranges-fd _ _ _ c.requires c.if-gid-first.false c.if-wide-eq0.false
