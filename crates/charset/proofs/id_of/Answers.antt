-- `charset::id_of` meets its contract: by the kind of the charset, the glyph's own number, the entry of format 0, or the walk over the ranges.
use Rattle.std.proofs.Common.{arith, ◌∙◌}
use Rattle.charset.specs.IdLaws.{own_id, ranges-read, ranges_id, each_there, each_id}
use Rattle.charset.proofs.id_of.Goals as goal

pub returns-then-gid-own : goal.returns-then-gid-own
returns-then-gid-own c = (own_id _ _ _ _ c.args.glyphs.now.good c.requires c.if-gid-own.true, omega (arith, c.args.glyphs.now.good.few))

pub overflow_add-at : goal.overflow_add-at
overflow_add-at c = omega (arith, each_there _ _ _ _ c.args.glyphs.now.good c.requires c.if-gid-own.false c.if-width-eq0.true)

pub u16_at-requires : goal.u16_at-requires
u16_at-requires c = each_there _ _ _ _ c.args.glyphs.now.good c.requires c.if-gid-own.false c.if-width-eq0.true

pub returns-then-width-eq0 : goal.returns-then-width-eq0
returns-then-width-eq0 c =
    let g = c.args.glyphs.now.good in
    (c.u16_at.ensures.0 ∙ each_id _ _ _ _ g c.requires c.if-gid-own.false c.if-width-eq0.true, c.u16_at.ensures.1)

pub id_in_ranges-requires : goal.id_in_ranges-requires
id_in_ranges-requires c =
    let g = c.args.glyphs.now.good in
    (g.narrow, omega (arith, g.few), omega arith, ranges-read _ _ _ _ g c.requires c.if-gid-own.false)

pub returns : goal.returns
returns c =
    let g = c.args.glyphs.now.good in
    (c.id_in_ranges.ensures.0 ∙ ranges_id _ _ _ _ g c.requires c.if-gid-own.false, c.id_in_ranges.ensures.1)
