-- `glyph_bodies::glyphs::windowed_len` meets its contract: a part of the record that has the glyph's rows says of it what the whole record says.
use Rattle.mask_rows.specs.FillLaws.{covers_some, covers_none, has_some}
use Rattle.mask_rows.specs.SameRoom.{room_stays}
use Rattle.glyph_bodies.specs.PartLaws.{part-asked, part_len}
use Rattle.glyph_bodies.proofs.glyphs.windowed_len.Goals as goal

pub rows-requires : goal.rows-requires
rows-requires c = (covers_some c.in-Some.is c.requires.0).fits

pub invariant_of-part : goal.invariant_of-part
invariant_of-part c = record { asked = part-asked _ _ _ (covers_some c.in-Some.is c.requires.0) c.args.one.now.asked _ c.rows.ensures c.in_order.result c.in_order.ensures }

pub returns : goal.returns
returns c =
    let r = part_len _ _ _ (covers_some c.in-Some.is c.requires.0) c.args.one.now.asked _ c.rows.ensures c.in_order.result c.in_order.ensures c.if-one-masks.false (has_some c.in-Some.is c.requires.1) _ c.charstring_len-2.ensures in
    (r.0, r.1, c.requires.0, room_stays _)

pub returns-in_default : goal.returns-in_default
returns-in_default c = (c.long_len.ensures.0, c.long_len.ensures.1, covers_none c.in_default.is _ _ _ _, c.long_len.ensures.2)
