-- `glyph_bodies::glyphs::put_windowed` meets its contract: a part of the record that has the glyph's rows says of it what the whole record says.
use Rattle.mask_rows.specs.FillLaws.{covers_some, covers_none, has_some}
use Rattle.mask_rows.specs.SameRoom.{room_stays}
use Rattle.glyph_bodies.specs.PartLaws.{part-asked, part_room, part-writes}
use Rattle.glyph_bodies.proofs.glyphs.put_windowed.Goals as goal

pub rows-requires : goal.rows-requires
rows-requires c = (covers_some c.in-Some.is c.requires.0).fits

pub invariant_of-part : goal.invariant_of-part
invariant_of-part c = record { asked = part-asked _ _ _ (covers_some c.in-Some.is c.requires.0) c.args.one.now.asked _ c.rows.ensures c.in_order.result c.in_order.ensures }

pub put_charstring-requires-2 : goal.put_charstring-requires-2
put_charstring-requires-2 c =
    part_room _ _ _ (covers_some c.in-Some.is c.requires.0) c.args.one.now.asked _ c.rows.ensures c.in_order.result c.in_order.ensures c.if-one-masks.false (has_some c.in-Some.is c.requires.1) _ _ c.requires.2 c.requires.3

pub returns : goal.returns
returns c =
    (part-writes _ _ _ (covers_some c.in-Some.is c.requires.0) c.args.one.now.asked _ c.rows.ensures c.in_order.result c.in_order.ensures c.if-one-masks.false (has_some c.in-Some.is c.requires.1) c.put_charstring-2.ensures, c.requires.0, room_stays _)

pub returns-then-one-masks : goal.returns-then-one-masks
returns-then-one-masks c = (c.put_charstring.ensures, c.requires.0, room_stays _)

pub put_long-requires : goal.put_long-requires
put_long-requires c = (c.requires.2, c.requires.3)

pub returns-in_default : goal.returns-in_default
returns-in_default c = (c.put_long.ensures.0, covers_none c.in_default.is _ _ _ _, c.put_long.ensures.1)
