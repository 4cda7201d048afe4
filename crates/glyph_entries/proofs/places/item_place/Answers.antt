-- `glyph_entries::places::item_place` meets its contract: the item begins at its offset from the base of its INDEX, which counts from the table's start.
use Rattle.std.proofs.Common.{arith}
use Rattle.cff.specs.SetLaws.{found-font, items-good}
use Rattle.glyph_entries.specs.PlaceLaws.{item-low, place_none, place-full, place-shown}
use Rattle.glyph_entries.proofs.places.item_place.Goals as goal

pub returns-then-ix-number : goal.returns-then-ix-number
returns-then-ix-number c =
    let a = c.args in
    place_none a.font.now _ _ (found-font a.font.now _ c.read_font.ensures _ c.in_ok-f.was) a.kind _ c.index_in-ix.ensures a.number _ c.if-ix-number.true

pub returns-then-answer-lt2 : goal.returns-then-answer-lt2
returns-then-answer-lt2 c =
    let a = c.args in
    place-full a.font.now _ _ (found-font a.font.now _ c.read_font.ensures _ c.in_ok-f.was) a.kind _ c.index_in-ix.ensures a.number _ c.if-ix-number.false c.if-answer-lt2.true

pub item-item-requires : goal.item-item-requires
item-item-requires c =
    let a = c.args in
    (items-good a.font.now _ _ c.table-table.ensures.0 a.kind _ c.index_in-ix.ensures, c.if-ix-number.false)

pub overflow_add-answer : goal.overflow_add-answer
overflow_add-answer c =
    let a = c.args in
    omega (arith, item-low a.font.now _ _ c.table-table.ensures.0 _ (items-good a.font.now _ _ c.table-table.ensures.0 a.kind _ c.index_in-ix.ensures) a.number c.if-ix-number.false _ c.offset-at.ensures)

pub overflow_add-answer-2 : goal.overflow_add-answer-2
overflow_add-answer-2 c =
    let a = c.args in
    omega (arith, item-low a.font.now _ _ c.table-table.ensures.0 _ (items-good a.font.now _ _ c.table-table.ensures.0 a.kind _ c.index_in-ix.ensures) a.number c.if-ix-number.false _ c.offset-at.ensures)

pub returns : goal.returns
returns c =
    let a = c.args in
    place-shown a.font.now _ _ c.table-table.ensures.0 a.kind _ c.index_in-ix.ensures a.number a.answer.now c.if-ix-number.false c.if-answer-lt2.false _ c.offset-at.ensures _ c.item-item.ensures.0
