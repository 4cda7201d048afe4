-- `cff_entries::item` meets its contract: the item is the part of the font that its INDEX names.
use Rattle.cff.specs.SetLaws.{refused_as, found-font, items-good, item-found, item_refused, item-none}
use Rattle.cff.specs.PlaceLaws.{lies_found, lies_refused, lies_none}
use Rattle.cff_entries.proofs.item.Goals as goal

pub item-requires : goal.item-requires
item-requires c = (items-good c.args.font.now _ _ c.table.ensures.0 c.args.kind _ c.index_in-ix.ensures, c.if-number-ix.true)

pub returns-then-number-ix : goal.returns-then-number-ix
returns-then-number-ix c =
    let i = c.index_in-ix.ensures in (
      item-found c.args.font.now _ _ c.table.ensures.0 c.args.kind _ i _ _ c.item.ensures.0,
      lies_found c.args.font.now _ _ c.table.ensures.0 c.args.kind _ _ _ _ i c.table.result c.table.ensures.1 c.item.ensures.1,
    )

pub returns-in-Err : goal.returns-in-Err
returns-in-Err c =
    let o = c.read_font-read.ensures in (
      item_refused c.args.font.now _ o _ c.in-Err.is c.args.kind c.args.number,
      lies_refused c.args.font.now c.args.kind c.args.number _ _ _ (refused_as c.args.font.now _ o _ c.in-Err.is),
    )

pub returns-else-number-ix : goal.returns-else-number-ix
returns-else-number-ix c =
    let h = found-font c.args.font.now _ c.read_font-read.ensures _ c.in-Ok.is in
    let i = c.index_in-ix.ensures in (
      item-none c.args.font.now _ _ h c.args.kind _ i _ c.if-number-ix.false,
      lies_none c.args.font.now _ _ h c.args.kind c.args.number _ _ _ i c.if-number-ix.false,
    )
