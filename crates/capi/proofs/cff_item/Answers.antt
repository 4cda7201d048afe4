-- `capi::cff_item` meets its contract: the item is copied where there is room for it and its length.
use Rattle.capi.specs.CapiLaws.{item_refused, item_no_bytes, item_no_word, item-written}
use Rattle.capi.proofs.cff_item.Goals as goal

pub returns-in-Err : goal.returns-in-Err
returns-in-Err c = item_refused _ _ _ _ _ _ c.in-Err.ensures _ c.number.ensures

pub returns-then-out-item : goal.returns-then-out-item
returns-then-out-item c = item_no_bytes _ _ _ _ _ _ c.in_default.ensures _ _ c.kind_of.ensures c.item-item.ensures.0 _ c.number-then-out-item.ensures c.if-out-item.true

pub returns-then-size-lt1 : goal.returns-then-size-lt1
returns-then-size-lt1 c =
    item_no_word _ _ _ _ _ _ c.in_default.ensures _ _ c.kind_of.ensures c.item-item.ensures.0 _ c.number-then-size-lt1.ensures c.if-out-item.false c.if-size-lt1.true

pub returns : goal.returns
returns c =
    item-written _ _ _ _ _ _ c.in_default.ensures _ _ c.kind_of.ensures c.item-item.ensures.0 c.if-out-item.false c.if-size-lt1.false _ _ c.put_bytes-end.ensures
