-- `capi::glyphs::cff_item_place` meets its contract: a kind below 3 is looked up, another has no items.
use Rattle.capi.specs.PlaceLaws.{shows-kind, shows-other}
use Rattle.capi.proofs.glyphs.cff_item_place.Goals as goal

pub returns-then-kind-lt3 : goal.returns-then-kind-lt3
returns-then-kind-lt3 c =
    record {
      result = c.item_place.result;
      number = c.number_or_0.ensures;
      is = shows-kind _ _ _ _ _ c.if-kind-lt3.true c.kind_of-kind.ensures _ _ c.item_place.ensures;
    }

pub returns : goal.returns
returns c =
    record {
      result = c.lookup.result;
      number = c.number_or_0-2.ensures;
      is = shows-other _ _ _ _ c.if-kind-lt3.false _ c.lookup.ensures;
    }
