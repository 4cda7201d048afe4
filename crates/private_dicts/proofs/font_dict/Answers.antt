-- `private_dicts::font_dict` meets its contract: the Font DICT of an FD is an item of the FD array.
use Rattle.std.proofs.Common.{ap, arith, length}
use Rattle.index.specs.IndexLaws.{item-short}
use Rattle.private_dicts.specs.PrivatesLaws.{fd-within}
use Rattle.private_dicts.specs.MatrixLaws.{matrix_is}
use Rattle.private_dicts.proofs.font_dict.Goals as goal

pub item-requires : goal.item-requires
item-requires c = let a = c.args.a.now in (a.font.good.parts.dicts.good, fd-within _ _ a.font.good _ (a.there _ c.requires) a.keyed)

pub returns : goal.returns
returns c =
    let a = c.args.a.now in
    let there = a.there _ c.requires in (
      matrix_is _ _ a.font.good a.keyed _ there _ c.item.ensures.0,
      omega (arith, ap length c.item.ensures.0, item-short a.font.bytes.now a.font.f.dicts a.font.good.parts.dicts.good _ (fd-within _ _ a.font.good _ there a.keyed), a.short),
    )
