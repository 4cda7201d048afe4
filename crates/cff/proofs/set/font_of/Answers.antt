-- `cff::set::font_of` meets its contract: the offsets of the k-th top DICT are where that item lies.
use Rattle.std.proofs.Common.{arith}
use Rattle.index.specs.IndexLaws.{item-within}
use Rattle.cff.specs.SetLaws.{set-top, set-font}
use Rattle.cff.proofs.set.font_of.Goals as goal

pub overflow_add-top : goal.overflow_add-top
overflow_add-top c = omega (arith, item-within c.args.font.now c.args.tops c.requires.0.tops_held.good c.args.k c.requires.1)

pub overflow_add-end : goal.overflow_add-end
overflow_add-end c = omega (arith, item-within c.args.font.now c.args.tops c.requires.0.tops_held.good c.args.k c.requires.1)

pub font_at-requires : goal.font_at-requires
font_at-requires c = set-top c.args.font.now c.args.tops c.args.strings c.args.globals c.requires.0 c.args.k c.requires.1 _ _ c.offset.ensures c.offset-2.ensures

pub returns : goal.returns
returns c = set-font c.args.font.now c.args.tops c.args.strings c.args.globals c.requires.0 c.args.k c.requires.1 _ _ c.offset.ensures c.offset-2.ensures c.font_at.result c.font_at.ensures
