-- `index::item` meets its contract: the two offsets are those of the item, which a good INDEX keeps within the font; the part begins at the first.
use Rattle.std.proofs.Common.{add_comm, ap, arith, length, refl, ℕ, ◌+◌, ◌∙◌, ◌≤◌}
use Rattle.index.specs.Good.{offset_of}
use Rattle.index.specs.IndexLaws.{item-within, item-part}
use Rattle.index.proofs.item.Goals as goal
use Rattle.index.proofs.item.Goals.{Start}

-- the item is within the font
pair : (c : Start)
    → (offset_of c.args.font.now c.args.ix c.args.k ≤ offset_of c.args.font.now c.args.ix (c.args.k + 1))
    × (c.args.ix.base + offset_of c.args.font.now c.args.ix (c.args.k + 1) ≤ length c.args.font.now)
pair c = item-within c.args.font.now c.args.ix c.requires.0 c.args.k c.requires.1

pub overflow_add-start : goal.overflow_add-start
overflow_add-start c = omega (arith, pair (goal.at.overflow_add-start c).Start)

pub overflow_add-end : goal.overflow_add-end
overflow_add-end c = omega (arith, pair (goal.at.overflow_add-end c).Start)

pub slice_bounds-result-count : goal.slice_bounds-result-count
slice_bounds-result-count c = omega (arith, pair (goal.at.slice_bounds-result-count c).Start)

pub slice_bounds-result-start : goal.slice_bounds-result-start
slice_bounds-result-start c = omega (arith, pair (goal.at.slice_bounds-result-start c).Start)

pub slice_bounds-result-end : goal.slice_bounds-result-end
slice_bounds-result-end c = omega (arith, pair (goal.at.slice_bounds-result-end c).Start)

pub returns : goal.returns
returns c = (
  item-part c.args.font.now c.args.ix c.requires.0 c.args.k c.requires.1 _ _ c.offset.ensures c.offset-2.ensures,
  (
    refl,
    add_comm (c.args.ix.base + c.offset.result) c.args.font.ref_ptr.1
        ∙ ap (λ (o : ℕ). c.args.font.ref_ptr.1 + (c.args.ix.base + o)) c.offset.ensures,
  ),
)
