-- `cid_parts::place_parts` meets its contract: each place is the sum of the lengths before it.
use Rattle.std.proofs.Common.{arith}
use Rattle.cid_parts.specs.Cid.{places_by}
use Rattle.cid_parts.proofs.place_parts.Goals as goal

pub overflow_add-at5 : goal.overflow_add-at5
overflow_add-at5 c =
    let h = c.requires in
    omega (arith, c.index_len.ensures.0, c.index_len.ensures.1, h.front-small, h.globals-small, h.few, h.select-small, h.glyphs-small)

pub overflow_add-result : goal.overflow_add-result
overflow_add-result c =
    let h = c.requires in
    omega (arith, c.index_len.ensures.0, c.index_len.ensures.1, h.front-small, h.globals-small, h.few, h.select-small, h.glyphs-small, h.all_small)

pub returns : goal.returns
unfolding places_by
returns c =
    rw c.index_len.ensures.0
