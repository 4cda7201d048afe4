-- `failing::only_culprit` meets its contract: the bits of the subroutines that the record has are set, and a charstring that fails by them says which
-- glyph it is.
use Rattle.std.proofs.Common.{arith, length, sym, ◌∙◌}
use lib.ListN.{length-replicate}
use Rattle.cff.specs.Loaded.{program}
use Rattle.bodies.specs.Ways.{no_ranks}
use Rattle.failing.specs.FailingLaws.{bits_room, asks_made, only-found, each_may}
use Rattle.failing.proofs.only_culprit.Goals as goal

pub invariant_of-fds : goal.invariant_of-fds
invariant_of-fds c = record { long = omega (arith, c.mark_fds.ensures.long); of = c.mark_fds.ensures.of }

pub rank_all-ranked-requires : goal.rank_all-ranked-requires
rank_all-ranked-requires c =
    let list = c.args.list.now in
    let n = length-replicate 256 no_ranks in
    (bits_room list.font.loaded.bytes.now list.font.loaded.f list.font.held list.keep.now c.args.rows.now list.below c.requires.1 (length c.args.words.now) c.requires.0, omega (arith, n))

pub invariant_of-rows : goal.invariant_of-rows
invariant_of-rows c = record { octets = λ i. (c.type_inv.rows i).fits; order = λ z. sym c.rises.ensures ∙ z }

pub invariant_of-by : goal.invariant_of-by
invariant_of-by c =
    let list = c.args.list.now in
    record {
      marked = c.mark_fds.ensures;
      asks = asks_made list.font.loaded.bytes.now list.font.loaded.f list.font.held list.keep.now c.args.rows.now list.below c.requires.1 (λ i. (c.type_inv.rows i).fits) _ _ _ _ _ c.rank_all-ranked.ensures c.if-ranked.true (omega arith);
    }

pub returns-then-ranked : goal.returns-then-ranked
returns-then-ranked c =
    let list = c.args.list.now in
    only-found list.font.loaded.bytes.now list.font.loaded.f list.font.held list.keep.now c.args.rows.now list.below c.requires.1 _ c.first_failing.ensures

pub returns : goal.returns
returns c =
    let list = c.args.list.now in
    each_may (program list.font.loaded) list.keep.now
