-- `put_encoding` meets its contract: nothing for a predefined one; else the format, the number of pairs, and the pairs.
use Rattle.std.proofs.Common.{arith, length, length-take-le, subst, sym, List, ◌+◌, ◌≤◌}
use Rattle.subset.specs.Codes.{Pair, pair_bytes}
use Rattle.octets.specs.Out.{Writes}
use Rattle.encoding.specs.PutLaws.{absent-wrote, expert-wrote, whole_room, count_room, pairs-room, pairs_first, whole-wrote}
use Rattle.encoding.proofs.put_encoding.Goals as goal

pub returns-in-Absent : goal.returns-in-Absent
returns-in-Absent c = absent-wrote _ _ _ c.in-Absent.is

pub returns-in-Expert : goal.returns-in-Expert
returns-in-Expert c = expert-wrote _ _ _ c.in-Expert.is

pub pair-requires : goal.pair-requires
pair-requires c = omega (arith, whole_room c.args.out.now c.args.table.now c.args.e c.requires.0 _ c.in-Pairs.is c.requires.2)

pub byte-requires : goal.byte-requires
byte-requires c = count_room _ _ c.args.e c.requires.0 _ c.in-Pairs.is c.requires.2 c.pair.ensures

pub put_pairs-requires : goal.put_pairs-requires
put_pairs-requires c = (
  length-take-le 256 c.args.table.now c.requires.3,
  subst (λ (l : List Pair). c.byte.new.self.at + length (pair_bytes l) ≤ length c.byte.new.self.bytes.now) (sym (pairs_first c.args.table.now))
      (pairs-room _ _ c.args.e c.requires.0 _ c.in-Pairs.is c.requires.2 c.pair.ensures c.byte.ensures),
)

pub returns-in-Pairs : goal.returns-in-Pairs
returns-in-Pairs c = whole-wrote _ _ c.args.e c.requires.0 _ c.in-Pairs.is c.requires.2 c.pair.ensures c.byte.ensures
    (subst (λ (l : List Pair). Writes c.byte.new.self (pair_bytes l) c.put_pairs.new.out) (pairs_first c.args.table.now) c.put_pairs.ensures)
