-- `index::put_single` meets its contract: the head, the offset of the item's end and the item, one behind the other.
use Rattle.std.proofs.Common.{arith, length, refl, ◌+◌, ◌≡◌, ◌≤◌}
use Rattle.octets.specs.OctetsLaws.{length-bytes}
use Rattle.octets.specs.OutLaws.{writes_then, writes_as, writes-room}
use Rattle.index.specs.Write.{size_for, head_bytes}
use Rattle.index.specs.WriteLaws.{head-length, length-single, index-single}
use Rattle.index.proofs.put_single.Goals as goal
use Rattle.index.proofs.put_single.Goals.{Start}

-- there is room for all
room : (s : Start)
    → (length (head_bytes 1 (size_for (length s.args.item.now + 1))) ≡ 3 + (size_for (length s.args.item.now + 1))) × (s.args.out.now.at + (3 + ((size_for (length s.args.item.now + 1)) + (size_for (length s.args.item.now + 1)) + length s.args.item.now)) ≤ length s.args.out.now.bytes.now)
room s = (head-length 1 (size_for (length s.args.item.now + 1)) (λ e. omega arith), omega (arith, s.requires.1, length-single s.args.item.now (size_for (length s.args.item.now + 1)) refl))

pub put_head-requires : goal.put_head-requires
put_head-requires c = (c.requires.0, omega (arith, room (goal.at.put_head-requires c).Start))

pub num-requires : goal.num-requires
num-requires c = writes-room _ c.put_head.ensures (omega (arith, room (goal.at.num-requires c).Start, c.offset_size.ensures))

pub copy-requires : goal.copy-requires
copy-requires c =
    let z = c.offset_size in
    let h = writes-room (z.result + length c.args.item.now) c.put_head.ensures (omega (arith, room (goal.at.copy-requires c).Start, z.ensures)) in
    writes-room _ c.num.ensures (omega (arith, h, length-bytes z.result (length c.args.item.now + 1)))

pub returns : goal.returns
returns c =
    let h = room (goal.at.returns c).Start in
    writes_as (writes_then (omega (arith, h)) (writes_then (omega (arith, h)) c.put_head.ensures c.num.ensures) c.copy.ensures)
    (index-single c.args.item.now c.offset_size.result c.offset_size.ensures)
