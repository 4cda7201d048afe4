-- `index::put_head` meets its contract: the count alone, or three writes in a row.
use Rattle.std.proofs.Common.{ap, arith, length, ℕ, ◌++◌, ◌+◌, ◌≡◌, ◌≤◌, ◌∙◌}
use Rattle.octets.specs.Octets.{bytes_of}
use Rattle.octets.specs.OctetsLaws.{length-bytes}
use Rattle.octets.specs.OutLaws.{writes_then, writes_as, writes-room}
use Rattle.index.specs.Write.{size_for}
use Rattle.index.specs.WriteLaws.{head-none, head-length, head-parts}
use Rattle.index.proofs.put_head.Goals as goal
use Rattle.index.proofs.put_head.Goals.{After-offset_size-size}

-- there is room for the three
room : (c : After-offset_size-size) → c.args.out.now.at + (3 + c.offset_size-size.result) ≤ length c.args.out.now.bytes.now
room c =
    let a = c.args in
    omega (arith, c.requires.1, head-length a.count (size_for (a.total + 1)) c.if-count-eq0.false, c.offset_size-size.ensures)

pub num-requires : goal.num-requires
num-requires c =
    omega (arith, c.requires.1, ap length (head-none c.args.count (size_for (c.args.total + 1)) c.if-count-eq0.true), length-bytes 2 0)

pub returns-then-count-eq0 : goal.returns-then-count-eq0
returns-then-count-eq0 c = writes_as c.num.ensures (head-none c.args.count (size_for (c.args.total + 1)) c.if-count-eq0.true)

pub num-requires-2 : goal.num-requires-2
num-requires-2 c = omega (arith, room (goal.at.num-requires-2 c).After-offset_size-size)

pub num-requires-3 : goal.num-requires-3
num-requires-3 c = writes-room 1 c.num-2.ensures (omega (arith, room (goal.at.num-requires-3 c).After-offset_size-size, length-bytes 2 c.args.count))

pub num-requires-4 : goal.num-requires-4
num-requires-4 c =
    let n = c.offset_size-size.result in
    let h = writes-room (1 + n) c.num-2.ensures (omega (arith, room (goal.at.num-requires-4 c).After-offset_size-size, length-bytes 2 c.args.count)) in
    writes-room n c.num-3.ensures (omega (arith, h, length-bytes 1 n))

pub returns : goal.returns
returns c =
    let a = c.args in
    let h = room (goal.at.returns c).After-offset_size-size in
    writes_as (writes_then (omega (arith, h)) (writes_then (omega (arith, h)) c.num-2.ensures c.num-3.ensures) c.num-4.ensures)
    (ap (λ (k : ℕ). (bytes_of 2 a.count ++ bytes_of 1 k) ++ bytes_of k 1) c.offset_size-size.ensures
    ∙ head-parts a.count (a.total + 1) c.if-count-eq0.false)
