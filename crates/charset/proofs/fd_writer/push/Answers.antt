-- `charset::fd_writer::push` meets its contract: where the FD is the last one nothing is written, else a range of three bytes.
use Rattle.std.proofs.Common.{arith, length, ◌≡◌}
use Rattle.octets.specs.OctetsLaws.{length-bytes}
use Rattle.charset.specs.FdWriter.{pushed_bytes}
use Rattle.charset.specs.FdWriterLaws.{same-wrote, new-length, new_wrote}
use Rattle.charset.proofs.fd_writer.push.Goals as goal
use Rattle.charset.proofs.fd_writer.push.Goals.{Else-last-w}

-- where the FD is another than the last, its range takes three bytes
long : (c : Else-last-w) → (let a = c.args in length (pushed_bytes a.w a.fd) ≡ 3)
long c = new-length _ _ c.if-last-w.false

pub returns-then-last-w : goal.returns-then-last-w
returns-then-last-w c =
    let e = c.count_push-r.ensures in
    (e, same-wrote _ _ c.if-last-w.true e)

pub put_num-p-requires : goal.put_num-p-requires
put_num-p-requires c = omega (arith, long (goal.at.put_num-p-requires c).Else-last-w, c.requires.1)

pub put_byte-requires : goal.put_byte-requires
put_byte-requires c =
    let behind = rw length-bytes at c.put_num-p.ensures.behind in
    omega (arith, long (goal.at.put_byte-requires c).Else-last-w, c.requires.1, behind, c.put_num-p.auto.out)

pub returns : goal.returns
returns c =
    let e = c.count_push-r.ensures in
    (e, new_wrote _ _ c.if-last-w.false (omega (arith, c.requires.1)) e c.put_num-p.ensures c.put_byte.ensures)
