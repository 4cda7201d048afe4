-- `put_report_of` meets its contract: a buffer that is not full is replayed and reported.
use Rattle.std.proofs.Common.{arith, length-take-le, rules, sym}
use Rattle.octets.specs.PutLaws.{wrote_as}
use Rattle.cases.specs.ReportLaws.{report_read, report_full, wrote_counts}
use Rattle.cases.specs.TallyLaws.{zeros-below}
use Rattle.replay.specs.Answers.{answer_to}
use Rattle.replay.proofs.put_report_of.Goals as goal

pub slice_bounds-replay-end : goal.slice_bounds-replay-end
slice_bounds-replay-end c = sym (length-take-le c.before.args.n c.before.args.buffer.now c.before.requires.1)

pub replay-first-requires : goal.replay-first-requires
replay-first-requires c = (search rules, zeros-below 50)

pub returns-then-n-buffer : goal.returns-then-n-buffer
returns-then-n-buffer c =
    let r = c.replay-first.ensures in
    let a = c.before.args in
    (wrote_as c.put_report.ensures.0 (report_read answer_to a.kinds.now a.buffer.now _ a.n _ c.if-n-buffer.true r.0 r.1), c.put_report.ensures.1)

pub returns : goal.returns
returns c =
    let w = c.put_bytes.ensures in
    let a = c.args in
    (wrote_as w (report_full answer_to a.kinds.now a.buffer.now a.n c.if-n-buffer.false), wrote_counts w (omega arith))
