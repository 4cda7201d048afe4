-- `answer_stream` meets its contract: each way out is a case of `stream_answer`.
use Rattle.std.proofs.Common.{Some, ap, sym, ◌∙◌, arith, drop, length, take, ◌*◌, ◌+◌, ◌-◌, ◌/◌, ◌≡◌, ◌≤◌}
use Rattle.charstring_cases.specs.AnswersLaws.{pairs-length, part-length, stream_none, stream_many, stream_short, stream_long, stream_found, stream_parts}
use Rattle.cases.specs.ReportLaws.{wrote_counts}
use Rattle.charstring_cases.proofs.answer_stream.Goals as goal
use Rattle.charstring_cases.proofs.answer_stream.Goals.{After-put_pairs-k}

-- the pairs that were written can be lent
written : (c : After-put_pairs-k) → (c.put_pairs-k.result ≤ length c.put_pairs-k.new.pairs) × (c.put_pairs-k.result ≡ length (take c.put_pairs-k.result c.put_pairs-k.new.pairs))
written c =
    let n = c.from-count.result in
    let part = take (1 + 4 * n - 1) (drop 1 c.args.input.now) in
    wrote_counts c.put_pairs-k.ensures
    (omega (arith, pairs-length part 0 (length part / 2), part-length c.args.input.now n (omega (arith, c.if-n-at.false)), c.if-count-gt16.false))

pub returns-then-n-eq0 : goal.returns-then-n-eq0
returns-then-n-eq0 c = sym (stream_none c.args.tokens c.args.input.now c.if-n-eq0.true)

pub returns-then-count-gt16 : goal.returns-then-count-gt16
returns-then-count-gt16 c = let e = c.from-count.ensures in sym (stream_many c.args.tokens c.args.input.now c.if-n-eq0.false (omega (arith, e, c.if-count-gt16.true)))

pub returns-then-n-at : goal.returns-then-n-at
returns-then-n-at c = let e = c.from-count.ensures in sym (stream_short c.args.tokens c.args.input.now c.if-n-eq0.false (omega (arith, e, c.if-count-gt16.false)) (omega (arith, e, c.if-n-at.true)))

pub returns-then-n-at-gt60 : goal.returns-then-n-at-gt60
returns-then-n-at-gt60 c = let e = c.from-count.ensures in sym (stream_long c.args.tokens c.args.input.now c.if-n-eq0.false (omega (arith, e, c.if-count-gt16.false)) (omega (arith, e, c.if-n-at.false)) (omega (arith, e, c.if-n-at-gt60.true)))

pub slice_bounds-pairs-end : goal.slice_bounds-pairs-end
slice_bounds-pairs-end c = (written (goal.at.slice_bounds-pairs-end c).After-put_pairs-k).0

pub slice_bounds-of_stream-end-2 : goal.slice_bounds-of_stream-end-2
slice_bounds-of_stream-end-2 c = (written (goal.at.slice_bounds-of_stream-end-2 c).After-put_pairs-k).1

pub returns : goal.returns
returns c =
    let e = c.from-count.ensures in
    ap Some (c.of_stream.ensures ∙ stream_parts c.args.tokens c.args.input.now _ _ _ _ e (omega (arith, c.if-n-at.false)) c.put_pairs-k.ensures)
    ∙ sym (stream_found c.args.tokens c.args.input.now c.if-n-eq0.false (omega (arith, e, c.if-count-gt16.false)) (omega (arith, e, c.if-n-at.false)) (omega (arith, e, c.if-n-at-gt60.false)))
