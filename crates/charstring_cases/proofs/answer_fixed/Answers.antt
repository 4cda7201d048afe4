-- `answer_fixed` meets its contract: each way out is a case of `fixed_answer`.
use Rattle.std.proofs.Common.{Some, ap, sym, ◌∙◌, arith, eqb, get_or, rules}
use Rattle.octets.specs.OutLaws.{writes_lent}
use Rattle.type2_number.specs.Encoding.{fixed_bytes}
use Rattle.type2_number.specs.EncodingLaws.{fixed-length}
use Rattle.cases.specs.AnswersLaws.{wrote-front}
use Rattle.cases.specs.ReportLaws.{wrote_counts}
use Rattle.charstring_cases.specs.AnswersLaws.{fixed-size, fixed-sign, fixed_large, fixed-found}
use Rattle.charstring_cases.proofs.answer_fixed.Goals as goal

pub returns-then-input-ne5 : goal.returns-then-input-ne5
returns-then-input-ne5 c = sym (fixed-size c.args.input.now c.if-input-ne5.true)

pub returns-then-sign-gt1 : goal.returns-then-sign-gt1
returns-then-sign-gt1 c = sym (fixed-sign c.args.input.now c.if-input-ne5.false c.if-sign-gt1.true)

pub slice_bounds-text-end : goal.slice_bounds-text-end
slice_bounds-text-end c = (wrote_counts (writes_lent c.encode_fixed.ensures (search rules)) (omega (arith, fixed-length (eqb (get_or c.args.input.now 0 0) 1) c.u32_at-size.result))).0

pub slice_bounds-of-end : goal.slice_bounds-of-end
slice_bounds-of-end c = (wrote_counts (writes_lent c.encode_fixed.ensures (search rules)) (omega (arith, fixed-length (eqb (get_or c.args.input.now 0 0) 1) c.u32_at-size.result))).1

pub returns-then-size-le2147483648 : goal.returns-then-size-le2147483648
returns-then-size-le2147483648 c =
    ap Some (c.of.ensures ∙ wrote-front (writes_lent c.encode_fixed.ensures (search rules)) ∙ ap (fixed_bytes (eqb (get_or c.args.input.now 0 0) 1)) c.u32_at-size.ensures.0)
    ∙ sym (fixed-found c.args.input.now c.if-input-ne5.false c.if-sign-gt1.false (let e = c.u32_at-size.ensures.0 in omega (arith, e, c.if-size-le2147483648.true)))

pub returns : goal.returns
returns c = sym (fixed_large c.args.input.now c.if-input-ne5.false c.if-sign-gt1.false (let e = c.u32_at-size.ensures.0 in omega (arith, e, c.if-size-le2147483648.false)))
