-- `answer_integer` meets its contract: each way out is a case of `integer_answer`.
use Rattle.std.proofs.Common.{Some, ap, sym, ◌∙◌, arith, eqb, get_or, rules}
use Rattle.octets.specs.OutLaws.{writes_lent}
use Rattle.type2_number.specs.Encoding.{integer_bytes}
use Rattle.cases.specs.AnswersLaws.{wrote-front}
use Rattle.cases.specs.ReportLaws.{wrote_counts}
use Rattle.charstring_cases.specs.AnswersLaws.{integer-size, integer-sign, integer_large, integer-found, integer-length}
use Rattle.charstring_cases.proofs.answer_integer.Goals as goal

pub returns-then-input-ne3 : goal.returns-then-input-ne3
returns-then-input-ne3 c = sym (integer-size c.args.input.now c.if-input-ne3.true)

pub returns-then-sign-gt1 : goal.returns-then-sign-gt1
returns-then-sign-gt1 c = sym (integer-sign c.args.input.now c.if-input-ne3.false c.if-sign-gt1.true)

pub encode_number-requires : goal.encode_number-requires
encode_number-requires c = (search rules, omega (arith, integer-length (eqb (get_or c.args.input.now 0 0) 1) c.u16_at-size.result))

pub slice_bounds-text-end : goal.slice_bounds-text-end
slice_bounds-text-end c = (wrote_counts (writes_lent c.encode_number.ensures (search rules)) (omega (arith, integer-length (eqb (get_or c.args.input.now 0 0) 1) c.u16_at-size.result))).0

pub slice_bounds-of-end : goal.slice_bounds-of-end
slice_bounds-of-end c = (wrote_counts (writes_lent c.encode_number.ensures (search rules)) (omega (arith, integer-length (eqb (get_or c.args.input.now 0 0) 1) c.u16_at-size.result))).1

pub returns-then-size-lt32768 : goal.returns-then-size-lt32768
returns-then-size-lt32768 c =
    ap Some (c.of.ensures ∙ wrote-front (writes_lent c.encode_number.ensures (search rules)) ∙ ap (integer_bytes (eqb (get_or c.args.input.now 0 0) 1)) c.u16_at-size.ensures.0)
    ∙ sym (integer-found c.args.input.now c.if-input-ne3.false c.if-sign-gt1.false (let e = c.u16_at-size.ensures.0 in omega (arith, e, c.if-size-lt32768.true)))

pub returns : goal.returns
returns c = sym (integer_large c.args.input.now c.if-input-ne3.false c.if-sign-gt1.false (let e = c.u16_at-size.ensures.0 in omega (arith, e, c.if-size-lt32768.false)))
