-- `type2_number::encode_number` meets its contract: each sign has its forms.
use Rattle.std.proofs.Common.{Bool, ap, arith, false, length, sym, true, ◌≡◌}
use Rattle.octets.specs.OutLaws.{writes_as}
use Rattle.type2_number.specs.Encoding.{integer_bytes}
use Rattle.type2_number.proofs.encode_number.Goals as goal

pub put_negative-requires : goal.put_negative-requires
put_negative-requires c =
    let a = c.args in
    let e : length (integer_bytes true a.v) ≡ length (integer_bytes a.neg a.v) = ap (λ (s : Bool). length (integer_bytes s a.v)) (sym c.if-neg.true) in
    (omega arith, omega (arith, e))

pub returns-then-neg : goal.returns-then-neg
returns-then-neg c =
    let a = c.args in
    writes_as c.put_negative.ensures (ap (λ (s : Bool). integer_bytes s a.v) (sym c.if-neg.true))

pub put_positive-requires : goal.put_positive-requires
put_positive-requires c =
    let a = c.args in
    let e : length (integer_bytes false a.v) ≡ length (integer_bytes a.neg a.v) = ap (λ (s : Bool). length (integer_bytes s a.v)) (sym c.if-neg.false) in
    (omega arith, omega (arith, e))

pub returns : goal.returns
returns c =
    let a = c.args in
    writes_as c.put_positive.ensures (ap (λ (s : Bool). integer_bytes s a.v) (sym c.if-neg.false))
