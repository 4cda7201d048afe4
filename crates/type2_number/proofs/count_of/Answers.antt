-- `type2_number::count_of` meets its contract: a comparison with 0.0 and a product with 65536.0 at f64, both exact.
use Rattle.std.proofs.Common.{ap, false, le_of_eq, le_trans, refl, sym, true, ◌∙◌}
use mathlib.Core.Bool.{false≢true}
use lib.Ieee.{neg}
use Rattle.type2_number.specs.Number.{is_neg, mag}
use Rattle.type2_number.specs.Counts.{side, cast, widens, neg_value, scaled_is, is-neg}
use Rattle.type2_number.proofs.count_of.Goals as goal

pub float_to_float-result : goal.float_to_float-result
float_to_float-result c =
    let k = side _ true c.v.invariant c.if-x.true in
    widens _ false k.size (neg_value _ k.size k.value) c.row_known-1.given

pub float_to_int-result : goal.float_to_int-result
float_to_int-result c =
    let k = side _ true c.v.invariant c.if-x.true in
    (cast _ k.size (neg_value _ k.size k.value) k.small).0

pub float_to_float-result-else-x : goal.float_to_float-result-else-x
float_to_float-result-else-x c =
    let k = side _ false c.v.invariant c.if-x.false in
    widens _ false k.size k.value c.type_inv.x

pub float_to_int-result-else-x : goal.float_to_int-result-else-x
float_to_int-result-else-x c =
    let k = side _ false c.v.invariant c.if-x.false in
    (cast _ k.size k.value k.small).0

pub returns-then-x : goal.returns-then-x
returns-then-x c =
    let v = c.v.inside.value in
    let k = side v true c.v.invariant c.if-x.true in
    let e = (cast (neg v) k.size (neg_value v k.size k.value) k.small).1 in
    let z = scaled_is v true k.size k.value in
    let m = is-neg k.size (k.above refl) in
    (m.0 ∙ ap is_neg (sym z ∙ c.v.view_is), e ∙ m.1 ∙ ap mag (sym z ∙ c.v.view_is), le_trans (le_of_eq e) k.small, λ t. rw e (k.above refl))

pub returns-else-x : goal.returns-else-x
returns-else-x c =
    let v = c.v.inside.value in
    let k = side v false c.v.invariant c.if-x.false in
    let e = (cast v k.size k.value k.small).1 in
    let z = scaled_is v false k.size k.value in
    (ap is_neg (sym z ∙ c.v.view_is), e ∙ ap mag (sym z ∙ c.v.view_is), le_trans (le_of_eq e) k.small, λ t. absurd (false≢true t))
