-- `Answer::num` meets its contract: what is written stands behind what was there.
use Rattle.std.proofs.Common.{arith, ap, length, length-append, length-take-le, rules, ◌+◌, ◌∙◌, ◌≡◌, sym, ℕ}
use Rattle.octets.specs.OctetsLaws.{length-bytes}
use Rattle.cases.specs.AnswersLaws.{wrote_behind}
use Rattle.cases.proofs.answer.Answer.num.Goals as goal

pub invariant_of-self : goal.invariant_of-self
invariant_of-self c =
    let a = c.args in
    let e : length a.self.now ≡ c.self.inside.len = ap length (sym c.self.view_is) ∙ length-take-le _ _ (omega (arith, c.self.invariant, c.self.told)) in
    omega (arith, length-bytes a.size a.value, c.put_num-self-inside.ensures.behind, e, c.requires)

pub returns : goal.returns
returns c =
    let a = c.args in
    let e = wrote_behind (search rules) c.put_num-self-inside.ensures c.self.view_is in
    (e, ap length e ∙ length-append _ _ ∙ ap (λ (n : ℕ). length a.self.now + n) (length-bytes a.size a.value))
