-- Laws of the subroutine that the number before a place names, each for one way out of the code.
use Rattle.std.specs.Prelude.{ℕ, ◌≡◌, Bool, true, false, ltb, ℤ, None, Option, Some}
use Rattle.std.proofs.Math.Path.{refl, ap}
use Rattle.std.proofs.Common.{sym, ◌∙◌, arith}
use Rattle.std.specs.Bool.{then_some}
use Rattle.octets.specs.Pick.{pick}
use Rattle.octets.specs.Steps.{and}
use Rattle.charstring.specs.Bias.{bias_of, numbered}
use Rattle.unfold.specs.Unfold.{target_of}

-- two constructors that would be equal
pub zero_one : ◌≡◌ {A = ℕ} 0 1 → ⊥
zero_one h = omega arith

-- ---- the subroutine that the number before a place names, step by step

module _ (count : ℕ) (l : Option ℤ) where
  pub no_number : l ≡ None → None ≡ target_of count l
  unfolding target_of
  no_number e = ap (target_of count) (sym e)

  module _ (v : ℤ) (e : l ≡ Some v) where
    target_by : (o : Option ℕ) → numbered (bias_of count) v ≡ o → and o (λ (i : ℕ). pick (ltb i count) (Some i) None) ≡ target_of count l
    unfolding target_of
    target_by o f = ap (λ (q : Option ℕ). and q (λ (i : ℕ). pick (ltb i count) (Some i) None)) (sym f) ∙ ap (target_of count) (sym e)

    pub no_name : numbered (bias_of count) v ≡ None → None ≡ target_of count l
    no_name f = target_by None f

    pub named : (i : ℕ) → numbered (bias_of count) v ≡ Some i → then_some (ltb i count) i ≡ target_of count l
    named i f = by (ltb i count) ∙ target_by (Some i) f
      where
        by : (t : Bool) → then_some t i ≡ pick t (Some i) None
        by true = refl
        by false = refl
