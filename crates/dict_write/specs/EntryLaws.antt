-- Laws of copying an entry: its operands walked where they stand, each measured or written.
use Rattle.std.specs.Prelude.{ℕ, suc, ◌-◌, ◌≤◌, ◌<◌, ◌≡◌, refl, length, Result, Ok, Err, Option, Some, None}
use Rattle.std.proofs.Common.{sym, ◌∙◌, arith}
use Rattle.std.proofs.Math.Path.{ap}
use mathlib.Core.List.{List, [], ◌∷◌, ◌++◌, append_assoc, append-nil}
use Rattle.octets.specs.Octets.{Octets}
use Rattle.decimal.specs.declared.Decimal.{Decimal}
use Rattle.decimal.specs.Number.{number, number_at, answer_of, Taken}
use Rattle.decimal.specs.TakenLaws.{number-taken, answer-number}
use Rattle.decimal.specs.Written.{number_bytes}
use Rattle.dict.specs.Places.{operands_at}
use Rattle.dict.proofs.LookupLaws.{operands_next, operands_none}
use Rattle.dict_write.specs.Written.{operands_bytes}
use Rattle.decimal.specs.declared.NumberAt.{NumberAt}
use Rattle.refusal.specs.declared.Refusal.{Refusal}

no : ◌≡◌ {A = ℕ} 0 1 → ⊥
no h = omega arith

pub no_operand : operands_bytes [] ≡ []
unfolding operands_bytes
no_operand = refl

pub operands_append : (ds es : List Decimal) → operands_bytes (ds ++ es) ≡ operands_bytes ds ++ operands_bytes es
unfolding operands_bytes
operands_append [] es = refl
operands_append (d ∷ ds) es = ap (λ (l : List ℕ). number_bytes d ++ l) (operands_append ds es) ∙ sym (append_assoc (number_bytes d) (operands_bytes ds) (operands_bytes es))

pub one_operand : (d : Decimal) → operands_bytes (d ∷ []) ≡ number_bytes d
unfolding operands_bytes
one_operand d = append-nil (number_bytes d)

-- ---- the operand at a position, of those that are left

pub none_left : (b : List ℕ) (at left : ℕ) → left ≤ 0 → operands_at left b at ≡ []
unfolding operands_at
none_left b at left h = let e : left ≡ 0 = omega arith in ap (λ (n : ℕ). operands_at n b at) e

module _ (b : List ℕ) (at left : ℕ) (r : Result (Option NumberAt) Refusal) (e : r ≡ answer_of (number_at b at)) where
  pub none_refused : (n : Refusal) → r ≡ Err n → operands_at left b at ≡ []
  none_refused n f = operands_none b at left r e (λ t g. no cc)

  pub none_number : r ≡ Ok None → operands_at left b at ≡ []
  none_number f = operands_none b at left r e (λ t g. no cc)

  module _ (t : NumberAt) (f : r ≡ Ok (Some t)) where
    here : number_at b at ≡ number t.value t.next
    here = answer-number (number_at b at) t (sym f ∙ e)

    pub operand_taken : Octets b → at < length b → Taken b at t.value t.next
    operand_taken o h = number-taken b at t.value t.next o h here

    pub operand_first : 0 < left → operands_at left b at ≡ t.value ∷ operands_at (left - 1) b t.next
    operand_first h =
        let p : left ≡ suc (left - 1) = omega arith in
        ap (λ (n : ℕ). operands_at n b at) p ∙ operands_next b at (left - 1) t.next t.value here
