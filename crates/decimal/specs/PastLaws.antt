-- Where a number ends: by its first byte alone, a real aside.
use Rattle.std.specs.Prelude.{ℕ, ◌+◌, ◌-◌, ◌*◌, ◌≤◌, ◌<◌, ◌≡◌, refl, Bool, true, false, List, ltb, length, get_or, Result, Ok, Err, Option, Some, None}
use Rattle.std.proofs.Common.{sym, ap, ◌∙◌, arith, ltb-true, ltb-false, le-ltb}
use Rattle.octets.specs.Pick.{pick}
use Rattle.octets.specs.Octets.{num_at}
use Rattle.decimal.specs.Decimal.{normal}
use Rattle.decimal.specs.Number.{Number, refused, number, integer_at, twos_at, pair_at, real_at, number_at, past_of, past_width}
use Rattle.decimal.specs.NumberLaws.{form_28, form_29, form_30, form_none, form_below, form_above, form_pair, form_high}
use Rattle.refusal.specs.declared.Refusal.{Refusal}
use Rattle.refusal.specs.declared.Refusal.TheVariants.{Truncated}

-- ---- so many bytes

both : (t : Bool) (x y : Number) (r : Result (Option ℕ) Refusal) → past_of x ≡ r → past_of y ≡ r → past_of (pick t x y) ≡ r
both true x y r e f = e
both false x y r e f = f

module _ (b : List ℕ) (at : ℕ) where
  pub width_got : (width : ℕ) → at < length b → width ≤ length b - at → Ok (Some (at + width)) ≡ past_width b at width
  width_got width h k = rw (le-ltb (length b) (at + width) (omega arith))

  integer-past : (width : ℕ) (s : Bool) (n : ℕ) → past_of (integer_at b at width s n) ≡ past_width b at width
  integer-past width s n = go (ltb (length b) (at + width))
    where
      go : (t : Bool) → past_of (pick t (refused Truncated) (number (normal s n 0 0) (at + width))) ≡ pick t (Err Truncated) (Ok (Some (at + width)))
      go true = refl
      go false = refl

  twos_past : (width half v : ℕ) → past_of (twos_at b at width half v) ≡ past_width b at width
  twos_past width half v =
      both (ltb v half) (integer_at b at width false v) (integer_at b at width true (half * 2 - v)) (past_width b at width)
      (integer-past width false v) (integer-past width true (half * 2 - v))

  pair-past : (v : ℕ) → past_of (pair_at b at v) ≡ past_width b at 2
  pair-past v =
      let w = get_or b (at + 1) 0 in
      both (ltb v 251) (integer_at b at 2 false ((v - 247) * 256 + w + 108)) (integer_at b at 2 true ((v - 251) * 256 + w + 108)) (past_width b at 2)
      (integer-past 2 false ((v - 247) * 256 + w + 108)) (integer-past 2 true ((v - 251) * 256 + w + 108))

  one-past : at < length b → 32 ≤ get_or b at 0 → get_or b at 0 < 247 → past_of (number_at b at) ≡ past_width b at 1
  one-past i h k = go (ltb (get_or b at 0) 139) refl
    where
      go : (t : Bool) → ltb (get_or b at 0) 139 ≡ t → past_of (number_at b at) ≡ past_width b at 1
      go true e = ap past_of (form_below b at h (ltb-true (get_or b at 0) 139 e)) ∙ integer-past 1 true (139 - get_or b at 0)
      go false e = ap past_of (form_above b at (ltb-false (get_or b at 0) 139 e) k) ∙ integer-past 1 false (get_or b at 0 - 139)

  -- ---- by the first byte
  module _ (v : ℕ) (e : v ≡ get_or b at 0) where
    pub past_28 : (r : Result (Option ℕ) Refusal) → v ≡ 28 → r ≡ past_width b at 3 → r ≡ past_of (number_at b at)
    past_28 r h q = q ∙ sym (ap past_of (form_28 b at (omega arith)) ∙ twos_past 3 32768 (num_at b (at + 1) 2))

    pub past_29 : (r : Result (Option ℕ) Refusal) → v ≡ 29 → r ≡ past_width b at 5 → r ≡ past_of (number_at b at)
    past_29 r h q = q ∙ sym (ap past_of (form_29 b at (omega arith)) ∙ twos_past 5 2147483648 (num_at b (at + 1) 4))

    pub past_30 : (r : Result (Option ℕ) Refusal) → v ≡ 30 → r ≡ past_of (real_at b at) → r ≡ past_of (number_at b at)
    past_30 r h q = q ∙ sym (ap past_of (form_30 b at (omega arith)))

    pub past-low : v < 28 → Ok None ≡ past_of (number_at b at)
    past-low h = sym (ap past_of (form_none b at (λ z. omega arith) (λ z. omega arith) (λ z. omega arith) (omega arith)))

    pub past_31 : v < 32 → (v ≡ 28 → ⊥) → (v ≡ 29 → ⊥) → (v ≡ 30 → ⊥) → Ok None ≡ past_of (number_at b at)
    past_31 h p q r = sym (ap past_of (form_none b at (λ z. p (e ∙ z)) (λ z. q (e ∙ z)) (λ z. r (e ∙ z)) (omega arith)))

    pub past_one : at < length b → 32 ≤ v → v < 247 → Ok (Some (at + 1)) ≡ past_of (number_at b at)
    past_one i h k = width_got 1 i (omega arith) ∙ sym (one-past i (omega arith) (omega arith))

    pub past-pair : (r : Result (Option ℕ) Refusal) → 247 ≤ v → v < 255 → r ≡ past_width b at 2 → r ≡ past_of (number_at b at)
    past-pair r h k q = q ∙ sym (ap past_of (form_pair b at (omega arith) (omega arith)) ∙ pair-past (get_or b at 0))

    pub past-high : 255 ≤ v → Ok None ≡ past_of (number_at b at)
    past-high h = sym (ap past_of (form_high b at (omega arith)))
