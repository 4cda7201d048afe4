-- The size of a number with its fraction dropped, as the code finds it: capped at 4294967296.
use Rattle.std.specs.Prelude.{ℕ, zero, suc, ◌-◌, ◌*◌, ◌/◌, ◌^◌, ◌≤◌, ◌<◌, min, ◌≡◌}
use Rattle.std.proofs.Common.{sym, ◌∙◌, mul-one, div-one, not-suc-le-zero, sub-one, arith}
use Rattle.std.proofs.Math.Nat.{pow-zero, pow-succ', div-div-eq-div-mul}
use Rattle.decimal.specs.declared.Decimal.{Decimal}
use Rattle.decimal.specs.Decimal.{Reduced}
use Rattle.decimal.specs.DecimalLaws.{one_power}
use Rattle.decimal.specs.Values.{trunc_of}

-- ---- the fraction dropped, digit by digit

pub drop-digit : (n i : ℕ) → 0 < i → n / 10 / 10 ^ (i - 1) ≡ n / 10 ^ i
drop-digit n zero h = absurd (not-suc-le-zero h)
drop-digit n (suc j) h = rw (sub-one, pow-succ') (div-div-eq-div-mul n 10 (10 ^ j))

pub dropped : (n i m : ℕ) → n / 10 ^ i ≡ m → i ≤ 0 → n ≡ m
dropped n zero m e h = sym (div-one n) ∙ e
dropped n (suc i) m e h = absurd (not-suc-le-zero h)

module _ (d : Decimal) where
  -- no power below: an integer
  pub trunc-whole : d.down ≡ 0 → trunc_of d ≡ d.digits * 10 ^ d.up
  unfolding trunc_of
  trunc-whole e = rw (e, pow-zero) (div-one (d.digits * 10 ^ d.up))

  -- no power above
  pub trunc-fraction : d.up ≡ 0 → trunc_of d ≡ d.digits / 10 ^ d.down
  unfolding trunc_of
  trunc-fraction e = rw (e, pow-zero, mul-one)

  pub trunc-up : (r : ℕ) → d.down ≡ 0 → r ≡ min (d.digits * 10 ^ d.up) 4294967296 → r ≡ min (trunc_of d) 4294967296
  trunc-up r e h = rw (trunc-whole e) h

  module _ (h : Reduced d) (e : d.down ≡ 0 → ⊥) (n : ℕ) (q : n ≡ d.digits / 10 ^ d.down) where
    is : n ≡ trunc_of d
    is = q ∙ sym (trunc-fraction (one_power d h e))

    pub trunc-down : n < 4294967296 → n ≡ min (trunc_of d) 4294967296
    trunc-down l = omega (arith, is)

    pub trunc_far : 4294967296 ≤ n → 4294967296 ≡ min (trunc_of d) 4294967296
    trunc_far l = omega (arith, is)
