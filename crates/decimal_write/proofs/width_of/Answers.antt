-- `decimal_write::width_of` meets its contract.
use Rattle.std.proofs.Common.{arith, ap, lit<, max, pow-suc, sym, ℕ, zero, suc, ◌+◌, ◌*◌, ◌^◌, ◌/◌, ◌<◌, ◌≤◌, ◌≡◌, ◌∙◌}
use Rattle.std.proofs.Math.Nat.{pow-zero}
use Rattle.decimal.specs.DecimalLaws.{ten_pos}
use Rattle.decimal.specs.Written.{width_of}
use Rattle.decimal_write.specs.TextLaws.{width_digit, width_ten}
use Rattle.decimal_write.proofs.width_of.Goals as goal

-- a number of k + 1 digits
tens : (k n : ℕ) → 10 ^ k ≤ n → n < 10 * 10 ^ k → k + 1 ≡ width_of n
tens zero n l h = sym (width_digit n (omega (arith, pow-zero 10)))
tens (suc k) n l h =
    omega (arith, width_ten n (omega (arith, ten_pos k, pow-suc 10 k)), tens k (n / 10) (omega (arith, pow-suc 10 k)) (omega (arith, pow-suc 10 k)))

-- 0 has one digit, as 1 has
at_least_1 : (n : ℕ) → width_of (max n 1) ≡ width_of n
at_least_1 zero = width_digit 1 (lit< tt) ∙ sym (width_digit 0 (lit< tt))
at_least_1 (suc n) = let e : max (suc n) 1 ≡ suc n = omega arith in ap width_of e

pub returns : goal.returns
returns c = let e = c.ilog10.ensures in (tens c.ilog10.result c.max.result e.power_le e.next_power_gt ∙ ap width_of c.max.ensures ∙ at_least_1 c.args.n, omega (arith, e.bound))
