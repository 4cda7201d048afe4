-- Laws of the stages: what the code holds follows what was read, nibble by nibble.
use Rattle.std.specs.Prelude.{ℕ, zero, suc, ◌+◌, ◌-◌, ◌*◌, ◌%◌, ◌^◌, ◌≤◌, ◌<◌, min, ◌≡◌, refl, ◌⊎◌, Bool, true, false}
use Rattle.std.proofs.Common.{sym, ap, ◌∙◌, inl, inr, pow-suc, mul_assoc, mul-one, zero-mul, le-mul_of_pos_right, mul-le-mul_right, eq-zero-or-pos, lt_irrefl, not-suc-le-zero, sub-one, arith, lit<, lt-ltb, ne_eqb}
use Rattle.std.proofs.Math.Nat.{pow-succ', pow-le-pow_right}
use Rattle.std.proofs.Math.Decide.{dec_le}
use Rattle.octets.specs.Pick.{pick}
use Rattle.decimal.specs.declared.Held.{Held}
use Rattle.decimal.specs.declared.Stage.{Stage}
use Rattle.decimal.specs.declared.Stage.TheVariants.{Mantissa, Exponent}
use Rattle.decimal.specs.Decimal.{zeros, stripped}
use Rattle.decimal.specs.DecimalLaws.{ten_pos, zeros_ten, zeros-digit, zeros-nought, stripped_ten, stripped-digit, stripped-nought, stripped-exact, stripped_pos}
use Rattle.decimal.specs.Stage.{Exact, begun, in_mantissa, after_e, in_exponent, spoilt, mantissa_step, exponent_step, step_of, held_of, stage_of}

-- ---- m × 10 ^ k under a cap

pub scaled-step : (n i : ℕ) → 0 < i → n * 10 * 10 ^ (i - 1) ≡ n * 10 ^ i
scaled-step n zero h = absurd (not-suc-le-zero h)
scaled-step n (suc j) h = rw (sub-one, pow-succ', mul_assoc)

pub scaled-cap : (n i m cap : ℕ) → n * 10 ^ i ≡ m → cap ≤ n → cap ≡ min m cap
scaled-cap n i m cap e h = omega (arith, le-mul_of_pos_right n (ten_pos i))

pub scaled_done : (n i m cap : ℕ) → n * 10 ^ i ≡ m → i ≤ 0 → n < cap → n ≡ min m cap
scaled_done n zero m cap e h k = omega (arith, mul-one n)
scaled_done n (suc i) m cap e h k = absurd (not-suc-le-zero h)

-- ---- one count more

-- ---- one digit more of an exponent

-- ---- one digit more of a mantissa

held_is : (s t : Bool) (a b c p q r : ℕ) → s ≡ t → a ≡ p → b ≡ q → c ≡ r
    → ◌≡◌ {A = Held} (record { neg = s; digits = a; zeros = b; behind = c }) (record { neg = t; digits = p; zeros = q; behind = r })
held_is s t a b c p q r e f g h = rw (e, f, g, h)

pub held_none : (s : Bool) → ◌≡◌ {A = Held} (record { neg = s; digits = 0; zeros = 0; behind = 0 }) (held_of s 0 0)
held_none s =
    let a : 0 ≡ min (stripped 0) (10 ^ 15) = omega (arith, stripped-nought) in
    let b : 0 ≡ min (zeros 0) 1000 = omega (arith, zeros-nought) in
    held_is s s 0 0 0 _ _ 0 refl a b refl

more-behind : (point : Bool) (f c b : ℕ) → c ≡ min f 1000 → b ≡ pick point (min (c + 1) 1000) c → b ≡ min (pick point (f + 1) f) 1000
more-behind true f c b e h = omega arith
more-behind false f c b e h = omega arith

-- the digits and the zeros behind them, with one zero more, are ten times the number
ten_times : (n : ℕ) → n * 10 ≡ stripped n * 10 ^ suc (zeros n)
ten_times n = ap (λ (m : ℕ). m * 10) (sym (stripped-exact n)) ∙ rw (pow-suc, mul_assoc)

wide_power : (m k : ℕ) → 0 < m → 15 ≤ k → 10 ^ 15 ≤ m * 10 ^ k
wide_power m k p h =
    let a : 10 ^ 15 ≤ 10 ^ k = pow-le-pow_right (lit< tt) h in
    let b : 1 * 10 ^ k ≤ m * 10 ^ k = mul-le-mul_right (10 ^ k) p in
    omega arith

pub ten_under : (n d z : ℕ) → d ≡ min (stripped n) (10 ^ 15) → z ≡ min (zeros n + 1) 1000 → min (d * 10 ^ z) (10 ^ 15) ≡ min (n * 10) (10 ^ 15)
ten_under n d z e h = go (eq-zero-or-pos n) (dec_le (10 ^ 15) (stripped n)) (dec_le 15 z)
  where
    big : 10 ^ 15 ≤ d * 10 ^ z → 10 ^ 15 ≤ n * 10 → min (d * 10 ^ z) (10 ^ 15) ≡ min (n * 10) (10 ^ 15)
    big a b = omega arith

    go : (n ≡ 0) ⊎ (0 < n) → Dec (10 ^ 15 ≤ stripped n) → Dec (15 ≤ z) → min (d * 10 ^ z) (10 ^ 15) ≡ min (n * 10) (10 ^ 15)
    go (inl o) k j =
        let m : d ≡ 0 = omega (arith, ap stripped o, stripped-nought) in
        let q : d * 10 ^ z ≡ 0 = ap (λ (v : ℕ). v * 10 ^ z) m ∙ zero-mul (10 ^ z) in
        omega arith
    go (inr o) (yes k) j =
        let a : d ≤ d * 10 ^ z = le-mul_of_pos_right d (ten_pos z) in
        let b : stripped n ≤ stripped n * 10 ^ suc (zeros n) = le-mul_of_pos_right (stripped n) (ten_pos (suc (zeros n))) in
        let t = ten_times n in
        big (omega arith) (omega arith)
    go (inr o) (no k) (yes j) =
        let p = stripped_pos n o in
        let t = ten_times n in
        let a : 10 ^ 15 ≤ d * 10 ^ z = wide_power d z (omega arith) j in
        let b : 10 ^ 15 ≤ stripped n * 10 ^ suc (zeros n) = wide_power (stripped n) (suc (zeros n)) p (omega arith) in
        big a (omega arith)
    go (inr o) (no k) (no j) =
        let m : d ≡ stripped n = omega arith in
        let q : z ≡ suc (zeros n) = omega arith in
        rw (m, q, ← ten_times n)

module _ (h : Held) (point : Bool) (x z b : ℕ) (low : x < 10) (zs : z ≡ min (h.zeros + 1) 1000) (bs : b ≡ pick point (min (h.behind + 1) 1000) h.behind)
    (s : Bool) (n f : ℕ) (e : h ≡ held_of s n f) where
  after : (d k : ℕ) → d ≡ min (stripped (n * 10 + x)) (10 ^ 15) → k ≡ min (zeros (n * 10 + x)) 1000
      → ◌≡◌ {A = Held} (record { neg = h.neg; digits = d; zeros = k; behind = b }) (held_of s (n * 10 + x) (pick point (f + 1) f))
  after d k p q = held_is h.neg s d k b _ _ _ (ap (λ (o : Held). o.neg) e) p q (more-behind point f h.behind b (ap (λ (o : Held). o.behind) e) bs)

  dig : h.digits ≡ min (stripped n) (10 ^ 15)
  dig = ap (λ (o : Held). o.digits) e

  zer : h.zeros ≡ min (zeros n) 1000
  zer = ap (λ (o : Held). o.zeros) e

  -- zeros before any digit
  pub digit-nought : x ≡ 0 → h.digits ≡ 0 → ◌≡◌ {A = Held} (record { neg = h.neg; digits = 0; zeros = 0; behind = b }) (held_of s (n * 10 + x) (pick point (f + 1) f))
  digit-nought o p = go (eq-zero-or-pos n)
    where
      go : (n ≡ 0) ⊎ (0 < n) → ◌≡◌ {A = Held} (record { neg = h.neg; digits = 0; zeros = 0; behind = b }) (held_of s (n * 10 + x) (pick point (f + 1) f))
      go (inl q) =
          let m : n * 10 + x ≡ 0 = omega arith in
          after 0 0 (omega (arith, ap stripped m, stripped-nought)) (omega (arith, ap zeros m, zeros-nought))
      go (inr q) = absurd (lt_irrefl 0 (omega (arith, stripped_pos n q, dig)))

  -- a zero at the end
  pub digit-zero : x ≡ 0 → (h.digits ≡ 0 → ⊥) → ◌≡◌ {A = Held} (record { neg = h.neg; digits = h.digits; zeros = z; behind = b }) (held_of s (n * 10 + x) (pick point (f + 1) f))
  digit-zero o p = go (eq-zero-or-pos n)
    where
      m : n * 10 + x ≡ n * 10
      m = omega arith

      go : (n ≡ 0) ⊎ (0 < n) → ◌≡◌ {A = Held} (record { neg = h.neg; digits = h.digits; zeros = z; behind = b }) (held_of s (n * 10 + x) (pick point (f + 1) f))
      go (inl q) = absurd (p (omega (arith, dig, ap stripped q, stripped-nought)))
      go (inr q) = after h.digits z (omega (arith, dig, ap stripped m, stripped_ten n)) (omega (arith, zer, ap zeros m, zeros_ten n q))

  module _ (v : ℕ) (vs : v ≡ min (h.digits * 10 ^ z) (10 ^ 15)) (o : x ≡ 0 → ⊥) where
    last : (n * 10 + x) % 10 ≡ 0 → ⊥
    last q = o (omega arith)

    same : v ≡ min (n * 10) (10 ^ 15)
    same = vs ∙ ten_under n h.digits z dig (omega (arith, zer))

    -- another digit at the end, with all the zeros before it
    pub digit-more : v + x < 10 ^ 15 → ◌≡◌ {A = Held} (record { neg = h.neg; digits = v + x; zeros = 0; behind = b }) (held_of s (n * 10 + x) (pick point (f + 1) f))
    digit-more p = after (v + x) 0 (omega (arith, same, stripped-digit (n * 10 + x) last)) (omega (arith, zeros-digit (n * 10 + x) last))

    pub digit_many : 10 ^ 15 ≤ v + x → ◌≡◌ {A = Held} (record { neg = h.neg; digits = 10 ^ 15; zeros = 0; behind = b }) (held_of s (n * 10 + x) (pick point (f + 1) f))
    digit_many p = after (10 ^ 15) 0 (omega (arith, same, stripped-digit (n * 10 + x) last)) (omega (arith, zeros-digit (n * 10 + x) last))

-- ---- a nibble of a mantissa

module _ (any point : Bool) (held : Held) (x : ℕ) (s : Bool) (n f : ℕ) (e : held ≡ held_of s n f) where
  pub mantissa-digit : (more : Held) → x < 10 → more ≡ held_of s (n * 10 + x) (pick point (f + 1) f) → Mantissa true point more ≡ stage_of (mantissa_step s any point n f x)
  mantissa-digit more h k = rw (lt-ltb x 10 h, k)

-- ---- a nibble, by the stage that the code found

never : ◌≡◌ {A = ℕ} 0 1 → ⊥
never h = omega arith

module _ (st : Stage) (x : ℕ) where
  pub exponent-plus : (held : Held) (r : Stage) → st ≡ Exponent held → (x ≡ 14 → ⊥)
      → ((s : Bool) (n f e : ℕ) → held ≡ held_of s n f → 0 ≡ min e 1000 → r ≡ stage_of (exponent_step s n f false e x))
      → (g : Exact) → st ≡ stage_of g → r ≡ stage_of (step_of g x)
  exponent-plus held r e h t begun k = absurd (never cc)
  exponent-plus held r e h t (in_mantissa s any point n f) k = absurd (never cc)
  exponent-plus held r e h t (after_e s n f) k = let p : held ≡ held_of s n f = cc in rw (ne_eqb x 14 h) (t s n f 0 p refl)
  exponent-plus held r e h t (in_exponent s n f es any q) k = absurd (never cc)
  exponent-plus held r e h t spoilt k = absurd (never cc)
