-- Laws of normalising: the zeros that a number ends in, and what is left without them.
use Rattle.std.specs.Prelude.{ℕ, zero, suc, ◌+◌, ◌-◌, ◌*◌, ◌/◌, ◌%◌, ◌^◌, ◌≤◌, ◌<◌, ◌≡◌, refl, ◌⊎◌, Bool, false}
use Rattle.std.proofs.Common.{sym, ap, ◌∙◌, subst, inl, inr, pow-suc, mul-one, mul_assoc, mul-pos, zero-mul, mul-div_cancel, div-one, eq-zero-or-pos, lt_irrefl, mul-le-mul_right, div-le_self, pos_of_ne-zero, add-one, arith, lit<, eq-eqb, ne_eqb}
use Rattle.std.proofs.Math.Nat.{pow-succ', pow-zero, one-le-pow, mul-div-mul_right, mul-mod_left, pow-le-pow_right}
use Rattle.std.proofs.Math.Decide.{ℕ_discrete, dec_lt}
use Rattle.decimal.specs.declared.Decimal.{Decimal}
use Rattle.decimal.specs.Decimal.{nought, zeros_of, zeros, stripped, scaled, normal, Normal, Reduced}

pub ten_pos : (k : ℕ) → 0 < 10 ^ k
ten_pos k = one-le-pow k 10 (lit< tt)

-- ---- one zero more, or none

zeros-more : (k n : ℕ) → n % 10 ≡ 0 → zeros_of (suc k) n ≡ suc (zeros_of k (n / 10))
unfolding zeros_of
zeros-more k n h = rw (eq-eqb (n % 10) 0 h)

zeros-none : (k n : ℕ) → (n % 10 ≡ 0 → ⊥) → zeros_of k n ≡ 0
unfolding zeros_of
zeros-none zero n h = refl
zeros-none (suc k) n h = rw (ne_eqb (n % 10) 0 h)

-- fuel as large as the number is enough
fuel : (k m n : ℕ) → 0 < n → n ≤ k → n ≤ m → zeros_of k n ≡ zeros_of m n
fuel zero m n p h j = absurd (lt_irrefl 0 (omega arith))
fuel (suc k) zero n p h j = absurd (lt_irrefl 0 (omega arith))
fuel (suc k) (suc m) n p h j = go (ℕ_discrete (n % 10) 0) (fuel k m (n / 10))
  where
    go : Dec (n % 10 ≡ 0) → (0 < n / 10 → n / 10 ≤ k → n / 10 ≤ m → zeros_of k (n / 10) ≡ zeros_of m (n / 10)) → zeros_of (suc k) n ≡ zeros_of (suc m) n
    go (yes e) less = zeros-more k n e ∙ ap suc (less (omega arith) (omega arith) (omega arith)) ∙ sym (zeros-more m n e)
    go (no e) less = zeros-none (suc k) n e ∙ sym (zeros-none (suc m) n e)

pub zeros_ten : (n : ℕ) → 0 < n → zeros (n * 10) ≡ suc (zeros n)
unfolding zeros
zeros_ten n p =
    let k = n * 10 - 1 in
    let e : n * 10 ≡ suc k = omega arith in
    let d : n * 10 / 10 ≡ n = mul-div_cancel n (lit< tt) in
    ap (λ (f : ℕ). zeros_of f (n * 10)) e ∙ zeros-more k (n * 10) (mul-mod_left n 10) ∙ ap (λ (m : ℕ). suc (zeros_of k m)) d ∙ ap suc (fuel k n n p (omega arith) (omega arith))

pub zeros-digit : (n : ℕ) → (n % 10 ≡ 0 → ⊥) → zeros n ≡ 0
unfolding zeros
zeros-digit n h = zeros-none n n h

pub zeros-nought : zeros 0 ≡ 0
unfolding zeros zeros_of
zeros-nought = refl

-- ---- what is left

pub stripped-digit : (n : ℕ) → (n % 10 ≡ 0 → ⊥) → stripped n ≡ n
unfolding stripped
stripped-digit n h = rw (zeros-digit n h, pow-zero) (div-one n)

pub stripped-nought : stripped 0 ≡ 0
unfolding stripped zeros zeros_of
stripped-nought = refl

pub stripped_ten : (n : ℕ) → stripped (n * 10) ≡ stripped n
unfolding stripped
stripped_ten n = go (eq-zero-or-pos n)
  where
    go : (n ≡ 0) ⊎ (0 < n) → n * 10 / 10 ^ zeros (n * 10) ≡ n / 10 ^ zeros n
    go (inl e) = let z : n * 10 ≡ n = omega arith in rw z
    go (inr p) = rw (zeros_ten n p, pow-suc) (mul-div-mul_right n (10 ^ zeros n) (lit< tt))

-- nothing but zeros is dropped
exact : (k n : ℕ) → n / 10 ^ zeros_of k n * 10 ^ zeros_of k n ≡ n
unfolding zeros_of
exact zero n = rw pow-zero (mul-one (n / 1) ∙ div-one n)
exact (suc k) n = go (ℕ_discrete (n % 10) 0) (exact k (n / 10))
  where
    go : Dec (n % 10 ≡ 0) → n / 10 / 10 ^ zeros_of k (n / 10) * 10 ^ zeros_of k (n / 10) ≡ n / 10 → n / 10 ^ zeros_of (suc k) n * 10 ^ zeros_of (suc k) n ≡ n
    go (no e) less = rw (zeros-none (suc k) n e, pow-zero) (mul-one (n / 1) ∙ div-one n)
    go (yes e) less =
        let z = zeros_of k (n / 10) in
        let t : n / 10 * 10 ≡ n = omega arith in
        let q : n / (10 ^ z * 10) ≡ n / 10 / 10 ^ z = subst (λ (m : ℕ). m / (10 ^ z * 10) ≡ n / 10 / 10 ^ z) t (mul-div-mul_right (n / 10) (10 ^ z) (lit< tt)) in
        rw (zeros-more k n e, pow-suc, q, ← mul_assoc, less) t

pub stripped-exact : (n : ℕ) → stripped n * 10 ^ zeros n ≡ n
unfolding stripped zeros
stripped-exact n = exact n n

pub stripped_pos : (n : ℕ) → 0 < n → 0 < stripped n
stripped_pos n p = go (eq-zero-or-pos (stripped n))
  where
    go : (stripped n ≡ 0) ⊎ (0 < stripped n) → 0 < stripped n
    go (inr h) = h
    go (inl e) = let z : n ≡ 0 = sym (stripped-exact n) ∙ ap (λ (m : ℕ). m * 10 ^ zeros n) e ∙ zero-mul (10 ^ zeros n) in absurd (lt_irrefl 0 (omega arith))

-- what is left does not end in a zero
last : (k n : ℕ) → 0 < n → n ≤ k → n / 10 ^ zeros_of k n % 10 ≡ 0 → ⊥
last zero n p h = λ q. omega arith
last (suc k) n p h = go (ℕ_discrete (n % 10) 0) (last k (n / 10))
  where
    go : Dec (n % 10 ≡ 0) → (0 < n / 10 → n / 10 ≤ k → n / 10 / 10 ^ zeros_of k (n / 10) % 10 ≡ 0 → ⊥) → n / 10 ^ zeros_of (suc k) n % 10 ≡ 0 → ⊥
    go (no e) less q = e (subst (λ (m : ℕ). m % 10 ≡ 0) (div-one n) (rw (zeros-none (suc k) n e, pow-zero) at q))
    go (yes e) less q =
        let z = zeros_of k (n / 10) in
        let t : n / 10 * 10 ≡ n = omega arith in
        let w : n / (10 ^ z * 10) ≡ n / 10 / 10 ^ z = subst (λ (m : ℕ). m / (10 ^ z * 10) ≡ n / 10 / 10 ^ z) t (mul-div-mul_right (n / 10) (10 ^ z) (lit< tt)) in
        less (omega arith) (omega arith) (rw (zeros-more k n e, pow-suc, w) at q)

pub stripped-last : (n : ℕ) → 0 < n → stripped n % 10 ≡ 0 → ⊥
unfolding stripped zeros
stripped-last n p = last n n p (omega arith)

-- a number below 10 ^ k ends in fewer than k zeros
pub zeros-below : (n k : ℕ) → 0 < n → n < 10 ^ k → zeros n < k
zeros-below n k p h = go (dec_lt (zeros n) k)
  where
    go : Dec (zeros n < k) → zeros n < k
    go (yes q) = q
    go (no q) =
        let a : 10 ^ k ≤ 10 ^ zeros n = pow-le-pow_right (lit< tt) (omega arith) in
        let b : 1 * 10 ^ zeros n ≤ stripped n * 10 ^ zeros n = mul-le-mul_right (10 ^ zeros n) (stripped_pos n p) in
        absurd (lt_irrefl 0 (omega (arith, stripped-exact n)))

pub stripped-le : (n : ℕ) → stripped n ≤ n
unfolding stripped
stripped-le n = div-le_self n (10 ^ zeros n)

-- a number that does not end in a zero, with k zeros behind it
pub zeros_times : (m k : ℕ) → (m % 10 ≡ 0 → ⊥) → zeros (m * 10 ^ k) ≡ k
zeros_times m zero h = rw (pow-zero, mul-one) (zeros-digit m h)
zeros_times m (suc k) h =
    let p : 0 < m = omega arith in
    rw (pow-suc, ← mul_assoc) (zeros_ten (m * 10 ^ k) (mul-pos p (ten_pos k)) ∙ ap suc (zeros_times m k h))

pub stripped_times : (m k : ℕ) → (m % 10 ≡ 0 → ⊥) → stripped (m * 10 ^ k) ≡ m
stripped_times m zero h = rw (pow-zero, mul-one) (stripped-digit m h)
stripped_times m (suc k) h = rw (pow-suc, ← mul_assoc) (stripped_ten (m * 10 ^ k) ∙ stripped_times m k h)

-- ---- normalised

pub normal-nought : (s : Bool) (a b : ℕ) → normal s 0 a b ≡ nought
unfolding normal
normal-nought s a b = refl

pub normal_pos : (s : Bool) (n a b : ℕ) → 0 < n
    → normal s n a b ≡ scaled s (stripped n) (a + zeros n) b
unfolding normal
normal_pos s n a b p = rw (ne_eqb n 0 (λ e. omega arith))

pub normal_times : (s : Bool) (m k a b : ℕ) → (m % 10 ≡ 0 → ⊥)
    → normal s (m * 10 ^ k) a b ≡ scaled s m (a + k) b
normal_times s m k a b h =
    let p : 0 < m = omega arith in
    normal_pos s (m * 10 ^ k) a b (mul-pos p (ten_pos k)) ∙ rw (stripped_times m k h, zeros_times m k h)

-- normalising leaves what is normalised as it is
pub normal-again : (s : Bool) (n a b : ℕ) (d : Decimal) → d ≡ normal s n a b → normal d.neg d.digits d.up d.down ≡ d
normal-again s n a b d e = go (eq-zero-or-pos n)
  where
    kept : (c : Decimal) → d ≡ c → normal c.neg c.digits c.up c.down ≡ c → normal d.neg d.digits d.up d.down ≡ d
    kept c f h = rw f h

    go : (n ≡ 0) ⊎ (0 < n) → normal d.neg d.digits d.up d.down ≡ d
    go (inl o) = kept nought (e ∙ ap (λ (m : ℕ). normal s m a b) o ∙ normal-nought s a b) (normal-nought false 0 0)
    go (inr p) =
        let m = stripped n in
        let k = a + zeros n in
        let l = stripped-last n p in
        let u : k - b + zeros m - (b - k) ≡ k - b = omega (arith, zeros-digit m l) in
        let v : b - k - (k - b + zeros m) ≡ b - k = omega (arith, zeros-digit m l) in
        kept (scaled s m k b) (e ∙ normal_pos s n a b p)
        (normal_pos s m (k - b) (b - k) (stripped_pos n p) ∙ rw (stripped-digit m l, u, v))

-- what a normalised decimal is: zero, or digits that do not end in a zero and one power at most
pub nought_is : (d : Decimal) → Normal d → d.digits ≡ 0 → d ≡ nought
nought_is d h e = sym h.same ∙ ap (λ (n : ℕ). normal d.neg n d.up d.down) e ∙ normal-nought d.neg d.up d.down

scaled_is : (d : Decimal) → Normal d → 0 < d.digits → d ≡ scaled d.neg (stripped d.digits) (d.up + zeros d.digits) d.down
scaled_is d h p = sym h.same ∙ normal_pos d.neg d.digits d.up d.down p

pub normal-last : (d : Decimal) → Normal d → 0 < d.digits → d.digits % 10 ≡ 0 → ⊥
normal-last d h p e =
    let q : d.digits ≡ stripped d.digits = ap (λ (c : Decimal). c.digits) (scaled_is d h p) in
    stripped-last d.digits p (subst (λ (m : ℕ). m % 10 ≡ 0) q e)

pub one_power : (d : Decimal) → Reduced d → (d.down ≡ 0 → ⊥) → d.up ≡ 0
one_power d h e = h.one (pos_of_ne-zero e)

-- a number that a DICT holds is one of the code's
pub reduced : (d : Decimal) → Normal d → Reduced d
reduced d h = go (eq-zero-or-pos d.digits)
  where
    go : (d.digits ≡ 0) ⊎ (0 < d.digits) → Reduced d
    go (inl o) =
        let e = nought_is d h o in
        let u : d.up ≡ 0 = ap (λ (c : Decimal). c.up) e in
        record { last = λ z. e; one = λ l. u; high = h.high; low = h.low }
    go (inr p) =
        let q : d.down ≡ d.down - (d.up + zeros d.digits) = ap (λ (c : Decimal). c.down) (scaled_is d h p) in
        record { last = λ z. absurd (normal-last d h p z); one = λ l. omega arith; high = h.high; low = h.low }

-- ---- an integer's zeros dropped one by one

pub whole-step : (m up n : ℕ) → m * 10 ^ up ≡ n → m % 10 ≡ 0 → m / 10 * 10 ^ (up + 1) ≡ n
whole-step m up n e h =
    let t : m / 10 * 10 ≡ m = omega arith in
    rw (add-one, pow-succ', ← mul_assoc, t) e

pub whole_done : (s : Bool) (m up n : ℕ) → m * 10 ^ up ≡ n → (m % 10 ≡ 0 → ⊥) → record { neg = s; digits = m; up = up; down = 0 } ≡ normal s n 0 0
whole_done s m up n e h =
    let a : up ≡ 0 + up - 0 = omega arith in
    let b : 0 ≡ 0 - (0 + up) = omega arith in
    ap (λ (u : ℕ). record { neg = s; digits = m; up = u; down = 0 }) a ∙ ap (λ (d : ℕ). record { neg = s; digits = m; up = 0 + up - 0; down = d }) b
    ∙ sym (normal_times s m up 0 0 h) ∙ ap (λ (k : ℕ). normal s k 0 0) e

pub whole-nought : (s : Bool) (n : ℕ) → n ≡ 0 → nought ≡ normal s n 0 0
whole-nought s n e = rw e (sym (normal-nought s 0 0))

-- digits that end in no zero, with one power of ten at most
pub reduced-digits : (s : Bool) (m u v : ℕ) → (m % 10 ≡ 0 → ⊥) → (0 < v → u ≡ 0) → u ≤ 30 → v ≤ 30 → Reduced (record { neg = s; digits = m; up = u; down = v })
reduced-digits s m u v l one high low = record { last = λ z. absurd (l z); one = one; high = high; low = low }

-- a number of 64 bits ends in fewer than 20 zeros
few-zeros : (m up n : ℕ) → 0 < m → m * 10 ^ up ≡ n → n < 2 ^ 64 → up ≤ 30
few-zeros m up n p e h = go (dec_lt up 20)
  where
    go : Dec (up < 20) → up ≤ 30
    go (yes q) = omega arith
    go (no q) =
        let a : 10 ^ 20 ≤ 10 ^ up = pow-le-pow_right {n = 10} (lit< tt) {i = 20} {j = up} (omega arith) in
        let b : 1 * 10 ^ up ≤ m * 10 ^ up = mul-le-mul_right (10 ^ up) p in
        absurd (lt_irrefl 0 (omega arith))

pub whole-reduced : (s : Bool) (m up n : ℕ) → 0 < m → m * 10 ^ up ≡ n → n < 2 ^ 64 → (m % 10 ≡ 0 → ⊥) → Reduced (record { neg = s; digits = m; up = up; down = 0 })
whole-reduced s m up n p e h l = reduced-digits s m up 0 l (λ z. absurd (lt_irrefl 0 z)) (few-zeros m up n p e h) (omega arith)
