-- Two values that a format holds, with one sign and one fraction, are one value.
use Rattle.std.specs.Prelude.{◌≡◌, refl, ℕ, zero, suc, ◌+◌, ◌*◌, ◌%◌, ◌^◌, ◌<◌, Bool, ◌&&◌, T, ltb, leb, eqb, ℤ, pos, negsuc, Float}
use Rattle.std.proofs.Common.{sym, ap, ◌∙◌, subst, mul-one, one-mul, mul_assoc, mul_left_comm, mul_right_comm, mul-pos, zero-lt-suc, zero-mul, lt_irrefl, pow-suc, arith, eqb→eq, pow_pos, pow-add}
use Rattle.std.proofs.Math.Nat.{pow-succ', eq_of_mul-eq-mul_right}
use Rattle.std.specs.Float.{nan, inf, fin, Format}
use Rattle.std.specs.Float.Ieee.{prec, emax, low, up, down, fits}
use Rattle.std.specs.Float.Ieee.Fits.{and_l, up_pos, down_pos}
use Rattle.std.specs.Float.Ieee.Exact.{HasValue}

even_odd : (m t : ℕ) → m % 2 ≡ 1 → m ≡ 2 * t → ⊥
even_odd m t o h = omega arith

odd_pow : (m n a b : ℕ) → m % 2 ≡ 1 → n % 2 ≡ 1 → m * 2 ^ a ≡ n * 2 ^ b → (m ≡ n) × (a ≡ b)
odd_pow m n zero zero o p h = (sym (mul-one m) ∙ h ∙ mul-one n, refl)
odd_pow m n zero (suc b) o p h = absurd (even_odd m (n * 2 ^ b) o (sym (mul-one m) ∙ h ∙ ap (λ (x : ℕ). n * x) (pow-succ' 2 b) ∙ mul_left_comm n 2 (2 ^ b)))
odd_pow m n (suc a) zero o p h = absurd (even_odd n (m * 2 ^ a) p (sym (mul-one n) ∙ sym h ∙ ap (λ (x : ℕ). m * x) (pow-succ' 2 a) ∙ mul_left_comm m 2 (2 ^ a)))
odd_pow m n (suc a) (suc b) o p h =
    let r = odd_pow m n a b o p (eq_of_mul-eq-mul_right 2 (zero-lt-suc 1) (m * 2 ^ a) (n * 2 ^ b)
    (mul_assoc m (2 ^ a) 2 ∙ ap (λ (x : ℕ). m * x) (sym (pow-suc 2 a)) ∙ h ∙ ap (λ (x : ℕ). n * x) (pow-suc 2 b) ∙ sym (mul_assoc n (2 ^ b) 2))) in
    (r.0, ap suc r.1)

is_odd : (f : Format) (s : Bool) (m : ℕ) (e : ℤ) → T (fits f (fin s (suc m) e)) → suc m % 2 ≡ 1
unfolding fits
is_odd f s m e t =
    eqb→eq (suc m % 2) 1 (and_l (eqb (suc m % 2) 1) (ltb (suc m) (2 ^ prec f)) (and_l (eqb (suc m % 2) 1 && ltb (suc m) (2 ^ prec f)) (leb (down e) (2 ^ low f))
    (and_l (eqb (suc m % 2) 1 && ltb (suc m) (2 ^ prec f) && leb (down e) (2 ^ low f)) (ltb (suc m * up e) (2 ^ suc (emax f) * down e)) t)))

two_up : (p : ℕ) → 0 < p → 2 * p ≡ 1 → ⊥
two_up p h e = omega arith

flat : (e : ℤ) → up e * down e ≡ 1 → e ≡ pos 0
flat (pos zero) h = refl
flat (pos (suc k)) h = absurd (two_up (2 ^ k) (pow_pos k) (sym (pow-succ' 2 k) ∙ sym (mul-one (2 ^ suc k)) ∙ h))
flat (negsuc k) h = absurd (two_up (2 ^ k) (pow_pos k) (sym (pow-succ' 2 k) ∙ sym (one-mul (2 ^ suc k)) ∙ h))

zero_exp : (f : Format) (s : Bool) (e : ℤ) → T (fits f (fin s zero e)) → e ≡ pos 0
unfolding fits
zero_exp f s e t = flat e (eqb→eq (up e * down e) 1 t)

-- the two magnitudes, cross-multiplied
cross : (x y a c E G : ℕ) → 0 < c → x * c ≡ a * E → y * c ≡ a * G → x * G ≡ y * E
cross x y a c E G C p q =
    eq_of_mul-eq-mul_right c C (x * G) (y * E)
    (mul_right_comm x G c ∙ ap (λ (z : ℕ). z * G) p ∙ mul_right_comm a E G ∙ ap (λ (z : ℕ). z * E) (sym q) ∙ mul_right_comm y c E)

-- odd significands with one value have one exponent
same : (m n : ℕ) (e g : ℤ) → m % 2 ≡ 1 → n % 2 ≡ 1 → m * up e * down g ≡ n * up g * down e → (m ≡ n) × (e ≡ g)
same m n (pos a) (pos b) o p h =
    let r = odd_pow m n a b o p (sym (mul-one (m * 2 ^ a)) ∙ h ∙ mul-one (n * 2 ^ b)) in
    (r.0, ap pos r.1)
same m n (pos a) (negsuc b) o p h =
    let r = odd_pow m n (a + suc b) 0 o p (ap (λ (z : ℕ). m * z) (pow-add 2 a (suc b)) ∙ sym (mul_assoc m (2 ^ a) (2 ^ suc b)) ∙ h ∙ mul-one (n * 1)) in
    absurd (let q : a + suc b ≡ 0 = r.1 in omega arith)
same m n (negsuc a) (pos b) o p h =
    let r = odd_pow m n 0 (b + suc a) o p (sym (mul-one (m * 1)) ∙ h ∙ mul_assoc n (2 ^ b) (2 ^ suc a) ∙ ap (λ (z : ℕ). n * z) (sym (pow-add 2 b (suc a)))) in
    absurd (let q : 0 ≡ b + suc a = r.1 in omega arith)
same m n (negsuc a) (negsuc b) o p h =
    let r = odd_pow m n (suc b) (suc a) o p (ap (λ (z : ℕ). z * 2 ^ suc b) (sym (mul-one m)) ∙ h ∙ ap (λ (z : ℕ). z * 2 ^ suc a) (mul-one n)) in
    (r.0, ap negsuc (let q : suc b ≡ suc a = r.1 in omega arith))

no_zero : (m : ℕ) (e g : ℤ) (x : ℕ) → x ≡ 0 → suc m * up e * down g ≡ x → ⊥
no_zero m e g x z h = lt_irrefl 0 (subst (λ (k : ℕ). 0 < k) (h ∙ z) (mul-pos (mul-pos (zero-lt-suc m) (up_pos e)) (down_pos g)))

nothing : (e g : ℤ) → zero * up e * down g ≡ 0
nothing e g = ap (λ (z : ℕ). z * down g) (zero-mul (up e)) ∙ zero-mul (down g)

pub unique : (f : Format) (x y : Float) (s : Bool) (a c : ℕ) → 0 < c → T (fits f x) → T (fits f y) → HasValue x s a c → HasValue y s a c → x ≡ y
unique f nan y s a c C p q v w = absurd v
unique f (inf t) y s a c C p q v w = absurd v
unique f (fin t m e) nan s a c C p q v w = absurd w
unique f (fin t m e) (inf u) s a c C p q v w = absurd w
unique f (fin t zero e) (fin u zero g) s a c C p q v w = λ i. fin ((v.0 ∙ sym w.0) i) zero ((zero_exp f t e p ∙ sym (zero_exp f u g q)) i)
unique f (fin t zero e) (fin u (suc n) g) s a c C p q v w =
    absurd (no_zero n g e (zero * up e * down g) (nothing e g) (cross (suc n * up g) (zero * up e) a c (down g) (down e) C w.1 v.1))
unique f (fin t (suc m) e) (fin u zero g) s a c C p q v w =
    absurd (no_zero m e g (zero * up g * down e) (nothing g e) (cross (suc m * up e) (zero * up g) a c (down e) (down g) C v.1 w.1))
unique f (fin t (suc m) e) (fin u (suc n) g) s a c C p q v w =
    let r = same (suc m) (suc n) e g (is_odd f t m e p) (is_odd f u n g q) (cross (suc m * up e) (suc n * up g) a c (down e) (down g) C v.1 w.1) in
    λ i. fin ((v.0 ∙ sym w.0) i) (r.0 i) (r.1 i)
