-- Laws of f32 arithmetic on counts of 65536ths.
use Rattle.std.specs.Prelude.{◌≡◌, ℕ, zero, suc, ◌+◌, ◌-◌, ◌*◌, ◌^◌, ◌≤◌, ◌<◌, Bool, true, false, not, cond, ltb, pos, neg_ℤ, Float}
use Rattle.std.proofs.Math.Path.{refl}
use Rattle.std.proofs.Common.{sym, ap, ◌∙◌, mul-one, mul_comm, mul_assoc, mul_left_comm, mul_right_comm, mul-pos, zero-lt-suc, add-mul, lt_of_lt_of_le, mul-lt-mul_of_pos_right, lt_irrefl, arith, true≢false, lit<, lit≤, shl_lt, lt-ltb, le-ltb, le-leb}
use Rattle.std.proofs.Math.Nat.{mul-sub}
use Rattle.std.proofs.lemmas.Bool.{false≢true, lt-leb}
use Rattle.std.specs.Float.{nan, inf, fin, Format, binary32}
use Rattle.std.specs.Float.Ieee.{prec, emax, low, up, down, round, units, odd, neg, sum, add, div, of_int, of_bits}
use Rattle.std.specs.Float.Ieee.Fits.{round_is, down_pos}
use Rattle.std.specs.Float.Ieee.Exact.{HasValue, round_exact}
use Rattle.std.specs.Float.Ieee.Back.{round_whole}
use Rattle.std.specs.Float.Ieee.Scale.{round_same}
use Rattle.type2_number.specs.Number.{whole, fixed}
use Rattle.type2_number.specs.Floats.{float_of}

-- ---- the negative of a rounded value
neg-odd : (d : ℕ) (s : Bool) (q k l : ℕ) → neg (odd d s q k l) ≡ odd d (not s) q k l
unfolding neg odd
neg-odd d s zero k l = refl
neg-odd d s (suc q) k l = refl

neg-units : (f : Format) (s : Bool) (q k : ℕ) → neg (units f s q k) ≡ units f (not s) q k
unfolding units
neg-units f s q k = go (ltb (q * 2 ^ k) (2 ^ (low f + suc (emax f))))
  where
    go : (b : Bool) → neg (cond b (odd (suc (prec f)) s q k (low f)) (inf s)) ≡ cond b (odd (suc (prec f)) (not s) q k (low f)) (inf (not s))
    go true = neg-odd (suc (prec f)) s q k (low f)
    go false = unfold neg in refl

pub neg-round : (f : Format) (s : Bool) (n d : ℕ) → neg (round f s n d) ≡ round f (not s) n d
neg-round f s n d = ap neg (round_is f s n d) ∙ neg-units f s _ _ ∙ sym (round_is f (not s) n d)

-- ---- what `float_of` is
pub float_of_pos : (n : ℕ) → float_of (pos n) ≡ round binary32 false n 65536
unfolding float_of
float_of_pos n = refl

pub float_of-neg : (n : ℕ) → 0 < n → float_of (neg_ℤ (pos n)) ≡ round binary32 true n 65536
unfolding float_of
float_of-neg zero h = absurd (lt_irrefl 0 h)
float_of-neg (suc n) h = refl

pub of_int_pos : (n : ℕ) → of_int binary32 (pos n) ≡ round binary32 false n 1
unfolding of_int
of_int_pos n = refl

-- ---- a - b as a float
pub int_pos : (a b : ℕ) → b ≤ a → of_int binary32 (pos (a - b)) ≡ float_of (whole a b)
int_pos a b h =
    let t : b * 65536 ≤ a * 65536 = omega arith in
    rw (le-leb (b * 65536) (a * 65536) t)
    (of_int_pos (a - b) ∙ round_same binary32 false (a - b) 1 (a * 65536 - b * 65536) 65536 (zero-lt-suc 0) (lit< tt) (omega arith) ∙ sym (float_of_pos (a * 65536 - b * 65536)))

pub int_neg : (a b : ℕ) → a < b → neg (of_int binary32 (pos (b - a))) ≡ float_of (whole a b)
int_neg a b h =
    let t : a * 65536 < b * 65536 = omega arith in
    rw (lt-leb (b * 65536) (a * 65536) t)
    (ap neg (of_int_pos (b - a)) ∙ neg-round binary32 false (b - a) 1
    ∙ round_same binary32 true (b - a) 1 (b * 65536 - a * 65536) 65536 (zero-lt-suc 0) (lit< tt) (omega arith)
    ∙ sym (float_of-neg (b * 65536 - a * 65536) (omega arith)))

-- ---- l / 65536 is exact
div-at : (x : Float) (l : ℕ) → HasValue x false l 1 → div binary32 x (fin false 1 (pos 16)) ≡ round binary32 false l 65536
unfolding div
div-at nan l v = absurd v
div-at (inf s) l v = absurd v
div-at (fin true m e) l v = absurd (true≢false v.0)
div-at (fin false m e) l v =
    round_same binary32 false (m * up e * 1) (65536 * down e) l 65536 (mul-pos (lit< tt) (down_pos e)) (lit< tt)
    (ap (λ (z : ℕ). z * 65536) v.1 ∙ mul_assoc l (down e) 65536 ∙ ap (λ (z : ℕ). l * z) (mul_comm (down e) 65536))

pub fixed-val : (s : Bool) (n : ℕ) → n < 2 ^ 24 → HasValue (round binary32 s n 65536) s n 65536
fixed-val s n h =
    round_exact binary32 s n 65536 n 133 (lit< tt) h (lt_of_lt_of_le (shl_lt 24 133 h) (lit≤ tt)) (sym (mul_assoc n (2 ^ 133) 65536))

part-val : (l : ℕ) → l < 65536 → HasValue (div binary32 (of_int binary32 (pos l)) (of_bits binary32 0x47800000)) false l 65536
unfolding of_bits
part-val l h =
    let a : l < 2 ^ 24 = omega arith in
    let b : l ≤ 2 ^ 24 = omega arith in
    let v : HasValue (of_int binary32 (pos l)) false l 1 = rw of_int_pos (round_whole binary32 false l b) in
    rw (div-at (of_int binary32 (pos l)) l v) (fixed-val false l a)

-- ---- the one addition
term_a : (x a E D : ℕ) → x * 1 ≡ a * E → x * D * 65536 ≡ a * 65536 * (E * D)
term_a x a E D p =
    ap (λ (z : ℕ). z * D * 65536) (sym (mul-one x) ∙ p) ∙ simp (mul_assoc, mul_comm, mul_left_comm)

term_b : (y b E D : ℕ) → y * 65536 ≡ b * D → y * E * 65536 ≡ b * (E * D)
term_b y b E D q = mul_right_comm y E 65536 ∙ ap (λ (z : ℕ). z * E) q ∙ mul_assoc b D E ∙ ap (λ (z : ℕ). b * z) (mul_comm D E)

plus : (x y : Float) (a b : ℕ) → HasValue x false a 1 → HasValue y false b 65536 → add binary32 x y ≡ round binary32 false (a * 65536 + b) 65536
unfolding add sum
plus nan y a b v w = absurd v
plus (inf s) y a b v w = absurd v
plus (fin s m e) nan a b v w = absurd w
plus (fin s m e) (inf t) a b v w = absurd w
plus (fin true m e) (fin t n d) a b v w = absurd (true≢false v.0)
plus (fin false m e) (fin true n d) a b v w = absurd (true≢false w.0)
plus (fin false m e) (fin false n d) a b v w =
    round_same binary32 false (m * up e * down d + n * up d * down e) (down e * down d) (a * 65536 + b) 65536 (mul-pos (down_pos e) (down_pos d)) (lit< tt)
    (add-mul (m * up e * down d) (n * up d * down e) 65536
    ∙ ap (λ (z : ℕ). z + n * up d * down e * 65536) (term_a (m * up e) a (down e) (down d) v.1)
    ∙ ap (λ (z : ℕ). a * 65536 * (down e * down d) + z) (term_b (n * up d) b (down e) (down d) w.1)
    ∙ sym (add-mul (a * 65536) b (down e * down d)))

sub-mul : (a b c : ℕ) → (a - b) * c ≡ a * c - b * c
sub-mul a b c = mul_comm (a - b) c ∙ mul-sub c a b ∙ ap (λ (z : ℕ). z - c * b) (mul_comm c a) ∙ ap (λ (z : ℕ). a * c - z) (mul_comm c b)

-- A / C - B / C, as `sum` has it, with the larger one negative
less : (A B C a b : ℕ) → 0 < C → A * 65536 ≡ a * 65536 * C → B * 65536 ≡ b * C → b < a * 65536
    → cond (ltb A B) (round binary32 false (B - A) C) (round binary32 (ltb B A) (A - B) C) ≡ round binary32 true (a * 65536 - b) 65536
less A B C a b P p q h =
    let k : b * C < a * 65536 * C = mul-lt-mul_of_pos_right h P in
    let l : B < A = omega arith in
    let l' : B ≤ A = omega arith in
    let g : (a * 65536 - b) * C ≡ a * 65536 * C - b * C = sub-mul (a * 65536) b C in
    rw (le-ltb A B l', lt-ltb B A l) (round_same binary32 true (A - B) C (a * 65536 - b) 65536 P (lit< tt) (omega arith))

minus : (x y : Float) (a b : ℕ) → HasValue x true a 1 → HasValue y false b 65536 → b < a * 65536 → add binary32 x y ≡ round binary32 true (a * 65536 - b) 65536
unfolding add sum
minus nan y a b v w h = absurd v
minus (inf s) y a b v w h = absurd v
minus (fin s m e) nan a b v w h = absurd w
minus (fin s m e) (inf t) a b v w h = absurd w
minus (fin false m e) (fin t n d) a b v w h = absurd (false≢true v.0)
minus (fin true m e) (fin true n d) a b v w h = absurd (true≢false w.0)
minus (fin true m e) (fin false n d) a b v w h =
    less (m * up e * down d) (n * up d * down e) (down e * down d) a b (mul-pos (down_pos e) (down_pos d))
    (term_a (m * up e) a (down e) (down d) v.1) (term_b (n * up d) b (down e) (down d) w.1) h

int_val : (n : ℕ) → n ≤ 65536 → HasValue (of_int binary32 (pos n)) false n 1
int_val n h = rw of_int_pos (round_whole binary32 false n (omega arith))

neg-val : (n : ℕ) → n ≤ 65536 → HasValue (neg (of_int binary32 (pos n))) true n 1
neg-val n h = rw (of_int_pos, neg-round) (round_whole binary32 true n (omega arith))

pub fixed_pos : (h l : ℕ) → h < 32768 → l < 65536
    → add binary32 (of_int binary32 (pos h)) (div binary32 (of_int binary32 (pos l)) (of_bits binary32 0x47800000)) ≡ float_of (fixed h l)
fixed_pos h l p q =
    rw (lt-ltb h 32768 p, le-leb 0 (h * 65536 + l) (omega arith))
    (plus (of_int binary32 (pos h)) (div binary32 (of_int binary32 (pos l)) (of_bits binary32 0x47800000)) h l (int_val h (omega arith)) (part-val l q)
    ∙ sym (float_of_pos (h * 65536 + l)) ∙ ap (λ (z : ℕ). float_of (pos z)) (omega arith))

pub fixed-neg : (h l : ℕ) → 32768 ≤ h → h < 65536 → l < 65536
    → add binary32 (neg (of_int binary32 (pos (65536 - h)))) (div binary32 (of_int binary32 (pos l)) (of_bits binary32 0x47800000)) ≡ float_of (fixed h l)
fixed-neg h l p r q =
    let t : h * 65536 + l < 4294967296 = omega arith in
    rw (le-ltb h 32768 p, lt-leb 4294967296 (h * 65536 + l) t)
    (minus (neg (of_int binary32 (pos (65536 - h)))) (div binary32 (of_int binary32 (pos l)) (of_bits binary32 0x47800000)) (65536 - h) l (neg-val (65536 - h) (omega arith)) (part-val l q) (omega arith)
    ∙ ap (λ (z : ℕ). round binary32 true z 65536) (omega arith)
    ∙ sym (float_of-neg (4294967296 - (h * 65536 + l)) (omega arith)))
