-- A bit that is set in a word: the others stay.
use Rattle.std.specs.Prelude.{ℕ, zero, suc, ◌+◌, ◌*◌, ◌/◌, ◌%◌, ◌^◌, ◌-◌, ◌≤◌, ◌<◌, ◌≡◌, refl, Bool, true, false, List, eqb, ltb, length, get_or, set}
use Rattle.std.proofs.Common.{sym, ap, ◌∙◌, mod-lt, one-mul, pow-suc, arith, eq-eqb, ne_eqb, ltb-true, ltb-false, lit<, get_or-set_same, get_or-set_other, pow-add}
use Rattle.std.proofs.Math.Nat.{div-eq_of_lt}
use Rattle.std.proofs.Math.Pow.{pow-lt}
use Rattle.std.proofs.lemmas.Nat.{shl-shr, or_shr, or_mod}
use Rattle.std.specs.Int.Bits.{bit_or, or_zero_r}
use Rattle.octets.specs.Pick.{pick}
use Rattle.bits.specs.Bits.{bit_in}

by_three : {P : Type 0} (j b : ℕ) → (j < b → P) → (j ≡ b → P) → (b < j → P) → P
by_three {P} j b f g h = go (ltb j b) refl
  where
    last : (t : Bool) → ltb b j ≡ t → b ≤ j → P
    last true e l = h (ltb-true b j e)
    last false e l = g (let m = ltb-false b j e in omega arith)

    go : (t : Bool) → ltb j b ≡ t → P
    go true e = f (ltb-true j b e)
    go false e = last (ltb b j) refl (ltb-false j b e)

-- a digit of a power of 2
power-digit : (b j : ℕ) → 2 ^ b / 2 ^ j % 2 ≡ pick (eqb j b) 1 0
power-digit b j =
    by_three j b
    (λ l. let d : b ≡ suc (b - suc j) + j = omega arith in
    let e : 2 ^ b ≡ 2 ^ suc (b - suc j) * 2 ^ j = ap (λ (n : ℕ). 2 ^ n) d ∙ pow-add 2 (suc (b - suc j)) j in
    let p : 2 ^ suc (b - suc j) % 2 ≡ 0 = let q = pow-suc 2 (b - suc j) in omega (arith, q) in
    ap (λ (n : ℕ). n / 2 ^ j % 2) e ∙ ap (λ (n : ℕ). n % 2) (shl-shr (2 ^ suc (b - suc j)) j) ∙ p ∙ rw (ne_eqb j b (λ z. omega arith)))
    (λ l. let e : 2 ^ b / 2 ^ j ≡ 1 = ap (λ (n : ℕ). 2 ^ b / 2 ^ n) l ∙ ap (λ (n : ℕ). n / 2 ^ b) (sym (one-mul (2 ^ b))) ∙ shl-shr 1 b in
    ap (λ (n : ℕ). n % 2) e ∙ rw (eq-eqb j b l))
    (λ l. let e : 2 ^ b / 2 ^ j ≡ 0 = div-eq_of_lt (pow-lt l) in
    ap (λ (n : ℕ). n % 2) e ∙ rw (ne_eqb j b (λ z. omega arith)))

or_digit : (x d : ℕ) → x < 2 → d < 2 → bit_or x d ≡ pick (eqb d 1) 1 x
or_digit x zero h k = or_zero_r x
or_digit zero (suc zero) h k = refl
or_digit (suc zero) (suc zero) h k = refl
or_digit (suc (suc x)) (suc zero) h k = absurd (omega arith)
or_digit x (suc (suc d)) h k = absurd (omega arith)

pick-one : (t : Bool) (x : ℕ) → pick (eqb (pick t 1 0) 1) 1 x ≡ pick t 1 x
pick-one true x = refl
pick-one false x = refl

-- a digit of a word after one was set
pub set-digit : (w b j : ℕ) → bit_or w (2 ^ b) / 2 ^ j % 2 ≡ pick (eqb j b) 1 (w / 2 ^ j % 2)
set-digit w b j =
    let x = w / 2 ^ j in
    let y = 2 ^ b / 2 ^ j in
    ap (λ (n : ℕ). n % 2) (or_shr w (2 ^ b) j) ∙ or_mod x y 1
    ∙ or_digit (x % 2) (y % 2) (mod-lt x (lit< tt)) (mod-lt y (lit< tt))
    ∙ ap (λ (n : ℕ). pick (eqb n 1) 1 (x % 2)) (power-digit b j) ∙ pick-one (eqb j b) (x % 2)

pick-bit : (t : Bool) (x : ℕ) → eqb (pick t 1 x) 1 ≡ pick t true (eqb x 1)
pick-bit true x = refl
pick-bit false x = refl

-- the bits of the words after one was set
pub set_bits : (ws : List ℕ) (at k j : ℕ) → at + k / 32 < length ws
    → bit_in (set ws (at + k / 32) (bit_or (get_or ws (at + k / 32) 0) (2 ^ (k % 32)))) at j ≡ pick (eqb j k) true (bit_in ws at j)
set_bits ws at k j h =
    by_three (j / 32) (k / 32) (λ l. other (λ e. omega arith)) (λ l. same l) (λ l. other (λ e. omega arith))
  where
    w : ℕ
    w = get_or ws (at + k / 32) 0

    other : (j / 32 ≡ k / 32 → ⊥) → bit_in (set ws (at + k / 32) (bit_or w (2 ^ (k % 32)))) at j ≡ pick (eqb j k) true (bit_in ws at j)
    other n =
        ap (λ (x : ℕ). eqb (x / 2 ^ (j % 32) % 2) 1) (get_or-set_other ws (at + k / 32) (at + j / 32) (bit_or w (2 ^ (k % 32))) 0 (λ e. n (omega arith)))
        ∙ sym (rw (ne_eqb j k (λ e. n (ap (λ (x : ℕ). x / 32) e))))

    same : j / 32 ≡ k / 32 → bit_in (set ws (at + k / 32) (bit_or w (2 ^ (k % 32)))) at j ≡ pick (eqb j k) true (bit_in ws at j)
    same e =
        let i : at + j / 32 ≡ at + k / 32 = omega arith in
        let g : get_or (set ws (at + k / 32) (bit_or w (2 ^ (k % 32)))) (at + j / 32) 0 ≡ bit_or w (2 ^ (k % 32)) =
        ap (λ (x : ℕ). get_or (set ws (at + k / 32) (bit_or w (2 ^ (k % 32)))) x 0) i ∙ get_or-set_same ws (at + k / 32) (bit_or w (2 ^ (k % 32))) 0 h in
        let v : get_or ws (at + j / 32) 0 ≡ w = ap (λ (x : ℕ). get_or ws x 0) i in
        let q : eqb (j % 32) (k % 32) ≡ eqb j k = by_three j k (λ l. ne_eqb (j % 32) (k % 32) (λ z. omega arith) ∙ sym (ne_eqb j k (λ z. omega arith)))
        (λ l. eq-eqb (j % 32) (k % 32) (ap (λ (x : ℕ). x % 32) l) ∙ sym (eq-eqb j k l)) (λ l. ne_eqb (j % 32) (k % 32) (λ z. omega arith) ∙ sym (ne_eqb j k (λ z. omega arith))) in
        ap (λ (x : ℕ). eqb (x / 2 ^ (j % 32) % 2) 1) g ∙ ap (λ (x : ℕ). eqb x 1) (set-digit w (k % 32) (j % 32))
        ∙ pick-bit (eqb (j % 32) (k % 32)) (w / 2 ^ (j % 32) % 2)
        ∙ ap (λ (t : Bool). pick t true (eqb (w / 2 ^ (j % 32) % 2) 1)) q
        ∙ ap (λ (x : ℕ). pick (eqb j k) true (eqb (x / 2 ^ (j % 32) % 2) 1)) (sym v)
