-- Bytes written as hexadecimal read back: every list of bytes has a text, and the text spells it.
use Rattle.std.specs.Prelude.{ℕ, suc, ◌+◌, ◌*◌, ◌/◌, ◌%◌, ◌≤◌, ◌<◌, ◌≡◌, refl, true, List, [], ◌∷◌, ltb, Some}
use Rattle.std.proofs.Common.{ap, arith, le-ltb, le-leb, ltb-true, ltb-false}
use Rattle.std.proofs.lemmas.Bool.{lt-leb}
use Rattle.octets.specs.Pick.{pick_ind}
use Rattle.octets.specs.Octets.{Octets}
use Rattle.hexlines.specs.Hexlines.{hex_value_lem, octet_of, is_hex_lem, spelt, hex_bytes, digit_of, hex_text}

-- a digit reads back
value_low : (v : ℕ) → v < 10 → hex_value_lem (48 + v) ≡ Some v
unfolding hex_value_lem
value_low v h =
    let a : 48 ≤ 48 + v = omega arith in
    let b : 48 + v ≤ 57 = omega arith in
    simp (le-ltb (48 + v) 48 a, le-leb (48 + v) 57 b) (ap Some (omega arith))

value-high : (v : ℕ) → 10 ≤ v → v < 16 → hex_value_lem (87 + v) ≡ Some v
unfolding hex_value_lem
value-high v h k =
    let a : 48 ≤ 87 + v = omega arith in
    let b : 57 < 87 + v = omega arith in
    let d : 97 ≤ 87 + v = omega arith in
    let e : 87 + v ≤ 102 = omega arith in
    simp (le-ltb (87 + v) 48 a, lt-leb (87 + v) 57 b, le-ltb (87 + v) 97 d, le-leb (87 + v) 102 e) (ap Some (omega arith))

pub value-digit : (v : ℕ) → v < 16 → hex_value_lem (digit_of v) ≡ Some v
unfolding digit_of
value-digit v h =
    pick_ind (λ (d : ℕ). hex_value_lem d ≡ Some v) (ltb v 10) (48 + v) (87 + v)
    (λ e. value_low v (ltb-true v 10 e)) (λ e. value-high v (ltb-false v 10 e) h)

-- the text of bytes is hexadecimal, and spells them
pub spelt-text : (bs : List ℕ) → Octets bs → (is_hex_lem (hex_text bs) ≡ true) × (spelt (hex_text bs) ≡ bs)
unfolding hex_text is_hex_lem spelt octet_of
spelt-text [] o = (refl, refl)
spelt-text (b ∷ bs) o =
    let h = value-digit (b / 16) (omega (arith, o 0)) in
    let l = value-digit (b % 16) (omega arith) in
    let r = spelt-text bs (λ i. o (suc i)) in
    let e : b / 16 * 16 + b % 16 ≡ b = omega arith in
    (rw (h, l) r.0, rw (h, l) (cc (e, r.1)))

pub bytes-text : (bs : List ℕ) → Octets bs → hex_bytes (hex_text bs) ≡ Some bs
unfolding hex_bytes
bytes-text bs o = let r = spelt-text bs o in rw (r.0, r.1)
