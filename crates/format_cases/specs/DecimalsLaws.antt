-- Laws of a decimal of a case: one that is as it is written there is normalised and within the limits of refusal 5.
use Rattle.std.specs.Prelude.{ℕ, ◌+◌, ◌-◌, ◌*◌, ◌%◌, ◌≤◌, ◌<◌, ◌≡◌, refl, Bool, true, false, List, ◌⊎◌, ltb, leb, eqb, length, get_or, None, Option, Some}
use Rattle.std.proofs.Common.{sym, ap, ◌∙◌, inl, inr, arith}
use borrow.Author.Tests.{lt-ltb, le-ltb, eq-eqb, ne_eqb, eqb-true, eqb-false, leb-false, ltb-false, le-leb, lt-leb}
use Rattle.octets.specs.Pick.{pick}
use Rattle.octets.specs.PickLaws.{both_hold, other_holds}
use Rattle.octets.specs.Octets.{num_at}
use Rattle.decimal.specs.declared.Decimal.{Decimal}
use Rattle.decimal.specs.Decimal.{nought, normal, Normal, Reduced}
use Rattle.decimal.specs.DecimalLaws.{normal-nought, normal_times, reduced}
use Rattle.decimal.specs.Written.{number_bytes}
use Rattle.format_cases.specs.Dicts.{made, decimal_at, is_decimal, decimal_told, number_answer}

no : ◌≡◌ {A = ℕ} 0 1 → ⊥
no h = omega arith

-- ---- zero

module _ (d : Decimal) (z : d.digits ≡ 0) where
  zero_is : is_decimal d ≡ pick d.neg false (pick (eqb d.up 0) (eqb d.down 0) false)
  unfolding is_decimal
  zero_is = rw (eq-eqb d.digits 0 z)

  pub zero-neg : d.neg ≡ true → false ≡ is_decimal d
  zero-neg e = sym (zero_is ∙ ap (λ (t : Bool). pick t false (pick (eqb d.up 0) (eqb d.down 0) false)) e)

  module _ (n : d.neg ≡ false) where
    positive : is_decimal d ≡ pick (eqb d.up 0) (eqb d.down 0) false
    positive = zero_is ∙ ap (λ (t : Bool). pick t false (pick (eqb d.up 0) (eqb d.down 0) false)) n

    pub zero-up : (d.up ≡ 0 → ⊥) → false ≡ is_decimal d
    zero-up h = sym (positive ∙ ap (λ (t : Bool). pick t (eqb d.down 0) false) (ne_eqb d.up 0 h))

    pub zero-down : d.up ≡ 0 → eqb d.down 0 ≡ is_decimal d
    zero-down h = sym (positive ∙ ap (λ (t : Bool). pick t (eqb d.down 0) false) (eq-eqb d.up 0 h))

  zero-normal : is_decimal d ≡ true → Normal d
  zero-normal e =
      let a = other_holds d.neg _ (sym zero_is ∙ e) in
      let b = both_hold (eqb d.up 0) (eqb d.down 0) a.1 in
      let u = eqb-true d.up 0 b.0 in
      let v = eqb-true d.down 0 b.1 in
      record {
        same = ap (λ (n : ℕ). normal d.neg n d.up d.down) z ∙ normal-nought d.neg d.up d.down
            ∙ fields d.neg d.digits d.up d.down a.0 z u v;
        few = let f : d.digits < 1000000000000000 = omega arith in f;
        high = omega arith;
        low = omega arith;
      }
    where
      fields : (s : Bool) (m u v : ℕ) → s ≡ false → m ≡ 0 → u ≡ 0 → v ≡ 0 → nought ≡ made s m u v
      fields s m u v a b c e = rw (a, b, c, e)

-- ---- digits

module _ (d : Decimal) (z : d.digits ≡ 0 → ⊥) where
  pub last-zero : d.digits % 10 ≡ 0 → false ≡ is_decimal d
  unfolding is_decimal
  last-zero h = rw (ne_eqb d.digits 0 z, eq-eqb (d.digits % 10) 0 h)

  module _ (l : d.digits % 10 ≡ 0 → ⊥) where
    pub too_many : 1000000000000000 ≤ d.digits → false ≡ is_decimal d
    unfolding is_decimal
    too_many h = rw (ne_eqb d.digits 0 z, ne_eqb (d.digits % 10) 0 l, le-leb 1000000000000000 d.digits h)

    module _ (m : d.digits < 1000000000000000) where
      pub too_high : 30 < d.up → false ≡ is_decimal d
      unfolding is_decimal
      too_high h = rw (ne_eqb d.digits 0 z, ne_eqb (d.digits % 10) 0 l, lt-leb 1000000000000000 d.digits m, lt-ltb 30 d.up h)

      module _ (u : d.up ≤ 30) where
        pub too_low : 30 < d.down → false ≡ is_decimal d
        unfolding is_decimal
        too_low h =
            rw (ne_eqb d.digits 0 z, ne_eqb (d.digits % 10) 0 l, lt-leb 1000000000000000 d.digits m, le-ltb 30 d.up u, lt-ltb 30 d.down h)

        module _ (v : d.down ≤ 30) where
          powers : is_decimal d ≡ pick (eqb d.down 0) true (eqb d.up 0)
          unfolding is_decimal
          powers =
              rw (ne_eqb d.digits 0 z, ne_eqb (d.digits % 10) 0 l, lt-leb 1000000000000000 d.digits m, le-ltb 30 d.up u, le-ltb 30 d.down v)

          pub whole : d.down ≡ 0 → true ≡ is_decimal d
          whole h = sym (powers ∙ ap (λ (t : Bool). pick t true (eqb d.up 0)) (eq-eqb d.down 0 h))

          pub one_power : (d.down ≡ 0 → ⊥) → eqb d.up 0 ≡ is_decimal d
          one_power h = sym (powers ∙ ap (λ (t : Bool). pick t true (eqb d.up 0)) (ne_eqb d.down 0 h))

  either-power : (t : Bool) → eqb d.down 0 ≡ t → pick t true (eqb d.up 0) ≡ true → (d.down ≡ 0) ⊎ (d.up ≡ 0)
  either-power true e h = inl (eqb-true d.down 0 e)
  either-power false e h = inr (eqb-true d.up 0 h)

  digits_is : is_decimal d ≡ true
      → pick (eqb (d.digits % 10) 0) false
      (pick (leb 1000000000000000 d.digits) false
      (pick (ltb 30 d.up) false (pick (ltb 30 d.down) false (pick (eqb d.down 0) true (eqb d.up 0))))) ≡ true
  unfolding is_decimal
  digits_is e = rw (ne_eqb d.digits 0 z) at e

  digits-normal : is_decimal d ≡ true → Normal d
  digits-normal e =
      let a = other_holds (eqb (d.digits % 10) 0) _ (digits_is e) in
      let b = other_holds (leb 1000000000000000 d.digits) _ a.1 in
      let c = other_holds (ltb 30 d.up) _ b.1 in
      let f = other_holds (ltb 30 d.down) _ c.1 in
      let o = either-power (eqb d.down 0) refl f.1 in
      let l = eqb-false (d.digits % 10) 0 a.0 in
      record {
        same = same_of o l;
        few = let m : d.digits < 1000000000000000 = leb-false 1000000000000000 d.digits b.0 in m;
        high = ltb-false 30 d.up c.0;
        low = ltb-false 30 d.down f.0;
      }
    where
      fields : (s : Bool) (m u v x y : ℕ) → x ≡ u → y ≡ v → made s m x y ≡ made s m u v
      fields s m u v x y a b = rw (a, b)

      scaled-same : d.up + 0 - d.down ≡ d.up → d.down - (d.up + 0) ≡ d.down → (d.digits % 10 ≡ 0 → ⊥) → normal d.neg d.digits d.up d.down ≡ d
      scaled-same p q l =
          let t : d.digits ≡ d.digits * 1 = omega arith in
          ap (λ (n : ℕ). normal d.neg n d.up d.down) t ∙ normal_times d.neg d.digits 0 d.up d.down l
          ∙ fields d.neg d.digits d.up d.down _ _ p q

      same_of : (d.down ≡ 0) ⊎ (d.up ≡ 0) → (d.digits % 10 ≡ 0 → ⊥) → normal d.neg d.digits d.up d.down ≡ d
      same_of (inl k) l = scaled-same (omega arith) (omega arith) l
      same_of (inr k) l = scaled-same (omega arith) (omega arith) l

-- a decimal of a case is one that a DICT can hold
pub decimal-normal : (d : Decimal) → is_decimal d ≡ true → Normal d
decimal-normal d e = go (eqb d.digits 0) refl
  where
    go : (t : Bool) → eqb d.digits 0 ≡ t → Normal d
    go true f = zero-normal d (eqb-true d.digits 0 f) e
    go false f = digits-normal d (eqb-false d.digits 0 f) e

pub decimal-reduced : (d : Decimal) → is_decimal d ≡ true → Reduced d
decimal-reduced d e = reduced d (decimal-normal d e)

-- ---- the ways out

-- what is told of a decimal
module _ (c : Decimal) (r : Option Decimal) (e : r ≡ decimal_told c) where
  pub told_none : r ≡ None → is_decimal c ≡ false
  told_none f = go (is_decimal c) (sym e ∙ f)
    where
      go : (t : Bool) → pick t (Some c) None ≡ None → t ≡ false
      go true g = absurd (no cc)
      go false g = refl

  pub told_some : (d : Decimal) → r ≡ Some d → (d ≡ c) × (is_decimal d ≡ true)
  told_some d f = go (is_decimal c) refl (sym e ∙ f)
    where
      go : (t : Bool) → is_decimal c ≡ t → pick t (Some c) None ≡ Some d → (d ≡ c) × (is_decimal d ≡ true)
      go true k g = let h : d ≡ c = cc in (h, ap is_decimal h ∙ k)
      go false k g = absurd (no cc)

module _ (d : Decimal) (t : is_decimal d ≡ true) where
  pub told_made : Some d ≡ decimal_told d
  told_made = sym (ap (λ (b : Bool). pick b (Some d) None) t)

pub told_not : (d : Decimal) → is_decimal d ≡ false → None ≡ decimal_told d
told_not d t = sym (ap (λ (b : Bool). pick b (Some d) None) t)

pub decimal_is : (s : List ℕ) (high low up down : ℕ) → high ≡ num_at s 1 4 → low ≡ num_at s 5 4 → up ≡ get_or s 9 0 → down ≡ get_or s 10 0
    → made (eqb (get_or s 0 0) 1) (high * 4294967296 + low) up down ≡ decimal_at s
unfolding decimal_at
decimal_is s high low up down a b c e = rw (a, b, c, e)

module _ (s : List ℕ) where
  pub number_size : (length s ≡ 11 → ⊥) → number_answer s ≡ None
  unfolding number_answer
  number_size h = rw (ne_eqb (length s) 11 h)

  module _ (h : length s ≡ 11) where
    pub number-sign : 1 < get_or s 0 0 → number_answer s ≡ None
    unfolding number_answer
    number-sign k = rw (eq-eqb (length s) 11 h, lt-ltb 1 (get_or s 0 0) k)

    module _ (k : get_or s 0 0 ≤ 1) (d : Decimal) (e : d ≡ decimal_at s) where
      number_is : number_answer s ≡ pick (is_decimal d) (Some (number_bytes d)) None
      unfolding number_answer
      number_is =
          rw (eq-eqb (length s) 11 h, le-ltb 1 (get_or s 0 0) k)
          (ap (λ (c : Decimal). pick (is_decimal c) (Some (number_bytes c)) None) (sym e))

      pub number-none : is_decimal d ≡ false → number_answer s ≡ None
      number-none f = number_is ∙ ap (λ (t : Bool). pick t (Some (number_bytes d)) None) f

      pub number-found : is_decimal d ≡ true → number_answer s ≡ Some (number_bytes d)
      number-found f = number_is ∙ ap (λ (t : Bool). pick t (Some (number_bytes d)) None) f
