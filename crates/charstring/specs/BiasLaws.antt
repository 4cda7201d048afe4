-- Laws of a call's operand: the bias is no more than 32,768; the number that an operand names, by its sign and its size; the number just before a place.
use Rattle.std.specs.Prelude.{ℕ, suc, ◌+◌, ◌-◌, ◌/◌, ◌%◌, ◌≤◌, ◌<◌, ◌≡◌, Bool, true, false, List, ltb, ℤ, pos, negsuc, None, Option, Some, SomeIff}
use Rattle.std.proofs.Common.{sym, ap, ◌∙◌, subst, true≢false, arith, refl, lt-ltb, le-ltb, eq-eqb, ne_eqb, le-leb}
use Rattle.std.proofs.lemmas.Bool.{false≢true, lt-leb}
use Rattle.octets.specs.Pick.{pick, pick_ind}
use Rattle.type2_number.specs.Number.{Read, cut, operator, number, number_at, is_neg, mag}
use Rattle.type2_number.specs.Answers.{number_of}
use Rattle.type2_number.specs.declared.Number.{Number}
use Rattle.type2_number.specs.declared.Number.TheVariants.{Num, Cut, Operator}
use Rattle.charstring.specs.Bias.{bias_of, numbered, last_of, last_at}

bias_small : (count : ℕ) → bias_of count ≤ 32768
bias_small count =
    pick_ind (λ (b : ℕ). b ≤ 32768) (ltb count 1240) 107 (pick (ltb count 33900) 1131 32768) (λ t. omega arith)
    (λ t. pick_ind (λ (b : ℕ). b ≤ 32768) (ltb count 33900) 1131 32768 (λ u. omega arith) (λ u. omega arith))

pub bias_few : (b count : ℕ) → b ≡ bias_of count → b ≤ 32768
bias_few b count e = subst (λ (k : ℕ). k ≤ 32768) (sym e) (bias_small count)

-- ---- the subroutine that an operand names, as the code finds it

module _ (bias : ℕ) where
  fraction : (z : ℤ) → (mag z % 65536 ≡ 0 → ⊥) → None ≡ numbered bias z
  fraction (pos m) k = rw (ne_eqb (m % 65536) 0 k)
  fraction (negsuc m) k = rw (ne_eqb (suc m % 65536) 0 k)

  before-first : (z : ℤ) → is_neg z ≡ true → mag z % 65536 ≡ 0 → bias < mag z / 65536 → None ≡ numbered bias z
  before-first (pos m) u k l = absurd (false≢true u)
  before-first (negsuc m) u k l = rw (eq-eqb (suc m % 65536) 0 k, lt-leb (suc m / 65536) bias l)

  down : (z : ℤ) → is_neg z ≡ true → mag z % 65536 ≡ 0 → mag z / 65536 ≤ bias → Some (bias - mag z / 65536) ≡ numbered bias z
  down (pos m) u k l = absurd (false≢true u)
  down (negsuc m) u k l = rw (eq-eqb (suc m % 65536) 0 k, le-leb (suc m / 65536) bias l)

  up : (z : ℤ) → is_neg z ≡ false → mag z % 65536 ≡ 0 → Some (mag z / 65536 + bias) ≡ numbered bias z
  up (pos m) u k = rw (eq-eqb (m % 65536) 0 k)
  up (negsuc m) u k = absurd (true≢false u)

  module _ (z : ℤ) (size : ℕ) (g : size ≡ mag z) where
    pub number-fraction : (size % 65536 ≡ 0 → ⊥) → None ≡ numbered bias z
    number-fraction n = fraction z (λ e. n (ap (λ (k : ℕ). k % 65536) g ∙ e))

    module _ (neg : Bool) (n : neg ≡ is_neg z) (h : size % 65536 ≡ 0) (added : ℕ) (a : added ≡ bias) where
      even : mag z % 65536 ≡ 0
      even = ap (λ (k : ℕ). k % 65536) (sym g) ∙ h

      pub number-down : neg ≡ true → (r : Option ℕ) → SomeIff r (size / 65536 ≤ added) (added - size / 65536) → r ≡ numbered bias z
      number-down t None o = before-first z (sym n ∙ t) even (subst (λ (k : ℕ). bias < k / 65536) g (subst (λ (k : ℕ). k < size / 65536) a (omega (arith, o))))
      number-down t (Some x) o =
          ap Some (o.1 ∙ ap (λ (k : ℕ). k - size / 65536) a ∙ ap (λ (k : ℕ). bias - k / 65536) g)
          ∙ down z (sym n ∙ t) even (subst (λ (k : ℕ). k / 65536 ≤ bias) g (subst (λ (k : ℕ). size / 65536 ≤ k) a o.0))

      pub number_up : neg ≡ false → Some (size / 65536 + added) ≡ numbered bias z
      number_up t = ap (λ (k : ℕ). Some (size / 65536 + k)) a ∙ ap (λ (k : ℕ). Some (k / 65536 + bias)) g ∙ up z (sym n ∙ t) even

-- ---- the number just before a place, as the code finds it

abbrev told : Number → Option ℤ
told (Num v n) = Some v
told Cut = None
told Operator = None

told_as : (q : Read) → told (number_of q) ≡ last_of q
told_as cut = refl
told_as operator = refl
told_as (number z n) = refl

module _ (s : List ℕ) (from at : ℕ) where
  pub last-read : from < at → (r : Number) → r ≡ number_of (number_at s from) → (u : Number) → r ≡ u → told u ≡ last_at s from at
  last-read h r e u f = rw (lt-ltb from at h) (ap told (sym f ∙ e) ∙ told_as (number_at s from))

  pub last_none : at ≤ from → None ≡ last_at s from at
  last_none h = rw (le-ltb from at h)
