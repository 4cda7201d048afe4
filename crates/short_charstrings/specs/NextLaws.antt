-- What `next_of` is: the least short charstring behind what is given, or that there is none (document 02, Wish 13). And that the order is strict and total.
use Rattle.std.specs.Prelude.{ℕ, zero, suc, ◌+◌, ◌-◌, ◌≤◌, ◌<◌, ◌≡◌, refl, Bool, true, false, List, [], ◌∷◌, eqb}
use Rattle.std.proofs.Common.{sym, ap, ◌∙◌, arith, lt-ltb, le-ltb, ltb-true, ltb-false, eqb-true}
use Rattle.std.proofs.lemmas.Bool.{eqb-false}
use Rattle.octets.specs.Pick.{pick}
use Rattle.octets.specs.PickLaws.{not_true}
use Rattle.short_charstrings.specs.Short.{is_short, comes_before}
use Rattle.short_charstrings.specs.Next.{refused, may_be_given, IsNext, candidates, candidate, place_of, Found, nowhere, found, first_from_lem, start_of, answer_at, next_of}
use Rattle.short_charstrings.specs.OrderLaws.{Ending, ending, place-back, place-fits, before-place, before-nothing, candidate-ends}
use Rattle.refusal.specs.declared.Refusal.TheVariants.{Malformed}

pub never : true ≡ false → ⊥
never e = let z : ◌≡◌ {A = ℕ} 1 0 = ap (λ (t : Bool). pick t 1 0) e in omega (arith, z)

-- ---- the order of short charstrings is strict and total

module _ (s : List ℕ) (a : is_short s ≡ true) where
  pub before_strict : comes_before s s ≡ false
  before_strict = before-place (ending s a) (ending s a) ∙ le-ltb (place_of s) (place_of s) (omega arith)

  module _ (t : List ℕ) (b : is_short t ≡ true) where
    pub before-total : comes_before s t ≡ false → comes_before t s ≡ false → s ≡ t
    before-total e f =
        let x = ltb-false (place_of s) (place_of t) (sym (before-place (ending s a) (ending t b)) ∙ e) in
        let y = ltb-false (place_of t) (place_of s) (sym (before-place (ending t b) (ending s a)) ∙ f) in
        let p : place_of s ≡ place_of t = omega (arith, x, y) in
        sym (place-back (ending s a)) ∙ ap candidate p ∙ place-back (ending t b)

    pub before-then : (u : List ℕ) → is_short u ≡ true → comes_before s t ≡ true → comes_before t u ≡ true → comes_before s u ≡ true
    before-then u c e f =
        let x = ltb-true (place_of s) (place_of t) (sym (before-place (ending s a) (ending t b)) ∙ e) in
        let y = ltb-true (place_of t) (place_of u) (sym (before-place (ending t b) (ending u c)) ∙ f) in
        before-place (ending s a) (ending u c) ∙ lt-ltb (place_of s) (place_of u) (omega (arith, x, y))

-- ---- what is found from a place on

abbrev Finds : ℕ → Found → Type 0
Finds k nowhere = (j : ℕ) → k ≤ j → j < candidates → is_short (candidate j) ≡ false
Finds k (found m) = (k ≤ m) × (m < candidates) × (is_short (candidate m) ≡ true) × ((j : ℕ) → k ≤ j → j < m → is_short (candidate j) ≡ false)

finds : (n k : ℕ) → k + n ≡ candidates → Finds k (first_from_lem n k)
unfolding first_from_lem
finds zero k e = λ j h i. absurd (omega (arith, e, h, i))
finds (suc n) k e = by (is_short (candidate k)) refl (first_from_lem n (k + 1)) (finds n (k + 1) (omega (arith, e)))
  where
    -- the first of them, or a later one
    on : (j : ℕ) → is_short (candidate k) ≡ false → k ≤ j → (k + 1 ≤ j → is_short (candidate j) ≡ false) → (t : Bool) → eqb j k ≡ t → is_short (candidate j) ≡ false
    on j d h f true q = ap (λ (i : ℕ). is_short (candidate i)) (eqb-true j k q) ∙ d
    on j d h f false q = f (let r = eqb-false j k q in omega (arith, h, r))

    by : (t : Bool) → is_short (candidate k) ≡ t → (r : Found) → Finds (k + 1) r → Finds k (pick t (found k) r)
    by true d r f = (omega arith, omega (arith, e), d, λ j h i. absurd (omega (arith, h, i)))
    by false d nowhere f = λ j h i. on j d h (λ g. f j g i) (eqb j k) refl
    by false d (found m) f = (omega (arith, f.0), f.1, f.2, λ j h i. on j d h (λ g. f.3 j g i) (eqb j k) refl)

-- ---- where to begin

module _ (s : List ℕ) (g : may_be_given s ≡ true) where
  pub start_fits : start_of s ≤ candidates
  start_fits = by s g
    where
      by : (s : List ℕ) → may_be_given s ≡ true → start_of s ≤ candidates
      by [] e = omega arith
      by (x ∷ xs) e = let h = place-fits (ending (x ∷ xs) e) in omega (arith, h)

  module _ {u : List ℕ} (x : Ending u) where
    pub begins-behind : start_of s ≤ place_of u → comes_before s u ≡ true
    begins-behind h = by s g h
      where
        by : (s : List ℕ) → may_be_given s ≡ true → start_of s ≤ place_of u → comes_before s u ≡ true
        by [] e k = before-nothing x
        by (y ∷ ys) e k = before-place (ending (y ∷ ys) e) x ∙ lt-ltb (place_of (y ∷ ys)) (place_of u) (omega (arith, k))

    pub behind-begins : comes_before s u ≡ true → start_of s ≤ place_of u
    behind-begins h = by s g h
      where
        by : (s : List ℕ) → may_be_given s ≡ true → comes_before s u ≡ true → start_of s ≤ place_of u
        by [] e k = omega arith
        by (y ∷ ys) e k = let l = ltb-true (place_of (y ∷ ys)) (place_of u) (sym (before-place (ending (y ∷ ys) e) x) ∙ k) in omega (arith, l)

-- ---- THE LAW: the next is what document 02 asks

module _ (s : List ℕ) (g : may_be_given s ≡ true) where
  answered : (r : Found) → Finds (start_of s) r → IsNext s (answer_at r)
  answered nowhere f = (
    g,
    λ u a. not_true (comes_before s u) (λ b.
        let x = ending u a in
        let h = f (place_of u) (behind-begins s g x b) (place-fits x) in
        never (sym a ∙ sym (ap is_short (place-back x)) ∙ h)),
  )
  answered (found m) f =
      let c = candidate-ends m f.1 in
      let d : start_of s ≤ place_of (candidate m) = omega (arith, f.0, c.1) in (
        g,
        record {
          short = f.2;
          behind = begins-behind s g c.0 d;
          none_between = λ u a b. not_true (comes_before u (candidate m)) (λ e.
              let x = ending u a in
              let l = ltb-true (place_of u) (place_of (candidate m)) (sym (before-place x c.0) ∙ e) in
              let h = f.3 (place_of u) (behind-begins s g x b) (omega (arith, l, c.1)) in
              never (sym a ∙ sym (ap is_short (place-back x)) ∙ h));
        },
      )

pub next_is : (s : List ℕ) → IsNext s (next_of s)
unfolding next_of
next_is s = by (may_be_given s) refl
  where
    by : (t : Bool) → may_be_given s ≡ t → IsNext s (pick t (answer_at (first_from_lem (candidates - start_of s) (start_of s))) (refused Malformed))
    by true e =
        let f = start_fits s e in
        answered s e (first_from_lem (candidates - start_of s) (start_of s)) (finds (candidates - start_of s) (start_of s) (omega (arith, f)))
    by false e = (e, refl)
