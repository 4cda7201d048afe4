-- Laws of texts: the test of equality holds exactly of equal texts, byte order is a strict order, and what each says from a place
-- on, one byte after the other.
use Rattle.std.specs.Prelude.{ℕ, ◌+◌, ◌≤◌, ◌<◌, refl, true, false, List, [], ◌∷◌, ◌⊎◌, ltb, eqb, length, drop, get_or}
use Rattle.std.proofs.Math.Path.{◌≡◌}
use Rattle.std.proofs.Common.{sym, ap, ◌∙◌, ⊎_elim, add-one, arith}
use Rattle.std.proofs.Math.Logic.{inl, inr}
use borrow.Author.Tests.{ltb-true, ltb-false, eqb-true, lt-ltb, le-ltb, eq-eqb, ne_eqb}
use Rattle.std.proofs.Math.ListN.{drop_of_length-le}
use Rattle.std.proofs.Math.Seq.{drop-cons}
use Rattle.octets.specs.Pick.{pick, pick_ind}
use Rattle.octets.specs.PickLaws.{not_true}
use Rattle.strings.specs.Text.{same_text_lem, order_of}
use Rattle.std.specs.declared.cmp.Ordering.TheVariants.{Less, Equal, Greater}

-- ---- equality

pub same_refl : (a : List ℕ) → same_text_lem a a ≡ true
unfolding same_text_lem
same_refl [] = refl
same_refl (x ∷ xs) = simp (eq-eqb x x refl) (same_refl xs)

pub same_true : (a b : List ℕ) → same_text_lem a b ≡ true → a ≡ b
unfolding same_text_lem
same_true [] [] e = refl
same_true [] (y ∷ ys) e = cc
same_true (x ∷ xs) [] e = cc
same_true (x ∷ xs) (y ∷ ys) e =
    pick_ind (λ t. t ≡ true → x ∷ xs ≡ y ∷ ys) (eqb x y) (same_text_lem xs ys) false
    (λ t d. let h = eqb-true x y t in let k = same_true xs ys d in cc)
    (λ t d. cc)
    e

pub same_false : (a b : List ℕ) → same_text_lem a b ≡ false → a ≡ b → ⊥
same_false a b e h =
    let k : same_text_lem a b ≡ true = rw h (same_refl b) in
    let z : ◌≡◌ {A = ℕ} 0 1 = cc in omega arith

-- unequal texts
pub same_not : (a b : List ℕ) → (a ≡ b → ⊥) → same_text_lem a b ≡ false
same_not a b h = not_true (same_text_lem a b) (λ e. h (same_true a b e))

pub same_lengths : (a b : List ℕ) → (length a ≡ length b → ⊥) → same_text_lem a b ≡ false
same_lengths a b h = same_not a b (λ e. h (ap length e))

-- from a place on
module _ (a b : List ℕ) (i : ℕ) where
  pub same_more : i < length a → i < length b → get_or a i 0 ≡ get_or b i 0 → same_text_lem (drop (i + 1) a) (drop (i + 1) b) ≡ same_text_lem (drop i a) (drop i b)
  unfolding same_text_lem
  same_more h k e = rw (add-one, drop-cons a i 0, drop-cons b i 0, eq-eqb (get_or a i 0) (get_or b i 0))

  pub same_differs : i < length a → i < length b → (get_or a i 0 ≡ get_or b i 0 → ⊥) → same_text_lem (drop i a) (drop i b) ≡ false
  unfolding same_text_lem
  same_differs h k e = rw (drop-cons a i 0, drop-cons b i 0, ne_eqb (get_or a i 0) (get_or b i 0))

  pub same_ends : length a ≤ i → length b ≤ i → same_text_lem (drop i a) (drop i b) ≡ true
  unfolding same_text_lem
  same_ends h k = rw (drop_of_length-le a h, drop_of_length-le b k)

-- ---- byte order

pub order_refl : (a : List ℕ) → order_of a a ≡ Equal
unfolding order_of
order_refl [] = refl
order_refl (x ∷ xs) = simp (le-ltb x x (omega arith)) (order_refl xs)

-- what one byte says
module _ (x y : ℕ) (xs ys : List ℕ) where
  head-less : x < y → order_of (x ∷ xs) (y ∷ ys) ≡ Less
  unfolding order_of
  head-less h = simp (lt-ltb x y h)

  head_more : y < x → order_of (x ∷ xs) (y ∷ ys) ≡ Greater
  unfolding order_of
  head_more h = simp (le-ltb x y (omega arith), lt-ltb y x h)

  head-same : x ≡ y → order_of (x ∷ xs) (y ∷ ys) ≡ order_of xs ys
  unfolding order_of
  head-same h = simp (le-ltb x y (omega arith), le-ltb y x (omega arith))

  less-cases : order_of (x ∷ xs) (y ∷ ys) ≡ Less → (x < y) ⊎ ((x ≡ y) × (order_of xs ys ≡ Less))
  unfolding order_of
  less-cases =
      pick_ind (λ o. o ≡ Less → (x < y) ⊎ ((x ≡ y) × (order_of xs ys ≡ Less))) (ltb x y) Less (pick (ltb y x) Greater (order_of xs ys))
      (λ t e. inl (ltb-true x y t))
      (λ t. pick_ind (λ o. o ≡ Less → (x < y) ⊎ ((x ≡ y) × (order_of xs ys ≡ Less))) (ltb y x) Greater (order_of xs ys)
      (λ u e. let z : ◌≡◌ {A = ℕ} 0 1 = cc in absurd (omega arith))
      (λ u e. inr (omega (arith, ltb-false x y t, ltb-false y x u), e)))

  more-cases : order_of (x ∷ xs) (y ∷ ys) ≡ Greater → (y < x) ⊎ ((x ≡ y) × (order_of xs ys ≡ Greater))
  unfolding order_of
  more-cases =
      pick_ind (λ o. o ≡ Greater → (y < x) ⊎ ((x ≡ y) × (order_of xs ys ≡ Greater))) (ltb x y) Less (pick (ltb y x) Greater (order_of xs ys))
      (λ t e. let z : ◌≡◌ {A = ℕ} 0 1 = cc in absurd (omega arith))
      (λ t. pick_ind (λ o. o ≡ Greater → (y < x) ⊎ ((x ≡ y) × (order_of xs ys ≡ Greater))) (ltb y x) Greater (order_of xs ys)
      (λ u e. inl (ltb-true y x u))
      (λ u e. inr (omega (arith, ltb-false x y t, ltb-false y x u), e)))

pub order_same : (a b : List ℕ) → order_of a b ≡ Equal → a ≡ b
unfolding order_of
order_same [] [] e = refl
order_same [] (y ∷ ys) e = cc
order_same (x ∷ xs) [] e = cc
order_same (x ∷ xs) (y ∷ ys) e =
    pick_ind (λ o. o ≡ Equal → x ∷ xs ≡ y ∷ ys) (ltb x y) Less (pick (ltb y x) Greater (order_of xs ys))
    (λ t d. cc)
    (λ t. pick_ind (λ o. o ≡ Equal → x ∷ xs ≡ y ∷ ys) (ltb y x) Greater (order_of xs ys)
    (λ u d. cc)
    (λ u d. let h : x ≡ y = omega (arith, ltb-false x y t, ltb-false y x u) in let k = order_same xs ys d in cc))
    e

pub order_trans : (a b c : List ℕ) → order_of a b ≡ Less → order_of b c ≡ Less → order_of a c ≡ Less
unfolding order_of
order_trans [] [] c d e = e
order_trans [] (y ∷ ys) [] d e = cc
order_trans [] (y ∷ ys) (z ∷ zs) d e = refl
order_trans (x ∷ xs) [] c d e = cc
order_trans (x ∷ xs) (y ∷ ys) [] d e = cc
order_trans (x ∷ xs) (y ∷ ys) (z ∷ zs) d e =
    ⊎_elim
    (λ h. ⊎_elim (λ k. head-less x z xs zs (omega arith)) (λ k. head-less x z xs zs (omega arith)) (less-cases y z ys zs e))
    (λ h. ⊎_elim
    (λ k. head-less x z xs zs (omega arith))
    (λ k. head-same x z xs zs (omega arith) ∙ order_trans xs ys zs h.1 k.1)
    (less-cases y z ys zs e))
    (less-cases x y xs ys d)

pub order_flip : (a b : List ℕ) → order_of a b ≡ Greater → order_of b a ≡ Less
unfolding order_of
order_flip [] [] e = cc
order_flip [] (y ∷ ys) e = cc
order_flip (x ∷ xs) [] e = refl
order_flip (x ∷ xs) (y ∷ ys) e =
    ⊎_elim
    (λ h. head-less y x ys xs h)
    (λ h. head-same y x ys xs (sym h.0) ∙ order_flip xs ys h.1)
    (more-cases x y xs ys e)

-- from a place on
module _ (a b : List ℕ) (i : ℕ) where
  pub order-less : i < length a → i < length b → get_or a i 0 < get_or b i 0 → order_of (drop i a) (drop i b) ≡ Less
  order-less h k e = rw (drop-cons a i 0, drop-cons b i 0) (head-less _ _ _ _ e)

  pub order-more : i < length a → i < length b → get_or b i 0 < get_or a i 0 → order_of (drop i a) (drop i b) ≡ Greater
  order-more h k e = rw (drop-cons a i 0, drop-cons b i 0) (head_more _ _ _ _ e)

  pub order-on : i < length a → i < length b → get_or b i 0 ≤ get_or a i 0 → get_or a i 0 ≤ get_or b i 0
      → order_of (drop (i + 1) a) (drop (i + 1) b) ≡ order_of (drop i a) (drop i b)
  order-on h k l m = rw (add-one, drop-cons a i 0, drop-cons b i 0) (sym (head-same _ _ _ _ (omega arith)))

  pub order-longer : i < length a → length b ≤ i → order_of (drop i a) (drop i b) ≡ Greater
  unfolding order_of
  order-longer h k = rw (drop-cons a i 0, drop_of_length-le b k)

  pub order_shorter : length a ≤ i → i < length b → order_of (drop i a) (drop i b) ≡ Less
  unfolding order_of
  order_shorter h k = rw (drop_of_length-le a h, drop-cons b i 0)

  pub order-ends : length a ≤ i → length b ≤ i → order_of (drop i a) (drop i b) ≡ Equal
  unfolding order_of
  order-ends h k = rw (drop_of_length-le a h, drop_of_length-le b k)
