-- Short charstrings in their order: what ends in endchar is counted by a number that rises as document 02's order does.
use Rattle.std.specs.Prelude.{ℕ, ◌+◌, ◌-◌, ◌*◌, ◌/◌, ◌%◌, ◌≤◌, ◌<◌, ◌≡◌, refl, Bool, true, false, List, [], ◌∷◌, ltb, eqb, length, get_or}
use Rattle.std.proofs.Common.{sym, ap, ◌∙◌, subst, arith, lt-ltb, le-ltb, ltb-true, ltb-false, eqb-true, lit<}
use Rattle.std.proofs.lemmas.Bool.{eqb-false}
use Rattle.octets.specs.Pick.{pick}
use Rattle.octets.specs.PickLaws.{both_hold, other_holds}
use Rattle.octets.specs.Lists.{all_below}
use Rattle.octets.specs.ListLaws.{below_at}
use Rattle.short_charstrings.specs.Short.{is_short, below, comes_before}
use Rattle.short_charstrings.specs.Next.{candidates, candidate, place_of}
use Rattle.short_charstrings.specs.CodeLaws.{candidate_1, candidate_2, candidate_3, candidate_4}

-- ---- the four lengths

-- up to three bytes and endchar
pub data Ending : List ℕ → Type 0 where
  one : Ending (14 ∷ [])
  two : (a : ℕ) → a < 256 → Ending (a ∷ 14 ∷ [])
  three : (a b : ℕ) → a < 256 → b < 256 → Ending (a ∷ b ∷ 14 ∷ [])
  four : (a b c : ℕ) → a < 256 → b < 256 → c < 256 → Ending (a ∷ b ∷ c ∷ 14 ∷ [])

ending_by : (s : List ℕ) → all_below 256 s ≡ true → 1 ≤ length s → length s ≤ 4 → get_or s (length s - 1) 0 ≡ 14 → Ending s
ending_by [] o a b e = absurd (omega arith)
ending_by (x ∷ []) o a b e = subst (λ (z : ℕ). Ending (z ∷ [])) (sym e) one
ending_by (x ∷ y ∷ []) o a b e = subst (λ (z : ℕ). Ending (x ∷ z ∷ [])) (sym e) (two x (below_at 256 (x ∷ y ∷ []) o 0 (lit< tt)))
ending_by (x ∷ y ∷ z ∷ []) o a b e =
    subst (λ (w : ℕ). Ending (x ∷ y ∷ w ∷ [])) (sym e)
    (three x y (below_at 256 (x ∷ y ∷ z ∷ []) o 0 (lit< tt)) (below_at 256 (x ∷ y ∷ z ∷ []) o 1 (lit< tt)))
ending_by (x ∷ y ∷ z ∷ w ∷ []) o a b e =
    subst (λ (v : ℕ). Ending (x ∷ y ∷ z ∷ v ∷ [])) (sym e)
    (four x y z (below_at 256 (x ∷ y ∷ z ∷ w ∷ []) o 0 (lit< tt)) (below_at 256 (x ∷ y ∷ z ∷ w ∷ []) o 1 (lit< tt)) (below_at 256 (x ∷ y ∷ z ∷ w ∷ []) o 2 (lit< tt)))
ending_by (x ∷ y ∷ z ∷ w ∷ v ∷ vs) o a b e = absurd (omega arith)

-- a short charstring is one of them
pub ending : (s : List ℕ) → is_short s ≡ true → Ending s
unfolding is_short
ending s e =
    let a = both_hold (all_below 256 s) _ e in
    let b = other_holds (ltb (length s) 1) _ a.1 in
    let c = other_holds (ltb 4 (length s)) _ b.1 in
    let d = both_hold (eqb (get_or s (length s - 1) 0) 14) _ c.1 in
    ending_by s a.0 (ltb-false (length s) 1 b.0) (ltb-false 4 (length s) c.0) (eqb-true _ 14 d.0)

-- ---- their places

pub place-back : {s : List ℕ} → Ending s → candidate (place_of s) ≡ s
unfolding place_of
place-back one = candidate_1 0 (lit< tt)
place-back (two a h) =
    let e : 1 + a - 1 ≡ a = omega arith in
    candidate_2 (1 + a) (omega arith) (omega arith) ∙ ap (λ (x : ℕ). x ∷ 14 ∷ []) e
place-back (three a b h i) =
    let k = 257 + (a * 256 + b) in
    let e : (k - 257) / 256 ≡ a = omega arith in
    let f : (k - 257) % 256 ≡ b = omega arith in
    candidate_3 k (omega arith) (omega arith) (omega arith) ∙ ap (λ (x : ℕ). x ∷ ((k - 257) % 256) ∷ 14 ∷ []) e ∙ ap (λ (x : ℕ). a ∷ x ∷ 14 ∷ []) f
place-back (four a b c h i j) =
    let k = 65793 + ((a * 256 + b) * 256 + c) in
    let e : (k - 65793) / 65536 ≡ a = omega arith in
    let f : (k - 65793) / 256 % 256 ≡ b = omega arith in
    let g : (k - 65793) % 256 ≡ c = omega arith in
    candidate_4 k (omega arith) (omega arith) (omega arith) ∙ ap (λ (x : ℕ). x ∷ ((k - 65793) / 256 % 256) ∷ ((k - 65793) % 256) ∷ 14 ∷ []) e
    ∙ ap (λ (x : ℕ). a ∷ x ∷ ((k - 65793) % 256) ∷ 14 ∷ []) f ∙ ap (λ (x : ℕ). a ∷ b ∷ x ∷ 14 ∷ []) g

pub place-fits : {s : List ℕ} → Ending s → place_of s < candidates
unfolding place_of
place-fits one = lit< tt
place-fits (two a h) = omega arith
place-fits (three a b h i) = omega arith
place-fits (four a b c h i j) = omega arith

-- ---- their order

-- one byte, and the bytes behind it
byte-first : (x y : ℕ) (t u : Bool) → (x < y → u ≡ true) → (x ≡ y → t ≡ u) → (y < x → u ≡ false) → pick (ltb x y) true (pick (eqb x y) t false) ≡ u
byte-first x y t u f g h = by (ltb x y) refl (eqb x y) refl
  where
    by : (p : Bool) → ltb x y ≡ p → (q : Bool) → eqb x y ≡ q → pick p true (pick q t false) ≡ u
    by true d q e = sym (f (ltb-true x y d))
    by false d true e = g (eqb-true x y e)
    by false d false e = sym (h (let a = ltb-false x y d in let b = eqb-false x y e in omega (arith, a, b)))

yes : (a b : ℕ) → a < b → true ≡ ltb a b
yes a b h = sym (lt-ltb a b h)

no : (a b : ℕ) → b ≤ a → false ≡ ltb a b
no a b h = sym (le-ltb a b h)

-- THE LAW: one comes before the other as its place does
pub before-place : {s t : List ℕ} → Ending s → Ending t → comes_before s t ≡ ltb (place_of s) (place_of t)
unfolding comes_before below place_of
before-place one one = refl
before-place one (two a h) = yes 0 (1 + a) (omega arith)
before-place one (three a b h i) = yes 0 (257 + (a * 256 + b)) (omega arith)
before-place one (four a b c h i j) = yes 0 (65793 + ((a * 256 + b) * 256 + c)) (omega arith)
before-place (two a h) one = no (1 + a) 0 (omega arith)
before-place (two a h) (two d k) =
    byte-first a d false _ (λ l. lt-ltb (1 + a) (1 + d) (omega arith)) (λ e. no (1 + a) (1 + d) (omega (arith, e))) (λ l. le-ltb (1 + a) (1 + d) (omega arith))
before-place (two a h) (three d e k l) = yes (1 + a) (257 + (d * 256 + e)) (omega arith)
before-place (two a h) (four d e f k l m) = yes (1 + a) (65793 + ((d * 256 + e) * 256 + f)) (omega arith)
before-place (three a b h i) one = no (257 + (a * 256 + b)) 0 (omega arith)
before-place (three a b h i) (two d k) = no (257 + (a * 256 + b)) (1 + d) (omega arith)
before-place (three a b h i) (three d e k l) =
    let p = 257 + (a * 256 + b) in
    let q = 257 + (d * 256 + e) in
    byte-first a d _ _ (λ n. lt-ltb p q (omega arith))
    (λ u. byte-first b e false _ (λ n. lt-ltb p q (omega (arith, u))) (λ v. no p q (omega (arith, u, v))) (λ n. le-ltb p q (omega (arith, u)))) (λ n. le-ltb p q (omega arith))
before-place (three a b h i) (four d e f k l m) = yes (257 + (a * 256 + b)) (65793 + ((d * 256 + e) * 256 + f)) (omega arith)
before-place (four a b c h i j) one = no (65793 + ((a * 256 + b) * 256 + c)) 0 (omega arith)
before-place (four a b c h i j) (two d k) = no (65793 + ((a * 256 + b) * 256 + c)) (1 + d) (omega arith)
before-place (four a b c h i j) (three d e k l) = no (65793 + ((a * 256 + b) * 256 + c)) (257 + (d * 256 + e)) (omega arith)
before-place (four a b c h i j) (four d e f k l m) =
    let p = 65793 + ((a * 256 + b) * 256 + c) in
    let q = 65793 + ((d * 256 + e) * 256 + f) in
    byte-first a d _ _ (λ n. lt-ltb p q (omega arith))
    (λ u. byte-first b e _ _ (λ n. lt-ltb p q (omega (arith, u)))
    (λ v. byte-first c f false _ (λ n. lt-ltb p q (omega (arith, u, v))) (λ w. no p q (omega (arith, u, v, w))) (λ n. le-ltb p q (omega (arith, u, v)))) (λ n. le-ltb p q (omega (arith, u))))
    (λ n. le-ltb p q (omega arith))

-- nothing comes before all
pub before-nothing : {t : List ℕ} → Ending t → comes_before [] t ≡ true
unfolding comes_before
before-nothing one = refl
before-nothing (two a h) = refl
before-nothing (three a b h i) = refl
before-nothing (four a b c h i j) = refl

-- what is counted ends so, each at its own place
pub candidate-ends : (k : ℕ) → k < candidates → Ending (candidate k) × (place_of (candidate k) ≡ k)
unfolding place_of
candidate-ends k h = by (ltb k 1) refl (ltb k 257) refl (ltb k 65793) refl
  where
    there : (s : List ℕ) → candidate k ≡ s → Ending s → place_of s ≡ k → Ending (candidate k) × (place_of (candidate k) ≡ k)
    there s e x p = (subst Ending (sym e) x, ap place_of e ∙ p)

    by : (t : Bool) → ltb k 1 ≡ t → (u : Bool) → ltb k 257 ≡ u → (v : Bool) → ltb k 65793 ≡ v → Ending (candidate k) × (place_of (candidate k) ≡ k)
    by true a u b v c = let l = ltb-true k 1 a in there (14 ∷ []) (candidate_1 k l) one (omega (arith, l))
    by false a true b v c =
        let m = ltb-false k 1 a in
        let l = ltb-true k 257 b in
        there ((k - 1) ∷ 14 ∷ []) (candidate_2 k m l) (two (k - 1) (omega (arith, m, l))) (omega (arith, m))
    by false a false b true c =
        let m = ltb-false k 1 a in
        let n = ltb-false k 257 b in
        let l = ltb-true k 65793 c in
        there (((k - 257) / 256) ∷ ((k - 257) % 256) ∷ 14 ∷ []) (candidate_3 k m n l)
        (three ((k - 257) / 256) ((k - 257) % 256) (omega (arith, l)) (omega arith)) (omega (arith, n))
    by false a false b false c =
        let m = ltb-false k 1 a in
        let n = ltb-false k 257 b in
        let l = ltb-false k 65793 c in
        there (((k - 65793) / 65536) ∷ ((k - 65793) / 256 % 256) ∷ ((k - 65793) % 256) ∷ 14 ∷ []) (candidate_4 k m n l)
        (four ((k - 65793) / 65536) ((k - 65793) / 256 % 256) ((k - 65793) % 256) (omega (arith, h)) (omega arith) (omega arith)) (omega (arith, l))
