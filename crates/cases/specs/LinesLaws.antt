-- Laws of lines: the first and the others, and whether a line agrees, by the code's tests.
use Rattle.std.specs.Prelude.{ℕ, suc, ◌+◌, ◌-◌, ◌≤◌, ◌<◌, ◌≡◌, refl, min, Bool, true, false, List, [], ◌∷◌, leb, eqb, take, drop, get_or}
use Rattle.std.proofs.Common.{sym, ap, ◌∙◌, not-suc-le-zero, arith, length-drop, drop_of_length-le, take_all, leb-true, leb-false}
use Rattle.std.proofs.Math.ListN.{length}
use borrow.Author.Tests.{eq-eqb, ne_eqb, lt-ltb, le-ltb, le-leb, lt-leb}
use Rattle.octets.specs.Pick.{pick}
use Rattle.octets.specs.Lists.{before}
use Rattle.hexlines.specs.Hexlines.{field_end_lem}
use Rattle.cases.specs.Fields.{field_bytes, both_same}
use Rattle.cases.specs.Lines.{in_front, lines_of, Answering, answer_of, agrees}

-- ---- the first line, and the others

lines_cut : (x : ℕ) (xs : List ℕ) → lines_of (x ∷ xs) ≡ take (before 10 (x ∷ xs)) (x ∷ xs) ∷ lines_of (drop (suc (before 10 (x ∷ xs))) (x ∷ xs))
unfolding lines_of before
lines_cut x [] = go (eqb x 10)
  where
    go : (t : Bool) → pick t ([] ∷ []) ((x ∷ []) ∷ []) ≡ take (pick t 0 1) (x ∷ []) ∷ lines_of (drop (suc (pick t 0 1)) (x ∷ []))
    go true = refl
    go false = refl
lines_cut x (y ∷ ys) = go (eqb x 10) (lines_cut y ys)
  where
    go : (t : Bool) → lines_of (y ∷ ys) ≡ take (before 10 (y ∷ ys)) (y ∷ ys) ∷ lines_of (drop (suc (before 10 (y ∷ ys))) (y ∷ ys))
        → (let b = pick t 0 (suc (before 10 (y ∷ ys))) in
        pick t ([] ∷ lines_of (y ∷ ys)) (in_front x (lines_of (y ∷ ys))) ≡ take b (x ∷ y ∷ ys) ∷ lines_of (drop (suc b) (x ∷ y ∷ ys)))
    go true h = refl
    go false h = ap (in_front x) h

lines-one : (l : List ℕ) → 0 < length l → lines_of l ≡ take (before 10 l) l ∷ lines_of (drop (suc (before 10 l)) l)
lines-one [] h = absurd (not-suc-le-zero h)
lines-one (x ∷ xs) h = lines_cut x xs

-- behind the first, by the code's place: the end of the text where no line feed stands there
pub lines_first : (s : List ℕ) (end from : ℕ) → 0 < length s → end ≡ before 10 s → from ≡ min (length s) (end + 1)
    → lines_of s ≡ take end s ∷ lines_of (take (length s - from) (drop from s))
lines_first s end from h e f = lines-one s h ∙ ap (λ (k : ℕ). take k s ∷ lines_of (drop (suc k) s)) (sym e) ∙ ap (λ (l : List ℕ). take end s ∷ lines_of l) (sym same)
  where
    behind : (t : Bool) → leb (length s) (end + 1) ≡ t → drop from s ≡ drop (suc end) s
    behind true g =
        let l = leb-true (length s) (end + 1) g in
        let m : length s ≤ suc end = omega (arith, l) in
        let n : length s ≤ from = omega (arith, f, l) in
        drop_of_length-le s n ∙ sym (drop_of_length-le s m)
    behind false g =
        let l = leb-false (length s) (end + 1) g in
        let e : from ≡ suc end = omega (arith, f, l) in
        ap (λ (k : ℕ). drop k s) e

    same : take (length s - from) (drop from s) ≡ drop (suc end) s
    same = take_all (length s - from) (drop from s) (rw length-drop (omega arith)) ∙ behind (leb (length s) (end + 1)) refl

pub lines_none : (s : List ℕ) → length s ≡ 0 → lines_of s ≡ []
unfolding lines_of
lines_none [] e = refl
lines_none (x ∷ s) e = absurd (omega arith)

-- ---- whether a line agrees, by the code's tests

module _ (answer : Answering) (line : List ℕ) where
  pub agrees-short : length line < 2 → false ≡ agrees answer line
  unfolding agrees
  agrees-short h = rw (lt-ltb (length line) 2 h)

  module _ (h : 2 ≤ length line) where
    pub agrees-blank : (get_or line 1 0 ≡ 32 → ⊥) → false ≡ agrees answer line
    unfolding agrees
    agrees-blank n = rw (le-ltb (length line) 2 h, ne_eqb (get_or line 1 0) 32 n)

    module _ (b : get_or line 1 0 ≡ 32) (end : ℕ) (e : end ≡ field_end_lem line 2 (length line)) where
      pub agrees-one : length line ≤ end → false ≡ agrees answer line
      unfolding agrees
      agrees-one l =
          let m : length line ≤ field_end_lem line 2 (length line) = omega (arith, e) in
          rw (le-ltb (length line) 2 h, eq-eqb (get_or line 1 0) 32 b, le-leb (length line) (field_end_lem line 2 (length line)) m)

      agrees_is : end < length line
          → both_same (answer_of answer (get_or line 0 0) (field_bytes 4096 (take (field_end_lem line 2 (length line) - 2) (drop 2 line)))) (field_bytes 4096 (drop (field_end_lem line 2 (length line) + 1) line))
          ≡ agrees answer line
      unfolding agrees
      agrees_is l =
          let m : field_end_lem line 2 (length line) < length line = omega (arith, e) in
          rw (le-ltb (length line) 2 h, eq-eqb (get_or line 1 0) 32 b, lt-leb (length line) (field_end_lem line 2 (length line)) m)

      pub agrees-fields : end < length line
          → both_same (answer_of answer (get_or line 0 0) (field_bytes 4096 (take (end - 2) (drop 2 line)))) (field_bytes 4096 (take (length line - (end + 1)) (drop (end + 1) line)))
          ≡ agrees answer line
      agrees-fields l =
          let a = answer_of answer (get_or line 0 0) (field_bytes 4096 (take (end - 2) (drop 2 line))) in
          let r = take_all (length line - (end + 1)) (drop (end + 1) line) (rw length-drop (omega arith)) in
          ap (λ (t : List ℕ). both_same a (field_bytes 4096 t)) r
          ∙ ap (λ (j : ℕ). both_same (answer_of answer (get_or line 0 0) (field_bytes 4096 (take (j - 2) (drop 2 line)))) (field_bytes 4096 (drop (j + 1) line))) e
          ∙ agrees_is l
