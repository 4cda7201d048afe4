-- Laws of reading a sheet: a line at a time, and what the lines from a place on hold.
use Rattle.std.specs.Prelude.{ℕ, suc, ◌+◌, ◌-◌, ◌*◌, ◌%◌, ◌≤◌, ◌<◌, ◌≡◌, refl, Bool, true, false, ltb, leb, eqb, length, take, drop, get_or, set, None, Option, Some}
use Rattle.std.proofs.Common.{sym, ◌∙◌, arith, length-append, length-drop, take_all, drop-cons}
use Rattle.std.proofs.Math.Path.{ap}
use Rattle.std.proofs.lemmas.Bool.{false≢true}
use mathlib.Core.List.{List, [], ◌∷◌, ◌++◌}
use borrow.Author.Tests.{eq-eqb, ne_eqb, le-leb, lt-leb, eqb-true, leb-true, ltb-true, ltb-false}
use Rattle.octets.specs.Pick.{pick}
use Rattle.octets.specs.PickLaws.{both_hold, pick_same}
use Rattle.octets.specs.Octets.{be, num_at, Wrote}
use Rattle.octets.specs.PutLaws.{put_one, wrote_as}
use Rattle.hexlines.specs.Hexlines.{is_hex_lem, spelt}
use Rattle.hexlines.specs.HexlinesLaws.{spelt-length}
use Rattle.cases.specs.Lines.{lines_of}
use Rattle.sheet.specs.Sheet.{hex_up_to, is_kept, hex_of, all_rows, filled, are_rows, row_bytes, pairs, sheet_in, sheet_of}
use Rattle.sheet.specs.Reading.{rows_after, rows_follow, HeadIs}
use Rattle.sheet.specs.declared.reading.Head.{Head}

-- ---- a line, by the code's tests

pub passes : (t b : Bool) → t ≡ true → b ≡ pick t b false
passes true b e = refl
passes false b e = absurd (false≢true e)

pub stays : (t b : Bool) → t ≡ false → t ≡ pick t b false
stays true b e = absurd (false≢true (sym e))
stays false b e = refl

-- five tests, of which each asks those before it
pub five : (a b c d e : Bool) {u v w : Bool} → u ≡ pick a b false → v ≡ pick u c false → w ≡ pick v d false
    → pick w e false ≡ pick a (pick b (pick c (pick d e false) false) false) false
five a b c d e {u} {v} {w} f g h =
    ap (λ (t : Bool). pick t e false) (h ∙ ap (λ (t : Bool). pick t d false) (g ∙ ap (λ (t : Bool). pick t c false) f)) ∙ go a b c d
  where
    go : (a b c d : Bool) → pick (pick (pick (pick a b false) c false) d false) e false ≡ pick a (pick b (pick c (pick d e false) false) false) false
    go true true true d = refl
    go true true false d = refl
    go true false c d = refl
    go false b c d = refl

module _ (l : List ℕ) (n : ℕ) where
  pub of-same : length l ≡ n → is_hex_lem l ≡ hex_of n l
  unfolding hex_of
  of-same e = rw (eq-eqb (length l) n e)

  pub of_other : (length l ≡ n → ⊥) → eqb (length l) n ≡ hex_of n l
  unfolding hex_of
  of_other e = rw (ne_eqb (length l) n e)

  pub up_to : length l ≤ 2 * n → is_hex_lem l ≡ hex_up_to n l
  unfolding hex_up_to
  up_to h = rw (le-leb (length l) (2 * n) h)

  pub up_to_not : 2 * n < length l → leb (length l) (2 * n) ≡ hex_up_to n l
  unfolding hex_up_to
  up_to_not h = rw (lt-leb (length l) (2 * n) h)

  pub hex-of : hex_of n l ≡ true → (length l ≡ n) × (is_hex_lem l ≡ true)
  unfolding hex_of
  hex-of e = let p = both_hold (eqb (length l) n) (is_hex_lem l) e in (eqb-true (length l) n p.0, p.1)

pub kept_fours : (l : List ℕ) → length l % 4 ≡ 0 → hex_up_to 2048 l ≡ is_kept l
unfolding is_kept
kept_fours l e = rw (eq-eqb (length l % 4) 0 e)

pub kept_not : (l : List ℕ) → (length l % 4 ≡ 0 → ⊥) → eqb (length l % 4) 0 ≡ is_kept l
unfolding is_kept
kept_not l n = rw (ne_eqb (length l % 4) 0 n)

module _ (k : ℕ) (l : List ℕ) where
  pub rows_same : length l ≡ 0 → Some k ≡ rows_after k l
  unfolding rows_after
  rows_same e = rw (eq-eqb (length l) 0 e)

  module _ (n : length l ≡ 0 → ⊥) where
    pub rows_many : 512 ≤ k → None ≡ rows_after k l
    unfolding rows_after
    rows_many h = rw (ne_eqb (length l) 0 n, le-leb 512 k h)

    pub rows-one : k < 512 → hex_of 20 l ≡ true → Some (k + 1) ≡ rows_after k l
    unfolding rows_after
    rows-one h e = rw (ne_eqb (length l) 0 n, lt-leb 512 k h, e)

    pub rows-bad : k < 512 → hex_of 20 l ≡ false → None ≡ rows_after k l
    unfolding rows_after
    rows-bad h e = rw (ne_eqb (length l) 0 n, lt-leb 512 k h, e)

-- ---- rows behind rows

not_empty : (x : ℕ) (l : List ℕ) → length (x ∷ l) ≡ 0 → ⊥
not_empty x l e = omega arith

-- rows that are left, with k before them
abbrev rows_left : ℕ → List (List ℕ) → Bool
rows_left k ls = pick (leb (k + length ls) 512) (all_rows ls) false

left-none : (k : ℕ) (l : List ℕ) (ls : List (List ℕ)) → 512 ≤ k → rows_left k (l ∷ ls) ≡ false
left-none k l ls h = let m : 512 < k + length (l ∷ ls) = omega arith in rw (lt-leb (k + length (l ∷ ls)) 512 m)

left-bad : (k : ℕ) (l : List ℕ) (ls : List (List ℕ)) → hex_of 20 l ≡ false → rows_left k (l ∷ ls) ≡ false
unfolding all_rows
left-bad k l ls e = rw e (pick_same (leb (k + length (l ∷ ls)) 512) false)

left_one : (k : ℕ) (l : List ℕ) (ls : List (List ℕ)) → hex_of 20 l ≡ true → rows_left (k + 1) ls ≡ rows_left k (l ∷ ls)
unfolding all_rows
left_one k l ls e = let m : (k + 1) + length ls ≡ k + length (l ∷ ls) = omega arith in rw (e, m)

-- one more row, where the law holds of the lines behind it
module _ (x : ℕ) (l : List ℕ) (ls : List (List ℕ)) (k : ℕ) where
  follow_many : 512 ≤ k → rows_follow (rows_after k (x ∷ l)) ls ≡ rows_left k ((x ∷ l) ∷ filled ls)
  unfolding rows_follow
  follow_many g =
      ap (λ (o : Option ℕ). rows_follow o ls) (sym (rows_many k (x ∷ l) (not_empty x l) g)) ∙ sym (left-none k (x ∷ l) (filled ls) g)

  follow-one : k < 512 → rows_follow (Some (k + 1)) ls ≡ rows_left (k + 1) (filled ls) → (t : Bool) → hex_of 20 (x ∷ l) ≡ t
      → rows_follow (rows_after k (x ∷ l)) ls ≡ rows_left k ((x ∷ l) ∷ filled ls)
  unfolding rows_follow
  follow-one g ih true r =
      ap (λ (o : Option ℕ). rows_follow o ls) (sym (rows-one k (x ∷ l) (not_empty x l) g r)) ∙ ih ∙ left_one k (x ∷ l) (filled ls) r
  follow-one g ih false r =
      ap (λ (o : Option ℕ). rows_follow o ls) (sym (rows-bad k (x ∷ l) (not_empty x l) g r)) ∙ sym (left-bad k (x ∷ l) (filled ls) r)

  follow-full : ((j : ℕ) → j ≤ 512 → rows_follow (Some j) ls ≡ rows_left j (filled ls)) → (t : Bool) → ltb k 512 ≡ t
      → rows_follow (rows_after k (x ∷ l)) ls ≡ rows_left k ((x ∷ l) ∷ filled ls)
  follow-full ih true e = let g = ltb-true k 512 e in follow-one g (ih (k + 1) (omega (arith, g))) (hex_of 20 (x ∷ l)) refl
  follow-full ih false e = follow_many (ltb-false k 512 e)

follow_left : (ls : List (List ℕ)) (k : ℕ) → k ≤ 512 → rows_follow (Some k) ls ≡ rows_left k (filled ls)
unfolding rows_follow filled all_rows
follow_left [] k h = let m : k + 0 ≤ 512 = omega arith in rw (le-leb (k + 0) 512 m)
follow_left ([] ∷ ls) k h = ap (λ (o : Option ℕ). rows_follow o ls) (sym (rows_same k [] refl)) ∙ follow_left ls k h
follow_left ((x ∷ l) ∷ ls) k h = follow-full x l ls k (λ j g. follow_left ls j g) (ltb k 512) refl

pub follow-rows : (ls : List (List ℕ)) → rows_follow (Some 0) ls ≡ are_rows (filled ls)
unfolding are_rows
follow-rows ls =
    let e : 0 + length (filled ls) ≡ length (filled ls) = omega arith in
    follow_left ls 0 (omega arith) ∙ ap (λ (j : ℕ). pick (leb j 512) (all_rows (filled ls)) false) e

-- a line, and the lines behind it
module _ (left : List (List ℕ)) (l : List ℕ) (ls : List (List ℕ)) (k : ℕ) (n : left ≡ l ∷ ls) (o : Option ℕ) (r : o ≡ rows_after k l) where
  pub follow_next : rows_follow o ls ≡ rows_follow (Some k) left
  unfolding rows_follow
  follow_next = ap (λ (x : Option ℕ). rows_follow x ls) r ∙ sym (ap (rows_follow (Some k)) n)

  pub follow_bad : o ≡ None → false ≡ rows_follow (Some k) left
  unfolding rows_follow
  follow_bad e = ap (λ (x : Option ℕ). rows_follow x ls) (sym e) ∙ follow_next

pub follow_done : (left : List (List ℕ)) (k : ℕ) → left ≡ [] → true ≡ rows_follow (Some k) left
unfolding rows_follow
follow_done left k n = sym (ap (rows_follow (Some k)) n)

-- ---- the bytes of rows

rows-filled : (ls : List (List ℕ)) → row_bytes (filled ls) ≡ row_bytes ls
unfolding row_bytes filled spelt
rows-filled [] = refl
rows-filled ([] ∷ ls) = rows-filled ls
rows-filled ((x ∷ l) ∷ ls) = ap (λ (t : List ℕ). spelt (x ∷ l) ++ t) (rows-filled ls)

rows-first : (l : List ℕ) (ls : List (List ℕ)) → all_rows (filled (l ∷ ls)) ≡ true → (is_hex_lem l ≡ true) × (all_rows (filled ls) ≡ true)
unfolding filled all_rows is_hex_lem
rows-first [] ls e = (refl, e)
rows-first (x ∷ l) ls e = let p = both_hold (hex_of 20 (x ∷ l)) (all_rows (filled ls)) e in ((hex-of (x ∷ l) 20 p.0).1, p.1)

rows_tens : (ls : List (List ℕ)) → all_rows ls ≡ true → length (row_bytes ls) ≡ 10 * length ls
unfolding all_rows row_bytes
rows_tens [] e = refl
rows_tens (l ∷ ls) e =
    let p = both_hold (hex_of 20 l) (all_rows ls) e in
    let h = hex-of l 20 p.0 in
    let n = length-append (spelt l) (row_bytes ls) in
    omega (arith, n, spelt-length l h.1, h.0, rows_tens ls p.1)

pub are-rows : (ls : List (List ℕ)) → are_rows ls ≡ true → (length ls ≤ 512) × (all_rows ls ≡ true)
unfolding are_rows
are-rows ls e = let p = both_hold (leb (length ls) 512) (all_rows ls) e in (leb-true (length ls) 512 p.0, p.1)

-- there is room for the bytes of all rows
pub rows_start : (ls : List (List ℕ)) → are_rows (filled ls) ≡ true → (all_rows (filled ls) ≡ true) × (length (row_bytes ls) ≤ 5120)
rows_start ls e =
    let h = are-rows (filled ls) e in
    (h.1, omega (arith, h.0, rows_tens (filled ls) h.1, ap length (rows-filled ls)))

module _ (left : List (List ℕ)) (l : List ℕ) (ls : List (List ℕ)) (n : left ≡ l ∷ ls) where
  pub rows_next : row_bytes left ≡ spelt l ++ row_bytes ls
  unfolding row_bytes
  rows_next = ap row_bytes n

  pub rows-turn : all_rows (filled left) ≡ true → (is_hex_lem l ≡ true) × (all_rows (filled ls) ≡ true)
  rows-turn r = rows-first l ls (sym (ap (λ (x : List (List ℕ)). all_rows (filled x)) n) ∙ r)

pub rows_none : (left : List (List ℕ)) → left ≡ [] → row_bytes left ≡ []
unfolding row_bytes
rows_none left n = ap row_bytes n

pub wrote-rows : {old new : List ℕ} {q : ℕ} (s : List ℕ) → Wrote old 0 (row_bytes (lines_of s)) new q → Wrote old 0 (row_bytes (filled (lines_of s))) new q
wrote-rows s w = wrote_as w (sym (rows-filled (lines_of s)))

-- how much is left of a slice
pub rest_length : (l : List ℕ) (q : ℕ) → length (take (length l - q) (drop q l)) ≡ length l - q
rest_length l q = ap length (take_all (length l - q) (drop q l) (omega (arith, length-drop q l))) ∙ length-drop q l

-- ---- pairs of bytes

pairs-short : (l : List ℕ) → length l ≤ 1 → pairs l ≡ []
unfolding pairs
pairs-short [] h = refl
pairs-short (x ∷ []) h = refl
pairs-short (x ∷ (y ∷ l)) h = absurd (omega arith)

pub pairs-length : (l : List ℕ) → 2 * length (pairs l) ≤ length l
unfolding pairs
pairs-length [] = omega arith
pairs-length (x ∷ []) = omega arith
pairs-length (x ∷ (y ∷ l)) = omega (arith, pairs-length l)

pub pairs_done : (s : List ℕ) (i : ℕ) → length s ≤ i + 1 → pairs (drop i s) ≡ []
pairs_done s i h = pairs-short (drop i s) (rw length-drop (omega arith))

pub pairs_next : (s : List ℕ) (i v : ℕ) → i + 2 ≤ length s → v ≡ num_at s i 2 → pairs (drop i s) ≡ (v ∷ []) ++ pairs (drop (i + 2) s)
unfolding pairs num_at be
pairs_next s i v h e =
    let a : drop i s ≡ get_or s i 0 ∷ drop (suc i) s = drop-cons s i 0 (omega arith) in
    let b : drop (suc i) s ≡ get_or s (suc i) 0 ∷ drop (suc (suc i)) s = drop-cons s (suc i) 0 (omega arith) in
    let n : suc (suc i) ≡ i + 2 = omega arith in
    let d : drop i s ≡ get_or s i 0 ∷ (get_or s (suc i) 0 ∷ drop (i + 2) s) = a ∙ ap (λ (l : List ℕ). get_or s i 0 ∷ l) (b ∙ ap (λ (j : ℕ). get_or s (suc i) 0 ∷ drop j s) n) in
    let m : v ≡ (0 * 256 + get_or s i 0) * 256 + get_or s (suc i) 0 = e ∙ ap (λ (l : List ℕ). be 0 (take 2 l)) d in
    let w : get_or s i 0 * 256 + get_or s (suc i) 0 ≡ v = omega (arith, m) in
    ap pairs d ∙ ap (λ (x : ℕ). x ∷ pairs (drop (i + 2) s)) w

pub wrote_one : (old : List ℕ) (p v : ℕ) → p < length old → Wrote old p (v ∷ []) (set old p v) (p + 1)
wrote_one old p v h = record { is = put_one old p v h; behind = refl }

-- ---- the first four lines

-- fewer are no sheet's
few : (ls : List (List ℕ)) → length ls < 4 → sheet_in ls ≡ None
unfolding sheet_in
few [] h = refl
few (a ∷ []) h = refl
few (a ∷ (b ∷ [])) h = refl
few (a ∷ (b ∷ (c ∷ []))) h = refl
few (a ∷ (b ∷ (c ∷ (d ∷ ls)))) h = absurd (omega arith)

pub head-none : (s : List ℕ) (r : Option Head) → r ≡ None → length (lines_of s) < 4 → HeadIs s r
unfolding HeadIs sheet_of
head-none s r e h = rw e (few (lines_of s) h)
