-- Laws of two lengths in rows that rise: rows of equal keys stand side by side, so that neighbours tell all.
use Rattle.std.specs.Prelude.{ℕ, zero, suc, ◌+◌, ◌*◌, ◌/◌, ◌≤◌, ◌<◌, ◌≡◌, refl, Bool, ◌&&◌, not, List, eqb, length}
use Rattle.std.proofs.Math.Path.{sym, ap}
use Rattle.std.proofs.Common.{◌∙◌, eq-eqb, ne_eqb, eqb-true}
use Rattle.std.proofs.Math.Bool.{true, false}
use native.Mathlib.Omega.{arith}
use Rattle.octets.specs.Octets.{Octets}
use Rattle.octets.specs.Pick.{pick}
use Rattle.unfold.specs.Unfold.{Row}
use Rattle.record.specs.Record.{rows_of}
use Rattle.reach.specs.Reach.{Fits, key_of_lem, rises, row_no, rest_of}
use Rattle.reach.specs.Masks.{body_of_lem, clashes, other_len_lem, two_of, FirstAt}
use Rattle.reach.specs.RowLaws.{rest_all, rest-next, row_fits}
use Rattle.reach.specs.Cases.{by_number, by_order}
use Rattle.reach.specs.MaskLaws.{other_here, other_on, other_end, two_here, two-on, two_end}
use Rattle.reach.specs.SearchLaws.{sorted}

and_false : (t : Bool) → t && false ≡ false
and_false true = refl
and_false false = refl

-- no row from the i-th on has the key
no_other : (b : List ℕ) (key len d i : ℕ) → length b / 10 ≤ i + d → ((j : ℕ) → i ≤ j → j < length b / 10 → key ≡ key_of_lem (row_no b j) → ⊥)
    → other_len_lem key len (rest_of b i) ≡ false
no_other b key len zero i h none = sym (other_end b i (omega arith) key len)
no_other b key len (suc d) i h none =
    by_order i (length b / 10)
    (λ l. sym (other_on b i l key len (rw (ne_eqb key (key_of_lem (row_no b i)) (none i (omega arith) l))))
    ∙ no_other b key len d (i + 1) (omega arith) (λ j k m. none j (omega arith) m))
    (λ l. sym (other_end b i l key len))

-- a row that is not of the body is passed
two-pass : (b : List ℕ) (body i : ℕ) → i < length b / 10 → (body_of_lem (row_no b i) ≡ body → ⊥) → two_of body (rest_of b (i + 1)) ≡ two_of body (rest_of b i)
two-pass b body i h n = two-on b i h body (rw (ne_eqb (body_of_lem (row_no b i)) body n))

-- no row from the i-th on is of the body
no_two : (b : List ℕ) (body d i : ℕ) → length b / 10 ≤ i + d → ((j : ℕ) → i ≤ j → j < length b / 10 → body_of_lem (row_no b j) ≡ body → ⊥)
    → false ≡ two_of body (rest_of b i)
no_two b body zero i h none = two_end b i (omega arith) body
no_two b body (suc d) i h none =
    by_order i (length b / 10)
    (λ l. no_two b body d (i + 1) (omega arith) (λ j k m. none j (omega arith) m) ∙ two-pass b body i l (none i (omega arith) l))
    (λ l. two_end b i l body)

-- rows below the body's first key are passed
skip_below : (b : List ℕ) (body i : ℕ) → i ≤ length b / 10 → ((j : ℕ) → j < i → key_of_lem (row_no b j) < body * 4294967296)
    → two_of body (rest_of b i) ≡ two_of body (rows_of b)
skip_below b body zero h below = ap (two_of body) (rest_all b)
skip_below b body (suc i) h below =
    let e : suc i ≡ i + 1 = omega arith in
    ap (λ (k : ℕ). two_of body (rest_of b k)) e ∙ two-pass b body i (omega arith) (λ z. omega (arith, below i (omega arith)))
    ∙ skip_below b body i (omega arith) (λ j k. below j (omega arith))

-- two rows as they were read
pub clash_rows : (b : List ℕ) (i : ℕ) (r q : Row) → r ≡ row_no b i → q ≡ row_no b (i + 1) → (key : ℕ) → key ≡ key_of_lem r → (t : Bool) → t ≡ clashes key r.len q
    → clashes (key_of_lem (row_no b i)) (row_no b i).len (row_no b (i + 1)) ≡ t
clash_rows b i r q e f key k t c =
    sym (c ∙ ap (λ (n : ℕ). clashes n r.len q) k ∙ ap (λ (x : Row). clashes (key_of_lem x) x.len q) e
    ∙ ap (λ (x : Row). clashes (key_of_lem (row_no b i)) (row_no b i).len x) f)

-- the rows from the i-th on, none of a body before, give what all give
pub record Neighbours (b : List ℕ) (body i : ℕ) : Type 0 where
  pub within : i ≤ length b / 10
  pub above : (j : ℕ) → i ≤ j → j < length b / 10 → body * 4294967296 ≤ key_of_lem (row_no b j)
  pub same : two_of body (rest_of b i) ≡ two_of body (rows_of b)

pub neighbours_start : (b : List ℕ) (body key i : ℕ) → key ≡ body * 4294967296 → FirstAt b key i → Neighbours b body i
neighbours_start b body key i e f =
    record {
      within = f.within;
      above = λ j h k. omega (arith, f.above j h k);
      same = skip_below b body i f.within (λ j h. omega (arith, f.below j h));
    }

clash_len : (t u : Bool) → t ≡ true → t && not u ≡ false → u ≡ true
clash_len true true e h = refl
clash_len true false e h = let z : ◌≡◌ {A = ℕ} 0 1 = cc in absurd (omega arith)
clash_len false u e h = let z : ◌≡◌ {A = ℕ} 0 1 = cc in absurd (omega arith)

twice : (o y : Bool) → pick o true (pick o true y) ≡ pick o true y
twice true y = refl
twice false y = refl

module _ (b : List ℕ) (o : Octets b) (rising : rises (rows_of b) ≡ true) (body i : ℕ) (m : Neighbours b body i) where
  fits : (j : ℕ) → j < length b / 10 → Fits (row_no b j)
  fits j h = row_fits b o (10 * j) (omega arith)

  pub neighbours_off : i + 1 < length b / 10 → (body_of_lem (row_no b i) ≡ body → ⊥) → false ≡ two_of body (rows_of b)
  neighbours_off h n =
      let a = m.above i (omega arith) (omega arith) in
      let f = (fits i (omega arith)).offset in
      let g : body < body_of_lem (row_no b i) = by_order body (body_of_lem (row_no b i)) (λ l. l) (λ l. absurd (n (omega arith))) in
      no_two b body (length b / 10) i (omega arith)
      (λ j k l e. omega (arith, sorted b rising i j k l, (fits j l).offset)) ∙ m.same

  module _ (h : i + 1 < length b / 10) (e : body_of_lem (row_no b i) ≡ body) where
    low : i < length b / 10
    low = omega arith

    pub neighbours_clash : clashes (key_of_lem (row_no b i)) (row_no b i).len (row_no b (i + 1)) ≡ true → true ≡ two_of body (rows_of b)
    neighbours_clash c =
        let t : other_len_lem (key_of_lem (row_no b i)) (row_no b i).len (rest_of b (i + 1)) ≡ true
        = sym (other_here b (i + 1) h (key_of_lem (row_no b i)) (row_no b i).len c) in
        two_here b i low body (rw (eq-eqb _ _ e) t) ∙ m.same

    -- the next row has another key: no later one has this one's
    apart : (key_of_lem (row_no b i) ≡ key_of_lem (row_no b (i + 1)) → ⊥) → two_of body (rest_of b (i + 1)) ≡ two_of body (rest_of b i)
    apart n =
        let s = sorted b rising i (i + 1) (omega arith) h in
        let g : key_of_lem (row_no b i) < key_of_lem (row_no b (i + 1)) = by_order (key_of_lem (row_no b i)) (key_of_lem (row_no b (i + 1))) (λ l. l) (λ l. absurd (n (omega arith))) in
        let t = no_other b (key_of_lem (row_no b i)) (row_no b i).len (length b / 10) (i + 1) (omega arith)
        (λ j k l z. omega (arith, sorted b rising (i + 1) j k l)) in
        two-on b i low body (rw (eq-eqb _ _ e) t)

    -- the next row has the same key and length: it tells the same
    alike : key_of_lem (row_no b i) ≡ key_of_lem (row_no b (i + 1)) → (row_no b i).len ≡ (row_no b (i + 1)).len
        → clashes (key_of_lem (row_no b i)) (row_no b i).len (row_no b (i + 1)) ≡ false → two_of body (rest_of b (i + 1)) ≡ two_of body (rest_of b i)
    unfolding two_of
    alike k l c =
        let q = other_len_lem (key_of_lem (row_no b (i + 1))) (row_no b (i + 1)).len (rest_of b (i + 1 + 1)) in
        let y = two_of body (rest_of b (i + 1 + 1)) in
        let f = (fits i low).offset in
        let g = (fits (i + 1) h).offset in
        let e' : body_of_lem (row_no b (i + 1)) ≡ body = omega arith in
        let t : other_len_lem (key_of_lem (row_no b i)) (row_no b i).len (rest_of b (i + 1)) ≡ q
        = sym (other_on b (i + 1) h (key_of_lem (row_no b i)) (row_no b i).len c) ∙ ap (λ (n : ℕ). other_len_lem n (row_no b i).len (rest_of b (i + 1 + 1))) k
        ∙ ap (λ (n : ℕ). other_len_lem (key_of_lem (row_no b (i + 1))) n (rest_of b (i + 1 + 1))) l in
        let u : two_of body (rest_of b (i + 1)) ≡ pick q true y = ap (two_of body) (rest-next b (i + 1) h) ∙ rw (eq-eqb _ _ e') in
        let v : two_of body (rest_of b i) ≡ pick q true (two_of body (rest_of b (i + 1))) = ap (two_of body) (rest-next b i low) ∙ rw (eq-eqb _ _ e, t) in
        sym (v ∙ ap (λ (z : Bool). pick q true z) u ∙ twice q y ∙ sym u)

    pub neighbours_on : clashes (key_of_lem (row_no b i)) (row_no b i).len (row_no b (i + 1)) ≡ false → Neighbours b body (i + 1)
    neighbours_on c =
        record {
          within = omega arith;
          above = λ j k l. m.above j (omega arith) l;
          same =
              by_number (key_of_lem (row_no b i)) (key_of_lem (row_no b (i + 1)))
              (λ k. alike k (eqb-true _ _ (clash_len (eqb (key_of_lem (row_no b i)) (key_of_lem (row_no b (i + 1)))) (eqb (row_no b i).len (row_no b (i + 1)).len) (eq-eqb _ _ k) c)) c)
              apart
              ∙ m.same;
        }

  -- fewer than two rows are left
  pub neighbours_done : length b / 10 ≤ i + 1 → false ≡ two_of body (rows_of b)
  unfolding other_len_lem
  neighbours_done h =
      by_order i (length b / 10)
      (λ l. let z : other_len_lem (key_of_lem (row_no b i)) (row_no b i).len (rest_of b (i + 1)) ≡ false = sym (other_end b (i + 1) h (key_of_lem (row_no b i)) (row_no b i).len) in
      two_end b (i + 1) h body ∙ two-on b i l body (rw z (and_false (eqb (body_of_lem (row_no b i)) body))) ∙ m.same)
      (λ l. two_end b i l body ∙ m.same)
