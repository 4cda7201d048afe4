-- Laws of the search by halves through rows that rise, and of what it finds.
use Rattle.std.specs.Prelude.{ℕ, zero, suc, ◌+◌, ◌-◌, ◌/◌, ◌≤◌, ◌<◌, ◌≡◌, refl, true, List, [], ◌∷◌, ltb, length}
use Rattle.std.proofs.Common.{sym, ap, ◌∙◌, subst, add-zero, arith, ltb-false}
use Rattle.octets.specs.PickLaws.{other_holds}
use Rattle.charstring.specs.declared.MaskLen.TheVariants.{Own, Given}
use Rattle.unfold.specs.Unfold.{Row}
use Rattle.record.specs.Record.{rows_of}
use Rattle.reach.specs.Reach.{key_of_lem, rises, row_no, rest_of}
use Rattle.reach.specs.Masks.{len_at, FirstAt}
use Rattle.reach.specs.RowLaws.{rest_all, rest-next}
use Rattle.reach.specs.Cases.{by_order}
use Rattle.reach.specs.MaskLaws.{given-here, given-on, given_end}

-- ---- rows that rise are sorted

rises-tail : (r : Row) (rs : List Row) → rises (r ∷ rs) ≡ true → rises rs ≡ true
unfolding rises
rises-tail r [] h = refl
rises-tail r (q ∷ rs) h = (other_holds (ltb (key_of_lem q) (key_of_lem r)) (rises (q ∷ rs)) h).1

rises-two : (r q : Row) (rs : List Row) → rises (r ∷ q ∷ rs) ≡ true → key_of_lem r ≤ key_of_lem q
unfolding rises
rises-two r q rs h = ltb-false (key_of_lem q) (key_of_lem r) (other_holds (ltb (key_of_lem q) (key_of_lem r)) (rises (q ∷ rs)) h).0

module _ (b : List ℕ) (rising : rises (rows_of b) ≡ true) where
  rises-rest : (i : ℕ) → i ≤ length b / 10 → rises (rest_of b i) ≡ true
  rises-rest zero h = ap rises (rest_all b) ∙ rising
  rises-rest (suc i) h =
      let e : i + 1 ≡ suc i = omega arith in
      subst (λ (k : ℕ). rises (rest_of b k) ≡ true) e
      (rises-tail (row_no b i) (rest_of b (i + 1)) (sym (ap rises (rest-next b i (omega arith))) ∙ rises-rest i (omega arith)))

  next-above : (i : ℕ) → i + 1 < length b / 10 → key_of_lem (row_no b i) ≤ key_of_lem (row_no b (i + 1))
  next-above i h =
      let e : rest_of b i ≡ row_no b i ∷ row_no b (i + 1) ∷ rest_of b (i + 1 + 1)
      = rest-next b i (omega arith) ∙ ap (λ (rs : List Row). row_no b i ∷ rs) (rest-next b (i + 1) h) in
      rises-two (row_no b i) (row_no b (i + 1)) (rest_of b (i + 1 + 1)) (sym (ap rises e) ∙ rises-rest i (omega arith))

  above-by : (i d : ℕ) → i + d < length b / 10 → key_of_lem (row_no b i) ≤ key_of_lem (row_no b (i + d))
  above-by i zero h = let e : key_of_lem (row_no b (i + 0)) ≡ key_of_lem (row_no b i) = ap (λ (k : ℕ). key_of_lem (row_no b k)) (add-zero i) in omega arith
  above-by i (suc d) h =
      let a : i + d + 1 ≡ i + suc d = omega arith in
      let e : key_of_lem (row_no b (i + d + 1)) ≡ key_of_lem (row_no b (i + suc d)) = ap (λ (k : ℕ). key_of_lem (row_no b k)) a in
      omega (arith, above-by i d (omega arith), next-above (i + d) (omega arith))

  pub sorted : (i j : ℕ) → i ≤ j → j < length b / 10 → key_of_lem (row_no b i) ≤ key_of_lem (row_no b j)
  sorted i j h k =
      let a : i + (j - i) ≡ j = omega arith in
      let e : key_of_lem (row_no b (i + (j - i))) ≡ key_of_lem (row_no b j) = ap (λ (m : ℕ). key_of_lem (row_no b m)) a in
      omega (arith, above-by i (j - i) (omega arith))

-- ---- the search

-- the rows below low have keys below the key, and those from high on have not
pub record Searches (b : List ℕ) (key low high : ℕ) : Type 0 where
  pub order : low ≤ high
  pub most : high ≤ length b / 10
  pub below : (j : ℕ) → j < low → key_of_lem (row_no b j) < key
  pub above : (j : ℕ) → high ≤ j → j < length b / 10 → key ≤ key_of_lem (row_no b j)

pub search_start : (b : List ℕ) (key : ℕ) → Searches b key 0 (length b / 10)
search_start b key = record { order = omega arith; most = omega arith; below = λ j h. absurd (omega arith); above = λ j h k. absurd (omega arith) }

module _ (b : List ℕ) (key low high : ℕ) (s : Searches b key low high) where
  module _ (rising : rises (rows_of b) ≡ true) (mid : ℕ) (from : low ≤ mid) (to : mid < high) where
    pub search_right : key_of_lem (row_no b mid) < key → Searches b key (mid + 1) high
    search_right h =
        record {
          order = omega arith;
          most = s.most;
          below = λ j k. omega (arith, sorted b rising j mid (omega arith) (omega (arith, s.most)));
          above = s.above;
        }

    pub search_left : key ≤ key_of_lem (row_no b mid) → Searches b key low mid
    search_left h =
        record {
          order = from;
          most = omega (arith, s.most);
          below = s.below;
          above = λ j k l. omega (arith, sorted b rising mid j k l);
        }

  pub search_done : high ≤ low → FirstAt b key low
  search_done h =
      record {
        within = omega (arith, s.order, s.most);
        below = s.below;
        above = λ j k l. s.above j (omega arith) l;
      }

-- ---- the length of a mask, found

-- rows without the key are passed
pub given-skip : (b : List ℕ) (key i : ℕ) → i ≤ length b / 10 → ((j : ℕ) → j < i → key_of_lem (row_no b j) < key) → len_at key (rest_of b i) ≡ len_at key (rows_of b)
given-skip b key zero h below = ap (len_at key) (rest_all b)
given-skip b key (suc i) h below =
    let e : suc i ≡ i + 1 = omega arith in
    ap (λ (k : ℕ). len_at key (rest_of b k)) e ∙ given-on b i (omega arith) key (λ z. omega (arith, below i (omega arith)))
    ∙ given-skip b key i (omega arith) (λ j k. below j (omega arith))

-- no row from the i-th on has the key
pub given-none : (b : List ℕ) (key d i : ℕ) → length b / 10 ≤ i + d → ((j : ℕ) → i ≤ j → j < length b / 10 → key_of_lem (row_no b j) ≡ key → ⊥)
    → Own ≡ len_at key (rest_of b i)
given-none b key zero i h none = given_end b i (omega arith) key
given-none b key (suc d) i h none =
    by_order i (length b / 10)
    (λ l. given-none b key d (i + 1) (omega arith) (λ j k m. none j (omega arith) m) ∙ given-on b i l key (none i (omega arith) l))
    (λ l. given_end b i l key)

module _ (b : List ℕ) (key i : ℕ) (f : FirstAt b key i) where
  skip : len_at key (rest_of b i) ≡ len_at key (rows_of b)
  skip = given-skip b key i f.within f.below

  pub found_here : i < length b / 10 → key_of_lem (row_no b i) ≡ key → Given (row_no b i).len ≡ len_at key (rows_of b)
  found_here h e = given-here b i h key e ∙ skip

  pub found_other : rises (rows_of b) ≡ true → i < length b / 10 → (key_of_lem (row_no b i) ≡ key → ⊥) → Own ≡ len_at key (rows_of b)
  found_other rising h n =
      let k : key < key_of_lem (row_no b i) = omega (arith, f.above i (omega arith) h, n) in
      given-none b key (length b / 10) i (omega arith) (λ j l m e. omega (arith, sorted b rising i j l m)) ∙ skip

  pub found_end : length b / 10 ≤ i → Own ≡ len_at key (rows_of b)
  found_end h = given_end b i h key ∙ skip
