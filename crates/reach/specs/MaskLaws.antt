-- Laws of the passes over the rows: what the rows from the i-th on give is what all give.
use Rattle.std.specs.Prelude.{ℕ, ◌+◌, ◌/◌, ◌≤◌, ◌<◌, ◌≡◌, refl, Bool, true, false, List, [], ◌∷◌, ltb, length}
use Rattle.std.proofs.Common.{sym, ap, ◌∙◌, arith}
use borrow.Author.Tests.{lt-ltb, le-ltb, eq-eqb, ne_eqb}
use Rattle.octets.specs.Pick.{pick}
use Rattle.charstring.specs.declared.MaskLen.TheVariants.{Own, Given}
use Rattle.unfold.specs.Unfold.{Row}
use Rattle.record.specs.Record.{rows_of}
use Rattle.reach.specs.Reach.{key_of_lem, rises, row_no, rest_of}
use Rattle.reach.specs.Masks.{body_of_lem, rises_from, len_at, clashes, other_len_lem, clash_at, two_of}
use Rattle.reach.specs.RowLaws.{rest_all, rest-none, rest-next}

-- ---- rising order

rises-behind : (r : Row) (rs : List Row) → rises_from (key_of_lem r) rs ≡ rises (r ∷ rs)
unfolding rises_from rises
rises-behind r [] = refl
rises-behind r (q ∷ rs) = ap (λ (t : Bool). pick (ltb (key_of_lem q) (key_of_lem r)) false t) (rises-behind q rs)

rises-first : (rows : List Row) → rises_from 0 rows ≡ rises rows
unfolding rises_from rises
rises-first [] = refl
rises-first (r ∷ rs) = rw (le-ltb (key_of_lem r) 0 (omega arith)) (rises-behind r rs)

pub rises-start : (b : List ℕ) → rises_from 0 (rest_of b 0) ≡ rises (rows_of b)
rises-start b = ap (rises_from 0) (rest_all b) ∙ rises-first (rows_of b)

module _ (b : List ℕ) (i : ℕ) where
  module _ (h : i < length b / 10) where
    pub rises_stops : (last : ℕ) → key_of_lem (row_no b i) < last → false ≡ rises_from last (rest_of b i)
    unfolding rises_from
    rises_stops last k = rw (rest-next b i h, lt-ltb _ _ k)

    pub rises-on : (last : ℕ) → last ≤ key_of_lem (row_no b i) → rises_from (key_of_lem (row_no b i)) (rest_of b (i + 1)) ≡ rises_from last (rest_of b i)
    unfolding rises_from
    rises-on last k = rw (rest-next b i h, le-ltb _ _ k)

    -- ---- the length of a mask

    pub given-here : (key : ℕ) → key_of_lem (row_no b i) ≡ key → Given (row_no b i).len ≡ len_at key (rest_of b i)
    unfolding len_at
    given-here key k = rw (rest-next b i h, eq-eqb _ _ k)

    pub given-on : (key : ℕ) → (key_of_lem (row_no b i) ≡ key → ⊥) → len_at key (rest_of b (i + 1)) ≡ len_at key (rest_of b i)
    unfolding len_at
    given-on key k = rw (rest-next b i h, ne_eqb _ _ k)

    -- ---- another length

    pub other_here : (key len : ℕ) → clashes key len (row_no b i) ≡ true → true ≡ other_len_lem key len (rest_of b i)
    unfolding other_len_lem
    other_here key len k = rw (rest-next b i h, k)

    pub other_on : (key len : ℕ) → clashes key len (row_no b i) ≡ false → other_len_lem key len (rest_of b (i + 1)) ≡ other_len_lem key len (rest_of b i)
    unfolding other_len_lem
    other_on key len k = rw (rest-next b i h, k)

    -- ---- two lengths

    pub two_here : (body : ℕ) → clash_at body (row_no b i) (rest_of b (i + 1)) ≡ true → true ≡ two_of body (rest_of b i)
    unfolding two_of
    two_here body k = rw (rest-next b i h, k)

    pub two-on : (body : ℕ) → clash_at body (row_no b i) (rest_of b (i + 1)) ≡ false → two_of body (rest_of b (i + 1)) ≡ two_of body (rest_of b i)
    unfolding two_of
    two-on body k = rw (rest-next b i h, k)

  module _ (h : length b / 10 ≤ i) where
    pub rises_end : (last : ℕ) → true ≡ rises_from last (rest_of b i)
    unfolding rises_from
    rises_end last = rw (rest-none b i h)

    pub given_end : (key : ℕ) → Own ≡ len_at key (rest_of b i)
    unfolding len_at
    given_end key = rw (rest-none b i h)

    pub other_end : (key len : ℕ) → false ≡ other_len_lem key len (rest_of b i)
    unfolding other_len_lem
    other_end key len = rw (rest-none b i h)

    pub two_end : (body : ℕ) → false ≡ two_of body (rest_of b i)
    unfolding two_of
    two_end body = rw (rest-none b i h)

-- ---- a row and those behind it

module _ (b : List ℕ) (i body : ℕ) (r : Row) (e : r ≡ row_no b i) where
  pub clash_here : body_of_lem r ≡ body → (key : ℕ) → key ≡ key_of_lem r → (t : Bool) → t ≡ other_len_lem key r.len (rest_of b (i + 1))
      → t ≡ clash_at body (row_no b i) (rest_of b (i + 1))
  clash_here h key k t q =
      let z : body_of_lem (row_no b i) ≡ body = sym (ap body_of_lem e) ∙ h in
      let w : other_len_lem (key_of_lem (row_no b i)) (row_no b i).len (rest_of b (i + 1)) ≡ clash_at body (row_no b i) (rest_of b (i + 1)) = rw (eq-eqb _ _ z) in
      q ∙ ap (λ (j : ℕ). other_len_lem j r.len (rest_of b (i + 1))) k ∙ ap (λ (x : Row). other_len_lem (key_of_lem x) x.len (rest_of b (i + 1))) e ∙ w

  pub clash_not : (body_of_lem r ≡ body → ⊥) → false ≡ clash_at body (row_no b i) (rest_of b (i + 1))
  clash_not h = let z = ne_eqb (body_of_lem (row_no b i)) body (λ d. h (ap body_of_lem e ∙ d)) in rw z
