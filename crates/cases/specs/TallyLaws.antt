-- Laws of the counts: a line adds one to one of them; a walk over a text counts its lines and finds the first that failed.
use Prim.Native.Nat.{ℕ, zero, suc, ◌+◌, ◌*◌, ◌≤◌, ◌<◌}
use Rattle.std.specs.Prelude.{◌≡◌, Bool, replicate, None, Option, Some}
use Rattle.std.specs.Option.{option_or}
use Rattle.std.proofs.Math.Path.{refl, ap, subst}
use Rattle.std.proofs.Common.{sym, ◌∙◌, get_or-set_same, get_or-set_other, eqb-true}
use Rattle.std.proofs.Math.Bool.{true, false}
use mathlib.Core.List.{List, [], ◌∷◌}
use native.Mathlib.Omega.{arith}
use Rattle.std.proofs.Math.Dec.{eqb}
use Rattle.std.proofs.Math.ListN.{length, get_or, set, length-set}
use Rattle.std.proofs.lemmas.Bool.{eqb-false}
use Rattle.octets.specs.Pick.{pick, pick_ind}
use Rattle.octets.specs.Lists.{before}
use Rattle.cases.specs.Lines.{lines_of}
use Rattle.cases.specs.Tally.{place_of, counted, counted_all, first_failed, earlier, Below}

-- ---- one line

before-le : (b : ℕ) (l : List ℕ) → before b l ≤ length l
unfolding before
before-le b [] = omega arith
before-le b (x ∷ xs) = pick_ind (λ (n : ℕ). n ≤ suc (length xs)) (eqb x b) 0 (suc (before b xs)) (λ e. omega arith) (λ e. omega (arith, before-le b xs))

module _ (kinds counts line : List ℕ) where
  pub place-small : (t : Bool) → place_of kinds line t < 2 * length kinds + 2
  unfolding place_of
  place-small true = omega (arith, before-le (get_or line 0 0) kinds)
  place-small false = omega (arith, before-le (get_or line 0 0) kinds)

  pub counted-length : (t : Bool) → length (counted kinds counts line t) ≡ length counts
  unfolding counted
  counted-length t = length-set counts (place_of kinds line t) (get_or counts (place_of kinds line t) 0 + 1)

  -- a line adds no more than one to a count
  pub counted-below : (n : ℕ) (t : Bool) → 2 * length kinds + 2 ≤ length counts → Below n counts → Below (n + 1) (counted kinds counts line t)
  unfolding counted
  counted-below n t h b i = go (eqb i place) refl
    where
      place : ℕ
      place = place_of kinds line t

      p : place < length counts
      p = omega (arith, place-small t)

      go : (u : Bool) → eqb i place ≡ u → get_or (set counts place (get_or counts place 0 + 1)) i 0 < n + 1
      go true e =
          let f = eqb-true i place e in
          rw (f, get_or-set_same counts place (get_or counts place 0 + 1) 0 p) (omega (arith, b place))
      go false e =
          rw (get_or-set_other counts place i (get_or counts place 0 + 1) 0 (eqb-false i place e)) (omega (arith, b i))

  -- by the code's row
  pub counted-at : (row : ℕ) → row ≡ before (get_or line 0 0) kinds → (t u : Bool) → u ≡ t → (k : ℕ) → k ≡ 2 * row + pick t 0 1
      → set counts k (get_or counts k 0 + 1) ≡ counted kinds counts line u
  unfolding counted place_of
  counted-at row e t u f k g =
      let p : k ≡ 2 * before (get_or line 0 0) kinds + pick u 0 1
      = g ∙ ap (λ (r : ℕ). 2 * r + pick t 0 1) e ∙ ap (λ (v : Bool). 2 * before (get_or line 0 0) kinds + pick v 0 1) (sym f) in
      ap (λ (j : ℕ). set counts j (get_or counts j 0 + 1)) p

-- the row of a letter
pub row-found : (kinds line : List ℕ) (b r : ℕ) → b ≡ get_or line 0 0 → r ≡ before b kinds → r ≡ before (get_or line 0 0) kinds
row-found kinds line b r e f = f ∙ ap (λ (x : ℕ). before x kinds) e

-- counts that are all 0
pub zeros-below : (k i : ℕ) → get_or (replicate k 0) i 0 < 1
zeros-below zero i = omega arith
zeros-below (suc k) zero = omega arith
zeros-below (suc k) (suc i) = zeros-below k i

-- ---- a turn, and the end

-- what is known where these lines are left, and so many passed
pub record Replaying (agree : List ℕ → Bool) (kinds text old counts : List ℕ) (left : List (List ℕ)) (line : ℕ) (first : Option ℕ) : Type 0 where
  pub same_length : length counts ≡ length old
  pub below : Below (line + 1) counts
  pub rest : counted_all agree kinds counts left ≡ counted_all agree kinds old (lines_of text)
  pub failed : option_or first (first_failed agree line left) ≡ first_failed agree 0 (lines_of text)

module _ (agree : List ℕ → Bool) (kinds text old : List ℕ) where
  pub replaying_start : (left : List (List ℕ)) → left ≡ lines_of text → Below 1 old → Replaying agree kinds text old old left 0 None
  replaying_start left e b = record { same_length = refl; below = b; rest = ap (counted_all agree kinds old) e; failed = ap (first_failed agree 0) e }

  first-turn : (first : Option ℕ) (n : ℕ) (l : List ℕ) (ls : List (List ℕ))
      → option_or (earlier first (n + 1) (agree l)) (first_failed agree (n + 1) ls) ≡ option_or first (first_failed agree n (l ∷ ls))
  unfolding first_failed
  first-turn first n l ls = go (agree l) first
    where
      go : (t : Bool) (o : Option ℕ) → option_or (earlier o (n + 1) t) (first_failed agree (n + 1) ls) ≡ option_or o (pick t (first_failed agree (n + 1) ls) (Some (n + 1)))
      go true o = refl
      go false None = refl
      go false (Some k) = refl

  module _ {counts : List ℕ} {left : List (List ℕ)} {line : ℕ} {first : Option ℕ} (r : Replaying agree kinds text old counts left line first) where
    pub replaying_turn : (one : List ℕ) (ls : List (List ℕ)) → left ≡ one ∷ ls → 2 * length kinds + 2 ≤ length counts → (agreed : Bool) → agreed ≡ agree one
        → (newer : List ℕ) → newer ≡ counted kinds counts one agreed → (next : Option ℕ) → next ≡ earlier first (line + 1) agreed
        → Replaying agree kinds text old newer ls (line + 1) next
    unfolding counted_all
    replaying_turn one ls n m agreed g newer w next f =
        let x : next ≡ earlier first (line + 1) (agree one) = f ∙ ap (earlier first (line + 1)) g in
        let v : newer ≡ counted kinds counts one (agree one) = w ∙ ap (counted kinds counts one) g in
        record {
          same_length = ap length w ∙ counted-length kinds counts one agreed ∙ r.same_length;
          below = λ i. subst (λ (cs : List ℕ). get_or cs i 0 < line + 1 + 1) (sym w) (counted-below kinds counts one (line + 1) agreed m r.below i);
          rest = ap (λ (cs : List ℕ). counted_all agree kinds cs ls) v ∙ ap (counted_all agree kinds counts) (sym n) ∙ r.rest;
          failed =
              ap (λ (o : Option ℕ). option_or o (first_failed agree (line + 1) ls)) x
              ∙ first-turn first line one ls
              ∙ ap (λ (l : List (List ℕ)). option_or first (first_failed agree line l)) (sym n) ∙ r.failed;
        }

    pub replaying_end : left ≡ [] → (counts ≡ counted_all agree kinds old (lines_of text)) × (first ≡ first_failed agree 0 (lines_of text))
    unfolding counted_all first_failed
    replaying_end n = (
      ap (counted_all agree kinds counts) (sym n) ∙ r.rest,
      or_none first ∙ ap (λ (l : List (List ℕ)). option_or first (first_failed agree line l)) (sym n) ∙ r.failed,
    )
      where
        or_none : (o : Option ℕ) → o ≡ option_or o None
        or_none None = refl
        or_none (Some k) = refl
