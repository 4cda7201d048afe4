-- Laws of the loops that set bits, and that mark and rank: what is left to do gives what the whole gives.
use Rattle.std.specs.Prelude.{ℕ, zero, suc, ◌+◌, ◌/◌, ◌≤◌, ◌<◌, ◌≡◌, refl, Bool, true, false, ltb, eqb, set, replicate}
use Rattle.std.proofs.Math.Path.{sym, ap}
use Rattle.std.proofs.Common.{◌∙◌, arith, ne_eqb, take-suc-set, drop-set-lt}
use mathlib.Core.List.{List, [], ◌∷◌, ◌++◌, append_assoc, append-nil}
use Rattle.std.proofs.Math.Nat.{zero-add}
use Rattle.std.proofs.Math.Numerals.{add-one}
use Rattle.std.proofs.Math.ListN.{length, take, drop, get_or, length-set, drop_of_length-le}
use Rattle.std.proofs.lemmas.List.{replicate-append-replicate}
use Rattle.std.proofs.Math.Seq.{drop-cons, take_all}
use Rattle.octets.specs.Pick.{pick, pick_ind}
use Rattle.bits.specs.Bits.{set_bit}
use Rattle.unfold.specs.Unfold.{Row}
use Rattle.record.specs.Record.{rows_of}
use Rattle.reach.specs.declared.Row as code
use Rattle.reach.specs.Reach.{row_in, row_no, rest_of}
use Rattle.reach.specs.Ranks.{tells, mark_row, marked, past_row, past_of, rank_for, count_for, ranked, counted}
use Rattle.reach.specs.RowLaws.{rest_all, rest-none, rest-next}

-- ---- words set to 0

pub clear_more : (l : List ℕ) (i : ℕ) → i < length l → take i l ≡ replicate i 0 → take (i + 1) (set l i 0) ≡ replicate (i + 1) 0
clear_more l i h e = rw (add-one, take-suc-set, e) (replicate-append-replicate i 1 0 ∙ rw add-one)

-- ---- bits

pub mark-length : (kind fd count : ℕ) (ws : List ℕ) (r : Row) → length (mark_row kind fd count ws r) ≡ length ws
mark-length kind fd count ws r =
    pick_ind (λ (l : List ℕ). length l ≡ length ws) (tells r kind fd) (pick (ltb r.number count) (set_bit ws 0 r.number) ws) ws
    (λ e. pick_ind (λ (l : List ℕ). length l ≡ length ws) (ltb r.number count) (set_bit ws 0 r.number) ws (λ f. simp length-set) (λ f. refl)) (λ e. refl)

-- no row of two parts is past the count where none of either is
none_of : (m n : ℕ) → eqb (m + n) 0 ≡ pick (eqb m 0) (eqb n 0) false
none_of zero n = ap (λ (k : ℕ). eqb k 0) (zero-add n)
none_of (suc m) n = rw (ne_eqb (suc m + n) 0 (λ e. omega arith), ne_eqb (suc m) 0 (λ e. omega arith)) refl

-- i rows have set their bits, and each has its subroutine, or one has not
pub record Marking (b : List ℕ) (kind fd count : ℕ) (old marks : List ℕ) (all : Bool) (i : ℕ) : Type 0 where
  pub within : i ≤ length b / 10
  pub long : length marks ≡ length old
  pub same : marked kind fd count (rest_of b i) marks ≡ marked kind fd count (rows_of b) old
  pub whole : pick all (eqb (past_of kind fd count (rest_of b i)) 0) false ≡ eqb (past_of kind fd count (rows_of b)) 0

module _ (b : List ℕ) (kind fd count : ℕ) (old : List ℕ) where
  pub marking_start : Marking b kind fd count old old true 0
  marking_start =
      record {
        within = omega arith;
        long = refl;
        same = ap (λ (rs : List Row). marked kind fd count rs old) (rest_all b);
        whole = ap (λ (rs : List Row). eqb (past_of kind fd count rs) 0) (rest_all b);
      }

  module _ (marks : List ℕ) (all : Bool) (i : ℕ) (m : Marking b kind fd count old marks all i) where
    pub marking_next : i < length b / 10 → (r : code.Row) → row_in r ≡ row_no b i → (new : List ℕ) (t : Bool) → new ≡ mark_row kind fd count marks (row_in r)
        → t ≡ eqb (past_row kind fd count (row_in r)) 0 → (all' : Bool) → all' ≡ pick t all false → Marking b kind fd count old new all' (i + 1)
    unfolding marked past_of
    marking_next h r e new t n q all' p =
        let left = eqb (past_of kind fd count (rest_of b (i + 1))) 0 in
        let n' : new ≡ mark_row kind fd count marks (row_no b i) = n ∙ ap (mark_row kind fd count marks) e in
        let q' : t ≡ eqb (past_row kind fd count (row_no b i)) 0 = q ∙ ap (λ (x : Row). eqb (past_row kind fd count x) 0) e in
        let s : eqb (past_of kind fd count (rest_of b i)) 0 ≡ pick t left false
        = ap (λ (rs : List Row). eqb (past_of kind fd count rs) 0) (rest-next b i h)
        ∙ none_of (past_row kind fd count (row_no b i)) (past_of kind fd count (rest_of b (i + 1)))
        ∙ ap (λ (u : Bool). pick u left false) (sym q') in
        record {
          within = omega arith;
          long = ap length n' ∙ mark-length kind fd count marks (row_no b i) ∙ m.long;
          same = ap (marked kind fd count (rest_of b (i + 1))) n' ∙ sym (ap (λ (rs : List Row). marked kind fd count rs marks) (rest-next b i h)) ∙ m.same;
          whole = ap (λ (u : Bool). pick u left false) p ∙ either t all left ∙ ap (λ (u : Bool). pick all u false) (sym s) ∙ m.whole;
        }
      where
        either : (t u w : Bool) → pick (pick t u false) w false ≡ pick u (pick t w false) false
        either true true w = refl
        either true false w = refl
        either false true w = refl
        either false false w = refl

    pub marking_done : length b / 10 ≤ i → (marks ≡ marked kind fd count (rows_of b) old) × (all ≡ eqb (past_of kind fd count (rows_of b)) 0)
    unfolding marked past_of
    marking_done h =
        let e = rest-none b i h in
        let z : eqb (past_of kind fd count (rest_of b i)) 0 ≡ true = ap (λ (rs : List Row). eqb (past_of kind fd count rs) 0) e in
        (sym (ap (λ (rs : List Row). marked kind fd count rs marks) e) ∙ m.same, sym (same all) ∙ ap (λ (u : Bool). pick all u false) (sym z) ∙ m.whole)
      where
        same : (t : Bool) → pick t true false ≡ t
        same true = refl
        same false = refl

-- ---- marks turned into ranks

-- the first i words are ranks, reached of them marks
pub record Ranking (old marks : List ℕ) (reached i : ℕ) : Type 0 where
  pub within : i ≤ length old
  pub long : length marks ≡ length old
  pub few : reached ≤ i
  pub same : take i marks ++ ranked reached (drop i marks) ≡ ranked 0 old
  pub total : counted reached (drop i marks) ≡ counted 0 old

count_small : (n w : ℕ) → count_for n w ≤ n + 1
count_small n w = pick_ind (λ (p : ℕ). p ≤ n + 1) (eqb w 0) n (n + 1) (λ e. omega arith) (λ e. omega arith)

pub ranking_start : (old : List ℕ) → Ranking old old 0 0
ranking_start old = record { within = omega arith; long = refl; few = omega arith; same = refl; total = refl }

module _ (old marks : List ℕ) (reached i : ℕ) (m : Ranking old marks reached i) where
  pub ranking_next : i < length old → (new : List ℕ) (r : ℕ) → new ≡ set marks i (rank_for reached (get_or marks i 0)) → r ≡ count_for reached (get_or marks i 0)
      → Ranking old new r (i + 1)
  unfolding ranked counted
  ranking_next h new r n q =
      let w = get_or marks i 0 in
      let v = rank_for reached w in
      let k : i < length marks = omega (arith, m.long) in
      let c : drop i marks ≡ w ∷ drop (suc i) marks = drop-cons marks i 0 k in
      let d : drop (i + 1) new ≡ drop (suc i) marks = ap (drop (i + 1)) n ∙ rw add-one (drop-set-lt (suc i) marks i v (omega arith)) in
      let t : take (i + 1) new ≡ take i marks ++ (v ∷ []) = ap (take (i + 1)) n ∙ rw add-one (take-suc-set marks i v k) in
      let s : take i marks ++ (v ∷ ranked (count_for reached w) (drop (suc i) marks)) ≡ ranked 0 old
      = sym (ap (λ (l : List ℕ). take i marks ++ ranked reached l) c) ∙ m.same in
      record {
        within = omega arith;
        long = ap length n ∙ length-set marks i v ∙ m.long;
        few = omega (arith, q, count_small reached w, m.few);
        same = rw (t, d, q, append_assoc) s;
        total = rw (d, q) (sym (ap (counted reached) c) ∙ m.total);
      }

  pub ranking_done : length old ≤ i → (marks ≡ ranked 0 old) × (reached ≡ counted 0 old)
  unfolding ranked counted
  ranking_done h =
      let k : length marks ≤ i = omega (arith, m.long) in
      let d : drop i marks ≡ [] = drop_of_length-le marks k in
      let t : take i marks ≡ marks = take_all i marks k in
      let s : take i marks ++ [] ≡ ranked 0 old = rw d at m.same in
      (sym (append-nil marks) ∙ rw t at s, rw d at m.total)
