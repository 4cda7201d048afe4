-- Laws of counting: the bits are the subroutines that the record has, the ranks of marks their new numbers, and no row is past the count exactly
-- where all reached numbers are below it.
use Rattle.std.specs.Prelude.{ℕ, zero, suc, ◌+◌, ◌-◌, ◌/◌, ◌%◌, ◌^◌, ◌≤◌, ◌<◌, ◌≡◌, refl, Bool, true, false, List, [], ◌∷◌, ltb, eqb, length, get_or}
use Rattle.std.proofs.Common.{sym, ap, ◌∙◌, subst, add-zero, arith, lt-ltb, le-ltb, eq-eqb, ne_eqb, ltb-true, ltb-false, get_or-set_same, get_or-set_other}
use Rattle.std.specs.Int.Bits.{bit_or}
use Rattle.std.proofs.lemmas.Nat.{or_lt}
use Rattle.std.proofs.Math.Pow.{pow-lt}
use Rattle.octets.specs.Pick.{pick, pick_ind}
use Rattle.unfold.specs.Unfold.{Row}
use Rattle.record.specs.Record.{same_row_lem, lists}
use Rattle.bits.specs.Bits.{count_below, words_for, bit_in, set_bit}
use Rattle.bits.specs.SetLaws.{set_bits}
use Rattle.subset.specs.Pruned.{reached}
use Rattle.subset.specs.RankLaws.{count_next}
use Rattle.subset.specs.ReachedLaws.{third_false}
use Rattle.reach.specs.Reach.{ranks_of}
use Rattle.reach.specs.Ranks.{reached_row, reached_in, tells, mark_row, marked, past_row, past_of, rank_for, count_for, ranked, counted}
use Rattle.reach.specs.Cases.{by_number}
use Rattle.reach.specs.RowLaws.{AllFit}
use Rattle.reach.specs.MarkLaws.{mark-length}

-- ---- a row and a subroutine

-- a row of another number
pub other_row : (kind fd k : ℕ) (r : Row) → (r.number ≡ k → ⊥) → same_row_lem r (reached_row kind fd k) ≡ false
other_row kind fd k r h = third_false (eqb r.kind kind) (eqb r.fd fd) (eqb r.number k) (eqb r.offset 0) (eqb r.len 0) (ne_eqb _ _ h)

-- ---- bits

-- a bit after one was set or not
bit-after : (t u : Bool) (ws : List ℕ) (m k : ℕ) → (u ≡ true → 0 + m / 32 < length ws)
    → bit_in (pick t (pick u (set_bit ws 0 m) ws) ws) 0 k ≡ pick t (pick u (pick (eqb k m) true (bit_in ws 0 k)) (bit_in ws 0 k)) (bit_in ws 0 k)
bit-after true true ws m k h = set_bits ws 0 m k (h refl)
bit-after true false ws m k h = refl
bit-after false u ws m k h = refl

module _ (kind fd count : ℕ) (ws : List ℕ) (r : Row) (k : ℕ) (long : words_for count ≤ length ws) where
  after : bit_in (mark_row kind fd count ws r) 0 k
      ≡ pick (tells r kind fd) (pick (ltb r.number count) (pick (eqb k r.number) true (bit_in ws 0 k)) (bit_in ws 0 k)) (bit_in ws 0 k)
  after = bit-after (tells r kind fd) (ltb r.number count) ws r.number k (λ e. let l = ltb-true r.number count e in omega arith)

  -- a bit that stays
  stays : (t u : Bool) (x : Bool) → pick t (pick u (pick false true x) x) x ≡ x
  stays true true x = refl
  stays true false x = refl
  stays false u x = refl

  other_bit : (r.number ≡ k → ⊥) → bit_in (mark_row kind fd count ws r) 0 k ≡ bit_in ws 0 k
  other_bit n = after ∙ rw (ne_eqb k r.number (λ e. n (sym e))) (stays (tells r kind fd) (ltb r.number count) (bit_in ws 0 k))

  -- a number below the count: by what the row says
  mark-at : k < count → bit_in (mark_row kind fd count ws r) 0 k ≡ pick (same_row_lem r (reached_row kind fd k)) true (bit_in ws 0 k)
  mark-at h =
      by_number r.number k
      (λ e. let l : r.number < count = omega arith in
      after ∙ rw (lt-ltb r.number count l, eq-eqb k r.number (sym e))
      (ap (λ (i : ℕ). pick (same_row_lem r (reached_row kind fd i)) true (bit_in ws 0 k)) e))
      (λ n. other_bit n ∙ rw (other_row kind fd k r n))

  -- a number past it: as it was
  past-at : count ≤ k → bit_in (mark_row kind fd count ws r) 0 k ≡ bit_in ws 0 k
  past-at h = go (ltb r.number count) refl
    where
      go : (u : Bool) → ltb r.number count ≡ u → bit_in (mark_row kind fd count ws r) 0 k ≡ bit_in ws 0 k
      go true e = let l = ltb-true r.number count e in other_bit (λ n. omega arith)
      go false e = after ∙ rw e (same (tells r kind fd) (bit_in ws 0 k))
        where
          same : (t x : Bool) → pick t x x ≡ x
          same true x = refl
          same false x = refl

either : (s l w : Bool) → pick l true (pick s true w) ≡ pick (pick s true l) true w
either true true w = refl
either true false w = refl
either false l w = refl

-- the bit of a subroutine after some rows
pub marked-at : (kind fd count : ℕ) (rows : List Row) (ws : List ℕ) (k : ℕ) → words_for count ≤ length ws → k < count
    → bit_in (marked kind fd count rows ws) 0 k ≡ pick (reached_in rows kind fd k) true (bit_in ws 0 k)
unfolding marked lists
marked-at kind fd count [] ws k l h = refl
marked-at kind fd count (r ∷ rs) ws k l h =
    let n : words_for count ≤ length (mark_row kind fd count ws r) = rw mark-length l in
    marked-at kind fd count rs (mark_row kind fd count ws r) k n h
    ∙ rw (mark-at kind fd count ws r k l h) (either (same_row_lem r (reached_row kind fd k)) (lists rs (reached_row kind fd k)) (bit_in ws 0 k))

pub marked-past : (kind fd count : ℕ) (rows : List Row) (ws : List ℕ) (k : ℕ) → words_for count ≤ length ws → count ≤ k
    → bit_in (marked kind fd count rows ws) 0 k ≡ bit_in ws 0 k
unfolding marked
marked-past kind fd count [] ws k l h = refl
marked-past kind fd count (r ∷ rs) ws k l h =
    let n : words_for count ≤ length (mark_row kind fd count ws r) = rw mark-length l in
    marked-past kind fd count rs (mark_row kind fd count ws r) k n h ∙ past-at kind fd count ws r k l h

pub marked-length : (kind fd count : ℕ) (rows : List Row) (ws : List ℕ) → length (marked kind fd count rows ws) ≡ length ws
unfolding marked
marked-length kind fd count [] ws = refl
marked-length kind fd count (r ∷ rs) ws = marked-length kind fd count rs (mark_row kind fd count ws r) ∙ mark-length kind fd count ws r

-- words stay words
abbrev pub Words : List ℕ → Type 0
Words ws = (i : ℕ) → get_or ws i 0 < 4294967296

bit-small : (ws : List ℕ) (k : ℕ) → 0 + k / 32 < length ws → Words ws → Words (set_bit ws 0 k)
bit-small ws k h small i =
    let v = bit_or (get_or ws (0 + k / 32) 0) (2 ^ (k % 32)) in
    let m : k % 32 < 32 = omega arith in
    let l : v < 4294967296 = or_lt 32 (get_or ws (0 + k / 32) 0) (2 ^ (k % 32)) (small (0 + k / 32)) (pow-lt m) in
    by_number i (0 + k / 32)
    (λ e. subst (λ (n : ℕ). n < 4294967296) (sym (ap (λ (j : ℕ). get_or (set_bit ws 0 k) j 0) e ∙ get_or-set_same ws (0 + k / 32) v 0 h)) l)
    (λ n. subst (λ (m : ℕ). m < 4294967296) (sym (get_or-set_other ws (0 + k / 32) i v 0 n)) (small i))

mark-small : (kind fd count : ℕ) (ws : List ℕ) (r : Row) → words_for count ≤ length ws → Words ws → Words (mark_row kind fd count ws r)
mark-small kind fd count ws r long small =
    pick_ind Words (tells r kind fd) (pick (ltb r.number count) (set_bit ws 0 r.number) ws) ws
    (λ e. pick_ind Words (ltb r.number count) (set_bit ws 0 r.number) ws
    (λ f. let l = ltb-true r.number count f in bit-small ws r.number (omega arith) small) (λ f. small)) (λ e. small)

pub marked-small : (kind fd count : ℕ) (rows : List Row) (ws : List ℕ) → words_for count ≤ length ws → Words ws → Words (marked kind fd count rows ws)
unfolding marked
marked-small kind fd count [] ws long small = small
marked-small kind fd count (r ∷ rs) ws long small =
    marked-small kind fd count rs (mark_row kind fd count ws r) (rw mark-length long) (mark-small kind fd count ws r long small)

-- ---- ranks

-- marks that are a set's, from number k on
unfoldable pub Marks : (ℕ → Bool) → ℕ → List ℕ → Type 0
Marks s k ws = (j : ℕ) → j < length ws → get_or ws j 0 ≡ pick (s (k + j)) 1 0

rank-one : (t : Bool) (n : ℕ) → rank_for n (pick t 1 0) ≡ pick t (n + 1) 0
rank-one true n = refl
rank-one false n = refl

count-one : (t : Bool) (n : ℕ) → count_for n (pick t 1 0) ≡ n + pick t 1 0
count-one true n = refl
count-one false n = sym (add-zero n)

pub ranked-ranks : (s : ℕ → Bool) (k : ℕ) (ws : List ℕ) → Marks s k ws
    → (ranked (count_below s k) ws ≡ ranks_of s k (length ws)) × (counted (count_below s k) ws ≡ count_below s (k + length ws))
unfolding Marks ranked counted ranks_of
ranked-ranks s k [] h = (refl, ap (count_below s) (sym (add-zero k)))
ranked-ranks s k (w ∷ ws) h =
    let z : k + 0 ≡ k = add-zero k in
    let e : w ≡ pick (s k) 1 0 = h 0 (omega arith) ∙ rw z in
    let c : count_for (count_below s k) w ≡ count_below s (k + 1) = rw e (count-one (s k) (count_below s k) ∙ sym (count_next s k)) in
    let r : rank_for (count_below s k) w ≡ pick (s k) (count_below s k + 1) 0 = rw e (rank-one (s k) (count_below s k)) in
    let m : Marks s (k + 1) ws = λ j l. let a : k + 1 + j ≡ k + suc j = omega arith in rw a (h (suc j) (omega arith)) in
    let i = ranked-ranks s (k + 1) ws m in
    let l : k + 1 + length ws ≡ k + suc (length ws) = omega arith in
    (rw (r, c) (ap (λ (t : List ℕ). pick (s k) (count_below s k + 1) 0 ∷ t) i.0), rw c (i.1 ∙ ap (count_below s) l))

pub length-ranks : (s : ℕ → Bool) (k n : ℕ) → length (ranks_of s k n) ≡ n
unfolding ranks_of
length-ranks s k zero = refl
length-ranks s k (suc n) = ap suc (length-ranks s (k + 1) n)

-- ---- numbers past the count

one-zero : (t : Bool) → ◌≡◌ {A = ℕ} (pick t 1 0) 0 → t ≡ false
one-zero true h = absurd (omega arith)
one-zero false h = refl

-- a row that is not past the count has no number from there on
row_below : (kind fd n k : ℕ) (r : Row) → past_row kind fd n r ≡ 0 → n ≤ k → same_row_lem r (reached_row kind fd k) ≡ false
row_below kind fd n k r p h =
    by_number r.number k
    (λ e. subst (λ (i : ℕ). same_row_lem r (reached_row kind fd i) ≡ false) e
    (one-zero (tells r kind fd) (rw (le-ltb r.number n (omega arith)) at p)))
    (λ d. other_row kind fd k r d)

pub none-past : (kind fd n : ℕ) (rows : List Row) → past_of kind fd n rows ≡ 0 → (k : ℕ) → n ≤ k → reached_in rows kind fd k ≡ false
unfolding past_of lists
none-past kind fd n [] p k h = refl
none-past kind fd n (r ∷ rs) p k h =
    rw (row_below kind fd n k r (omega arith) h) (none-past kind fd n rs (omega arith) k h)

-- a reached number from the count on
pub record Past (rows : List Row) (kind fd n : ℕ) : Type 0 where
  pub number : ℕ
  pub above : n ≤ number
  pub small : number < 65536
  pub there : reached_in rows kind fd number ≡ true

past-tells : (t u : Bool) → (◌≡◌ {A = ℕ} (pick t (pick u 0 1) 0) 0 → ⊥) → (t ≡ true) × (u ≡ false)
past-tells true true h = absurd (h refl)
past-tells true false h = (refl, refl)
past-tells false u h = absurd (h refl)

or_true : (s : Bool) → pick s true true ≡ true
or_true true = refl
or_true false = refl

pub some-past : (kind fd n : ℕ) (rows : List Row) → AllFit rows → (past_of kind fd n rows ≡ 0 → ⊥) → Past rows kind fd n
unfolding past_of lists AllFit
some-past kind fd n [] fit p = absurd (p refl)
some-past kind fd n (r ∷ rs) fit p =
    by_number (past_row kind fd n r) 0
    (λ z. let q = some-past kind fd n rs fit.1 (λ e. p (omega arith)) in
    record { number = q.number; above = q.above; small = q.small; there = rw q.there (or_true (same_row_lem r (reached_row kind fd q.number))) })
    (λ z. let t = past-tells (tells r kind fd) (ltb r.number n) z in
    record { number = r.number; above = ltb-false r.number n t.1; small = fit.0.number; there = rw t.0 })

-- ---- counts of a set

count_grows : (s : ℕ → Bool) (n d : ℕ) → count_below s n ≤ count_below s (n + d)
count_grows s n zero = let e : count_below s (n + 0) ≡ count_below s n = ap (count_below s) (add-zero n) in omega arith
count_grows s n (suc d) =
    let e : count_below s (n + suc d) ≡ count_below s (n + d + 1) = ap (count_below s) (omega arith) in
    omega (arith, count_grows s n d, count_next s (n + d))

pub count_stays : (s : ℕ → Bool) (n : ℕ) → ((k : ℕ) → n ≤ k → s k ≡ false) → (d : ℕ) → count_below s (n + d) ≡ count_below s n
count_stays s n h zero = ap (count_below s) (add-zero n)
count_stays s n h (suc d) =
    let e : n + suc d ≡ n + d + 1 = omega arith in
    let f : count_below s (n + suc d) ≡ count_below s (n + d + 1) = ap (count_below s) e in
    f ∙ count_next s (n + d) ∙ rw (h (n + d) (omega arith)) (add-zero (count_below s (n + d)) ∙ count_stays s n h d)

pub count-more : (s : ℕ → Bool) (n m t : ℕ) → n ≤ m → m < t → s m ≡ true → count_below s n < count_below s t
count-more s n m t h k e =
    let a : count_below s (n + (m - n)) ≡ count_below s m = ap (count_below s) (omega arith) in
    let b : count_below s (m + 1 + (t - (m + 1))) ≡ count_below s t = ap (count_below s) (omega arith) in
    let c : count_below s (m + 1) ≡ count_below s m + 1 = count_next s m ∙ rw e in
    omega (arith, count_grows s n (m - n), count_grows s (m + 1) (t - (m + 1)))

-- no row is past the count exactly where all reached numbers are below it
pub all-below : (kind fd n : ℕ) (rows : List Row) → AllFit rows → n < 65536
    → eqb (past_of kind fd n rows) 0 ≡ eqb (reached (reached_in rows kind fd)) (count_below (reached_in rows kind fd) n)
all-below kind fd n rows fit h =
    let s = reached_in rows kind fd in
    by_number (past_of kind fd n rows) 0
    (λ e. let f : count_below s (n + (65536 - n)) ≡ count_below s 65536 = ap (count_below s) (omega arith) in
    eq-eqb _ _ e ∙ sym (eq-eqb (count_below s 65536) (count_below s n) (sym f ∙ count_stays s n (none-past kind fd n rows e) (65536 - n))))
    (λ e. let q = some-past kind fd n rows fit e in
    ne_eqb _ _ e ∙ sym (ne_eqb (count_below s 65536) (count_below s n) (λ z. omega (arith, count-more s n q.number 65536 q.above q.small q.there))))
