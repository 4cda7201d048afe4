-- Laws of words that hold ranks, plus 1 (those of the FDs in use) or bits, which give each subroutine its new number; a number past the count is in no row.
use Rattle.std.specs.Prelude.{ℕ, zero, suc, ◌+◌, ◌≤◌, ◌<◌, ◌≡◌, refl, Bool, true, false, List, [], ◌∷◌, eqb, length, take, drop, get_or, None, Some}
use Rattle.std.proofs.Common.{sym, ap, ◌∙◌, add-zero, arith, lt-ltb, eqb-true, get_or-drop}
use Rattle.std.proofs.Math.ListN.{get_or-append}
use Rattle.octets.specs.Octets.{put}
use Rattle.octets.specs.Pick.{pick}
use Rattle.octets.specs.PickLaws.{not_true}
use Rattle.octets.specs.PutLaws.{put-length, drop-put-at}
use Rattle.unfold.specs.Unfold.{Row}
use Rattle.record.specs.Record.{lists}
use Rattle.bits.specs.Bits.{count_below, words_for, bit_in, bits_of}
use Rattle.bits.specs.BitsLaws.{count-alike}
use Rattle.bits.specs.WordsLaws.{bit-told}
use Rattle.subset.specs.Pruned.{reached, rank}
use Rattle.reach.specs.Reach.{ranks_of, set_of, number_in}
use Rattle.reach.specs.Ranks.{reached_in}
use Rattle.reach.specs.Cases.{by_order}
use Rattle.reach.specs.declared.Subrs.{Subrs}
use Rattle.reach.specs.declared.Subrs.TheVariants.{Global, Local}
use Rattle.reach.specs.RowLaws.{AllFit}
use Rattle.reach.specs.CountLaws.{other_row, length-ranks, count-more}

-- the words of count numbers, from at on, are their ranks, plus 1
pub record HoldRanks (words : List ℕ) (at : ℕ) (s : ℕ → Bool) (count : ℕ) : Type 0 where
  pub room : at + count ≤ length words
  pub word : (k : ℕ) → k < count → get_or words (at + k) 0 ≡ pick (s k) (count_below s k + 1) 0

pub ranks-at : (s : ℕ → Bool) (n j k : ℕ) → k < n → get_or (ranks_of s j n) k 0 ≡ pick (s (j + k)) (count_below s (j + k) + 1) 0
unfolding ranks_of
ranks-at s zero j k h = absurd (omega arith)
ranks-at s (suc n) j zero h = rw (add-zero j)
ranks-at s (suc n) j (suc k) h = let e : j + 1 + k ≡ j + suc k = omega arith in ranks-at s n (j + 1) k (omega arith) ∙ rw e

-- words that were set
pub set_hold : (old words : List ℕ) (at : ℕ) (s : ℕ → Bool) (count : ℕ) → at + count ≤ length old → words ≡ put old at (ranks_of s 0 count)
    → HoldRanks words at s count
set_hold old words at s count h e =
    let l = length-ranks s 0 count in
    record {
      room = omega (arith, ap length e, put-length old at (ranks_of s 0 count) (omega (arith, l)));
      word = λ k m.
          let z : 0 + k ≡ k = omega arith in
          sym (get_or-drop at words k 0) ∙ ap (λ (ws : List ℕ). get_or (drop at ws) k 0) e
          ∙ ap (λ (ws : List ℕ). get_or ws k 0) (drop-put-at old at (ranks_of s 0 count) (omega arith))
          ∙ get_or-append (ranks_of s 0 count) (drop (at + length (ranks_of s 0 count)) old) 0 k (omega (arith, l)) ∙ ranks-at s count 0 k m ∙ rw z;
    }

-- ---- new numbers

-- words that hold a bit for each of count subroutines, from at on, give each its number in the set
pub number_is : (ws : List ℕ) (at count : ℕ) (set : ℕ → Bool) → take (words_for count) (drop at ws) ≡ bits_of set count → (k : ℕ) → k < count
    → number_in ws at count k ≡ rank set k
number_is ws at count set e k h =
    let n = count-alike (bit_in ws at) set k (λ i l. bit-told ws at count set e i (omega arith)) in
    rw (lt-ltb k count h)
    (ap (λ (t : Bool). pick t (Some (count_below (bit_in ws at) k)) None) (bit-told ws at count set e k h) ∙ ap (λ (m : ℕ). pick (set k) (Some m) None) n)

-- ---- numbers past the count

-- a number of more than two bytes is in no row
large_unreached : (rows : List Row) (kind fd k : ℕ) → AllFit rows → 65536 ≤ k → reached_in rows kind fd k ≡ false
unfolding lists AllFit
large_unreached [] kind fd k a h = refl
large_unreached (r ∷ rs) kind fd k a h = rw (other_row kind fd k r (λ e. omega (arith, a.0.number))) (large_unreached rs kind fd k a.1 h)

large_set : (rows : List Row) (of : Subrs) (k : ℕ) → AllFit rows → 65536 ≤ k → set_of rows of k ≡ false
large_set rows Global k a h = large_unreached rows 1 0 k a h
large_set rows (Local fd) k a h = large_unreached rows 0 fd k a h

-- where the record has no other number, a number from the count on has no new one
pub past-none : (rows : List Row) (of : Subrs) (count k : ℕ) → AllFit rows → count ≤ k
    → eqb (reached (set_of rows of)) (count_below (set_of rows of) count) ≡ true → rank (set_of rows of) k ≡ None
past-none rows of count k a h e =
    let s = set_of rows of in
    let q : count_below s 65536 ≡ count_below s count = eqb-true _ _ e in
    let f : s k ≡ false =
    by_order k 65536 (λ l. not_true (s k) (λ t. omega (arith, count-more s count k 65536 h l t))) (λ l. large_set rows of k a l) in
    rw f
