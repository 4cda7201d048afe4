-- Laws of bits that stand in the work words: what they say is reached is what the record has, and they are counted as the code asks.
use Rattle.std.specs.Prelude.{ℕ, ◌+◌, ◌-◌, ◌≤◌, ◌<◌, ◌≡◌, Bool, false, List, length, take, drop}
use Rattle.std.proofs.Common.{sym, ap, ◌∙◌, arith, le-ltb, drop-drop}
use Rattle.std.proofs.Math.Decide.{dec_le}
use Rattle.octets.specs.Octets.{put}
use Rattle.octets.specs.PutLaws.{put-length, drop-put}
use Rattle.bits.specs.Bits.{count_below, words_for}
use Rattle.subset.specs.Pruned.{reached}
use Rattle.renumber.specs.Ranks.{Ranked}
use Rattle.renumber.specs.RanksLaws.{HoldsRanks, ranked-words, past_unreached}
use Rattle.renumber.specs.declared.Ranks.{Ranks}
use Rattle.bodies.specs.Ways.{reached_in}
use Rattle.bodies.specs.RecordLaws.{reached-below}
use Rattle.plan.specs.Ranked.{Stands}

module _ (ws : List ℕ) (q : Ranks) (set : ℕ → Bool) (n : ℕ) (h : Stands ws q set n) where
  -- the bits of subroutines say which of them are reached
  pub stands_reached : (i : ℕ) → i < n → reached_in ws q i ≡ set i
  stands_reached i k = reached-below ws q set h.words i (omega (arith, h.many))

  module _ (few : n < 65536) where
    -- they are counted as the code asks
    pub stands_ranked : Ranked ws q
    stands_ranked = ranked-words ws q set h.inside (omega (arith, h.many)) h.words h.reaches h.low h.high

    -- where the record has no other number
    module _ (all : reached set ≡ count_below set n) (narrow : (i : ℕ) → 65536 ≤ i → set i ≡ false) where
      pub stands_holds : HoldsRanks ws q set
      stands_holds =
          record {
            inside = h.inside;
            few = omega (arith, h.many);
            words = h.words;
            reaches = h.reaches;
            low = h.low;
            high = h.high;
            all = all ∙ ap (count_below set) (sym h.many);
            narrow = narrow;
          }

      -- the bits say what is reached of all numbers
      pub stands_all : (i : ℕ) → reached_in ws q i ≡ set i
      stands_all i = go (dec_le n i)
        where
          go : Dec (n ≤ i) → reached_in ws q i ≡ set i
          go (yes k) = let c : q.count ≤ i = omega (arith, h.many) in rw (le-ltb i q.count c) (sym (past_unreached ws q set stands_holds i c))
          go (no k) = stands_reached i (omega arith)

  -- they stay where words in front of them are written
  pub stands_stay : (from : ℕ) (bs : List ℕ) → from + length bs ≤ q.at → Stands (put ws from bs) q set n
  stands_stay from bs f =
      let k : from + length bs + (q.at - (from + length bs)) ≡ q.at = omega arith in
      let d : drop q.at (put ws from bs) ≡ drop q.at ws
      = ap (λ (i : ℕ). drop i (put ws from bs)) (sym k) ∙ sym (drop-drop (q.at - (from + length bs)) (from + length bs) (put ws from bs))
      ∙ ap (drop (q.at - (from + length bs))) (drop-put ws from bs (omega (arith, h.inside)))
      ∙ drop-drop (q.at - (from + length bs)) (from + length bs) ws ∙ ap (λ (i : ℕ). drop i ws) k in
      record {
        many = h.many;
        inside = omega (arith, h.inside, put-length ws from bs (omega (arith, h.inside)));
        words = ap (take (words_for q.count)) d ∙ h.words;
        reaches = h.reaches;
        low = h.low;
        high = h.high;
      }
