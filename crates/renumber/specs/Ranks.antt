-- The new numbers of subroutines by their bits in the work words (document 02, Wish 7), and what becomes of a call's operand by them (document 01,
-- 'Corners in write.rs').
use Rattle.std.specs.Prelude.{ℕ, ◌+◌, ◌≤◌, ◌<◌, ◌≡◌, Bool, List, eqb, length, Option}
use Rattle.octets.specs.Pick.{pick}
use Rattle.bits.specs.Bits.{count_below, words_for, bit_in, low_sums, high_sums}
use Rattle.charstring.specs.Bias.{bias_of}
use Rattle.prune.specs.Renumber.{operand_of, Calls}
use Rattle.reach.specs.Reach.{number_in}
use Rattle.renumber.specs.declared.Ranks.{Ranks}

-- of count subroutines whose bits stand from at on: how many are in a set
abbrev pub ranks_at : (ℕ → Bool) → ℕ → ℕ → Ranks
ranks_at set at count = record { at = at; count = count; reached = count_below set count; low = low_sums set count; high = high_sums set count }

-- the new numbers of subroutines by their bits in the words: their ranks, none for one that is not reached
abbrev pub numbers_in : List ℕ → Ranks → ℕ → Option ℕ
numbers_in ws q i = number_in ws q.at q.count i

-- what becomes of a call's operand
abbrev pub calls_by : List ℕ → Ranks → Ranks → Calls
calls_by ws locals globals b z =
    pick (eqb b 10) (operand_of (numbers_in ws locals) (bias_of locals.count) (bias_of locals.reached) z)
    (operand_of (numbers_in ws globals) (bias_of globals.count) (bias_of globals.reached) z)

-- bits that lie in the words, counted
pub record Ranked (ws : List ℕ) (q : Ranks) : Type 0 where
  pub inside : q.at + words_for q.count ≤ length ws
  pub few : q.count < 65536
  pub few_reached : q.reached < 65536
  pub reaches : q.reached ≡ count_below (bit_in ws q.at) q.count
  pub low : q.low ≡ low_sums (bit_in ws q.at) q.count
  pub high : q.high ≡ high_sums (bit_in ws q.at) q.count
