-- The bits of the subroutines of a kind and an FD as the code sets them (document 02, Wish 7), and their counts; and marks that become ranks.
use Rattle.std.specs.Prelude.{ℕ, ◌+◌, ◌*◌, Bool, List, [], ◌∷◌, ltb, eqb, length}
use Rattle.octets.specs.Pick.{pick}
use Rattle.unfold.specs.Unfold.{Row}
use Rattle.bits.specs.Bits.{set_bit, whole_ones_lem, eighth, four, ones_to}
use Rattle.record.specs.Record.{same_row_lem, lists}
use Rattle.reach.specs.declared.ranks.Ranked.{Ranked}

-- the row that says that subroutine k of a kind and an FD is reached
abbrev pub reached_row : ℕ → ℕ → ℕ → Row
reached_row kind fd k = record { kind = kind; fd = fd; number = k; offset = 0; len = 0 }

-- the subroutines of a kind and an FD that a record has
abbrev pub reached_in : List Row → ℕ → ℕ → ℕ → Bool
reached_in rows kind fd k = lists rows (reached_row kind fd k)

-- a row says that a subroutine of a kind and an FD is reached
abbrev pub tells : Row → ℕ → ℕ → Bool
tells r kind fd = same_row_lem r (reached_row kind fd r.number)

-- the bits of count subroutines after a row, and after some rows
abbrev pub mark_row : ℕ → ℕ → ℕ → List ℕ → Row → List ℕ
mark_row kind fd count ws r = pick (tells r kind fd) (pick (ltb r.number count) (set_bit ws 0 r.number) ws) ws

unfoldable pub marked : ℕ → ℕ → ℕ → List Row → List ℕ → List ℕ
marked kind fd count [] ws = ws
marked kind fd count (r ∷ rs) ws = marked kind fd count rs (mark_row kind fd count ws r)

-- 1 for a row that has a subroutine past the count, and how many rows have one
abbrev pub past_row : ℕ → ℕ → ℕ → Row → ℕ
past_row kind fd count r = pick (tells r kind fd) (pick (ltb r.number count) 0 1) 0

unfoldable pub past_of : ℕ → ℕ → ℕ → List Row → ℕ
past_of kind fd count [] = 0
past_of kind fd count (r ∷ rs) = past_row kind fd count r + past_of kind fd count rs

-- the counts of some words' bits, all of them and those below each eighth, and whether no row has a subroutine past the count
abbrev pub counts_of : List ℕ → Bool → Ranked
counts_of ws all =
    record {
      reached = whole_ones_lem ws 0 (length ws);
      all = all;
      low = four (ones_to ws) 0 (eighth (length ws));
      high = four (ones_to ws) (4 * eighth (length ws)) (eighth (length ws));
    }

-- ---- marks that become ranks: of the FDs in use

-- the word for a mark behind n others, and how many there are then
abbrev pub rank_for : ℕ → ℕ → ℕ
rank_for n w = pick (eqb w 0) 0 (n + 1)

abbrev pub count_for : ℕ → ℕ → ℕ
count_for n w = pick (eqb w 0) n (n + 1)

-- marks turned into ranks behind n others, and how many there are then
unfoldable pub ranked : ℕ → List ℕ → List ℕ
ranked n [] = []
ranked n (w ∷ ws) = rank_for n w ∷ ranked (count_for n w) ws

unfoldable pub counted : ℕ → List ℕ → ℕ
counted n [] = n
counted n (w ∷ ws) = counted (count_for n w) ws
