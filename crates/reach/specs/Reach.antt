-- The reach record as the code asks it (document 01, 'Reach record'), and the new numbers of subroutines by their bits in the work words (document 02, Wish 7).
use Rattle.std.specs.Prelude.{ℕ, zero, suc, ◌+◌, ◌-◌, ◌*◌, ◌/◌, ◌<◌, Bool, true, false, ◌&&◌, List, [], ◌∷◌, ltb, eqb, length, drop, None, Option}
use Rattle.octets.specs.Pick.{pick}
use Rattle.unfold.specs.Unfold.{Row}
use Rattle.record.specs.Record.{row_of, rows_from, takes_fd}
use Rattle.bits.specs.Bits.{count_below, bit_in, low_sums, high_sums}
use Rattle.subset.specs.Pruned.{rank, reached, local_set, global_set}
use Rattle.reach.specs.declared.Row as code
use Rattle.reach.specs.declared.Subrs.{Subrs}
use Rattle.reach.specs.declared.Subrs.TheVariants.{Global, Local}
use Rattle.reach.specs.declared.ranks.Ranked.{Ranked}

-- a row's first eight bytes as one number: kind, FD, number, offset
abbrev pub key_of_lem : Row → ℕ
key_of_lem r = ((r.kind * 256 + r.fd) * 65536 + r.number) * 4294967296 + r.offset

-- the rows stand in rising order of their first eight bytes
unfoldable pub rises : List Row → Bool
rises [] = true
rises (r ∷ []) = true
rises (r ∷ q ∷ rs) = pick (ltb (key_of_lem q) (key_of_lem r)) false (rises (q ∷ rs))

-- an FD that a row can hold
abbrev pub SubrsFit : Subrs → Type 0
SubrsFit Global = Unit
SubrsFit (Local fd) = fd < 256

-- what a record has of the globals, or of the locals of an FD
abbrev pub set_of : List Row → Subrs → ℕ → Bool
set_of rows Global = global_set rows
set_of rows (Local fd) = local_set rows fd

-- for n numbers from k on: 0 for one that is not in a set, else how many of the set are below it, and 1
unfoldable pub ranks_of : (ℕ → Bool) → ℕ → ℕ → List ℕ
ranks_of set k zero = []
ranks_of set k (suc n) = pick (set k) (count_below set k + 1) 0 ∷ ranks_of set (k + 1) n

-- of count subroutines: how many are in the set, whether the set has no other number, and how many are below each eighth of their words
abbrev pub ranked_of : (ℕ → Bool) → ℕ → Ranked
ranked_of set count =
    record { reached = count_below set count; all = eqb (reached set) (count_below set count); low = low_sums set count; high = high_sums set count }

-- the new number of subroutine k of count whose bits stand in the words from at on: how many ones are below its own
abbrev pub number_in : List ℕ → ℕ → ℕ → ℕ → Option ℕ
number_in ws at count k = pick (ltb k count) (rank (bit_in ws at) k) None

-- ---- rows by their number

-- a row of the code
abbrev pub row_in : code.Row → Row
row_in r = record { kind = r.kind; fd = r.fd; number = r.number; offset = r.offset; len = r.len }

-- the numbers of a row have one, one, two, four and two bytes
pub record Fits (r : Row) : Type 0 where
  pub kind : r.kind < 256
  pub fd : r.fd < 256
  pub number : r.number < 65536
  pub offset : r.offset < 4294967296
  pub len : r.len < 65536

-- the i-th row, and the rows from the i-th on
abbrev pub row_no : List ℕ → ℕ → Row
row_no b i = row_of (drop (10 * i) b)

abbrev pub rest_of : List ℕ → ℕ → List Row
rest_of b i = rows_from (length b / 10 - i) (drop (10 * i) b)

-- the FD of a row is 0 where it must be; offset and length are
abbrev pub fd_fine : Bool → ℕ → ℕ → Bool
fd_fine cid kind fd = pick (takes_fd cid kind) true (eqb fd 0)

abbrev pub mask_fine : ℕ → ℕ → ℕ → Bool
mask_fine kind offset len = pick (ltb kind 2) (eqb offset 0 && eqb len 0) true
