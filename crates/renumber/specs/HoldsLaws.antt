-- What ranking leaves in the work words: the bits of the subroutines that a record has, where it has no other number.
use Rattle.std.specs.Prelude.{ℕ, ◌≤◌, ◌≡◌, false, List}
use Rattle.std.proofs.Common.{arith}
use Rattle.octets.specs.Octets.{Octets}
use Rattle.record.specs.Record.{rows_of}
use Rattle.reach.specs.Ranks.{reached_in, past_of}
use Rattle.reach.specs.RowLaws.{all_fit}
use Rattle.reach.specs.Cases.{by_number}
use Rattle.reach.specs.CountLaws.{none-past, some-past}

-- a row's number has two bytes
pub narrow_set : (b : List ℕ) → Octets b → (kind fd k : ℕ) → 65536 ≤ k → reached_in (rows_of b) kind fd k ≡ false
narrow_set b o kind fd k h =
    none-past kind fd 65536 (rows_of b)
    (by_number (past_of kind fd 65536 (rows_of b)) 0 (λ e. e)
    (λ n. let q = some-past kind fd 65536 (rows_of b) (all_fit b o) n in absurd (let y : ⊥ = omega (arith, q.above, q.small) in y)))
    k h
