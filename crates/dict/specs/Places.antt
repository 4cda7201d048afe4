-- The code's answers for what the definitions of a DICT (TN5176, section 4) say: it holds positions and counts where they hold operands.
use Rattle.std.specs.Prelude.{ℕ, zero, suc, ◌+◌, ◌≡◌, List, [], ◌∷◌, length, eqb, None, Option, Some, Result, Ok, Err}
use Rattle.octets.specs.Pick.{pick}
use Rattle.decimal.specs.declared.Decimal.{Decimal}
use Rattle.decimal.specs.Number.{Number, refused as refusedNumber, not_number, number, number_at}
use Rattle.dict.specs.Dict.{Entry, Token, bad, operand, operator, Reading, stopped, got, readings_at, dict_of}
use Rattle.dict.specs.declared.TokenAt.TheVariants.{Operand, Operator}
use Rattle.dict.specs.declared.OperandsAt.{OperandsAt}
use Rattle.dict.specs.declared.EntryAt.{EntryAt}
use Rattle.dict.specs.declared.TokenAt.{TokenAt}
use Rattle.refusal.specs.declared.Refusal.{Refusal}

-- the code's token
abbrev pub token_told : Token → Result TokenAt Refusal
token_told (bad n) = Err n
token_told (operand d next) = Ok (Operand next)
token_told (operator op next) = Ok (Operator op next)

-- an entry that was read: where it starts, its operator, where that stands, how many operands are before it, and the position after it
abbrev pub entry_there : ℕ → ℕ → ℕ → ℕ → ℕ → Result EntryAt Refusal
entry_there start op end count next = Ok (record { start = start; op = op; end = end; count = count; next = next })

-- the code's entry from a start on, n operands having been read before
abbrev pub entry_told : ℕ → ℕ → Reading → Result EntryAt Refusal
entry_told start n (stopped m) = Err m
entry_told start n (got op ds end next) = entry_there start op end (n + length ds) next

-- the refusal of a DICT, if it is refused
abbrev pub refusal_of : Result (List Entry) Refusal → Option Refusal
refusal_of (Err n) = Some n
refusal_of (Ok es) = None

-- the entries that were read: all of the DICT's, where it is not refused
unfoldable pub listed : List Reading → List Entry
listed [] = []
listed (stopped n ∷ rs) = []
listed (got op ds end next ∷ rs) = record { op = op; operands = ds } ∷ listed rs

abbrev pub entries_of : List ℕ → List Entry
entries_of b = listed (readings_at b 0)

-- a DICT that is not refused
pub record Good (b : List ℕ) : Type 0 where
  pub accepted : refusal_of (dict_of b) ≡ None

-- so many operands from a position on
abbrev pub found_at : ℕ → ℕ → Option OperandsAt
found_at start count = Some (record { start = start; count = count })

-- where the last of these entries that has the operator stands, the first of them starting at a position; or else as found before
unfoldable pub last_place : ℕ → ℕ → Option OperandsAt → List Reading → Option OperandsAt
last_place op at found [] = found
last_place op at found (stopped n ∷ rs) = found
last_place op at found (got o ds end next ∷ rs) =
    last_place op next (pick (eqb o op) (found_at at (length ds)) found) rs

abbrev pub place_of : ℕ → List ℕ → Option OperandsAt
place_of op b = last_place op 0 None (readings_at b 0)

-- n operands from a position on
abbrev pub or_none : Number → (ℕ → List Decimal) → List Decimal
or_none (refusedNumber m) rest = []
or_none not_number rest = []
or_none (number d next) rest = d ∷ rest next

unfoldable pub operands_at : ℕ → List ℕ → ℕ → List Decimal
operands_at zero b at = []
operands_at (suc n) b at = or_none (number_at b at) (operands_at n b)
