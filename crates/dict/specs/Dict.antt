-- A DICT of TN5176, section 4: entries one after the other, each the operands, which are numbers, and then their operator. It is refused
-- where the Rust's Dict::parse first fails: truncated, malformed, or a real past the limits of document 01.
use Rattle.std.specs.Prelude.{ℕ, zero, suc, ◌+◌, List, [], ◌∷◌, length, get_or, ltb, eqb, Result, Ok, Err}
use Rattle.octets.specs.Pick.{pick}
use Rattle.decimal.specs.declared.Decimal.{Decimal}
use Rattle.decimal.specs.Number.{Number, refused as refusedNumber, not_number, number, number_at}
use Rattle.dict.specs.Op.{esc}
use Rattle.refusal.specs.declared.Refusal.{Refusal}
use Rattle.refusal.specs.declared.Refusal.TheVariants.{Truncated, Malformed}

-- an operator and its operands, in order
pub record Entry : Type 0 where
  pub op : ℕ
  pub operands : List Decimal

-- what stands at a position: a refusal; or an operand or an operator, with the position after it
pub data Token : Type 0 where
  bad : Refusal → Token
  operand : Decimal → ℕ → Token
  operator : ℕ → ℕ → Token

-- an operator: 12 with the byte after it, else 0 to 21; the bytes 22 to 27, 31 and 255 start nothing
unfoldable pub operator_at : List ℕ → ℕ → Token
operator_at b at =
    pick (eqb (get_or b at 0) 12)
    (pick (ltb (length b) (at + 2)) (bad Truncated) (operator (esc (get_or b (at + 1) 0)) (at + 2)))
    (pick (ltb (get_or b at 0) 22) (operator (get_or b at 0) (at + 1)) (bad Malformed))

abbrev pub token_of : List ℕ → ℕ → Number → Token
token_of b at (refusedNumber n) = bad n
token_of b at not_number = operator_at b at
token_of b at (number d next) = operand d next

unfoldable pub token_at : List ℕ → ℕ → Token
token_at b at = token_of b at (number_at b at)

-- an entry read from a position on: a refusal; or its operator, its operands, where the operator stands, and the position after it
pub data Reading : Type 0 where
  stopped : Refusal → Reading
  got : ℕ → List Decimal → ℕ → ℕ → Reading

-- an operand before those of an entry
abbrev pub after : Decimal → Reading → Reading
after d (stopped n) = stopped n
after d (got op ds end next) = got op (d ∷ ds) end next

-- a token at a position, and what follows an operand
abbrev pub onward : ℕ → Token → (ℕ → Reading) → Reading
onward at (bad n) rest = stopped n
onward at (operand d next) rest = after d (rest next)
onward at (operator op next) rest = got op [] at next

-- an entry of at most k tokens; operands that no operator follows are malformed
unfoldable pub entry_from : ℕ → List ℕ → ℕ → Reading
entry_from zero b at = stopped Malformed
entry_from (suc k) b at = let more = onward at (token_at b at) (entry_from k b) in pick (ltb at (length b)) more (stopped Malformed)

-- the entry at a position: each token has a byte, so that there are no more tokens than bytes
unfoldable pub entry_at : List ℕ → ℕ → Reading
entry_at b at = entry_from (length b) b at

-- an entry, and what follows it
abbrev pub followed : Reading → (ℕ → List Reading) → List Reading
followed (stopped n) rest = stopped n ∷ []
followed (got op ds end next) rest = got op ds end next ∷ rest next

-- at most k entries from a position on, up to the end or to a refusal
unfoldable pub readings_from : ℕ → List ℕ → ℕ → List Reading
readings_from zero b at = []
readings_from (suc k) b at = let more = followed (entry_at b at) (readings_from k b) in pick (ltb at (length b)) more []

-- all entries from a position on: each has a byte
unfoldable pub readings_at : List ℕ → ℕ → List Reading
readings_at b at = readings_from (length b) b at

-- an entry before those of a DICT
abbrev pub before : Entry → Result (List Entry) Refusal → Result (List Entry) Refusal
before e (Err n) = Err n
before e (Ok es) = Ok (e ∷ es)

-- one refusal, and the DICT is refused
unfoldable pub gathered : List Reading → Result (List Entry) Refusal
gathered [] = Ok []
gathered (stopped n ∷ rs) = Err n
gathered (got op ds end next ∷ rs) = before (record { op = op; operands = ds }) (gathered rs)

-- the DICT of these bytes
unfoldable pub dict_of : List ℕ → Result (List Entry) Refusal
dict_of b = gathered (readings_at b 0)
