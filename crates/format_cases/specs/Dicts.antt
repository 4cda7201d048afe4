-- Stored cases of a DICT and of a number written into one (tools/oracle/README.md, 'format', kinds d and w), from the definitions that
-- dict's and decimal_write's functions meet.
use Rattle.std.specs.Prelude.{ℕ, ◌+◌, ◌*◌, ◌%◌, Bool, true, false, List, [], ◌∷◌, ◌++◌, ltb, leb, eqb, length, get_or, None, Option, Some, Result, Ok, Err}
use Rattle.octets.specs.Pick.{pick}
use Rattle.octets.specs.Octets.{num_at, bytes_of}
use Rattle.decimal.specs.declared.Decimal.{Decimal}
use Rattle.decimal.specs.Written.{number_bytes}
use Rattle.dict.specs.Dict.{Entry, dict_of}
use Rattle.refusal.specs.declared.Refusal.{Refusal}
use Rattle.refusal.specs.Refusal.{number_of}

-- a decimal: its sign, its digits, and its powers of ten up and down
unfoldable pub decimal_bytes : Decimal → List ℕ
decimal_bytes d = ((pick d.neg 1 0 ∷ []) ++ bytes_of 8 d.digits) ++ (bytes_of 1 d.up ++ bytes_of 1 d.down)

unfoldable pub operands_bytes : List Decimal → List ℕ
operands_bytes [] = []
operands_bytes (d ∷ ds) = decimal_bytes d ++ operands_bytes ds

-- an operator, how many operands, and the operands
unfoldable pub entry_bytes : ℕ → ℕ → List Decimal → List ℕ
entry_bytes op n ds = (bytes_of 2 op ++ bytes_of 1 n) ++ operands_bytes ds

unfoldable pub entries_bytes : List Entry → List ℕ
entries_bytes [] = []
entries_bytes (e ∷ es) = entry_bytes e.op (length e.operands) e.operands ++ entries_bytes es

-- the refusal's number; or 0, the entries before, and those of the DICT
abbrev pub behind : List ℕ → Result (List Entry) Refusal → List ℕ
behind front (Err n) = number_of n ∷ []
behind front (Ok es) = 0 ∷ (front ++ entries_bytes es)

-- kind d: a DICT of up to 100 bytes
unfoldable pub dict_answer : List ℕ → Option (List ℕ)
dict_answer s = pick (ltb 100 (length s)) None (Some (behind [] (dict_of s)))

-- a decimal of its four parts
abbrev pub made : Bool → ℕ → ℕ → ℕ → Decimal
made s m u v = record { neg = s; digits = m; up = u; down = v }

-- the decimal that 11 bytes hold
unfoldable pub decimal_at : List ℕ → Decimal
decimal_at s = record { neg = eqb (get_or s 0 0) 1; digits = num_at s 1 4 * 4294967296 + num_at s 5 4; up = get_or s 9 0; down = get_or s 10 0 }

-- is this all 0; or are its digits at most 15 and no zero at their end, its powers at most 30, and one of them 0?
unfoldable pub is_decimal : Decimal → Bool
is_decimal d =
    pick (eqb d.digits 0) (pick d.neg false (pick (eqb d.up 0) (eqb d.down 0) false))
    (pick (eqb (d.digits % 10) 0) false
    (pick (leb 1000000000000000 d.digits) false
    (pick (ltb 30 d.up) false
    (pick (ltb 30 d.down) false
    (pick (eqb d.down 0) true (eqb d.up 0))))))

-- a decimal, if it is one
abbrev pub decimal_told : Decimal → Option Decimal
decimal_told d = pick (is_decimal d) (Some d) None

-- kind w: a decimal, written as a number of a DICT
unfoldable pub number_answer : List ℕ → Option (List ℕ)
number_answer s =
    pick (eqb (length s) 11)
    (pick (ltb 1 (get_or s 0 0)) None
    (pick (is_decimal (decimal_at s)) (Some (number_bytes (decimal_at s))) None)) None
