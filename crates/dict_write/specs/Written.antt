-- Entries as a subset writes them (dict_op and DictWriter of the Rust's write.rs; TN5176, section 4): the operands, each in the form that
-- a number is written in, and then the operator.
use Rattle.std.specs.Prelude.{ℕ, ◌-◌, false, List, [], ◌∷◌, ◌++◌, ltb, eqb}
use Rattle.octets.specs.Pick.{pick}
use Rattle.decimal.specs.declared.Decimal.{Decimal}
use Rattle.decimal.specs.Written.{number_bytes, int5_bytes}
use Rattle.dict.specs.Op.{private, subrs}
use Rattle.dict.specs.Dict.{Entry}
use Rattle.dict.specs.Lookup.{Operands, absent, operands}

-- one byte, or 12 and the escape's
unfoldable pub op_bytes_lem : ℕ → List ℕ
op_bytes_lem op = pick (ltb op 3072) (op ∷ []) (12 ∷ (op - 3072) ∷ [])

unfoldable pub operands_bytes : List Decimal → List ℕ
operands_bytes [] = []
operands_bytes (d ∷ ds) = number_bytes d ++ operands_bytes ds

unfoldable pub entry_bytes : ℕ → List Decimal → List ℕ
entry_bytes op ds = operands_bytes ds ++ op_bytes_lem op

unfoldable pub entries_bytes : List Entry → List ℕ
entries_bytes [] = []
entries_bytes (e ∷ es) = entry_bytes e.op e.operands ++ entries_bytes es

-- an offset in the five-byte form, whose length does not depend on it, and then its operator
unfoldable pub offset_entry : ℕ → ℕ → List ℕ
offset_entry op value = int5_bytes false value ++ op_bytes_lem op

-- Private: the size and the offset in the five-byte form
unfoldable pub private_entry : ℕ → ℕ → List ℕ
private_entry size offset = int5_bytes false size ++ offset_entry private offset

-- the last entry of an operator copied, where there is one
unfoldable pub copied_entry : ℕ → Operands → List ℕ
copied_entry op absent = []
copied_entry op (operands ds) = entry_bytes op ds

-- the entries of other operators
unfoldable pub without : ℕ → List Entry → List Entry
without op [] = []
without op (e ∷ es) = let kept = without op es in pick (eqb e.op op) kept (e ∷ kept)

-- a Private DICT is copied but for Subrs, which is written anew where a subroutine is left
abbrev pub private_bytes : List Entry → List ℕ
private_bytes es = entries_bytes (without subrs es)
