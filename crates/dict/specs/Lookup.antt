-- What a DICT's entries say (document 01, 'Corners in mod.rs'; the Rust's get, number, offset, private_of, top_string, ros, cid_count): the last
-- entry of an operator counts, and an entry with other than one operand is absent where one number is wanted.
use Rattle.std.specs.Prelude.{ℕ, min, Bool, true, false, not, List, [], ◌∷◌, eqb, None, Option, Some, Result, Ok, Err}
use Rattle.octets.specs.Pick.{pick}
use Rattle.decimal.specs.declared.Decimal.{Decimal}
use Rattle.decimal.specs.declared.Signed.{Signed}
use Rattle.decimal.specs.Values.{trunc_of, clamped, i32_of, id_of, offset_of, is_two}
use Rattle.dict.specs.Op.{private, paint_type, charstring_type, ros, cid_count}
use Rattle.dict.specs.Dict.{Entry}
use Rattle.dict.specs.declared.RosEntry.{RosEntry}
use Rattle.dict.specs.declared.PrivateEntry.{PrivateEntry}
use Rattle.refusal.specs.declared.Refusal.{Refusal}
use Rattle.refusal.specs.declared.Refusal.TheVariants.{Malformed, Unsupported}

-- an entry's operands, or that there is no such entry
pub data Operands : Type 0 where
  absent : Operands
  operands : List Decimal → Operands

-- the operands of the last of these entries that has the operator, or else o
unfoldable pub last_from : ℕ → Operands → List Entry → Operands
last_from op o [] = o
last_from op o (e ∷ es) = last_from op (pick (eqb e.op op) (operands e.operands) o) es

-- the operands of the last entry of an operator
unfoldable pub last_of : ℕ → List Entry → Operands
last_of op es = last_from op absent es

-- the operand where there is exactly one
abbrev pub only : Operands → Option Decimal
only absent = None
only (operands []) = None
only (operands (d ∷ [])) = Some d
only (operands (d ∷ e ∷ ds)) = None

abbrev pub one_of : ℕ → List Entry → Option Decimal
one_of op es = only (last_of op es)

-- an offset is whole and not negative, or malformed
abbrev pub offset_told : Result ℕ Refusal → Result (Option ℕ) Refusal
offset_told (Err n) = Err n
offset_told (Ok v) = Ok (Some v)

abbrev pub offset_as : Option Decimal → Result (Option ℕ) Refusal
offset_as None = Ok None
offset_as (Some d) = offset_told (offset_of d)

abbrev pub offset_in : ℕ → List Entry → Result (Option ℕ) Refusal
offset_in op es = offset_as (one_of op es)

-- a Private entry
abbrev pub private_there : ℕ → ℕ → Result (Option PrivateEntry) Refusal
private_there size offset = Ok (Some (record { size = size; offset = offset }))

-- Private: a size and an offset, neither negative, or malformed; then their fractions are dropped. 4294967296 stands for all that are
-- past every font
abbrev pub private_as : Operands → Result (Option PrivateEntry) Refusal
private_as absent = Ok None
private_as (operands []) = Err Malformed
private_as (operands (s ∷ [])) = Err Malformed
private_as (operands (s ∷ o ∷ [])) =
    pick s.neg (Err Malformed)
    (pick o.neg (Err Malformed) (private_there (min (trunc_of s) 4294967296) (min (trunc_of o) 4294967296)))
private_as (operands (s ∷ o ∷ d ∷ ds)) = Err Malformed

abbrev pub private_in : List Entry → Result (Option PrivateEntry) Refusal
private_in es = private_as (last_of private es)

-- a string id: absent too where the number is none
abbrev pub id_as : Option Decimal → Option ℕ
id_as None = None
id_as (Some d) = id_of d

abbrev pub id_in : ℕ → List Entry → Option ℕ
id_in op es = id_as (one_of op es)

-- a font is CID-keyed where ROS is there at all
abbrev pub is_there : Operands → Bool
is_there absent = false
is_there (operands ds) = true

abbrev pub cid_keyed : List Entry → Bool
cid_keyed es = is_there (last_of ros es)

-- ROS: registry and ordering, which are string ids, and the supplement
abbrev pub a_ros : ℕ → ℕ → Signed → Option RosEntry
a_ros r o s = Some (record { registry = r; ordering = o; supplement = s })

abbrev pub ros_as : Operands → Option RosEntry
ros_as absent = None
ros_as (operands []) = None
ros_as (operands (r ∷ [])) = None
ros_as (operands (r ∷ o ∷ [])) = None
ros_as (operands (r ∷ o ∷ s ∷ [])) = a_ros (clamped 65535 r) (clamped 65535 o) (i32_of s)
ros_as (operands (r ∷ o ∷ s ∷ d ∷ ds)) = None

abbrev pub ros_in : List Entry → Option RosEntry
ros_in es = ros_as (last_of ros es)

-- CIDCount, 8720 where it is absent (TN5176, table 10)
abbrev pub count_as : Option Decimal → ℕ
count_as None = 8720
count_as (Some d) = clamped 4294967295 d

abbrev pub cid_count_in : List Entry → ℕ
cid_count_in es = count_as (one_of cid_count es)

-- PaintType: a font is stroked where it is one number other than 0 (document 02, Wish 11)
abbrev pub stroked_as : Option Decimal → Bool
stroked_as None = false
stroked_as (Some d) = not (eqb d.digits 0)

abbrev pub stroked_in : List Entry → Bool
stroked_in es = stroked_as (one_of paint_type es)

-- CharstringType: refused where it is a number other than 2
abbrev pub type_as : Option Decimal → Result Unit Refusal
type_as None = Ok tt
type_as (Some d) = pick (is_two d) (Ok tt) (Err Unsupported)

abbrev pub charstring_type_in : List Entry → Result Unit Refusal
charstring_type_in es = type_as (one_of charstring_type es)
