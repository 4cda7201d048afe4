-- Laws of writing an entry: its operands and then its operator, one write after the other.
use Rattle.std.specs.Prelude.{ℕ, ◌+◌, ◌≤◌, ◌≡◌, List, [], ◌++◌, length, None, Option}
use Rattle.std.proofs.Math.Path.{sym, ap}
use Rattle.std.proofs.Common.{◌∙◌, arith}
use Rattle.std.proofs.Math.Bool.{false}
use Rattle.std.proofs.Math.ListN.{length-append}
use Rattle.octets.specs.Octets.{Wrote}
use Rattle.octets.specs.PutLaws.{wrote_then, wrote-length}
use Rattle.decimal.specs.Written.{int5_bytes}
use Rattle.decimal_write.specs.IntLaws.{length_int5}
use Rattle.dict.specs.Op.{private, subrs}
use Rattle.dict.specs.Lookup.{last_of}
use Rattle.dict.specs.Places.{entries_of, place_of, operands_at, found_at}
use Rattle.dict.proofs.LookupLaws.{none_last, found-last}
use Rattle.dict.specs.declared.OperandsAt.{OperandsAt}
use Rattle.dict_write.specs.Written.{op_bytes_lem, entry_bytes, offset_entry, private_entry, copied_entry}
use Rattle.dict_write.specs.OpLaws.{op_one}

-- ---- two writes in a row: room for the first, for the second, and both

pub room-first : (size to : ℕ) (xs ys : List ℕ) → to + length (xs ++ ys) ≤ size → to + length xs ≤ size
room-first size to xs ys h = omega (arith, length-append xs ys)

pub room-then : {old mid xs : List ℕ} {to p : ℕ} (ys : List ℕ) → Wrote old to xs mid p → to + length (xs ++ ys) ≤ length old → p + length ys ≤ length mid
room-then {old} {mid} {xs} {to} {p} ys w h =
    let n = wrote-length w (room-first (length old) to xs ys h) in
    omega (arith, length-append xs ys, w.behind)

pub wrote-both : {old mid new xs ys : List ℕ} {to p q : ℕ} → to + length (xs ++ ys) ≤ length old → Wrote old to xs mid p → Wrote mid p ys new q → Wrote old to (xs ++ ys) new q
wrote-both {old} {mid} {new} {xs} {ys} {to} {p} {q} h v w = wrote_then (omega (arith, length-append xs ys)) v w

-- ---- an offset and its operator

module _ (op value : ℕ) where
  pub offset-length : (n : ℕ) → n ≡ length (op_bytes_lem op) → 5 + n ≡ length (offset_entry op value)
  unfolding offset_entry
  offset-length n e = rw length-append (omega (arith, length_int5 false value))

  pub offset-room : (size to : ℕ) → to + length (offset_entry op value) ≤ size → to + 5 ≤ size
  unfolding offset_entry
  offset-room size to h = omega (arith, length-append (int5_bytes false value) (op_bytes_lem op), length_int5 false value)

  module _ (old mid : List ℕ) (to p : ℕ) (h : to + length (offset_entry op value) ≤ length old) (v : Wrote old to (int5_bytes false value) mid p) where
    pub offset-then : p + length (op_bytes_lem op) ≤ length mid
    unfolding offset_entry
    offset-then = room-then (op_bytes_lem op) v h

    pub offset-wrote : (new : List ℕ) (q : ℕ) → Wrote mid p (op_bytes_lem op) new q → Wrote old to (offset_entry op value) new q
    unfolding offset_entry
    offset-wrote new q w = wrote-both h v w

-- Subrs has six bytes
pub subrs-length : (value : ℕ) → length (offset_entry subrs value) ≡ 6
subrs-length value = sym (offset-length subrs value 1 (op_one subrs (omega arith)))

-- ---- a size, an offset and Private

module _ (size offset : ℕ) where
  pub private-length : 11 ≡ length (private_entry size offset)
  unfolding private_entry offset_entry op_bytes_lem
  private-length = rw (length-append, length-append) (omega (arith, length_int5 false size, length_int5 false offset))

  pub private-room : (most to : ℕ) → to + length (private_entry size offset) ≤ most → to + 5 ≤ most
  private-room most to h = omega (arith, private-length)

  module _ (old mid : List ℕ) (to p : ℕ) (h : to + length (private_entry size offset) ≤ length old) (v : Wrote old to (int5_bytes false size) mid p) where
    pub private-then : p + length (offset_entry private offset) ≤ length mid
    unfolding private_entry
    private-then = room-then (offset_entry private offset) v h

    pub private-wrote : (new : List ℕ) (q : ℕ) → Wrote mid p (offset_entry private offset) new q → Wrote old to (private_entry size offset) new q
    unfolding private_entry
    private-wrote new q w = wrote-both h v w

-- ---- the last entry of an operator

module _ (b : List ℕ) (op : ℕ) (r : Option OperandsAt) (e : r ≡ place_of op b) where
  pub copied-absent : r ≡ None → [] ≡ copied_entry op (last_of op (entries_of b))
  unfolding copied_entry
  copied-absent f = sym (ap (copied_entry op) (none_last b op r e f))

  pub copied-found : (start count : ℕ) → r ≡ found_at start count → entry_bytes op (operands_at count b start) ≡ copied_entry op (last_of op (entries_of b))
  unfolding copied_entry
  copied-found start count f =
      let l = found-last b op r e start count f in
      ap (entry_bytes op) (ap (λ (n : ℕ). operands_at n b start) l.held.counted ∙ l.held.here) ∙ sym (ap (copied_entry op) l.last)
