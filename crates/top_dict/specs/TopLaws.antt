-- Laws of the top DICT's parts, as the code measures and writes them one behind the other.
use Rattle.std.specs.Prelude.{ℕ, zero, suc, ◌+◌, ◌*◌, ◌≤◌, ◌<◌, min, ◌≡◌, refl, Bool, true, false, List, [], ◌∷◌, ◌++◌, eqb, drop, get_or, is_some, None, Option, Some}
use Rattle.std.proofs.Math.Path.{sym, ap}
use Rattle.std.proofs.Common.{◌∙◌, subst, eq-eqb, ne_eqb, lt-ltb, le-ltb, lit≤, lit<, drop_of_length-le, drop-cons}
use Rattle.std.proofs.Math.Nat.{min-le_right}
use native.Mathlib.Omega.{arith}
use Rattle.std.proofs.Math.ListN.{length, length-append}
use Rattle.octets.specs.Pick.{pick, pick_ind}
use Rattle.octets.specs.Octets.{Wrote}
use Rattle.octets.specs.PutLaws.{wrote_none, wrote_as}
use Rattle.decimal.specs.declared.Signed.{Signed}
use Rattle.decimal.specs.Decimal.{normal}
use Rattle.decimal.specs.Values.{trunc_of, clamped, i32_of}
use Rattle.decimal.specs.Written.{number_bytes}
use Rattle.decimal.specs.TakenLaws.{whole-normal}
use Rattle.dict.specs.Op.{is_operator, ros, cid_count, copied_top_entries, copied_top_strings}
use Rattle.dict.specs.Dict.{Entry}
use Rattle.dict.specs.Lookup.{Operands, absent, operands, last_of, one_of, ros_as, ros_in, count_as, cid_count_in, a_ros}
use Rattle.dict.specs.declared.RosEntry.{RosEntry}
use Rattle.dict_write.specs.Written.{op_bytes_lem, copied_entry, offset_entry, private_entry}
use Rattle.dict_write.specs.WriteLaws.{offset-length, private-length}
use Rattle.dict_write.specs.ShortLaws.{number_short, op_short, copied-short}
use Rattle.own_strings.specs.Slots.{no_slot}
use Rattle.own_strings.specs.declared.slots.Slot.{Slot}
use Rattle.subset.specs.Codes.{encoding_entry}
use Rattle.subset.specs.Subset.{copied_bytes}
use Rattle.top_dict.specs.Top.{Filled, value_entry, slot_entry, slot_entries, ids_bytes, ros_of, carried, code_offsets, named_offsets, glyph_offsets, cid_offsets, top_named, cid_front, top_cid, encoding_len, top_len}
use Rattle.top_dict.specs.Writing.{Split, split-append}
use Rattle.top_dict.specs.TopParts.{value-length}
use Rattle.top_dict.specs.declared.top.Top.{Top}
use Rattle.dict.specs.Held.{entries}
use Rattle.decimal.specs.declared.Decimal.{Decimal}

no : ◌≡◌ {A = ℕ} 0 1 → ⊥
no h = omega arith

-- ---- an integer

pub whole-short : (s : Bool) (n : ℕ) → n < 1000000000000000 → length (number_bytes (normal s n 0 0)) ≤ 101
whole-short s n h = number_short (normal s n 0 0) (whole-normal s n h)

-- ---- the string entries

module _ (slots : List Slot) (j op : ℕ) where
  pub slot_there : (x : ℕ) → (get_or slots j no_slot).sid ≡ Some x → value_entry op (get_or slots j no_slot).id ≡ slot_entry slots j op
  unfolding slot_entry
  slot_there x h = sym (ap (λ (o : Option ℕ). pick (is_some o) (value_entry op (get_or slots j no_slot).id) []) h)

  pub slot-none : (get_or slots j no_slot).sid ≡ None → [] ≡ slot_entry slots j op
  unfolding slot_entry
  slot-none h = sym (ap (λ (o : Option ℕ). pick (is_some o) (value_entry op (get_or slots j no_slot).id) []) h)

-- the new id of a slot is one
pub slot_small : (slots : List Slot) (j : ℕ) → Filled slots → j < 8 → (get_or slots j no_slot).id < 1000000000000000
slot_small slots j f h = omega (arith, f.small j h)

six_operators : (k : ℕ) → k < 6 → is_operator (get_or copied_top_strings k 0) ≡ true
six_operators zero h = refl
six_operators (suc zero) h = refl
six_operators (suc (suc zero)) h = refl
six_operators (suc (suc (suc zero))) h = refl
six_operators (suc (suc (suc (suc zero)))) h = refl
six_operators (suc (suc (suc (suc (suc zero))))) h = refl
six_operators (suc (suc (suc (suc (suc (suc k)))))) h = absurd (no (omega arith))

pub six_operator : (k op : ℕ) → k < 6 → op ≡ get_or copied_top_strings k 0 → is_operator op ≡ true
six_operator k op h e = ap is_operator e ∙ six_operators k h

-- those from the k-th on
abbrev pub strings_from : List Slot → ℕ → List ℕ
strings_from slots k = slot_entries slots (2 + k) (drop k copied_top_strings)

pub strings-next : (slots : List Slot) (k : ℕ) → k < 6 → (op : ℕ) → op ≡ get_or copied_top_strings k 0
    → Split (strings_from slots k) (slot_entry slots (2 + k) op) (strings_from slots (k + 1))
unfolding slot_entries
strings-next slots k h op i =
    let e : suc k ≡ k + 1 = omega arith in
    let f : 2 + k + 1 ≡ 2 + (k + 1) = omega arith in
    record {
      is =
          ap (slot_entries slots (2 + k)) (drop-cons copied_top_strings k 0 h)
          ∙ ap (λ (n : ℕ). slot_entry slots (2 + k) (get_or copied_top_strings k 0) ++ slot_entries slots (2 + k + 1) (drop n copied_top_strings)) e
          ∙ ap (λ (n : ℕ). slot_entry slots (2 + k) (get_or copied_top_strings k 0) ++ slot_entries slots n (drop (k + 1) copied_top_strings)) f
          ∙ ap (λ (o : ℕ). slot_entry slots (2 + k) o ++ strings_from slots (k + 1)) (sym i);
    }

pub strings-over : (slots : List Slot) (k : ℕ) → 6 ≤ k → strings_from slots k ≡ []
unfolding slot_entries
strings-over slots k h = ap (slot_entries slots (2 + k)) (drop_of_length-le copied_top_strings {i = k} h)

-- ---- the copied entries

copied_operators : (k : ℕ) → k < 6 → is_operator (get_or copied_top_entries k 0) ≡ true
copied_operators zero h = refl
copied_operators (suc zero) h = refl
copied_operators (suc (suc zero)) h = refl
copied_operators (suc (suc (suc zero))) h = refl
copied_operators (suc (suc (suc (suc zero)))) h = refl
copied_operators (suc (suc (suc (suc (suc zero))))) h = refl
copied_operators (suc (suc (suc (suc (suc (suc k)))))) h = absurd (no (omega arith))

pub copied-operator : (k op : ℕ) → k < 6 → op ≡ get_or copied_top_entries k 0 → is_operator op ≡ true
copied-operator k op h e = ap is_operator e ∙ copied_operators k h

-- those from the k-th on
abbrev pub copied_from : List Entry → ℕ → List ℕ
copied_from es k = copied_bytes es (drop k copied_top_entries)

pub copied_next : (es : List Entry) (k : ℕ) → k < 6 → (op : ℕ) → op ≡ get_or copied_top_entries k 0
    → Split (copied_from es k) (copied_entry op (last_of op es)) (copied_from es (k + 1))
unfolding copied_bytes
copied_next es k h op i =
    let e : suc k ≡ k + 1 = omega arith in
    record {
      is =
          ap (copied_bytes es) (drop-cons copied_top_entries k 0 h)
          ∙ ap (λ (n : ℕ). copied_entry (get_or copied_top_entries k 0) (last_of (get_or copied_top_entries k 0) es) ++ copied_bytes es (drop n copied_top_entries)) e
          ∙ ap (λ (o : ℕ). copied_entry o (last_of o es) ++ copied_from es (k + 1)) (sym i);
    }

pub copied-over : (es : List Entry) (k : ℕ) → 6 ≤ k → copied_from es k ≡ []
unfolding copied_bytes
copied-over es k h = ap (copied_bytes es) (drop_of_length-le copied_top_entries {i = k} h)

-- ---- ROS and CIDCount

module _ (slots : List Slot) (es : List Entry) (r : Option RosEntry) (e : r ≡ ros_in es) where
  pub ros-none : r ≡ None → [] ≡ ros_of slots (ros_in es)
  unfolding ros_of
  ros-none f = ap (ros_of slots) (sym f ∙ e)

  pub ros_there : (registry ordering : ℕ) (s : Signed) → r ≡ a_ros registry ordering s
      → Split (ros_of slots (ros_in es)) (ids_bytes slots) (number_bytes (normal s.neg s.size 0 0) ++ op_bytes_lem ros)
  unfolding ros_of
  ros_there registry ordering s f = record { is = sym (ap (ros_of slots) (sym f ∙ e)) }

pub ros-rest : (s : Signed) → Split (number_bytes (normal s.neg s.size 0 0) ++ op_bytes_lem ros) (number_bytes (normal s.neg s.size 0 0)) (op_bytes_lem ros)
ros-rest s = split-append (number_bytes (normal s.neg s.size 0 0)) (op_bytes_lem ros)

size_small : (t : Bool) (v : ℕ) (s : Bool)
    → (pick {A = Signed} t (record { neg = false; size = 0 }) (record { neg = s; size = min v (pick s 2147483648 2147483647) })).size ≤ 2147483648
size_small true v s = omega arith
size_small false v true = min-le_right v 2147483648
size_small false v false = omega (arith, min-le_right v 2147483647)

supplement_small : (p : Operands) (registry ordering : ℕ) (s : Signed) → ros_as p ≡ a_ros registry ordering s → s.size ≤ 2147483648
supplement_small absent r o s h = absurd (no cc)
supplement_small (operands []) r o s h = absurd (no cc)
supplement_small (operands (x ∷ [])) r o s h = absurd (no cc)
supplement_small (operands (x ∷ y ∷ [])) r o s h = absurd (no cc)
supplement_small (operands (x ∷ y ∷ z ∷ [])) r o s h =
    let p : ◌≡◌ {A = RosEntry} (record { registry = clamped 65535 x; ordering = clamped 65535 y; supplement = i32_of z }) (record { registry = r; ordering = o; supplement = s })
    = cc in
    let e : i32_of z ≡ s = ap (λ (q : RosEntry). q.supplement) p in
    subst (λ (q : Signed). q.size ≤ 2147483648) e (size_small (eqb (trunc_of z) 0) (trunc_of z) z.neg)
supplement_small (operands (x ∷ y ∷ z ∷ w ∷ ws)) r o s h = absurd (no cc)

pub ros-small : (es : List Entry) (r : Option RosEntry) → r ≡ ros_in es → (registry ordering : ℕ) (s : Signed) → r ≡ a_ros registry ordering s → s.size < 1000000000000000
ros-small es r e registry ordering s f = omega (arith, supplement_small (last_of ros es) registry ordering s (sym e ∙ f))

clamped-small : (s : Bool) (v : ℕ) → pick s 0 (min v 4294967295) ≤ 4294967295
clamped-small true v = omega arith
clamped-small false v = min-le_right v 4294967295

one-small : (o : Option Decimal) → count_as o ≤ 4294967295
one-small None = lit≤ tt
one-small (Some d) = clamped-small d.neg (trunc_of d)

pub count_small : (es : List Entry) → cid_count_in es < 1000000000000000
count_small es = omega (arith, one-small (one_of cid_count es))

-- ---- lengths, whatever the offsets are

pub encoding-length : (v : ℕ) → length (encoding_entry v) ≡ encoding_len v
unfolding op_bytes_lem
encoding-length v = go (eqb v 0)
  where
    go : (t : Bool) → length (pick t [] (offset_entry 16 v)) ≡ pick t 0 6
    go true = refl
    go false = sym (offset-length 16 v 1 refl)

pub encoding-none : (v : ℕ) → v ≡ 0 → ([] ≡ encoding_entry v) × (0 ≡ encoding_len v)
encoding-none v e = let k = eq-eqb v 0 e in (rw k, rw k)

pub encoding_there : (v : ℕ) → (v ≡ 0 → ⊥) → (offset_entry 16 v ≡ encoding_entry v) × (6 ≡ encoding_len v)
encoding_there v e = let k = ne_eqb v 0 e in (rw k, rw k)

-- and it is written so
pub encoding-wrote : (v : ℕ) → v ≡ 0 → (out : List ℕ) (at : ℕ) → Wrote out at (encoding_entry v) out at
encoding-wrote v e out at = wrote_as (wrote_none out at) (encoding-none v e).0

pub named-length : (at₁ v at₂ size at₃ : ℕ) → length (named_offsets at₁ v at₂ size at₃) ≡ 23 + encoding_len v
unfolding named_offsets code_offsets op_bytes_lem
named-length at₁ v at₂ size at₃ =
    omega (
      arith,
      length-append (offset_entry 15 at₁ ++ encoding_entry v) (offset_entry 17 at₂ ++ private_entry size at₃),
      length-append (offset_entry 15 at₁) (encoding_entry v),
      length-append (offset_entry 17 at₂) (private_entry size at₃),
      offset-length 15 at₁ 1 refl,
      encoding-length v,
      offset-length 17 at₂ 1 refl,
      private-length size at₃,
    )

pub cid_length : (at₁ at₂ at₃ at₄ : ℕ) → length (cid_offsets at₁ at₂ at₃ at₄) ≡ 26
unfolding cid_offsets glyph_offsets op_bytes_lem
cid_length at₁ at₂ at₃ at₄ =
    rw (length-append, length-append, length-append)
    (omega (arith, offset-length 15 at₁ 1 refl, offset-length 3109 at₂ 2 refl, offset-length 17 at₃ 1 refl, offset-length 3108 at₄ 2 refl))

module _ (es : List Entry) (slots : List Slot) where
  pub top-named-length : (at₁ v at₂ size at₃ : ℕ) → length (top_named es slots at₁ v at₂ size at₃) ≡ length (carried es slots) + (23 + encoding_len v)
  unfolding top_named
  top-named-length at₁ v at₂ size at₃ =
      length-append (carried es slots) (named_offsets at₁ v at₂ size at₃) ∙ ap (λ (n : ℕ). length (carried es slots) + n) (named-length at₁ v at₂ size at₃)

  pub front_length : length (cid_front es slots) ≡ length (ros_of slots (ros_in es)) + length (carried es slots) + length (value_entry cid_count (cid_count_in es))
  unfolding cid_front
  front_length = rw (length-append, length-append) (omega arith)

  pub top_cid_length : (at₁ at₂ at₃ at₄ : ℕ) → length (top_cid es slots at₁ at₂ at₃ at₄) ≡ length (cid_front es slots) + 26
  unfolding top_cid
  top_cid_length at₁ at₂ at₃ at₄ = length-append (cid_front es slots) (cid_offsets at₁ at₂ at₃ at₄) ∙ ap (λ (n : ℕ). length (cid_front es slots) + n) (cid_length at₁ at₂ at₃ at₄)

  -- the length that is measured is that of what is written
  pub named-measured : (at₁ v at₂ size at₃ : ℕ) → top_len false v es slots ≡ length (top_named es slots at₁ v at₂ size at₃)
  named-measured at₁ v at₂ size at₃ = top-named-length 0 v 0 0 0 ∙ sym (top-named-length at₁ v at₂ size at₃)

  -- whatever the Encoding's offset is, but for 0
  pub named-same : (v w : ℕ) → eqb v 0 ≡ eqb w 0 → top_len false v es slots ≡ top_len false w es slots
  named-same v w e =
      top-named-length 0 v 0 0 0 ∙ ap (λ (t : Bool). length (carried es slots) + (23 + pick t 0 6)) e ∙ sym (top-named-length 0 w 0 0 0)

  pub cid_measured : (v at₁ at₂ at₃ at₄ : ℕ) → top_len true v es slots ≡ length (top_cid es slots at₁ at₂ at₃ at₄)
  cid_measured v at₁ at₂ at₃ at₄ = top_cid_length 0 0 0 0 ∙ sym (top_cid_length at₁ at₂ at₃ at₄)

  -- the sums that the code makes
  pub cid_sum : (cid : Bool) (v : ℕ) → cid ≡ true → (n : ℕ) → n ≡ length (cid_front es slots) → n + 26 ≡ top_len cid v es slots
  cid_sum cid v t n e =
      let s : n + 26 ≡ top_len true v es slots = omega (arith, top_cid_length 0 0 0 0) in
      s ∙ ap (λ (x : Bool). top_len x v es slots) (sym t)

  pub named-sum : (cid : Bool) (v : ℕ) → cid ≡ false → (n k : ℕ) → n ≡ length (carried es slots) → k ≡ encoding_len v → n + 23 + k ≡ top_len cid v es slots
  named-sum cid v t n k e f =
      let s : n + 23 + k ≡ top_len false v es slots = omega (arith, top-named-length 0 v 0 0 0) in
      s ∙ ap (λ (x : Bool). top_len x v es slots) (sym t)

-- ---- what stands before the offsets is not long

value-short : (op n : ℕ) → n < 1000000000000000 → length (value_entry op n) ≤ 103
value-short op n h = omega (arith, value-length op n, whole-short false n h, op_short op)

slot-short : (slots : List Slot) → Filled slots → (j op : ℕ) → j < 8 → length (slot_entry slots j op) ≤ 103
unfolding slot_entry
slot-short slots f j op h =
    pick_ind (λ (l : List ℕ). length l ≤ 103) (is_some (get_or slots j no_slot).sid) (value_entry op (get_or slots j no_slot).id) []
    (λ e. value-short op (get_or slots j no_slot).id (slot_small slots j f h)) (λ e. omega arith)

slots_short : (slots : List Slot) → Filled slots → (ops : List ℕ) (j : ℕ) → j + length ops ≤ 8 → length (slot_entries slots j ops) ≤ 103 * length ops
unfolding slot_entries
slots_short slots f [] j h = omega arith
slots_short slots f (op ∷ ops) j h =
    omega (arith, length-append (slot_entry slots j op) (slot_entries slots (j + 1) ops), slot-short slots f j op (omega arith), slots_short slots f ops (j + 1) (omega arith))

copies_short : (es : List Entry) → ((op : ℕ) → length (copied_entry op (last_of op es)) ≤ 7000000000) → (ops : List ℕ) → length (copied_bytes es ops) ≤ 7000000000 * length ops
unfolding copied_bytes
copies_short es h [] = omega arith
copies_short es h (op ∷ ops) = omega (arith, length-append (copied_entry op (last_of op es)) (copied_bytes es ops), h op, copies_short es h ops)

ros-short : (slots : List Slot) → Filled slots → (es : List Entry) → length (ros_of slots (ros_in es)) ≤ 305
unfolding ros_of ids_bytes
ros-short slots f es = go (ros_in es) refl
  where
    go : (r : Option RosEntry) → r ≡ ros_in es → length (ros_of slots r) ≤ 305
    go None e = omega arith
    go (Some q) e =
        rw (length-append, length-append, length-append)
        (omega (
          arith,
          whole-short false (get_or slots 0 no_slot).id (slot_small slots 0 f (lit< tt)),
          whole-short false (get_or slots 1 no_slot).id (slot_small slots 1 f (lit< tt)),
          whole-short q.supplement.neg q.supplement.size (ros-small es (Some q) e q.registry q.ordering q.supplement refl),
          op_short ros,
        ))

module _ (top : Top) where
  copied-entry-short : (op : ℕ) → length (copied_entry op (last_of op (entries top.dict))) ≤ 7000000000
  copied-entry-short op = omega (arith, copied-short top.dict.bytes.now top.octets op, top.short)

  pub carried-short : length (carried (entries top.dict) top.slots.now) ≤ 60000000618
  unfolding carried
  carried-short =
      rw length-append
      (omega (arith, slots_short top.slots.now top.filled copied_top_strings 2 (lit≤ tt), copies_short (entries top.dict) copied-entry-short copied_top_entries))

  pub front-short : length (cid_front (entries top.dict) top.slots.now) ≤ 60000001026
  front-short =
      omega (
        arith,
        front_length (entries top.dict) top.slots.now,
        ros-short top.slots.now top.filled (entries top.dict),
        carried-short,
        value-short cid_count (cid_count_in (entries top.dict)) (count_small (entries top.dict)),
      )
