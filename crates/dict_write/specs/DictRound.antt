-- A DICT that was written reads back: token by token, entry by entry, whatever form its numbers were written in.
use Rattle.std.specs.Prelude.{ℕ, suc, ◌+◌, ◌-◌, ◌<◌, ◌≡◌, ◌⊎◌, Bool, ltb, get_or, Ok}
use Rattle.std.proofs.Math.Path.{refl, sym, ap}
use Rattle.std.proofs.Common.{◌∙◌, subst, inl, inr, add-zero, arith, length-drop, get_or-drop, drop-drop, drop_at}
use Rattle.std.proofs.Math.Bool.{true, false}
use mathlib.Core.List.{List, [], ◌∷◌, ◌++◌, append_assoc}
use Rattle.std.proofs.Math.ListN.{length, drop, length-append}
use borrow.Author.Tests.{lt-ltb, le-ltb, ne_eqb}
use Rattle.octets.specs.Pick.{pick}
use Rattle.decimal.specs.declared.Decimal.{Decimal}
use Rattle.decimal.specs.Number.{number, number_at}
use Rattle.decimal.specs.NumberLaws.{form_none}
use Rattle.decimal.specs.Written.{number_bytes, int5_bytes}
use Rattle.decimal.specs.Decimal.{whole}
use Rattle.decimal_write.specs.IntRound.{Reads, reads_int5}
use Rattle.decimal_write.specs.WrittenRound.{reads-number}
use Rattle.dict.specs.Op.{is_operator, private}
use Rattle.dict.specs.Dict.{Entry, Token, operator, operator_at, token_of, token_at, Reading, got, after, onward, entry_at, followed, readings_at, before, gathered, dict_of}
use Rattle.dict.specs.Proper.{AllNormal}
use Rattle.dict.specs.EntryLaws.{entry_is, readings_are, readings_end}
use Rattle.dict_write.specs.Written.{op_bytes_lem, operands_bytes, entry_bytes, offset_entry, private_entry}
use Rattle.dict_write.specs.Parts.{Part, plain, offset, private_part, part_bytes, parts_bytes, part_entry, parts_entries, Fits, AllFit}
use Rattle.dict_write.specs.OpLaws.{OneByte, Escape, op_kind}
use Rattle.dict_write.specs.ShortLaws.{number_there}

-- ---- what stands at a position

module _ (b : List ℕ) (at x : ℕ) (xs : List ℕ) (lies : drop at b ≡ x ∷ xs) where
  byte_there : at < length b
  byte_there = let k : length b - at ≡ suc (length xs) = sym (length-drop at b) ∙ ap length lies in omega arith

  byte_is : get_or b at 0 ≡ x
  byte_is =
      let e : at + 0 ≡ at = add-zero at in
      ap (λ (i : ℕ). get_or b i 0) (sym e) ∙ sym (get_or-drop at b 0 0) ∙ ap (λ (l : List ℕ). get_or l 0 0) lies

-- what stands behind a part
behind : (b : List ℕ) (at : ℕ) (bs rest : List ℕ) → drop at b ≡ bs ++ rest → drop (at + length bs) b ≡ rest
behind b at bs rest lies =
    sym (drop-drop (length bs) at b) ∙ ap (drop (length bs)) lies ∙ drop_at bs rest (length bs) refl

-- ---- an operator

module _ (b : List ℕ) (at op : ℕ) (post : List ℕ) where
  no_number : (x : ℕ) (xs : List ℕ) → drop at b ≡ x ∷ xs → x < 22 → token_at b at ≡ operator_at b at
  unfolding token_at
  no_number x xs lies h =
      let e = byte_is b at x xs lies in
      ap (token_of b at) (form_none b at (λ q. omega arith) (λ q. omega arith) (λ q. omega arith) (omega arith))

  one_byte : OneByte op → drop at b ≡ op_bytes_lem op ++ post → token_at b at ≡ operator op (at + length (op_bytes_lem op))
  unfolding operator_at op_bytes_lem
  one_byte k lies =
      let s = lt-ltb op 3072 (omega (arith, k.low)) in
      let l : drop at b ≡ op ∷ post = lies ∙ ap (λ (t : Bool). pick t (op ∷ []) (12 ∷ (op - 3072) ∷ []) ++ post) s in
      let e = byte_is b at op post l in
      no_number op post l k.low ∙ rw (e, ne_eqb op 12 k.other, lt-ltb op 22 k.low, s)

  escaped : Escape op → drop at b ≡ op_bytes_lem op ++ post → token_at b at ≡ operator op (at + length (op_bytes_lem op))
  unfolding operator_at op_bytes_lem
  escaped k lies =
      let s = le-ltb op 3072 k.from in
      let l : drop at b ≡ 12 ∷ (op - 3072) ∷ post = lies ∙ ap (λ (t : Bool). pick t (op ∷ []) (12 ∷ (op - 3072) ∷ []) ++ post) s in
      let m : drop (at + 1) b ≡ (op - 3072) ∷ post = behind b at (12 ∷ []) ((op - 3072) ∷ post) l in
      let e = byte_is b at 12 ((op - 3072) ∷ post) l in
      let f = byte_is b (at + 1) (op - 3072) post m in
      let h = byte_there b (at + 1) (op - 3072) post m in
      let g : 3072 + (op - 3072) ≡ op = omega (arith, k.from) in
      no_number 12 ((op - 3072) ∷ post) l (omega arith) ∙ rw (e, le-ltb (length b) (at + 2) (omega arith), f, s) (ap (λ (n : ℕ). operator n (at + 2)) g)

  pub operator-read : is_operator op ≡ true → drop at b ≡ op_bytes_lem op ++ post → token_at b at ≡ operator op (at + length (op_bytes_lem op))
  operator-read h lies = go (op_kind op h)
    where
      go : OneByte op ⊎ Escape op → token_at b at ≡ operator op (at + length (op_bytes_lem op))
      go (inl k) = one_byte k lies
      go (inr k) = escaped k lies

  op_there : drop at b ≡ op_bytes_lem op ++ post → at < length b
  unfolding op_bytes_lem
  op_there lies = go (ltb op 3072) lies
    where
      go : (t : Bool) → drop at b ≡ pick t (op ∷ []) (12 ∷ (op - 3072) ∷ []) ++ post → at < length b
      go true l = byte_there b at op post l
      go false l = byte_there b at 12 ((op - 3072) ∷ post) l

-- ---- an entry, from its operator back to its first operand

pub entry-operator : (b : List ℕ) (at op : ℕ) (post : List ℕ) → is_operator op ≡ true → drop at b ≡ op_bytes_lem op ++ post → entry_at b at ≡ got op [] at (at + length (op_bytes_lem op))
entry-operator b at op post h lies =
    entry_is b at (op_there b at op post lies) ∙ ap (λ (t : Token). onward at t (entry_at b)) (operator-read b at op post h lies)

module _ (b : List ℕ) (at : ℕ) (d : Decimal) (bs rest : List ℕ) (r : Reads d bs) (lies : drop at b ≡ bs ++ rest) where
  number_is : number_at b at ≡ number d (at + length bs)
  number_is = r b at rest lies

  pub operand_there : at < length b
  operand_there = number_there b at d (at + length bs) number_is (ltb at (length b)) refl

  pub entry_operand : entry_at b at ≡ after d (entry_at b (at + length bs))
  unfolding token_at
  entry_operand = entry_is b at operand_there ∙ ap (λ (t : Token). onward at t (entry_at b)) (ap (token_of b at) number_is)

-- an entry that was written at a position, and the position after it
pub record Read (b : List ℕ) (at : ℕ) (e : Entry) (next : ℕ) : Type 0 where
  pub there : at < length b
  pub end : ℕ
  pub is : entry_at b at ≡ got e.op e.operands end next

read_next : (b : List ℕ) (at : ℕ) (e : Entry) (next last : ℕ) → next ≡ last → Read b at e next → Read b at e last
read_next b at e next last q r = subst (Read b at e) q r

module _ (b : List ℕ) (op : ℕ) (h : is_operator op ≡ true) (post : List ℕ) where
  read-operator : (at : ℕ) → drop at b ≡ op_bytes_lem op ++ post → Read b at (record { op = op; operands = [] }) (at + length (op_bytes_lem op))
  read-operator at lies = record { there = op_there b at op post lies; end = at; is = entry-operator b at op post h lies }

  read_operand : (at : ℕ) (d : Decimal) (ds : List Decimal) (bs rest : List ℕ) (next : ℕ) → Reads d bs → drop at b ≡ bs ++ rest
      → Read b (at + length bs) (record { op = op; operands = ds }) next → Read b at (record { op = op; operands = d ∷ ds }) next
  read_operand at d ds bs rest next r lies w =
      record {
        there = operand_there b at d bs rest r lies;
        end = w.end;
        is = entry_operand b at d bs rest r lies ∙ ap (after d) w.is;
      }

  read_operands : (ds : List Decimal) → AllNormal ds → (at : ℕ) → drop at b ≡ operands_bytes ds ++ (op_bytes_lem op ++ post)
      → Read b at (record { op = op; operands = ds }) (at + length (operands_bytes ds) + length (op_bytes_lem op))
  unfolding AllNormal operands_bytes
  read_operands [] n at lies = read_next b at _ _ _ (omega arith) (read-operator at lies)
  read_operands (d ∷ ds) n at lies =
      let rest = operands_bytes ds ++ (op_bytes_lem op ++ post) in
      let l : drop at b ≡ number_bytes d ++ rest = lies ∙ append_assoc (number_bytes d) (operands_bytes ds) (op_bytes_lem op ++ post) in
      let k : at + length (number_bytes d) + length (operands_bytes ds) + length (op_bytes_lem op) ≡ at + length (number_bytes d ++ operands_bytes ds) + length (op_bytes_lem op)
      = rw length-append (omega arith) in
      read_next b at _ _ _ k (read_operand at d ds (number_bytes d) rest _ (reads-number d n.0) l (read_operands ds n.1 (at + length (number_bytes d)) (behind b at (number_bytes d) rest l)))

-- ---- a part, and parts one after the other

five : (v : ℕ) → v < 2147483648 → Reads (whole v) (int5_bytes false v)
five v h = reads_int5 false v (omega arith)

module _ (b : List ℕ) (post : List ℕ) where
  read-offset : (op value : ℕ) → is_operator op ≡ true → value < 2147483648 → (at : ℕ) → drop at b ≡ offset_entry op value ++ post
      → Read b at (record { op = op; operands = whole value ∷ [] }) (at + length (offset_entry op value))
  unfolding offset_entry
  read-offset op value h v at lies =
      let l = lies ∙ append_assoc (int5_bytes false value) (op_bytes_lem op) post in
      let k : at + length (int5_bytes false value) + length (op_bytes_lem op) ≡ at + length (int5_bytes false value ++ op_bytes_lem op) = rw length-append (omega arith) in
      read_next b at _ _ _ k
      (read_operand b op h post at (whole value) [] (int5_bytes false value) (op_bytes_lem op ++ post) _ (five value v) l
      (read-operator b op h post (at + length (int5_bytes false value)) (behind b at (int5_bytes false value) (op_bytes_lem op ++ post) l)))

  read-part : (p : Part) → Fits p → (at : ℕ) → drop at b ≡ part_bytes p ++ post → Read b at (part_entry p) (at + length (part_bytes p))
  unfolding entry_bytes private_entry
  read-part (plain e) f at lies =
      let k : at + length (operands_bytes e.operands) + length (op_bytes_lem e.op) ≡ at + length (operands_bytes e.operands ++ op_bytes_lem e.op)
      = rw length-append (omega arith) in
      read_next b at _ _ _ k (read_operands b e.op f.operator post e.operands f.numbers at (lies ∙ append_assoc (operands_bytes e.operands) (op_bytes_lem e.op) post))
  read-part (offset op value) f at lies = read-offset op value f.0 f.1 at lies
  read-part (private_part size from) f at lies =
      let l = lies ∙ append_assoc (int5_bytes false size) (offset_entry private from) post in
      let k : at + length (int5_bytes false size) + length (offset_entry private from) ≡ at + length (int5_bytes false size ++ offset_entry private from)
      = rw length-append (omega arith) in
      read_next b at _ _ _ k
      (read_operand b private refl post at (whole size) (whole from ∷ []) (int5_bytes false size) (offset_entry private from ++ post) _ (five size f.0) l
      (read-offset private from refl f.1 (at + length (int5_bytes false size)) (behind b at (int5_bytes false size) (offset_entry private from ++ post) l)))

module _ (b : List ℕ) where
  pub parts_from : (ps : List Part) → AllFit ps → (at : ℕ) → drop at b ≡ parts_bytes ps → gathered (readings_at b at) ≡ Ok (parts_entries ps)
  unfolding AllFit parts_bytes parts_entries gathered
  parts_from [] f at lies =
      let k : length b - at ≡ 0 = sym (length-drop at b) ∙ ap length lies in
      ap gathered (readings_end b at (omega arith))
  parts_from (p ∷ ps) f at lies =
      let r = read-part b (parts_bytes ps) p f.0 at lies in
      ap gathered (readings_are b at r.there ∙ ap (λ (x : Reading). followed x (readings_at b)) r.is)
      ∙ ap (before (part_entry p)) (parts_from ps f.1 (at + length (part_bytes p)) (behind b at (part_bytes p) (parts_bytes ps) lies))

-- a DICT that was written part by part reads back
pub parts-read : (ps : List Part) → AllFit ps → dict_of (parts_bytes ps) ≡ Ok (parts_entries ps)
unfolding dict_of
parts-read ps f = parts_from (parts_bytes ps) ps f 0 refl
