-- What is written is not much longer than what was read, so that lengths can be added up.
use Prim.Native.Nat.{ℕ, zero, suc, ◌+◌, ◌-◌, ◌*◌, ◌≤◌, ◌<◌}
use Rattle.std.specs.Prelude.{◌≡◌, Bool, true, false, ltb, leb, eqb, Option, Some, None}
use Rattle.std.proofs.Math.Path.{refl, ap}
use mathlib.Core.List.{List, ◌∷◌, ◌++◌}
use native.Mathlib.Omega.{arith}
use Rattle.std.proofs.Math.ListN.{length, length-append}
use borrow.Author.Tests.{ltb-true, ltb-false}
use Rattle.octets.specs.Pick.{pick, pick_ind}
use Rattle.octets.specs.Octets.{Octets}
use Rattle.octets.specs.OctetsLaws.{length-bytes}
use Rattle.decimal.specs.declared.Decimal.{Decimal}
use Rattle.decimal.specs.Decimal.{Normal}
use Rattle.decimal.specs.Number.{Number, refused, not_number, number, number_at}
use Rattle.decimal.specs.TakenLaws.{number-taken}
use Rattle.decimal.specs.Values.{trunc_of}
use Rattle.decimal.specs.Written.{int_bytes, real_bytes, as_integer, number_bytes}
use Rattle.decimal_write.specs.IntLaws.{length_int5}
use Rattle.decimal_write.specs.TextLaws.{packed-small}
use Rattle.dict.specs.Dict.{Entry, Token, bad, operand, operator, token_at, Reading, stopped, got, after, onward, entry_from, entry_at, followed, readings_from, readings_at}
use Rattle.dict.specs.Lookup.{last_of}
use Rattle.dict.specs.Places.{listed, entries_of, or_none, place_of, operands_at}
use Rattle.dict.specs.declared.OperandsAt.{OperandsAt}
use Rattle.dict.specs.TokenLaws.{Passes, token-passes}
use Rattle.dict.specs.EntryLaws.{Entered, entered, from-entered}
use Rattle.dict.proofs.LookupLaws.{number_out}
use Rattle.dict_write.specs.Written.{op_bytes_lem, operands_bytes, entry_bytes, copied_entry, entries_bytes, without, private_bytes}
use Rattle.dict_write.specs.WriteLaws.{copied-absent, copied-found}

no : ◌≡◌ {A = ℕ} 0 1 → ⊥
no h = omega arith

int_short : (s : Bool) (v : ℕ) → length (int_bytes s v) ≤ 5
unfolding int_bytes
int_short s v =
    let P : List ℕ → Type 0 = λ (l : List ℕ). length l ≤ 5 in
    pick_ind P (leb v 107) _ _ (λ e. omega arith)
    (λ e. pick_ind P (leb v 1131) _ _ (λ f. omega arith)
    (λ f. pick_ind P (leb v (pick s 32768 32767)) _ _ (λ g. omega (arith, length-bytes 2 (pick s (65536 - v) v))) (λ g. omega (arith, length_int5 s v))))

pub number_short : (d : Decimal) → Normal d → length (number_bytes d) ≤ 101
unfolding number_bytes real_bytes
number_short d n =
    pick_ind (λ (l : List ℕ). length l ≤ 101) (as_integer d) _ _ (λ e. omega (arith, int_short d.neg (trunc_of d))) (λ e. omega (arith, packed-small d n))

pub op_short : (op : ℕ) → length (op_bytes_lem op) ≤ 2
unfolding op_bytes_lem
op_short op = pick_ind (λ (l : List ℕ). length l ≤ 2) (ltb op 3072) _ _ (λ e. omega arith) (λ e. omega arith)

-- ---- operands: at most 101 bytes for each byte read

pub number_there : (b : List ℕ) (at : ℕ) (d : Decimal) (next : ℕ) → number_at b at ≡ number d next → (t : Bool) → ltb at (length b) ≡ t → at < length b
number_there b at d next e true h = ltb-true at (length b) h
number_there b at d next e false h = absurd (no (let f = number_out b at (ltb-false at (length b) h) in cc))

module _ (b : List ℕ) (o : Octets b) where
  one-short : (n at : ℕ) → ((next : ℕ) → length (operands_bytes (operands_at n b next)) ≤ 101 * (length b - next)) → (q : Number) → number_at b at ≡ q
      → length (operands_bytes (or_none q (operands_at n b))) ≤ 101 * (length b - at)
  unfolding operands_bytes
  one-short n at h (refused m) e = omega arith
  one-short n at h not_number e = omega arith
  one-short n at h (number d next) e =
      let t = number-taken b at d next o (number_there b at d next e (ltb at (length b)) refl) e in
      rw length-append (omega (arith, number_short d t.normal, t.past, t.within, h next))

  pub operands_short : (n at : ℕ) → length (operands_bytes (operands_at n b at)) ≤ 101 * (length b - at)
  unfolding operands_at operands_bytes
  operands_short zero at = omega arith
  operands_short (suc n) at = one-short n at (operands_short n) (number_at b at) refl

  pub entry-short : (op n at : ℕ) → length (entry_bytes op (operands_at n b at)) ≤ 101 * length b + 2
  unfolding entry_bytes
  entry-short op n at = rw length-append (omega (arith, operands_short n at, op_short op))

  -- the last entry of an operator
  pub copied-short : (op : ℕ) → length (copied_entry op (last_of op (entries_of b))) ≤ 101 * length b + 2
  copied-short op = go (place_of op b) refl
    where
      go : (r : Option OperandsAt) → r ≡ place_of op b → length (copied_entry op (last_of op (entries_of b))) ≤ 101 * length b + 2
      go None e = omega (arith, ap length (copied-absent b op None e refl))
      go (Some q) e = omega (arith, ap length (copied-found b op (Some q) e q.start q.count refl), entry-short op q.count q.start)

  -- ---- entries: at most 103 bytes for each byte read

  Short : ℕ → Reading → Type 0
  Short at (stopped n) = Unit
  Short at (got op ds end next) = length (entry_bytes op ds) ≤ 103 * (next - at)

  after-short : (at next : ℕ) (d : Decimal) → Normal d → at < next → (r : Reading) → Entered b next r → Short next r → Short at (after d r)
  unfolding Short operands_bytes entry_bytes
  after-short at next d n l (stopped m) e h = tt
  after-short at next d n l (got op ds end last) e h =
      let k : length (number_bytes d ++ operands_bytes ds ++ op_bytes_lem op) ≡ length (number_bytes d) + length (operands_bytes ds ++ op_bytes_lem op)
      = rw (length-append, length-append, length-append) (omega arith) in
      omega (arith, k, number_short d n, e.further)

  onward-short : (at : ℕ) → at < length b → (t : Token) → Passes b at t → (f : ℕ → Reading) → ((next : ℕ) → Entered b next (f next)) → ((next : ℕ) → Short next (f next))
      → Short at (onward at t f)
  unfolding Short operands_bytes entry_bytes
  onward-short at i (bad n) p f g h = tt
  onward-short at i (operand d next) p f g h = after-short at next d (number-taken b at d next o i p.0).normal p.1 (f next) (g next) (h next)
  onward-short at i (operator op next) p f g h = omega (arith, op_short op, p.0)

  from-short : (k at : ℕ) → Short at (entry_from k b at)
  unfolding Short entry_from
  from-short zero at = tt
  from-short (suc k) at =
      pick_ind (Short at) (ltb at (length b)) _ _
      (λ e. let i = ltb-true at (length b) e in onward-short at i (token_at b at) (token-passes b at i) (entry_from k b) (from-entered b k) (from-short k))
      (λ e. tt)

  read_short : (at : ℕ) → Short at (entry_at b at)
  unfolding entry_at
  read_short at = from-short (length b) at

  kept-short : (op : ℕ) (e : Entry) (es : List Entry) → length (entries_bytes (without op (e ∷ es))) ≤ length (entry_bytes e.op e.operands) + length (entries_bytes (without op es))
  unfolding without entries_bytes
  kept-short op e es =
      pick_ind (λ (l : List Entry). length (entries_bytes l) ≤ length (entry_bytes e.op e.operands) + length (entries_bytes (without op es))) (eqb e.op op) _ _
      (λ t. omega arith) (λ t. rw length-append (omega arith))

  followed-short : (op at : ℕ) (r : Reading) → Entered b at r → Short at r → (f : ℕ → List Reading)
      → ((next : ℕ) → length (entries_bytes (without op (listed (f next)))) ≤ 103 * (length b - next))
      → length (entries_bytes (without op (listed (followed r f)))) ≤ 103 * (length b - at)
  unfolding Short listed without entries_bytes
  followed-short op at (stopped n) e s f h = omega arith
  followed-short op at (got o ds end next) e s f h =
      omega (arith, kept-short op (record { op = o; operands = ds }) (listed (f next)), h next, e.further, e.inside)

  all_short : (op k at : ℕ) → length (entries_bytes (without op (listed (readings_from k b at)))) ≤ 103 * (length b - at)
  unfolding readings_from listed without entries_bytes
  all_short op zero at = omega arith
  all_short op (suc k) at =
      pick_ind (λ (l : List Reading). length (entries_bytes (without op (listed l))) ≤ 103 * (length b - at)) (ltb at (length b)) _ _
      (λ e. followed-short op at (entry_at b at) (entered b at) (read_short at) (readings_from k b) (all_short op k)) (λ e. omega arith)

  pub private-short : length (private_bytes (entries_of b)) ≤ 103 * length b
  unfolding readings_at
  private-short = omega (arith, all_short 19 (length b) 0)
