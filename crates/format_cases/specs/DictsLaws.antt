-- Laws of the answers of a DICT: operands one after the other, entries one after the other, and the code's ways out.
use Prim.Native.Nat.{ℕ, zero, suc, ◌+◌, ◌*◌, ◌≤◌, ◌<◌}
use Rattle.std.specs.Prelude.{◌≡◌, refl, ltb, length, None, Some, Result, Ok, Err}
use Rattle.std.proofs.Math.Path.{sym, ap, subst}
use Rattle.std.proofs.Common.{◌∙◌, length-append, lt-ltb, le-ltb, ltb-true}
use mathlib.Core.List.{List, [], ◌∷◌, ◌++◌, append_assoc, append-nil}
use native.Mathlib.Omega.{arith}
use Rattle.octets.specs.Pick.{pick_ind}
use Rattle.octets.specs.OctetsLaws.{length-bytes}
use Rattle.decimal.specs.declared.Decimal.{Decimal}
use Rattle.decimal.specs.Number.{Number, refused as refusedNumber, not_number, number, number_at}
use Rattle.dict.specs.Dict.{Entry, Token, bad, operand, operator, token_at, Reading, stopped, got, after, onward, entry_from, entry_at, readings_at, before, gathered, dict_of}
use Rattle.dict.specs.Places.{entry_told, or_none, operands_at}
use Rattle.dict.specs.TokenLaws.{Passes, token-passes}
use Rattle.dict.specs.EntryLaws.{readings_end}
use Rattle.dict.proofs.WalkLaws.{Answered, answered, left_stopped, left-entry}
use Rattle.format_cases.specs.Dicts.{decimal_bytes, operands_bytes, entry_bytes, entries_bytes, behind, dict_answer}
use Rattle.dict.specs.declared.EntryAt.{EntryAt}
use Rattle.refusal.specs.declared.Refusal.{Refusal}
use Rattle.refusal.specs.Refusal.{number_of}

-- ---- operands

pub decimal-length : (d : Decimal) → length (decimal_bytes d) ≡ 11
unfolding decimal_bytes
decimal-length d = rw (length-append, length-append, length-append) (omega (arith, length-bytes 8 d.digits, length-bytes 1 d.up, length-bytes 1 d.down))

pub operands_none : (ds : List Decimal) → ds ≡ [] → operands_bytes ds ≡ []
unfolding operands_bytes
operands_none ds e = ap operands_bytes e

pub operands_next : (ds : List Decimal) (d : Decimal) (es : List Decimal) → ds ≡ d ∷ es → operands_bytes ds ≡ decimal_bytes d ++ operands_bytes es
unfolding operands_bytes
operands_next ds d es e = ap operands_bytes e

bytes_count : (ds : List Decimal) → length (operands_bytes ds) ≡ 11 * length ds
unfolding operands_bytes
bytes_count [] = refl
bytes_count (d ∷ ds) = rw length-append (omega (arith, decimal-length d, bytes_count ds))

count_at : (b : List ℕ) (n at : ℕ) → length (operands_at n b at) ≤ n
unfolding operands_at
count_at b zero at = omega arith
count_at b (suc n) at = go (number_at b at) (count_at b n)
  where
    go : (q : Number) → ((next : ℕ) → length (operands_at n b next) ≤ n) → length (or_none q (operands_at n b)) ≤ suc n
    go (refusedNumber m) h = omega arith
    go not_number h = omega arith
    go (number d next) h = omega (arith, h next)

pub operands_length : (b : List ℕ) (n at : ℕ) → length (operands_bytes (operands_at n b at)) ≤ 11 * n
operands_length b n at = omega (arith, bytes_count (operands_at n b at), count_at b n at)

-- ---- an entry

pub entry_length : (op n : ℕ) (ds : List Decimal) → length (entry_bytes op n ds) ≡ 3 + 11 * length ds
unfolding entry_bytes
entry_length op n ds = rw (length-append, length-append) (omega (arith, length-bytes 2 op, length-bytes 1 n, bytes_count ds))

-- each operand and the operator has a byte
abbrev Spans : ℕ → Reading → Type 0
Spans at (stopped n) = Unit
Spans at (got op ds end next) = at + length ds < next

module _ (b : List ℕ) where
  after_spans : (at next : ℕ) (d : Decimal) → at < next → (r : Reading) → Spans next r → Spans at (after d r)
  after_spans at next d l (stopped n) h = tt
  after_spans at next d l (got op ds end last) h = omega arith

  onward_spans : (at : ℕ) (t : Token) → Passes b at t → (f : ℕ → Reading) → ((next : ℕ) → Spans next (f next)) → Spans at (onward at t f)
  onward_spans at (bad n) p f h = tt
  onward_spans at (operand d next) p f h = after_spans at next d p.1 (f next) (h next)
  onward_spans at (operator op next) p f h = omega (arith, p.0)

  from_spans : (k at : ℕ) → Spans at (entry_from k b at)
  unfolding entry_from
  from_spans zero at = tt
  from_spans (suc k) at =
      pick_ind (Spans at) (ltb at (length b)) _ _
      (λ e. onward_spans at (token_at b at) (token-passes b at (ltb-true at (length b) e)) (entry_from k b) (from_spans k))
      (λ e. tt)

  entry_spans : (at op : ℕ) (ds : List Decimal) (end next : ℕ) → entry_at b at ≡ got op ds end next → at + length ds < next
  unfolding entry_at
  entry_spans at op ds end next e = subst (Spans at) e (from_spans (length b) at)

-- ---- entries one after the other

behind_more : (front : List ℕ) (e : Entry) (d : Result (List Entry) Refusal) → behind front (before e d) ≡ behind (front ++ entry_bytes e.op (length e.operands) e.operands) d
unfolding entries_bytes
behind_more front e (Err n) = refl
behind_more front e (Ok es) =
    ap (λ (l : List ℕ). 0 ∷ l) (sym (append_assoc front (entry_bytes e.op (length e.operands) e.operands) (entries_bytes es)))

-- what is known with the entries before a position written
pub record Listing (b : List ℕ) (at : ℕ) (to : List ℕ) : Type 0 where
  pub done : List ℕ
  pub inside : at ≤ length b
  pub rest : behind done (gathered (readings_at b at)) ≡ behind [] (dict_of b)
  pub is : to ≡ 0 ∷ done
  pub room : length to ≤ 1 + 11 * at

pub listing_start : (b to : List ℕ) → to ≡ 0 ∷ [] → Listing b 0 to
unfolding dict_of
listing_start b to e =
    let n = ap length e in
    record { done = []; inside = omega arith; rest = refl; is = e; room = omega (arith, n) }

module _ (b : List ℕ) (at : ℕ) (to : List ℕ) (w : Listing b at to) where
  -- the end
  pub listing_end : length b ≤ at → to ≡ behind [] (dict_of b)
  unfolding gathered entries_bytes
  listing_end h =
      let e : behind w.done (Ok []) ≡ behind [] (dict_of b)
      = ap (λ (l : List Reading). behind w.done (gathered l)) (sym (readings_end b at h)) ∙ w.rest in
      w.is ∙ ap (λ (l : List ℕ). 0 ∷ l) (sym (append-nil w.done)) ∙ e

  module _ (h : at < length b) (r : Result EntryAt Refusal) (e : r ≡ entry_told at 0 (entry_at b at)) where
    pub listing_refused : (n : Refusal) → r ≡ Err n → number_of n ∷ [] ≡ behind [] (dict_of b)
    unfolding gathered
    listing_refused n f = ap (λ (l : List Reading). behind w.done (gathered l)) (sym (left_stopped b at h r e n f)) ∙ w.rest

    module _ (t : EntryAt) (f : r ≡ Ok t) where
      placed : Answered b at t
      placed = answered b at h r e t f

      listing_spans : at + t.count < t.next
      listing_spans = omega (arith, entry_spans b at t.op placed.operands t.end t.next placed.entry, placed.counted)

      -- room for an entry, in the answer to a DICT of up to 100 bytes
      pub listing-room : length to + (3 + 11 * t.count) ≤ 1 + 11 * length b
      listing-room = omega (arith, listing_spans, w.room, placed.stands.inside)

      entry_is : entry_bytes t.op t.count (operands_at t.count b t.start) ≡ entry_bytes t.op (length placed.operands) placed.operands
      entry_is =
          ap (λ (ds : List Decimal). entry_bytes t.op t.count ds) (ap (operands_at t.count b) placed.starts ∙ ap (λ (n : ℕ). operands_at n b at) placed.counted ∙ placed.stands.here)
          ∙ ap (λ (n : ℕ). entry_bytes t.op n placed.operands) placed.counted

      pub listing-turn : (newer : List ℕ) → newer ≡ to ++ entry_bytes t.op t.count (operands_at t.count b t.start) → Listing b t.next newer
      unfolding gathered
      listing-turn newer x =
          let one = entry_bytes t.op (length placed.operands) placed.operands in
          let y : newer ≡ to ++ one = x ∙ ap (λ (l : List ℕ). to ++ l) entry_is in
          let n : length newer ≡ length to + length one = ap length y ∙ length-append to one in
          record {
            done = w.done ++ one;
            inside = placed.stands.inside;
            rest = sym (behind_more w.done (record { op = t.op; operands = placed.operands }) (gathered (readings_at b t.next)))
                ∙ sym (ap (λ (l : List Reading). behind w.done (gathered l)) (left-entry b at h r e t placed)) ∙ w.rest;
            is = y ∙ ap (λ (l : List ℕ). l ++ one) w.is;
            room = omega (arith, n, entry_length t.op (length placed.operands) placed.operands, placed.counted, listing_spans, w.room);
          }

-- ---- the ways out

pub dict_long : (s : List ℕ) → 100 < length s → dict_answer s ≡ None
unfolding dict_answer
dict_long s h = rw (lt-ltb 100 (length s) h)

pub dict-found : (s : List ℕ) → length s ≤ 100 → dict_answer s ≡ Some (behind [] (dict_of s))
unfolding dict_answer
dict-found s h = rw (le-ltb 100 (length s) h)
