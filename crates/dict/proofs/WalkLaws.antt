-- Laws for the loops that read a DICT: over the tokens of an entry, and over its entries.
use Rattle.std.specs.Prelude.{ℕ, suc, ◌+◌, ◌≤◌, ◌<◌, ◌≡◌, refl, Bool, eqb, length, Option, Some, None, Result, Ok, Err}
use Rattle.std.proofs.Math.Path.{sym, ap}
use Rattle.std.proofs.Common.{◌∙◌, subst, arith, eq-eqb, ne_eqb}
use mathlib.Core.List.{List, [], ◌∷◌}
use Rattle.octets.specs.Pick.{pick}
use Rattle.decimal.specs.declared.Decimal.{Decimal}
use Rattle.dict.specs.Dict.{Entry, Token, bad, operand, operator, token_at, Reading, stopped, got, after, onward, entry_at, followed, readings_at, before, gathered, dict_of}
use Rattle.dict.specs.Places.{token_told, entry_there, entry_told, refusal_of, last_place, place_of, found_at}
use Rattle.dict.specs.TokenLaws.{Passes, token-passes}
use Rattle.dict.specs.EntryLaws.{entry_is, entry-ends, Stands, Entered, entered, readings_are, readings_end}
use Rattle.dict.specs.declared.TokenAt.TheVariants.{Operand, Operator}
use Rattle.dict.specs.declared.OperandsAt.{OperandsAt}
use Rattle.dict.specs.declared.EntryAt.{EntryAt}
use Rattle.dict.specs.declared.TokenAt.{TokenAt}
use Rattle.refusal.specs.declared.Refusal.{Refusal}
use Rattle.refusal.specs.declared.Refusal.TheVariants.{Malformed}

no : ◌≡◌ {A = ℕ} 0 1 → ⊥
no h = omega arith

-- ---- a token's answer, taken apart

refused_token : (t : Token) (n : Refusal) → token_told t ≡ Err n → t ≡ bad n
refused_token (bad m) n e = let k : m ≡ n = cc in ap bad k
refused_token (operand d m) n e = absurd (no cc)
refused_token (operator op m) n e = absurd (no cc)

operator-token : (t : Token) (op next : ℕ) → token_told t ≡ Ok (Operator op next) → t ≡ operator op next
operator-token (bad m) op next e = absurd (no cc)
operator-token (operand d m) op next e = absurd (no cc)
operator-token (operator o m) op next e = let k : o ≡ op = cc in let l : m ≡ next = cc in rw (k, l)

operand_token : (t : Token) (next : ℕ) → token_told t ≡ Ok (Operand next) → (d : Decimal) × (t ≡ operand d next)
operand_token (bad m) next e = absurd (no cc)
operand_token (operand d m) next e = let k : m ≡ next = cc in (d, ap (operand d) k)
operand_token (operator o m) next e = absurd (no cc)

-- ---- the tokens of an entry: count operands were read, and what is left is the rest of it
pub record Counting (b : List ℕ) (start at count : ℕ) : Type 0 where
  pub inside : at ≤ length b
  pub few : count ≤ at
  pub rest : entry_told start count (entry_at b at) ≡ entry_told start 0 (entry_at b start)

told-after : (start n : ℕ) (d : Decimal) (r : Reading) → entry_told start n (after d r) ≡ entry_told start (n + 1) r
told-after start n d (stopped m) = refl
told-after start n d (got op ds end next) = let e : n + suc (length ds) ≡ n + 1 + length ds = omega arith in ap (λ (k : ℕ). entry_there start op end k next) e

module _ (b : List ℕ) (start at count : ℕ) (w : Counting b start at count) where
  pub counting-over : length b ≤ at → Err Malformed ≡ entry_told start 0 (entry_at b start)
  counting-over h = sym (ap (entry_told start count) (entry-ends b at h)) ∙ w.rest

  module _ (h : at < length b) (r : Result TokenAt Refusal) (e : r ≡ token_told (token_at b at)) where
    turned : (t : Token) → token_at b at ≡ t → entry_told start count (onward at t (entry_at b)) ≡ entry_told start 0 (entry_at b start)
    turned t f = ap (λ (x : Token). entry_told start count (onward at x (entry_at b))) (sym f) ∙ sym (ap (entry_told start count) (entry_is b at h)) ∙ w.rest

    pub counting_refused : (n : Refusal) → r ≡ Err n → Err n ≡ entry_told start 0 (entry_at b start)
    counting_refused n f = turned (bad n) (refused_token (token_at b at) n (sym e ∙ f))

    pub counting-operator : (op next : ℕ) → r ≡ Ok (Operator op next) → entry_there start op at count next ≡ entry_told start 0 (entry_at b start)
    counting-operator op next f =
        let k : count ≡ count + 0 = omega arith in
        ap (λ (n : ℕ). entry_there start op at n next) k ∙ turned (operator op next) (operator-token (token_at b at) op next (sym e ∙ f))

    pub counting_further : (next : ℕ) → r ≡ Ok (Operand next) → (at < next) × (next ≤ length b)
    counting_further next f =
        let q = operand_token (token_at b at) next (sym e ∙ f) in
        let p : Passes b at (operand q.0 next) = subst (Passes b at) q.1 (token-passes b at h) in
        (p.1, p.2)

    pub counting-turn : (next : ℕ) → r ≡ Ok (Operand next) → Counting b start next (count + 1)
    counting-turn next f =
        let q = operand_token (token_at b at) next (sym e ∙ f) in
        let p = counting_further next f in
        record {
          inside = p.1;
          few = omega (arith, p.0, w.few);
          rest = sym (told-after start count q.0 (entry_at b next)) ∙ turned (operand q.0 next) q.1;
        }

-- ---- an entry's answer, taken apart

stopped_entry : (at : ℕ) (x : Reading) (n : Refusal) → entry_told at 0 x ≡ Err n → x ≡ stopped n
stopped_entry at (stopped m) n e = let k : m ≡ n = cc in ap stopped k
stopped_entry at (got op ds end next) n e = absurd (no cc)

-- the operands behind an entry's answer
pub record Answered (b : List ℕ) (at : ℕ) (t : EntryAt) : Type 0 where
  pub operands : List Decimal
  pub starts : t.start ≡ at
  pub entry : entry_at b at ≡ got t.op operands t.end t.next
  pub counted : t.count ≡ length operands
  pub stands : Stands b at operands t.next

answer-of : (b : List ℕ) (at : ℕ) (x : Reading) → entry_at b at ≡ x → Entered b at x → (t : EntryAt) → entry_told at 0 x ≡ Ok t → Answered b at t
answer-of b at (stopped m) q s t e = absurd (no cc)
answer-of b at (got op ds end next) q s t e =
    let k : record { start = at; op = op; end = end; count = 0 + length ds; next = next } ≡ t = cc in
    subst (Answered b at) k (record { operands = ds; starts = refl; entry = q; counted = omega arith; stands = s })

module _ (b : List ℕ) (at : ℕ) (h : at < length b) (r : Result EntryAt Refusal) (e : r ≡ entry_told at 0 (entry_at b at)) where
  pub answered : (t : EntryAt) → r ≡ Ok t → Answered b at t
  answered t f = answer-of b at (entry_at b at) refl (entered b at) t (sym e ∙ f)

  -- what is left after a refusal, and after an entry
  pub left_stopped : (n : Refusal) → r ≡ Err n → readings_at b at ≡ stopped n ∷ []
  left_stopped n f =
      readings_are b at h ∙ ap (λ (x : Reading). followed x (readings_at b)) (stopped_entry at (entry_at b at) n (sym e ∙ f))

  pub left-entry : (t : EntryAt) (a : Answered b at t) → readings_at b at ≡ got t.op a.operands t.end t.next ∷ readings_at b t.next
  left-entry t a = readings_are b at h ∙ ap (λ (x : Reading). followed x (readings_at b)) a.entry

-- ---- checking: what is left is refused as the whole is

pub before-refusal : (e : Entry) (d : Result (List Entry) Refusal) → refusal_of (before e d) ≡ refusal_of d
before-refusal e (Err n) = refl
before-refusal e (Ok es) = refl

pub record Checking (b : List ℕ) (at : ℕ) : Type 0 where
  pub inside : at ≤ length b
  pub rest : refusal_of (gathered (readings_at b at)) ≡ refusal_of (dict_of b)

pub checking_start : (b : List ℕ) → Checking b 0
unfolding dict_of
checking_start b = record { inside = omega arith; rest = refl }

module _ (b : List ℕ) (at : ℕ) (w : Checking b at) where
  pub checking_end : length b ≤ at → None ≡ refusal_of (dict_of b)
  unfolding gathered
  checking_end h = sym (ap (λ (l : List Reading). refusal_of (gathered l)) (readings_end b at h)) ∙ w.rest

  module _ (h : at < length b) (r : Result EntryAt Refusal) (e : r ≡ entry_told at 0 (entry_at b at)) where
    pub checking_refused : (n : Refusal) → r ≡ Err n → Some n ≡ refusal_of (dict_of b)
    unfolding gathered
    checking_refused n f = sym (ap (λ (l : List Reading). refusal_of (gathered l)) (left_stopped b at h r e n f)) ∙ w.rest

    pub checking_turn : (t : EntryAt) → r ≡ Ok t → Checking b t.next
    unfolding gathered
    checking_turn t f =
        let a = answered b at h r e t f in
        record {
          inside = a.stands.inside;
          rest = sym (before-refusal (record { op = t.op; operands = a.operands }) (gathered (readings_at b t.next)))
              ∙ sym (ap (λ (l : List Reading). refusal_of (gathered l)) (left-entry b at h r e t a)) ∙ w.rest;
        }

-- ---- finding: what is left, and what was found so far, gives what the whole does
pub record Finding (b : List ℕ) (op at : ℕ) (found : Option OperandsAt) : Type 0 where
  pub inside : at ≤ length b
  pub rest : last_place op at found (readings_at b at) ≡ place_of op b

pub finding_start : (b : List ℕ) (op : ℕ) → Finding b op 0 None
finding_start b op = record { inside = omega arith; rest = refl }

module _ (b : List ℕ) (op at : ℕ) (found : Option OperandsAt) (w : Finding b op at found) where
  pub finding_end : length b ≤ at → found ≡ place_of op b
  unfolding last_place
  finding_end h = sym (ap (last_place op at found) (readings_end b at h)) ∙ w.rest

  module _ (h : at < length b) (r : Result EntryAt Refusal) (e : r ≡ entry_told at 0 (entry_at b at)) where
    pub finding_stopped : (n : Refusal) → r ≡ Err n → found ≡ place_of op b
    unfolding last_place
    finding_stopped n f = sym (ap (last_place op at found) (left_stopped b at h r e n f)) ∙ w.rest

    found_turn : (t : EntryAt) → r ≡ Ok t → Finding b op t.next (pick (eqb t.op op) (found_at at t.count) found)
    unfolding last_place
    found_turn t f =
        let a = answered b at h r e t f in
        record {
          inside = a.stands.inside;
          rest = ap (λ (n : ℕ). last_place op t.next (pick (eqb t.op op) (found_at at n) found) (readings_at b t.next)) a.counted
              ∙ sym (ap (last_place op at found) (left-entry b at h r e t a)) ∙ w.rest;
        }

    pub finding_here : (t : EntryAt) → r ≡ Ok t → t.op ≡ op → Finding b op t.next (found_at t.start t.count)
    finding_here t f q =
        subst (λ (s : ℕ). Finding b op t.next (found_at s t.count)) (sym (answered b at h r e t f).starts)
        (subst (λ (u : Bool). Finding b op t.next (pick u (found_at at t.count) found)) (eq-eqb t.op op q) (found_turn t f))

    pub finding_on : (t : EntryAt) → r ≡ Ok t → (t.op ≡ op → ⊥) → Finding b op t.next found
    finding_on t f q =
        subst (λ (u : Bool). Finding b op t.next (pick u (found_at at t.count) found)) (ne_eqb t.op op q) (found_turn t f)
