-- Laws of noting where entries stand: a slot is its operator's own, and each turn of the pass notes one entry.
use Prim.Native.Nat.{ℕ, suc, ◌≤◌, ◌<◌}
use Rattle.std.specs.Prelude.{◌≡◌, refl, Bool, true, false, List, [], ◌∷◌, eqb, length, get_or, set, replicate, Option, Some, None, Result, Ok, Err}
use Rattle.std.proofs.Common.{sym, ap, ◌∙◌, subst, arith, length-set, get_or-set_same, get_or-set_other, eqb-true, ne_eqb}
use Rattle.std.proofs.lemmas.List.{length-replicate, get_or-replicate}
use Rattle.std.proofs.lemmas.Bool.{eqb-false}
use Rattle.std.proofs.lemmas.Option.{same_Some}
use Rattle.octets.specs.Pick.{pick, pick_ind}
use Rattle.dict.specs.Dict.{entry_at, dict_of}
use Rattle.dict.specs.Places.{entry_told, refusal_of, place_of, found_at}
use Rattle.dict.specs.Noted.{asked, slot_of, Notes, Placed}
use Rattle.dict.proofs.WalkLaws.{Checking, checking_start, checking_end, checking_refused, checking_turn, Finding, finding_start, finding_end, finding_here, finding_on}
use Rattle.dict.specs.declared.EntryAt.{EntryAt}
use Rattle.dict.specs.declared.OperandsAt.{OperandsAt}
use Rattle.dict.specs.declared.Places.{Places}
use Rattle.refusal.specs.declared.Refusal.{Refusal}

no : ◌≡◌ {A = ℕ} 0 1 → ⊥
no h = omega arith

-- ---- slots

pub slot-low : (xs : List ℕ) (op : ℕ) → slot_of xs op ≤ length xs
unfolding slot_of
slot-low [] op = omega arith
slot-low (x ∷ xs) op =
    pick_ind (λ (n : ℕ). n ≤ suc (length xs)) (eqb x op) 0 (suc (slot_of xs op)) (λ e. omega arith) (λ e. let h = slot-low xs op in omega (arith, h))

-- an operator that is none of a list
abbrev pub NoneOf : List ℕ → ℕ → Type 0
NoneOf [] op = Unit
NoneOf (x ∷ xs) op = (op ≡ x → ⊥) × NoneOf xs op

pub slot-none : (xs : List ℕ) (op : ℕ) → NoneOf xs op → length xs ≡ slot_of xs op
unfolding slot_of
slot-none [] op h = refl
slot-none (x ∷ xs) op h = rw (ne_eqb x op (λ z. h.0 (sym z))) (ap suc (slot-none xs op h.1))

-- how long the tables are
pub many_subsetting : (t : Bool) → t ≡ true → 15 ≡ length (asked t)
unfolding asked
many_subsetting t e = sym (ap (λ (u : Bool). length (asked u)) e)

pub many_reading : (t : Bool) → t ≡ false → 9 ≡ length (asked t)
unfolding asked
many_reading t e = sym (ap (λ (u : Bool). length (asked u)) e)

pub asked-few : (t : Bool) → length (asked t) ≤ 15
unfolding asked
asked-few false = omega arith
asked-few true = omega arith

-- a slot is one of 16
pub slot-few : (t : Bool) (op s : ℕ) → s ≡ slot_of (asked t) op → s < 16
slot-few t op s e = omega (arith, slot-low (asked t) op, asked-few t)

-- two operators in one slot are one
same_at : (x a b : ℕ) (xs : List ℕ) → (s t : Bool) → eqb x a ≡ s → eqb x b ≡ t
    → (slot_of xs a ≡ slot_of xs b → slot_of xs b < length xs → a ≡ b)
    → pick s 0 (suc (slot_of xs a)) ≡ pick t 0 (suc (slot_of xs b)) → pick t 0 (suc (slot_of xs b)) < suc (length xs) → a ≡ b
same_at x a b xs true true e f h i l = sym (eqb-true x a e) ∙ eqb-true x b f
same_at x a b xs true false e f h i l = absurd (no (omega (arith, i)))
same_at x a b xs false true e f h i l = absurd (no (omega (arith, i)))
same_at x a b xs false false e f h i l = h (omega (arith, i)) (omega (arith, l))

pub slot_same : (xs : List ℕ) (a b : ℕ) → slot_of xs a ≡ slot_of xs b → slot_of xs b < length xs → a ≡ b
unfolding slot_of
slot_same [] a b i l = absurd (no (omega arith))
slot_same (x ∷ xs) a b i l = same_at x a b xs (eqb x a) (eqb x b) refl refl (slot_same xs a b) i l

-- ---- noting: what is left, and what was noted so far, gives what the whole does

pub record Noting (t : Bool) (b : List ℕ) (at : ℕ) (last : List (Option OperandsAt)) : Type 0 where
  pub checking : Checking b at
  pub long : length last ≡ 16
  pub each : (op : ℕ) → slot_of (asked t) op < length (asked t) → Finding b op at (get_or last (slot_of (asked t) op) None)

pub noting_start : (t : Bool) (b : List ℕ) → Noting t b 0 (replicate 16 None)
noting_start t b =
    record {
      checking = checking_start b;
      long = length-replicate {A = Option OperandsAt} 16 None;
      each = λ op h. rw (get_or-replicate {A = Option OperandsAt} 16 (slot_of (asked t) op) None None (omega (arith, h, asked-few t))) (finding_start b op);
    }

module _ (t : Bool) (b : List ℕ) (at : ℕ) (last : List (Option OperandsAt)) (w : Noting t b at last) where
  pub noting_end : length b ≤ at → refusal_of (dict_of b) ≡ None
  noting_end h = sym (checking_end b at w.checking h)

  pub noting_placed : length b ≤ at → Placed b (Some (record { subsetting = t; last = last }))
  noting_placed h = record { notes = λ p e. subst (λ (q : Places). Notes q.subsetting b q.last) (same_Some _ _ e) (record { each = λ op l. finding_end b op at _ (w.each op l) h }) }

  module _ (h : at < length b) (r : Result EntryAt Refusal) (e : r ≡ entry_told at 0 (entry_at b at)) where
    pub noting_refused : (n : Refusal) → r ≡ Err n → refusal_of (dict_of b) ≡ Some n
    noting_refused n f = sym (checking_refused b at w.checking h r e n f)

    module _ (entry : EntryAt) (f : r ≡ Ok entry) where
      pub noting_turn : (s : ℕ) → s ≡ slot_of (asked t) entry.op → Noting t b entry.next (set last s (found_at entry.start entry.count))
      noting_turn s q =
          record {
            checking = checking_turn b at w.checking h r e entry f;
            long = length-set last s (found_at entry.start entry.count) ∙ w.long;
            each = λ op l. go op l (eqb s (slot_of (asked t) op)) refl;
          }
        where
          go : (op : ℕ) → slot_of (asked t) op < length (asked t) → (u : Bool) → eqb s (slot_of (asked t) op) ≡ u
              → Finding b op entry.next (get_or (set last s (found_at entry.start entry.count)) (slot_of (asked t) op) None)
          go op l true e' =
              let i : s ≡ slot_of (asked t) op = eqb-true s (slot_of (asked t) op) e' in
              subst (λ (j : ℕ). Finding b op entry.next (get_or (set last s (found_at entry.start entry.count)) j None)) i
              (rw (get_or-set_same last s (found_at entry.start entry.count) None (omega (arith, slot-few t entry.op s q, w.long)))
              (finding_here b op at _ (w.each op l) h r e entry f (slot_same (asked t) entry.op op (sym q ∙ i) l)))
          go op l false e' =
              let i : slot_of (asked t) op ≡ s → ⊥ = λ z. eqb-false s (slot_of (asked t) op) e' (sym z) in
              rw (get_or-set_other last s (slot_of (asked t) op) (found_at entry.start entry.count) None i)
              (finding_on b op at _ (w.each op l) h r e entry f (λ z. i (sym (ap (slot_of (asked t)) z) ∙ sym q)))

-- ---- what was noted is what is there
pub noted_place : (b : List ℕ) (noted : Option Places) → Placed b noted → (p : Places) → noted ≡ Some p → (op j n : ℕ) → j ≡ slot_of (asked p.subsetting) op → n ≡ length (asked p.subsetting)
    → j < n → get_or p.last j None ≡ place_of op b
noted_place b noted w p e op j n i m l =
    let q = (w.notes p e).each op (subst (λ x. x < length (asked p.subsetting)) i (subst (λ x. j < x) m l)) in
    subst (λ x. get_or p.last x None ≡ place_of op b) (sym i) q
