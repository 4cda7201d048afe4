-- Laws of the entries as they are read one after the other: the next of them, and what is behind it.
use Rattle.std.specs.Prelude.{ℕ, ◌+◌, ◌≤◌, ◌<◌, ◌≡◌, refl, Bool, true, false, List, [], ◌∷◌, ltb, length, Result, Ok, Err}
use Rattle.std.proofs.Common.{sym, ap, ◌∙◌, arith, ltb-true, ltb-false}
use Rattle.dict.specs.Dict.{Reading, stopped, got, entry_at, followed, readings_at}
use Rattle.dict.specs.Places.{entry_told}
use Rattle.dict.specs.Entries.{told_from, told_at}
use Rattle.dict.specs.EntryLaws.{readings_are, readings_end}
use Rattle.dict.specs.declared.EntryAt.{EntryAt}
use Rattle.refusal.specs.declared.Refusal.{Refusal}

-- the entries from a position on are those that are left, and this is so of the position
pub record Left (b : List ℕ) (left : List (Result EntryAt Refusal)) (P : ℕ → Type 0) : Type 0 where
  pub at : ℕ
  pub rest : left ≡ told_at b at
  pub so : P at

module _ (b : List ℕ) where
  pub told_end : (at : ℕ) → length b ≤ at → told_at b at ≡ []
  unfolding told_from
  told_end at h = ap (told_from at) (readings_end b at h)

  -- what is behind an entry
  behind : Reading → List (Result EntryAt Refusal)
  behind (stopped n) = []
  behind (got op ds end next) = told_at b next

  told-followed : (at : ℕ) (x : Reading) → told_from at (followed x (readings_at b)) ≡ entry_told at 0 x ∷ behind x
  unfolding told_from behind
  told-followed at (stopped n) = refl
  told-followed at (got op ds end next) = refl

  behind_stopped : (at : ℕ) (x : Reading) (n : Refusal) → entry_told at 0 x ≡ Err n → behind x ≡ []
  unfolding behind
  behind_stopped at (stopped m) n e = refl
  behind_stopped at (got op ds end next) n e = absurd (cc)

  behind-entry : (at : ℕ) (x : Reading) (t : EntryAt) → entry_told at 0 x ≡ Ok t → behind x ≡ told_at b t.next
  unfolding behind
  behind-entry at (stopped m) t e = absurd (cc)
  behind-entry at (got op ds end next) t e =
      let k : record { start = at; op = op; end = end; count = 0 + length ds; next = next } ≡ t = cc in
      ap (λ (q : EntryAt). told_at b q.next) k

  told_is : (at : ℕ) → at < length b → told_at b at ≡ entry_told at 0 (entry_at b at) ∷ behind (entry_at b at)
  told_is at h = ap (told_from at) (readings_are b at h) ∙ told-followed at (entry_at b at)

  module _ (at : ℕ) (h : at < length b) (r : Result EntryAt Refusal) (e : r ≡ entry_told at 0 (entry_at b at)) where
    pub told-stopped : (n : Refusal) → r ≡ Err n → told_at b at ≡ Err n ∷ told_at b (length b)
    told-stopped n f =
        let s = behind_stopped at (entry_at b at) n (sym e ∙ f) ∙ sym (told_end (length b) (omega arith)) in
        told_is at h ∙ rw (sym e ∙ f, s) refl

    pub told-entry : (t : EntryAt) → r ≡ Ok t → told_at b at ≡ Ok t ∷ told_at b t.next
    told-entry t f =
        let s = behind-entry at (entry_at b at) t (sym e ∙ f) in
        told_is at h ∙ rw (sym e ∙ f, s) refl

-- the next entry: it is there, it is what is read at its position, and those behind it follow it
pub record Next (b : List ℕ) (at : ℕ) (x : Result EntryAt Refusal) (left : List (Result EntryAt Refusal)) : Type 0 where
  pub inside : at < length b
  pub first : x ≡ entry_told at 0 (entry_at b at)
  pub on : (t : EntryAt) → x ≡ Ok t → left ≡ told_at b t.next

module _ (b : List ℕ) (at : ℕ) where
  told_over : (t : Bool) → ltb at (length b) ≡ t → told_at b at ≡ [] → length b ≤ at
  told_over false e f = ltb-false at (length b) e
  told_over true e f = let g = sym f ∙ told_is b at (ltb-true at (length b) e) in absurd (cc)

  module _ (x : Result EntryAt Refusal) (rest : List (Result EntryAt Refusal)) (e : told_at b at ≡ x ∷ rest) where
    told_inside : (t : Bool) → ltb at (length b) ≡ t → at < length b
    told_inside true f = ltb-true at (length b) f
    told_inside false f = let g = sym (told_end b at (ltb-false at (length b) f)) ∙ e in absurd (cc)

    told_next : Next b at x rest
    told_next =
        let h = told_inside (ltb at (length b)) refl in
        let is : x ∷ rest ≡ entry_told at 0 (entry_at b at) ∷ behind b (entry_at b at) = sym e ∙ told_is b at h in
        let first : x ≡ entry_told at 0 (entry_at b at) = cc in
        let left : rest ≡ behind b (entry_at b at) = cc in
        record { inside = h; first = first; on = λ t f. left ∙ behind-entry b at (entry_at b at) t (sym first ∙ f) }

-- of an iterator: nothing is left, or the next one is
module _ (b : List ℕ) (left : List (Result EntryAt Refusal)) (P : ℕ → Type 0) (w : Left b left P) where
  pub left_done : left ≡ [] → length b ≤ w.at
  left_done e = told_over b w.at (ltb w.at (length b)) refl (sym w.rest ∙ e)

  pub left-next : (x : Result EntryAt Refusal) (rest : List (Result EntryAt Refusal)) → left ≡ x ∷ rest → Next b w.at x rest
  left-next x rest e = told_next b w.at x rest (sym w.rest ∙ e)
