-- Laws of a cursor through a charset: it begins before glyph 0, and each step gives the next glyph's id.
use Rattle.std.specs.Prelude.{ℕ, zero, suc, ◌+◌, ◌-◌, ◌≤◌, ◌<◌, ◌≡◌, refl, Bool, true, false, List, ◌∷◌, length, drop, ltb, Result, Ok, Err}
use Rattle.std.proofs.Common.{sym, ap, ◌∙◌, not-suc-le-zero, sub-one, arith, eq-eqb, ne_eqb, ltb-false, length-drop}
use Rattle.octets.specs.Pick.{pick}
use Rattle.octets.specs.Octets.{num_at}
use Rattle.charset.specs.Listed.{onward}
use Rattle.charset.specs.Charset.{ids_from}
use Rattle.charset.specs.CharsetPlaces.{next_id, StandsId, ReadyId}
use Rattle.charset.specs.CharsetLaws.{range-met}
use Rattle.charset.specs.declared.CharsetCursor.{CharsetCursor}
use Rattle.refusal.specs.declared.Refusal.{Refusal}

-- ---- the step that the code takes

module _ (b : List ℕ) (u : CharsetCursor) where
  pub step-met : (first left : ℕ) → u.left ≡ 0 → first ≡ num_at b u.at 2 → left ≡ num_at b (u.at + 2) u.width
      → record { id = first; next = record { id = first + 1; left = left; width = u.width; at = u.at + 2 + u.width } } ≡ next_id b u
  unfolding next_id
  step-met first left h f l = rw (f, l) (simp (eq-eqb u.left 0 h))

  pub step-on : (u.left ≡ 0 → ⊥)
      → record { id = u.id; next = record { id = u.id + 1; left = u.left - 1; width = u.width; at = u.at } } ≡ next_id b u
  unfolding next_id
  step-on h = simp (ne_eqb u.left 0 h)

-- ---- what a step gives

-- a number in front of a list that is read
on-listed : (x : ℕ) (r : Result (List ℕ) Refusal) (l : List ℕ) → onward x r ≡ Ok l → (l ≡ x ∷ drop 1 l) × (r ≡ Ok (drop 1 l))
on-listed x (Err e) l h = cc
on-listed x (Ok m) l h =
    let e : l ≡ x ∷ m = cc in
    let d : m ≡ drop 1 l = sym (ap (drop 1) e) in
    (e ∙ ap (λ (t : List ℕ). x ∷ t) d, ap Ok d)

pub test-passed : (t : Bool) (e : Refusal) (r : Result (List ℕ) Refusal) (l : List ℕ) → pick t (Err e) r ≡ Ok l → (t ≡ false) × (r ≡ Ok l)
test-passed true e r l h = cc
test-passed false e r l h = (refl, h)

-- an id of the range under way
pub id_on : (w k i left : ℕ) (bs l : List ℕ) → ids_from w (suc k) i (suc left) bs ≡ Ok l
    → (i < 65536) × (l ≡ i ∷ drop 1 l) × (ids_from w k (i + 1) left bs ≡ Ok (drop 1 l))
unfolding ids_from
id_on w k i left bs l h =
    let t = test-passed (ltb 65535 i) _ _ l h in
    let n : i ≤ 65535 = ltb-false 65535 i t.0 in
    let m : i < 65536 = omega arith in
    let o = on-listed i (ids_from w k (i + 1) left bs) l t.1 in
    (m, o.0, o.1)

-- the first id of a range that is met
pub id_met : (b : List ℕ) (q w k i : ℕ) (l : List ℕ) → ids_from w (suc k) i 0 (drop q b) ≡ Ok l
    → (q + 2 + w ≤ length b) × (l ≡ num_at b q 2 ∷ drop 1 l)
    × (ids_from w k (num_at b q 2 + 1) (num_at b (q + 2) w) (drop (q + 2 + w) b) ≡ Ok (drop 1 l))
unfolding ids_from
id_met b q w k i l h =
    let t = test-passed (ltb (length (drop q b)) (2 + w)) _ _ l h in
    let n : 2 + w ≤ length (drop q b) = ltb-false (length (drop q b)) (2 + w) t.0 in
    let m : 2 + w ≤ length b - q = rw length-drop at n in
    let r : q + 2 + w ≤ length b = omega arith in
    let o = on-listed (num_at b q 2) (ids_from w (suc k - 1) (num_at b q 2 + 1) (num_at b (q + 2) w) (drop (q + 2 + w) b)) l
    (sym (range-met b q w (suc k) i (omega arith) r) ∙ h) in
    (r, o.0, rw sub-one at o.1)

-- ---- a cursor that stands before glyphs

-- the code can take a step where a glyph is left
ready_at : (b : List ℕ) (i left w q k : ℕ) (l : List ℕ) → w ≤ 2 → ids_from w (suc k) i left (drop q b) ≡ Ok l
    → ReadyId b (record { id = i; left = left; width = w; at = q })
ready_at b i zero w q k l n h = record { narrow = n; small = λ z. absurd (not-suc-le-zero z); room = λ z. (id_met b q w k i l h).0 }
ready_at b i (suc left) w q k l n h =
    record { narrow = n; small = λ z. (id_on w k i left (drop q b) l h).0; room = λ z. absurd (omega arith) }

step-at : (b : List ℕ) (i left w q x : ℕ) (l : List ℕ) → w ≤ 2 → ids_from w (suc (length l)) i left (drop q b) ≡ Ok (x ∷ l)
    → ((next_id b (record { id = i; left = left; width = w; at = q })).id ≡ x)
    × StandsId b (next_id b (record { id = i; left = left; width = w; at = q })).next l
unfolding next_id
step-at b i zero w q x l n h =
    let o = id_met b q w (length l) i (x ∷ l) h in
    let e : num_at b q 2 ≡ x = cc in
    (e, record { narrow = n; gives = o.2 })
step-at b i (suc left) w q x l n h =
    let o = id_on w (length l) i left (drop q b) (x ∷ l) h in
    let e : i ≡ x = cc in
    let z : suc left ≡ 0 → ⊥ = λ y. omega arith in
    simp (ne_eqb (suc left) 0 z, sub-one) (e, record { narrow = n; gives = o.2 })

module _ (b : List ℕ) (u : CharsetCursor) (x : ℕ) (l : List ℕ) (s : StandsId b u (x ∷ l)) where
  pub ready : ReadyId b u
  ready = ready_at b u.id u.left u.width u.at (length l) (x ∷ l) s.narrow s.gives

  -- the next glyph's id, and the cursor behind it
  pub step_id : (next_id b u).id ≡ x
  step_id = (step-at b u.id u.left u.width u.at x l s.narrow s.gives).0

  pub step-next : StandsId b (next_id b u).next l
  step-next = (step-at b u.id u.left u.width u.at x l s.narrow s.gives).1
