-- Laws of the ranges of an FDSelect: one range met, as the code takes it.
use Prim.Native.Nat.{ℕ, zero, suc, ◌+◌, ◌-◌, ◌≤◌, ◌<◌}
use Rattle.std.specs.Prelude.{◌≡◌, refl, Bool, true, false, List, drop, ltb, Result, Ok, Err}
use Rattle.std.proofs.Math.Path.{sym}
use Rattle.std.proofs.Common.{ap, ◌∙◌, not-suc-le-zero, add-zero, add-one, drop_of_length-le, drop-cons, get_or-drop}
use Rattle.std.proofs.Math.Numerals.{sub-one}
use native.Mathlib.Omega.{arith}
use borrow.Author.Tests.{eq-eqb, ne_eqb, lt-ltb, le-ltb, ltb-false}
use Rattle.std.proofs.Math.ListN.{length, get_or, length-drop}
use Rattle.std.proofs.Math.Seq.{drop-drop}
use Rattle.octets.specs.Pick.{pick}
use Rattle.octets.specs.Octets.{num_at}
use Rattle.charset.specs.Listed.{list_of}
use Rattle.charset.specs.FdSelect.{range_end, fd_in, ranges_refusal, judged, range_fds, fd_select_at}
use Rattle.charset.specs.FdPlaces.{each_at_lem, ranges_at, select_at, select_answer, ranges_answer}
use Rattle.charset.specs.declared.fd_select.FdSelect.{FdSelect}
use Rattle.refusal.specs.declared.Refusal.{Refusal}
use Rattle.refusal.specs.declared.Refusal.TheVariants.{Truncated, Malformed}

-- ---- the end of a range

pub end_one : (w first : ℕ) (bs : List ℕ) → w ≡ 0 → first + 1 ≡ range_end w first bs
unfolding range_end
end_one w first bs h = simp (eq-eqb w 0 h)

pub end_read : (b : List ℕ) (q w first : ℕ) → (w ≡ 0 → ⊥) → num_at b (q + 1) w ≡ range_end w first (drop q b)
unfolding range_end num_at
end_read b q w first h = simp (ne_eqb w 0 h, drop-drop)

pub end_two : (b : List ℕ) (q first : ℕ) → num_at b (q + 1) 2 ≡ range_end 2 first (drop q b)
end_two b q first = end_read b q 2 first (λ z. omega arith)

-- ---- a range met

pub range_lost : (b : List ℕ) (q w k first : ℕ) → 0 < k → length b - q < 1 + w → ranges_refusal w k first (drop q b) ≡ Err Truncated
unfolding ranges_refusal
range_lost b q w zero first h s = absurd (not-suc-le-zero h)
range_lost b q w (suc k) first h s =
    let m : length (drop q b) < 1 + w = rw length-drop s in
    simp (lt-ltb (length (drop q b)) (1 + w) m)

module _ (b : List ℕ) (q w first : ℕ) (there : q + 1 + w ≤ length b) where
  m : 1 + w ≤ length (drop q b)
  m = rw length-drop (omega arith)

  pub range_falls : (k : ℕ) → 0 < k → range_end w first (drop q b) < first → ranges_refusal w k first (drop q b) ≡ Err Malformed
  unfolding ranges_refusal
  range_falls zero h s = absurd (not-suc-le-zero h)
  range_falls (suc k) h s = simp (le-ltb (length (drop q b)) (1 + w) m, lt-ltb (range_end w first (drop q b)) first s)

  pub range-on : (k : ℕ) → 0 < k → first ≤ range_end w first (drop q b)
      → ranges_refusal w k first (drop q b) ≡ ranges_refusal w (k - 1) (range_end w first (drop q b)) (drop (q + 1 + w) b)
  unfolding ranges_refusal
  range-on zero h s = absurd (not-suc-le-zero h)
  range-on (suc k) h s =
      let e : q + (1 + w) ≡ q + 1 + w = omega arith in
      simp (le-ltb (length (drop q b)) (1 + w) m, le-ltb (range_end w first (drop q b)) first s, sub-one, drop-drop, e)

passed : (t : Bool) (e : Refusal) (r : Result Unit Refusal) → pick t (Err e) r ≡ Ok tt → (t ≡ false) × (r ≡ Ok tt)
passed true e r h = cc
passed false e r h = (refl, h)

-- ranges that are not refused, by the first of them
pub record Rises (b : List ℕ) (q w k first : ℕ) : Type 0 where
  pub there : q + 1 + w ≤ length b
  pub rises : first ≤ range_end w first (drop q b)
  pub rest : ranges_refusal w (k - 1) (range_end w first (drop q b)) (drop (q + 1 + w) b) ≡ Ok tt

pub ranges-rise : (b : List ℕ) (q w k first : ℕ) → 0 < k → ranges_refusal w k first (drop q b) ≡ Ok tt → Rises b q w k first
unfolding ranges_refusal
ranges-rise b q w zero first h s = absurd (not-suc-le-zero h)
ranges-rise b q w (suc k) first h s =
    let t = passed (ltb (length (drop q b)) (1 + w)) _ _ s in
    let u = passed (ltb (range_end w first (drop q b)) first) _ _ t.1 in
    let n : 1 + w ≤ length (drop q b) = ltb-false (length (drop q b)) (1 + w) t.0 in
    let m : 1 + w ≤ length b - q = rw length-drop at n in
    let e : q + (1 + w) ≡ q + 1 + w = omega arith in
    record { there = omega arith; rises = ltb-false (range_end w first (drop q b)) first u.0; rest = simp sub-one (rw (drop-drop, e) at u.1) }

-- a glyph's FD: by no range, before the first range, in it, and behind it
pub fd-none : (w first : ℕ) (bs : List ℕ) (g : ℕ) → fd_in w 0 first bs g ≡ 0
unfolding fd_in
fd-none w first bs g = refl

pub fd-before : (w k first : ℕ) (bs : List ℕ) (g : ℕ) → g < first → fd_in w k first bs g ≡ 0
unfolding fd_in
fd-before w zero first bs g h = refl
fd-before w (suc k) first bs g h = simp (lt-ltb g first h)

pub fd-here : (b : List ℕ) (q w k first g : ℕ) → 0 < k → first ≤ g → g < range_end w first (drop q b) → fd_in w k first (drop q b) g ≡ get_or b q 0
unfolding fd_in
fd-here b q w zero first g some h e = absurd (not-suc-le-zero some)
fd-here b q w (suc k) first g some h e =
    simp (le-ltb g first h, lt-ltb g (range_end w first (drop q b)) e) (get_or-drop q b 0 0 ∙ ap (λ (i : ℕ). get_or b i 0) (add-zero q))

pub fd-behind : (b : List ℕ) (q w k first g : ℕ) → 0 < k → first ≤ g → range_end w first (drop q b) ≤ g
    → fd_in w k first (drop q b) g ≡ fd_in w (k - 1) (range_end w first (drop q b)) (drop (q + 1 + w) b) g
unfolding fd_in
fd-behind b q w zero first g some h e = absurd (not-suc-le-zero some)
fd-behind b q w (suc k) first g some h e =
    let a : q + (1 + w) ≡ q + 1 + w = omega arith in
    simp (le-ltb g first h, le-ltb g (range_end w first (drop q b)) e, sub-one, drop-drop, a)

-- ---- what the check of the ranges answers

module _ (b : List ℕ) (q k first : ℕ) (s : FdSelect) (some : 0 < k) where
  pub ends_lost : length b - q < 3 → Err Truncated ≡ ranges_answer s (ranges_refusal 2 k first (drop q b))
  ends_lost h = sym (ap (ranges_answer s) (range_lost b q 2 k first some h))

  module _ (end : ℕ) (there : q + 3 ≤ length b) (e : end ≡ num_at b (q + 1) 2) where
    pub ends_fall : end < first → Err Malformed ≡ ranges_answer s (ranges_refusal 2 k first (drop q b))
    ends_fall h =
        let z = e ∙ end_two b q first in
        sym (ap (ranges_answer s) (range_falls b q 2 first (omega arith) k some (omega arith)))

    pub ends_on : first ≤ end → ranges_answer s (ranges_refusal 2 (k - 1) end (drop (q + 3) b)) ≡ ranges_answer s (ranges_refusal 2 k first (drop q b))
    ends_on h =
        let z = e ∙ end_two b q first in
        let a : q + 1 + 2 ≡ q + 3 = omega arith in
        sym (ap (ranges_answer s) (range-on b q 2 first (omega arith) k some (omega arith)
        ∙ ap (λ (i : ℕ). ranges_refusal 2 (k - 1) i (drop (q + 1 + 2) b)) (sym z) ∙ ap (λ (i : ℕ). ranges_refusal 2 (k - 1) end (drop i b)) a))

pub ends_done : (k first : ℕ) (bs : List ℕ) (s : FdSelect) → k ≡ 0 → Ok s ≡ ranges_answer s (ranges_refusal 2 k first bs)
unfolding ranges_refusal
ends_done k first bs s e = rw e

-- ---- a table by its format

judged-answer : (s : FdSelect) (r : Result Unit Refusal) (l : List ℕ) → ranges_answer s r ≡ select_answer s (judged r l)
judged-answer s (Ok u) l = refl
judged-answer s (Err e) l = refl

pub table_lost : (b : List ℕ) (at n : ℕ) (s : FdSelect) → length b - at < 4 → Err Truncated ≡ select_answer s (range_fds n (drop at b))
unfolding range_fds
table_lost b at n s h =
    let m : length (drop at b) < 4 = rw length-drop h in
    simp (lt-ltb (length (drop at b)) 4 m)

pub table-ranges : (b : List ℕ) (at n count first : ℕ) (r : Result FdSelect Refusal) → at + 4 ≤ length b → count ≡ num_at b at 2 → first ≡ num_at b (at + 2) 2
    → r ≡ ranges_answer (record { count = count; first = first; wide = 2; at = at + 4 }) (ranges_refusal 2 count first (drop (at + 4) b))
    → r ≡ select_answer (ranges_at b at) (range_fds n (drop at b))
unfolding range_fds num_at
table-ranges b at n count first r there c f h =
    let m : 4 ≤ length (drop at b) = rw length-drop (omega arith) in
    h ∙ rw (c, f) (simp (le-ltb (length (drop at b)) 4 m, drop-drop)
    (judged-answer (ranges_at b at) (ranges_refusal 2 (num_at b at 2) (num_at b (at + 2) 2) (drop (at + 4) b))
    (list_of (fd_in 2 (num_at b at 2) (num_at b (at + 2) 2) (drop (at + 4) b)) 0 n)))

pub read_lost : (b : List ℕ) (at n : ℕ) (s : FdSelect) → length b ≤ at → Err Truncated ≡ select_answer s (fd_select_at b at n)
unfolding fd_select_at
read_lost b at n s h = rw (drop_of_length-le b h)

module _ (b : List ℕ) (at n format : ℕ) (there : at < length b) (e : format ≡ get_or b at 0) where
  module _ (z : format ≡ 0) where
    y : get_or b at 0 ≡ 0
    y = sym e ∙ z

    pub read-each_lost : (s : FdSelect) → length b - (at + 1) < n → Err Truncated ≡ select_answer s (fd_select_at b at n)
    unfolding fd_select_at
    read-each_lost s h =
        let m : length (drop (suc at) b) < n = rw length-drop (omega arith) in
        rw (drop-cons b at 0 there) (simp (eq-eqb (get_or b at 0) 0 y, lt-ltb (length (drop (suc at) b)) n m))

    pub read-each : n ≤ length b - (at + 1) → Ok (each_at_lem n (at + 1)) ≡ select_answer (select_at b at n) (fd_select_at b at n)
    unfolding fd_select_at
    read-each h =
        let m : n ≤ length (drop (suc at) b) = rw length-drop (omega arith) in
        rw (drop-cons b at 0 there) (simp (eq-eqb (get_or b at 0) 0 y, le-ltb (length (drop (suc at) b)) n m))

  pub read-three : (r : Result FdSelect Refusal) → format ≡ 3 → r ≡ select_answer (ranges_at b (at + 1)) (range_fds n (drop (at + 1) b))
      → r ≡ select_answer (select_at b at n) (fd_select_at b at n)
  unfolding fd_select_at
  read-three r z h =
      let y : get_or b at 0 ≡ 3 = sym e ∙ z in
      let x : get_or b at 0 ≡ 0 → ⊥ = λ i. omega arith in
      h ∙ rw (drop-cons b at 0 there) (simp (ne_eqb (get_or b at 0) 0 x, eq-eqb (get_or b at 0) 3 y, add-one))

  pub read_unknown : (s : FdSelect) → (format ≡ 0 → ⊥) → (format ≡ 3 → ⊥) → Err Malformed ≡ select_answer s (fd_select_at b at n)
  unfolding fd_select_at
  read_unknown s x y =
      let u : get_or b at 0 ≡ 0 → ⊥ = λ i. x (e ∙ i) in
      let v : get_or b at 0 ≡ 3 → ⊥ = λ i. y (e ∙ i) in
      rw (drop-cons b at 0 there) (simp (ne_eqb (get_or b at 0) 0 u, ne_eqb (get_or b at 0) 3 v))
