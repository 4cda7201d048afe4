-- Laws of marks beside a window: one key looked for, several one after the other, and all that are marked.
use Prim.Native.Nat.{ℕ, zero, suc, ◌+◌, ◌-◌, ◌/◌, ◌≤◌, ◌<◌}
use Rattle.std.specs.Prelude.{◌≡◌, ◌||◌, Bool, not, ltb, eqb, length, take, drop, get_or, set, replicate}
use Rattle.std.specs.List.{list_any}
use Rattle.std.proofs.Math.Path.{refl, ap}
use Rattle.std.proofs.Common.{sym, ◌∙◌, not-suc-le-zero, add-zero, lt-ltb, eq-eqb, ne_eqb, ltb-true, ltb-false, eqb-true, length-drop, length-take-le, get_or-take, get_or-drop}
use Rattle.std.proofs.Math.Bool.{true, false}
use Rattle.std.proofs.lemmas.Bool.{false≢true, eqb-false}
use mathlib.Core.List.{List, [], ◌∷◌, map}
use native.Mathlib.Omega.{arith}
use Rattle.std.proofs.Math.ListN.{length-set}
use Rattle.std.proofs.lemmas.List.{length-replicate}
use Rattle.octets.specs.Pick.{pick}
use Rattle.octets.specs.PickLaws.{both_hold}
use Rattle.octets.specs.ListLaws.{zeros-at}
use Rattle.unfold.specs.Unfold.{Row}
use Rattle.subset.specs.Kept.{is_in}
use Rattle.kept.specs.Packed.{marked, all_of}
use Rattle.kept.specs.MarkLaws.{ahead, mark-same, mark_other}
use Rattle.kept.specs.GatherLaws.{mark_not}
use Rattle.reach.specs.Reach.{row_no, rest_of}
use Rattle.reach.specs.RowLaws.{rest_all, rest-none, rest-next}
use Rattle.row_window.specs.Window.{Rising, one, Parted, stands_at}
use Rattle.row_window.specs.WindowLaws.{above_at}
use Rattle.row_window.specs.NextLaws.{below_at}
use Rattle.listed.specs.Listed.{key_in, row_keys, all_in, each_of, Seen}

-- ---- one key

rising-at : (l : List ℕ) → Rising l → (i j : ℕ) → i < j → j < length l → get_or l i 0 < get_or l j 0
rising-at [] r i j h k = absurd (not-suc-le-zero k)
rising-at (x ∷ l) (one a r) i zero h k = absurd (not-suc-le-zero h)
rising-at (x ∷ l) (one a r) zero (suc j) h k = above_at a j (omega arith)
rising-at (x ∷ l) (one a r) (suc i) (suc j) h k = rising-at l r i j (omega arith) (omega arith)

same-mark : (t : Bool) → t ≡ pick t true false
same-mark true = refl
same-mark false = refl

mark-either : (t : Bool) → pick t true true ≡ true
mark-either true = refl
mark-either false = refl

module _ (l : List ℕ) (rises : Rising l) (key i : ℕ) (p : Parted key l i) where
  before : (j : ℕ) → j < i → get_or l j 0 < key
  before j h =
      let n = length-take-le i l p.fits in
      omega (arith, below_at key (take i l) p.below j (omega (arith, n)), get_or-take i l j 0 h)

  not_before : i < length l → key ≤ get_or l i 0
  not_before h =
      let e : get_or l (i + 0) 0 ≡ get_or l i 0 = ap (λ (k : ℕ). get_or l k 0) (add-zero i) in
      omega (arith, above_at p.above 0 (omega (arith, length-drop i l)), get_or-drop i l 0 0, e)

  -- the key is at no other place
  other : (j : ℕ) → j < length l → (j ≡ i → ⊥) → key ≡ get_or l j 0 → ⊥
  other j h n e = by (ltb j i) refl
    where
      by : (t : Bool) → ltb j i ≡ t → ⊥
      by true t = omega (arith, before j (ltb-true j i t), e)
      by false t =
          let s : i < j = omega (arith, ltb-false j i t, n) in
          omega (arith, not_before (omega arith), rising-at l rises i j s h, e)

  -- where it does not stand at its place it is at none
  absent : stands_at l i key ≡ false → (j : ℕ) → j < length l → key ≡ get_or l j 0 → ⊥
  absent e j h k = by (eqb j i) refl
    where
      by : (t : Bool) → eqb j i ≡ t → ⊥
      by true t =
          let s = eqb-true j i t in
          let f : get_or l i 0 ≡ key = ap (λ (x : ℕ). get_or l x 0) (sym s) ∙ sym k in
          let there : stands_at l i key ≡ true = rw (lt-ltb i (length l) (omega (arith, s)), eq-eqb (get_or l i 0) key f) in
          false≢true (sym e ∙ there)
      by false t = other j h (eqb-false j i t) k

  pub see_none : (old : List ℕ) → stands_at l i key ≡ false → Seen l (key ∷ []) old old
  unfolding is_in
  see_none old e =
      record {
        size = refl;
        marks = λ j h. same-mark (marked old j) ∙ ap (λ (t : Bool). pick (marked old j) true (pick t true false)) (sym (ne_eqb key (get_or l j 0) (absent e j h)));
      }

  pub see_one : (old : List ℕ) → length l ≤ length old → stands_at l i key ≡ true → Seen l (key ∷ []) old (set old i 1)
  unfolding is_in
  see_one old room e = record { size = length-set old i 1; marks = λ j h. by j h (eqb j i) refl }
    where
      at : (ltb i (length l) ≡ true) × (eqb (get_or l i 0) key ≡ true)
      at = both_hold (ltb i (length l)) (eqb (get_or l i 0) key) e

      by : (j : ℕ) → j < length l → (t : Bool) → eqb j i ≡ t → marked (set old i 1) j ≡ pick (marked old j) true (pick (eqb key (get_or l j 0)) true false)
      by j h true t =
          let s = eqb-true j i t in
          let f : key ≡ get_or l j 0 = sym (eqb-true (get_or l i 0) key at.1) ∙ ap (λ (x : ℕ). get_or l x 0) (sym s) in
          ap (marked (set old i 1)) s ∙ mark-same old i 1 (omega (arith, ltb-true i (length l) at.0)) (omega arith)
          ∙ sym (mark-either (marked old j)) ∙ ap (λ (u : Bool). pick (marked old j) true (pick u true false)) (sym (eq-eqb key (get_or l j 0) f))
      by j h false t =
          let n = eqb-false j i t in
          mark_other old i 1 j n ∙ same-mark (marked old j)
          ∙ ap (λ (u : Bool). pick (marked old j) true (pick u true false)) (sym (ne_eqb key (get_or l j 0) (other j h n)))

-- a place where a key stands is one of the window's
pub stands_inside : (l : List ℕ) (i key : ℕ) → stands_at l i key ≡ true → i < length l
stands_inside l i key e = ltb-true i (length l) (both_hold (ltb i (length l)) (eqb (get_or l i 0) key) e).0

-- ---- the rows of a record, one after the other

-- where the pass stands: what is marked, and the rows from the i-th on, give what all give
pub record Seeing (rec l : List ℕ) (i : ℕ) (old seen : List ℕ) : Type 0 where
  pub size : length seen ≡ length old
  pub marks : (j : ℕ) → j < length l → pick (marked seen j) true (is_in (get_or l j 0) (map key_in (rest_of rec i))) ≡ pick (marked old j) true (is_in (get_or l j 0) (row_keys rec))

module _ (rec l old : List ℕ) where
  pub see_start : Seeing rec l 0 old old
  see_start = record { size = refl; marks = λ j h. ap (λ (rows : List Row). pick (marked old j) true (is_in (get_or l j 0) (map key_in rows))) (rest_all rec) }

  module _ (i : ℕ) (seen : List ℕ) (s : Seeing rec l i old seen) where
    pub see_next : i < length rec / 10 → (key : ℕ) → key ≡ key_in (row_no rec i) → (seen' : List ℕ) → Seen l (key ∷ []) seen seen' → Seeing rec l (i + 1) old seen'
    unfolding is_in
    see_next h key is seen' n = record { size = n.size ∙ s.size; marks = λ j f. turn j f }
      where
        either : (t u r : Bool) → pick (pick t true (pick u true false)) true r ≡ pick t true (pick u true r)
        either true u r = refl
        either false true r = refl
        either false false r = refl

        turn : (j : ℕ) → j < length l → pick (marked seen' j) true (is_in (get_or l j 0) (map key_in (rest_of rec (i + 1)))) ≡ pick (marked old j) true (is_in (get_or l j 0) (row_keys rec))
        turn j f =
            let k = get_or l j 0 in
            let rest = is_in k (map key_in (rest_of rec (i + 1))) in
            ap (λ (t : Bool). pick t true rest) (n.marks j f)
            ∙ either (marked seen j) (eqb key k) rest
            ∙ ap (λ (x : ℕ). pick (marked seen j) true (pick (eqb x k) true rest)) is
            ∙ ap (λ (rows : List Row). pick (marked seen j) true (is_in k (map key_in rows))) (sym (rest-next rec i h))
            ∙ s.marks j f

    pub see_done : length rec / 10 ≤ i → Seen l (row_keys rec) old seen
    unfolding is_in
    see_done h =
        record {
          size = s.size;
          marks = λ j f. same-mark (marked seen j) ∙ ap (λ (rows : List Row). pick (marked seen j) true (is_in (get_or l j 0) (map key_in rows))) (sym (rest-none rec i h)) ∙ s.marks j f;
        }

-- ---- all that are marked

module _ (test : ℕ → Bool) where
  each_first : (n j : ℕ) → 0 < n → each_of test n j ≡ pick (test j) (each_of test (n - 1) (j + 1)) false
  unfolding each_of
  each_first zero j h = absurd (not-suc-le-zero h)
  each_first (suc n) j h = let e : n ≡ suc n - 1 = omega arith in ap (λ (m : ℕ). pick (test j) (each_of test m (j + 1)) false) e

  pub each_stops : (n left : ℕ) → 0 < left → test (n - left) ≡ false → false ≡ each_of test left (n - left)
  each_stops n left h e = sym (each_first left (n - left) h ∙ ap (λ (t : Bool). pick t (each_of test (left - 1) (n - left + 1)) false) e)

  pub each_goes_on : (n left : ℕ) → 0 < left → left ≤ n → test (n - left) ≡ true → each_of test (left - 1) (n - (left - 1)) ≡ each_of test left (n - left)
  each_goes_on n left h f e =
      let p : n - (left - 1) ≡ n - left + 1 = omega arith in
      ap (each_of test (left - 1)) p
      ∙ sym (each_first left (n - left) h ∙ ap (λ (t : Bool). pick t (each_of test (left - 1) (n - left + 1)) false) e)

  pub each_done : (left j : ℕ) → left ≤ 0 → true ≡ each_of test left j
  unfolding each_of
  each_done left j h = let z : 0 ≡ left = omega arith in ap (λ (m : ℕ). each_of test m j) z

  -- a test by places is one of what stands there
  each_all : (q : ℕ → Bool) (l : List ℕ) (j : ℕ) → ((i : ℕ) → i < length l → test (j + i) ≡ q (get_or l i 0)) → each_of test (length l) j ≡ all_of q l
  unfolding each_of all_of
  each_all q [] j f = refl
  each_all q (x ∷ l) j f =
      let e : test j ≡ q x = ap test (sym (add-zero j)) ∙ f 0 (omega arith) in
      let r : each_of test (length l) (j + 1) ≡ all_of q l
      = each_all q l (j + 1) (λ i h. let s : j + 1 + i ≡ j + suc i = omega arith in ap test s ∙ f (suc i) (omega arith)) in
      rw (e, r)

-- no mark from the j-th on is 0
none-clear : (seen : List ℕ) (n j : ℕ) → j + n ≤ length seen → not (list_any (λ x. eqb x 0) (take n (drop j seen))) ≡ each_of (marked seen) n j
unfolding each_of
none-clear seen zero j h = refl
none-clear seen (suc n) j h =
    let more : j < length seen = omega arith in
    ap (λ (l : List ℕ). not (list_any (λ x. eqb x 0) (take (suc n) l))) (ahead seen j more) ∙ turned (eqb (get_or seen j 0) 0) _ _ (none-clear seen n (j + 1) (omega arith))
  where
    turned : (t a b : Bool) → not a ≡ b → not (t || a) ≡ pick (pick t false true) b false
    turned true a b e = refl
    turned false a b e = e

-- beside a window whose marks were all clear, of any length: each is met
pub window-each : (l ks old new : List ℕ) (n : ℕ) → length l ≡ n → old ≡ replicate 65536 0 → Seen l ks old new → each_of (marked new) n 0 ≡ all_in ks l
window-each l ks old new n e z s =
    ap (λ (m : ℕ). each_of (marked new) m 0) (sym e)
    ∙ each_all (marked new) (λ k. is_in k ks) l 0
    (λ i h. let z : 0 + i ≡ i = omega arith in ap (marked new) z ∙ s.marks i h ∙ ap (λ (t : Bool). pick t true (is_in (get_or l i 0) ks)) (clear i))
  where
    clear : (i : ℕ) → marked old i ≡ false
    clear i = mark_not old i (omega (arith, ap (λ (x : List ℕ). get_or x i 0) z, zeros-at 65536 i))

-- as the code asks it
pub window-seen : (l ks old new : List ℕ) → length l ≤ 65536 → old ≡ replicate 65536 0 → Seen l ks old new
    → not (list_any (λ x. eqb x 0) (take (length l) new)) ≡ all_in ks l
window-seen l ks old new h z s =
    none-clear new (length l) 0 (omega (arith, h, s.size, ap length z, length-replicate {A = ℕ} 65536 0)) ∙ window-each l ks old new (length l) refl z s
