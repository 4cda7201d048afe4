-- Laws of reading an INDEX: one turn of each recursion, as the code takes it, and the items by their offsets.
use Rattle.std.specs.Prelude.{ℕ, zero, suc, ◌+◌, ◌-◌, ◌*◌, ◌≤◌, ◌<◌, ◌≡◌, refl, List, [], ◌∷◌, Bool, true, false, not, ltb, eqb, length, take, drop, get_or, Result, Ok, Err}
use Rattle.std.proofs.Common.{sym, ap, ◌∙◌, true≢false, suc-mul, not-suc-le-zero, mul-le-mul, mul-le-mul_right, add-mul, zero-mul, add-zero, sub-one, arith, length-drop, drop-drop, length-take-le}
use borrow.Author.Tests.{lt-ltb, le-ltb, eq-eqb, ne_eqb, eqb-true, ltb-false}
use Rattle.octets.specs.Pick.{pick}
use Rattle.octets.specs.Octets.{be, num_at}
use Rattle.index.specs.Index.{offsets, first_of, ends_of, first_bad, run_of, judged, data_at, table_at, index_at, pieces, items_of}
use Rattle.index.specs.Good.{Lies, Good, offset_of}
use Rattle.index.specs.declared.Index.{Index}
use Rattle.refusal.specs.declared.Refusal.{Refusal}
use Rattle.refusal.specs.declared.Refusal.TheVariants.{Truncated, Malformed}

-- ---- offsets

-- n places of size bytes are one and then n - 1
pub places : (n size : ℕ) → 0 < n → n * size ≡ size + (n - 1) * size
places zero size h = absurd (not-suc-le-zero h)
places (suc m) size h = rw (suc-mul, sub-one) (omega arith)

-- a table of offsets is small
pub table-size : (count size : ℕ) → count < 65536 → size ≤ 4 → (count + 1) * size ≤ 262144
table-size count size h k = mul-le-mul {n₁ = count + 1} {m₁ = size} {n₂ = 65536} {m₂ = 4} (omega arith) k

-- place k of n is within them
pub place_in : (k n size : ℕ) → k < n → k * size + size ≤ n * size
place_in k n size h = omega (arith, mul-le-mul_right {m = k + 1} {n = n} size (omega arith), add-mul k 1 size)

pub offsets-none : (size : ℕ) (bs : List ℕ) → offsets 0 size bs ≡ []
unfolding offsets
offsets-none size bs = refl

pub offsets-more : (n size p : ℕ) (b : List ℕ) → 0 < n → offsets n size (drop p b) ≡ num_at b p size ∷ offsets (n - 1) size (drop (p + size) b)
unfolding offsets num_at
offsets-more zero size p b h = absurd (not-suc-le-zero h)
offsets-more (suc m) size p b h = rw (sub-one, drop-drop)

pub offsets-length : (n size : ℕ) (bs : List ℕ) → length (offsets n size bs) ≡ n
unfolding offsets
offsets-length zero size bs = refl
offsets-length (suc n) size bs = ap suc (offsets-length n size (drop size bs))

-- the k-th of n numbers
pub offsets-at : (n size p : ℕ) (b : List ℕ) (k : ℕ) → k < n → get_or (offsets n size (drop p b)) k 0 ≡ num_at b (p + k * size) size
unfolding offsets num_at
offsets-at zero size p b k h = absurd (not-suc-le-zero h)
offsets-at (suc n) size p b zero h = rw (zero-mul, add-zero)
offsets-at (suc n) size p b (suc k) h =
    let e : p + size + k * size ≡ p + suc k * size = omega (arith, suc-mul k size) in
    rw drop-drop (offsets-at n size (p + size) b k (omega arith) ∙ ap (λ (j : ℕ). be 0 (take size (drop j b))) e)

-- the first of n + 1 numbers, and the others
pub offsets-first : (n size p : ℕ) (b : List ℕ) → num_at b p size ∷ offsets n size (drop (p + size) b) ≡ offsets (suc n) size (drop p b)
unfolding offsets num_at
offsets-first n size p b = rw drop-drop

-- a first offset that passes is 1
not_not : (t : Bool) → not t ≡ false → t ≡ true
not_not true h = refl
not_not false h = absurd (true≢false h)

pub first_good : (first : ℕ) → first_bad first ≡ false → first ≡ 1
first_good first h = eqb-true first 1 (not_not (eqb first 1) h)

pub first-bad : (first : ℕ) → (first ≡ 1 → ⊥) → first_bad first ≡ true
first-bad first h = ap not (ne_eqb first 1 h)

pub first_fine : (first : ℕ) → first ≡ 1 → first_bad first ≡ false
first_fine first h = ap not (eq-eqb first 1 h)

-- ---- a run

pub run_none : (room s : ℕ) → run_of room s [] ≡ Ok s
unfolding run_of
run_none room s = refl

module _ (room s e : ℕ) (es : List ℕ) where
  pub run_falls : e < s → run_of room s (e ∷ es) ≡ Err Malformed
  unfolding run_of
  run_falls h = simp (lt-ltb _ _ h)

  pub run_past : s ≤ e → room < e → run_of room s (e ∷ es) ≡ Err Truncated
  unfolding run_of
  run_past h k = simp (le-ltb _ _ h, lt-ltb _ _ k)

  pub run_on : s ≤ e → e ≤ room → run_of room s (e ∷ es) ≡ run_of room e es
  unfolding run_of
  run_on h k = simp (le-ltb _ _ h, le-ltb _ _ k)

-- a turn over the left offsets at p, of which the first is e: what they give is what the whole run gave, r
module _ (b : List ℕ) (room s p size left : ℕ) {r : Result ℕ Refusal} (whole : run_of room s (offsets left size (drop p b)) ≡ r) where
  pub turn_end : left ≤ 0 → Ok s ≡ r
  turn_end h =
      let e : left ≡ 0 = omega arith in
      sym (run_none room s) ∙ sym (ap (run_of room s) (ap (λ (n : ℕ). offsets n size (drop p b)) e ∙ offsets-none size (drop p b))) ∙ whole

  module _ (e : ℕ) (read : e ≡ num_at b p size) (some : 0 < left) where
    split : run_of room s (e ∷ offsets (left - 1) size (drop (p + size) b)) ≡ r
    split =
        ap (λ (n : ℕ). run_of room s (n ∷ offsets (left - 1) size (drop (p + size) b))) read
        ∙ sym (ap (run_of room s) (offsets-more left size p b some)) ∙ whole

    pub turn_falls : e < s → Err Malformed ≡ r
    turn_falls h = sym (run_falls room s e _ h) ∙ split

    pub turn-past : s ≤ e → room < e → Err Truncated ≡ r
    turn-past h k = sym (run_past room s e _ h k) ∙ split

    pub turn_on : s ≤ e → e ≤ room → run_of room e (offsets (left - 1) size (drop (p + size) b)) ≡ r
    turn_on h k = sym (run_on room s e _ h k) ∙ split

bad_last : (x : Refusal) (l : ℕ) → Err x ≡ Ok l → ⊥
bad_last x l h = let z : ◌≡◌ {A = ℕ} 0 1 = cc in omega arith

passed : (t : Bool) (x : Refusal) (l : ℕ) (r : Result ℕ Refusal) → pick t (Err x) r ≡ Ok l → (t ≡ false) × (r ≡ Ok l)
passed true x l r h = absurd (bad_last x l h)
passed false x l r h = (refl, h)

-- what holds of the first pair of a run that passes, and of the rest
pub record Passes (room s e : ℕ) (es : List ℕ) (l : ℕ) : Type 0 where
  pub rises : s ≤ e
  pub within : e ≤ room
  pub rest : run_of room e es ≡ Ok l

pub run-passes : (room s e : ℕ) (es : List ℕ) (l : ℕ) → run_of room s (e ∷ es) ≡ Ok l → Passes room s e es l
unfolding run_of
run-passes room s e es l h =
    let q = passed (ltb e s) _ l _ h in
    let r = passed (ltb room e) _ l _ q.1 in
    record { rises = ltb-false _ _ q.0; within = ltb-false _ _ r.0; rest = r.1 }

-- the last offset of a run that passes is within the room, and not before the first
pub run-within : (room s : ℕ) (es : List ℕ) (l : ℕ) → 0 < length es → run_of room s es ≡ Ok l → l ≤ room
unfolding run_of
run-within room s [] l n h = absurd (not-suc-le-zero n)
run-within room s (e ∷ []) l n h =
    let p = run-passes room s e [] l h in
    let z : e ≡ l = cc p.rest in
    omega (arith, p.within)
run-within room s (e ∷ f ∷ es) l n h = run-within room e (f ∷ es) l (omega arith) (run-passes room s e (f ∷ es) l h).rest

pub last_within : (room s count size : ℕ) (bs : List ℕ) (l : ℕ) → 0 < count → run_of room s (offsets count size bs) ≡ Ok l → l ≤ room
last_within room s count size bs l some h =
    let n : 0 < length (offsets count size bs) = rw offsets-length some in
    run-within room s (offsets count size bs) l n h

pub run-rises : (room s : ℕ) (es : List ℕ) (l : ℕ) → run_of room s es ≡ Ok l → s ≤ l
unfolding run_of
run-rises room s [] l h = let z : s ≡ l = cc in omega arith
run-rises room s (e ∷ es) l h = let p = run-passes room s e es l h in omega (arith, p.rises, run-rises room e es l p.rest)

pub run-last : (room s : ℕ) (es : List ℕ) (l : ℕ) → run_of room s es ≡ Ok l → get_or (s ∷ es) (length es) 0 ≡ l
unfolding run_of
run-last room s [] l h = cc
run-last room s (e ∷ es) l h = run-last room e es l (run-passes room s e es l h).rest

-- a pair of a run that passes
pub run-pair : (room s : ℕ) (es : List ℕ) (l : ℕ) → run_of room s es ≡ Ok l → (k : ℕ) → k < length es
    → (get_or (s ∷ es) k 0 ≤ get_or es k 0) × (get_or es k 0 ≤ room)
run-pair room s [] l h k n = absurd (not-suc-le-zero n)
run-pair room s (e ∷ es) l h zero n = let p = run-passes room s e es l h in (p.rises, p.within)
run-pair room s (e ∷ es) l h (suc k) n = run-pair room e es l (run-passes room s e es l h).rest k (omega arith)

-- past the tests of a table the run decides
pub table-judged : (b : List ℕ) (table count size first : ℕ) (run : Result ℕ Refusal)
    → 1 ≤ size → size ≤ 4 → table + (count + 1) * size ≤ length b → first ≡ first_of b table size → first_bad first ≡ false
    → run ≡ run_of (length b - (table + (count + 1) * size - 1)) first (ends_of b table size count)
    → table_at b table count size ≡ judged count size table (table + (count + 1) * size - 1) run
unfolding table_at data_at
table-judged b table count size first run low high fits read good is =
    simp (le-ltb size 1 low, le-ltb 4 size high, le-ltb (length b) (table + (count + 1) * size) fits, ap first_bad (sym read) ∙ good)
    (ap (judged count size table (table + (count + 1) * size - 1))
    (sym (is ∙ ap (λ (s : ℕ). run_of (length b - (table + (count + 1) * size - 1)) s (ends_of b table size count)) read)))

-- past the tests of the count and the offset size the table decides
pub index-table : (b : List ℕ) (at count size : ℕ) → at + 3 ≤ length b → count ≡ num_at b at 2 → (count ≡ 0 → ⊥) → size ≡ get_or b (at + 2) 0
    → table_at b (at + 3) count size ≡ index_at b at
unfolding index_at
index-table b at count size fits read some sized =
    let two : at + 2 ≤ length b = omega arith in
    simp (le-ltb (length b) (at + 2) two, ne_eqb (num_at b at 2) 0 (λ e. some (read ∙ e)), le-ltb (length b) (at + 3) fits)
    (rw (read, sized))

-- ---- items

pub pieces-at : (d : List ℕ) (s : ℕ) (es : List ℕ) (k : ℕ) → k < length es
    → get_or (pieces d s es) k [] ≡ take (get_or es k 0 - get_or (s ∷ es) k 0) (drop (get_or (s ∷ es) k 0) d)
unfolding pieces
pieces-at d s [] k n = absurd (not-suc-le-zero n)
pieces-at d s (e ∷ es) zero n = refl
pieces-at d s (e ∷ es) (suc k) n = pieces-at d e es k (omega arith)

pub pieces-length : (d : List ℕ) (s : ℕ) (es : List ℕ) → length (pieces d s es) ≡ length es
unfolding pieces
pieces-length d s [] = refl
pieces-length d s (e ∷ es) = ap suc (pieces-length d e es)

-- there are as many items as the count says
pub items-length : (b : List ℕ) (ix : Index) → length (items_of b ix) ≡ ix.count
unfolding items_of
items-length b ix = rw (pieces-length, offsets-length)

-- offset k has its bytes
pub offset_in : {n : ℕ} {ix : Index} → Lies n ix → (k : ℕ) → k ≤ ix.count → ix.table + k * ix.size + ix.size ≤ n
offset_in {n} {ix} l k h = omega (arith, l, place_in k (ix.count + 1) ix.size (omega arith))

module _ (b : List ℕ) (ix : Index) (g : Good b ix) (k : ℕ) (h : k < ix.count) where
  start-at : get_or (first_of b ix.table ix.size ∷ ends_of b ix.table ix.size ix.count) k 0 ≡ offset_of b ix k
  start-at = rw offsets-first (offsets-at (suc ix.count) ix.size ix.table b k (omega arith))

  end_at : get_or (ends_of b ix.table ix.size ix.count) k 0 ≡ offset_of b ix (k + 1)
  end_at = offsets-at ix.count ix.size (ix.table + ix.size) b k h ∙ ap (λ (j : ℕ). num_at b j ix.size) e
    where
      e : ix.table + ix.size + k * ix.size ≡ ix.table + (k + 1) * ix.size
      e = omega (arith, add-mul k 1 ix.size)

  many : k < length (ends_of b ix.table ix.size ix.count)
  many = rw offsets-length h

  -- item k does not fall, and is within the bytes
  pub item-within : (offset_of b ix k ≤ offset_of b ix (k + 1)) × (ix.base + offset_of b ix (k + 1) ≤ length b)
  item-within =
      let p = run-pair (length b - ix.base) _ (ends_of b ix.table ix.size ix.count) g.last g.run k many in
      (rw (start-at, end_at) at p.0, omega (arith, rw end_at at p.1, g.lies))

  -- item k is the part between offsets k and k + 1
  pub item_is : get_or (items_of b ix) k [] ≡ take (offset_of b ix (k + 1) - offset_of b ix k) (drop (ix.base + offset_of b ix k) b)
  unfolding items_of
  item_is = pieces-at (drop ix.base b) _ (ends_of b ix.table ix.size ix.count) k many ∙ rw (start-at, end_at, drop-drop)

  -- as the code takes it
  pub item-part : (s e : ℕ) → s ≡ offset_of b ix k → e ≡ offset_of b ix (k + 1) → take (ix.base + e - (ix.base + s)) (drop (ix.base + s) b) ≡ get_or (items_of b ix) k []
  item-part s e p q =
      let d : ix.base + e - (ix.base + s) ≡ e - s = omega arith in
      rw (d, p, q) (sym item_is)

  -- it is as long as they are apart
  pub item_long : length (get_or (items_of b ix) k []) ≡ offset_of b ix (k + 1) - offset_of b ix k
  item_long =
      let w = item-within in
      let r : offset_of b ix (k + 1) - offset_of b ix k ≤ length (drop (ix.base + offset_of b ix k) b) = rw length-drop (omega arith) in
      ap length item_is ∙ length-take-le _ _ r

  -- and no longer than the bytes
  pub item-short : length (get_or (items_of b ix) k []) ≤ length b
  item-short = omega (arith, item_long, item-within)
