-- Laws of `put`: what writing does, byte by byte and part by part.
use Rattle.std.specs.Prelude.{ℕ, zero, suc, ◌+◌, ◌-◌, ◌/◌, ◌%◌, ◌≤◌, ◌<◌, ◌≡◌, refl, List, [], ◌∷◌, ◌++◌, length, take, drop, get_or, set}
use Rattle.std.proofs.Common.{sym, ap, ◌∙◌, subst, append_assoc, add-zero, add_assoc, le_refl, not-suc-le-zero, add-one, sub-one, arith, length-append, length-drop, length-set, take-append-drop, drop-set-lt, drop-cons, get_or-set_same, take_at, drop_at, drop-drop, take-suc, take_all, get_or-drop}
use Rattle.std.proofs.Math.ListN.{get_or-append}
use Rattle.std.proofs.Math.Seq.{length-take-le, get_or-take}
use Rattle.std.proofs.lemmas.List.{take-set-le, set_at, set_split}
use Rattle.octets.specs.Octets.{put, bytes_of, Wrote}
use Rattle.octets.specs.OctetsLaws.{length-bytes}

-- nothing is written
pub put_nil : (old : List ℕ) (at : ℕ) → put old at [] ≡ old
unfolding put
put_nil old at = rw (add-zero, take-append-drop)

pub put-length : (old : List ℕ) (at : ℕ) (bs : List ℕ) → at + length bs ≤ length old → length (put old at bs) ≡ length old
unfolding put
put-length old at bs h =
    let k : at ≤ length old = omega arith in
    rw (length-append, length-append, length-take-le, length-drop) (omega arith)

-- what stands before the end of what was written, and after it
pub take_put : (old : List ℕ) (at : ℕ) (bs : List ℕ) → at ≤ length old → take (at + length bs) (put old at bs) ≡ take at old ++ bs
unfolding put
take_put old at bs h =
    rw (← append_assoc) (take_at (take at old ++ bs) (drop (at + length bs) old) (at + length bs) (rw (length-append, length-take-le)))

pub drop-put : (old : List ℕ) (at : ℕ) (bs : List ℕ) → at ≤ length old → drop (at + length bs) (put old at bs) ≡ drop (at + length bs) old
unfolding put
drop-put old at bs h =
    rw (← append_assoc) (drop_at (take at old ++ bs) (drop (at + length bs) old) (at + length bs) (rw (length-append, length-take-le)))

-- a list after a write, by what stands before and behind
pub put_is : (old : List ℕ) (at : ℕ) (bs front back : List ℕ) → take at old ≡ front → drop (at + length bs) old ≡ back
    → put old at bs ≡ front ++ (bs ++ back)
unfolding put
put_is old at bs front back low high = rw (low, high)

-- one byte stored
pub put_one : (old : List ℕ) (at b : ℕ) → at < length old → set old at b ≡ put old at (b ∷ [])
unfolding put
put_one old at b h = set_split old at b h ∙ rw add-one

-- one part after the other
pub put-put : (old : List ℕ) (at : ℕ) (xs ys : List ℕ) → at ≤ length old
    → put (put old at xs) (at + length xs) ys ≡ put old at (xs ++ ys)
put-put old at xs ys h =
    let back = drop (at + length (xs ++ ys)) old in
    let m : (take at old ++ xs) ++ (ys ++ back) ≡ take at old ++ ((xs ++ ys) ++ back) = rw (append_assoc, append_assoc) in
    put_is (put old at xs) (at + length xs) ys (take at old ++ xs) back (take_put old at xs h)
    (sym (drop-drop (length ys) (at + length xs) (put old at xs)) ∙ rw (drop-put old at xs h, drop-drop, length-append, add_assoc))
    ∙ m ∙ sym (put_is old at (xs ++ ys) (take at old) back refl refl)

-- a byte stored, and the others behind it
pub put_cons : (old : List ℕ) (at x : ℕ) (xs : List ℕ) → at < length old → put (set old at x) (at + 1) xs ≡ put old at (x ∷ xs)
put_cons old at x xs h = ap (λ (o : List ℕ). put o (at + 1) xs) (put_one old at x h) ∙ put-put old at (x ∷ []) xs (omega arith)

-- a byte stored behind what is still to be written
pub put_last : (old : List ℕ) (at : ℕ) (bs : List ℕ) (x : ℕ) → at + length bs < length old
    → put (set old (at + length bs) x) at bs ≡ put old at (bs ++ (x ∷ []))
put_last old at bs x h =
    let k : at + length bs < length (set old (at + length bs) x) = rw length-set h in
    let n : suc (at + length bs) ≡ at + length (bs ++ (x ∷ [])) = rw length-append (omega arith) in
    let m : take at old ++ (bs ++ (x ∷ drop (at + length (bs ++ (x ∷ []))) old)) ≡ take at old ++ ((bs ++ (x ∷ [])) ++ drop (at + length (bs ++ (x ∷ []))) old)
    = rw append_assoc in
    put_is (set old (at + length bs) x) at bs (take at old) (x ∷ drop (at + length (bs ++ (x ∷ []))) old)
    (take-set-le at old (at + length bs) x (omega arith))
    (drop-cons (set old (at + length bs) x) (at + length bs) 0 k
    ∙ rw (get_or-set_same old (at + length bs) x 0 h, drop-set-lt (suc (at + length bs)) old (at + length bs) x (le_refl _), n))
    ∙ m ∙ sym (put_is old at (bs ++ (x ∷ [])) (take at old) (drop (at + length (bs ++ (x ∷ []))) old) refl refl)

-- a byte stored behind what was written
pub put_snoc : (old : List ℕ) (at : ℕ) (bs : List ℕ) (x : ℕ) → at + length bs < length old
    → set (put old at bs) (at + length bs) x ≡ put old at (bs ++ (x ∷ []))
unfolding put
put_snoc old at bs x h =
    let k : at ≤ length old = omega arith in
    let n : suc (at + length bs) ≡ at + length (bs ++ (x ∷ [])) = rw length-append (omega arith) in
    rw (
      drop-cons old (at + length bs) 0,
      ← append_assoc,
      set_at (take at old ++ bs) _ _ x (at + length bs) (rw (length-append, length-take-le)),
      n,
      append_assoc,
      append_assoc,
    )

-- two stored at the front
pub put_two : (old : List ℕ) (x y : ℕ) → 2 ≤ length old → set (set old 0 x) 1 y ≡ put old 0 (x ∷ y ∷ [])
put_two old x y h = ap (λ (l : List ℕ). set l 1 y) (put_one old 0 x (omega arith)) ∙ put_snoc old 0 (x ∷ []) y (omega arith)

-- the last digit of a number stored, and the others still to be written
pub put-digit : (out : List ℕ) (at i v : ℕ) → 0 < i → at + i ≤ length out
    → put (set out (at + (i - 1)) (v % 256)) at (bytes_of (i - 1) (v / 256)) ≡ put out at (bytes_of i v)
unfolding bytes_of
put-digit out at zero v h r = absurd (not-suc-le-zero h)
put-digit out at (suc j) v h r =
    let n = length-bytes j (v / 256) in
    let k : at + length (bytes_of j (v / 256)) < length out = omega (arith, n) in
    rw sub-one (subst (λ (m : ℕ). put (set out (at + m) (v % 256)) at (bytes_of j (v / 256)) ≡ put out at (bytes_of j (v / 256) ++ (v % 256 ∷ []))) n
    (put_last out at (bytes_of j (v / 256)) (v % 256) k))

-- a copy: the next byte, and all
pub put_next : (old : List ℕ) (at : ℕ) (src : List ℕ) (i : ℕ) → at + i < length old → i < length src
    → set (put old at (take i src)) (at + i) (get_or src i 0) ≡ put old at (take (i + 1) src)
put_next old at src i h k =
    let n : length (take i src) ≡ i = length-take-le i src (omega arith) in
    let m : at + length (take i src) < length old = omega (arith, n) in
    subst (λ (j : ℕ). set (put old at (take i src)) (at + j) (get_or src i 0) ≡ put old at (take (i + 1) src)) n
    (put_snoc old at (take i src) (get_or src i 0) m ∙ ap (put old at) (rw (add-one, take-suc src i 0)))

pub put_all : (old : List ℕ) (at : ℕ) (src : List ℕ) (i : ℕ) → length src ≤ i → put old at (take i src) ≡ put old at src
put_all old at src i h = ap (put old at) (take_all i src h)

-- ---- what stands beside a write

module _ (old : List ℕ) (at : ℕ) (bs : List ℕ) (h : at ≤ length old) where
  pub put-before : (i : ℕ) → i < at → get_or (put old at bs) i 0 ≡ get_or old i 0
  unfolding put
  put-before i k =
      get_or-append (take at old) _ 0 i (omega (arith, length-take-le at old h)) ∙ get_or-take at old i 0 k

  pub put-behind : (i : ℕ) → at + length bs ≤ i → get_or (put old at bs) i 0 ≡ get_or old i 0
  put-behind i k =
      let e : at + length bs + (i - (at + length bs)) ≡ i = omega arith in
      let a = ap (λ (j : ℕ). get_or (put old at bs) j 0) (sym e) ∙ sym (get_or-drop (at + length bs) (put old at bs) (i - (at + length bs)) 0) in
      let c = get_or-drop (at + length bs) old (i - (at + length bs)) 0 ∙ ap (λ (j : ℕ). get_or old j 0) e in
      a ∙ ap (λ (ws : List ℕ). get_or ws (i - (at + length bs)) 0) (drop-put old at bs h) ∙ c

-- ---- writes in a row

pub wrote_none : (old : List ℕ) (at : ℕ) → Wrote old at [] old at
wrote_none old at = record { is = sym (put_nil old at); behind = sym (add-zero at) }

pub wrote_then : {old mid new xs ys : List ℕ} {at p q : ℕ} → at ≤ length old → Wrote old at xs mid p → Wrote mid p ys new q → Wrote old at (xs ++ ys) new q
wrote_then {old} {mid} {new} {xs} {ys} {at} {p} {q} h v w =
    record {
      is = w.is ∙ ap (λ (o : List ℕ). put o p ys) v.is ∙ ap (λ (k : ℕ). put (put old at xs) k ys) v.behind ∙ put-put old at xs ys h;
      behind = rw length-append (omega (arith, v.behind, w.behind));
    }

pub wrote_as : {old new bs cs : List ℕ} {at q : ℕ} → Wrote old at bs new q → bs ≡ cs → Wrote old at cs new q
wrote_as {old} {new} {bs} {cs} {at} {q} w e = subst (λ (l : List ℕ). Wrote old at l new q) e w

pub wrote-length : {old new bs : List ℕ} {at q : ℕ} → Wrote old at bs new q → at + length bs ≤ length old → length new ≡ length old
wrote-length {old} {new} {bs} {at} {q} w h = ap length w.is ∙ put-length old at bs h

pub drop-put-at : (old : List ℕ) (at : ℕ) (bs : List ℕ) → at ≤ length old → drop at (put old at bs) ≡ bs ++ drop (at + length bs) old
unfolding put
drop-put-at old at bs h = drop_at (take at old) (bs ++ drop (at + length bs) old) at (length-take-le at old h)
