-- Laws of the ids of a charset: a range met, its ids one by one and all at once, as the code takes them.
use Rattle.std.specs.Prelude.{ℕ, zero, suc, ◌+◌, ◌-◌, ◌*◌, ◌/◌, ◌≤◌, ◌<◌, ◌^◌, ◌≡◌, refl, List, [], ◌∷◌, length, drop, ltb, Result, Ok, Err}
use Rattle.std.proofs.Common.{sym, ap, ◌∙◌, not-suc-le-zero, add-one, sub-one, lt-ltb, le-ltb, ltb-false, length-drop, drop_of_length-le, drop-drop}
use native.Mathlib.Omega.{arith}
use Rattle.std.proofs.Math.ListN.{get_or}
use Rattle.std.proofs.Math.Seq.{drop-cons}
use Rattle.octets.specs.Pick.{pick_ind}
use Rattle.octets.specs.Octets.{be, num_at}
use Rattle.octets.specs.OctetsLaws.{pow_below}
use Rattle.charset.specs.Listed.{onward, list_of}
use Rattle.charset.specs.Charset.{ids_from, charset_at}
use Rattle.charset.specs.CharsetPlaces.{table_at, charset_answer}
use Rattle.charset.specs.declared.Charset.{Charset}
use Rattle.refusal.specs.declared.Refusal.{Refusal}
use Rattle.refusal.specs.declared.Refusal.TheVariants.{Truncated, Malformed}

-- where no range is under way its next id says nothing
pub range_none : (w k i j : ℕ) (bs : List ℕ) → ids_from w k i 0 bs ≡ ids_from w k j 0 bs
unfolding ids_from
range_none w zero i j bs = refl
range_none w (suc k) i j bs = refl

pub range_lost : (b : List ℕ) (q w k i : ℕ) → 0 < k → length b - q < 2 + w → ids_from w k i 0 (drop q b) ≡ Err Truncated
unfolding ids_from
range_lost b q w zero i h s = absurd (not-suc-le-zero h)
range_lost b q w (suc k) i h s =
    let m : length (drop q b) < 2 + w = rw length-drop s in
    simp (lt-ltb (length (drop q b)) (2 + w) m)

pub range-met : (b : List ℕ) (q w k i : ℕ) → 0 < k → q + 2 + w ≤ length b
    → ids_from w k i 0 (drop q b) ≡ onward (num_at b q 2) (ids_from w (k - 1) (num_at b q 2 + 1) (num_at b (q + 2) w) (drop (q + 2 + w) b))
unfolding ids_from num_at
range-met b q w zero i h s = absurd (not-suc-le-zero h)
range-met b q w (suc k) i h s =
    let m : 2 + w ≤ length (drop q b) = rw length-drop (omega arith) in
    let e : q + (2 + w) ≡ q + 2 + w = omega arith in
    simp (le-ltb (length (drop q b)) (2 + w) m, sub-one, drop-drop, e)

-- ids in front of those that follow
abbrev pub joined : List ℕ → Result (List ℕ) Refusal → Result (List ℕ) Refusal
joined [] r = r
joined (x ∷ xs) r = onward x (joined xs r)

-- a range whose ids are all taken
pub range-whole : (w k i left : ℕ) (bs : List ℕ) → left ≤ k → i + left ≤ 65536
    → ids_from w k i left bs ≡ joined (list_of (λ g. g) i left) (ids_from w (k - left) 0 0 bs)
unfolding ids_from list_of
range-whole w k i zero bs h s = let e : k - 0 ≡ k = omega arith in rw e (range_none w k i 0 bs)
range-whole w zero i (suc left) bs h s = absurd (not-suc-le-zero h)
range-whole w (suc k) i (suc left) bs h s =
    let e : suc k - suc left ≡ k - left = omega arith in
    simp (le-ltb 65535 i (omega arith), e) (ap (onward i) (range-whole w k (i + 1) left bs (omega arith) (omega arith)))

-- a range that ends past the last glyph
pub range-cut : (w k i left : ℕ) (bs : List ℕ) → k ≤ left → i + k ≤ 65536 → ids_from w k i left bs ≡ Ok (list_of (λ g. g) i k)
unfolding ids_from list_of
range-cut w zero i left bs h s = refl
range-cut w (suc k) i zero bs h s = absurd (not-suc-le-zero h)
range-cut w (suc k) i (suc left) bs h s =
    simp (le-ltb 65535 i (omega arith)) (ap (onward i) (range-cut w k (i + 1) left bs (omega arith) (omega arith)))

-- a range that reaches an id above 65535
pub range-past : (w k i left m : ℕ) (bs : List ℕ) → 0 < m → m ≤ k → m ≤ left → 65536 < i + m → ids_from w k i left bs ≡ Err Malformed
unfolding ids_from
range-past w k i left zero bs z h s p = absurd (not-suc-le-zero z)
range-past w zero i left (suc m) bs z h s p = absurd (not-suc-le-zero h)
range-past w (suc k) i zero (suc m) bs z h s p = absurd (not-suc-le-zero s)
range-past w (suc k) i (suc left) (suc m) bs z h s p =
    pick_ind (λ (r : Result (List ℕ) Refusal). r ≡ Err Malformed) (ltb 65535 i) _ _ (λ t. refl)
    (λ t. let n : i ≤ 65535 = ltb-false 65535 i t in
    ap (onward i) (range-past w k (i + 1) left m bs (omega arith) (omega arith) (omega arith) (omega arith)))

-- ---- what the check of the ranges answers

pub answer-on : (c : Charset) (x : ℕ) (r : Result (List ℕ) Refusal) → charset_answer c (onward x r) ≡ charset_answer c r
answer-on c x (Err e) = refl
answer-on c x (Ok l) = refl

answer-joined : (c : Charset) (xs : List ℕ) (r : Result (List ℕ) Refusal) → charset_answer c (joined xs r) ≡ charset_answer c r
answer-joined c [] r = refl
answer-joined c (x ∷ xs) r = answer-on c x (joined xs r) ∙ answer-joined c xs r

pub check_lost : (b : List ℕ) (q w k : ℕ) (c : Charset) → 0 < k → length b - q < 2 + w → Err Truncated ≡ charset_answer c (ids_from w k 0 0 (drop q b))
check_lost b q w k c h s = sym (ap (charset_answer c) (range_lost b q w k 0 h s))

module _ (b : List ℕ) (q w k first left : ℕ) (c : Charset) (some : 0 < k) (there : q + 2 + w ≤ length b) (f : first ≡ num_at b q 2) (l : left ≡ num_at b (q + 2) w) where
  met : charset_answer c (ids_from w k 0 0 (drop q b)) ≡ charset_answer c (ids_from w (k - 1) (first + 1) left (drop (q + 2 + w) b))
  met =
      ap (charset_answer c) (range-met b q w k 0 some there) ∙ answer-on c (num_at b q 2) (ids_from w (k - 1) (num_at b q 2 + 1) (num_at b (q + 2) w) (drop (q + 2 + w) b))
      ∙ ap (λ (x : ℕ). charset_answer c (ids_from w (k - 1) (x + 1) (num_at b (q + 2) w) (drop (q + 2 + w) b))) (sym f)
      ∙ ap (λ (x : ℕ). charset_answer c (ids_from w (k - 1) (first + 1) x (drop (q + 2 + w) b))) (sym l)

  pub check-last : k ≤ left → first + k ≤ 65536 → Ok c ≡ charset_answer c (ids_from w k 0 0 (drop q b))
  check-last h s = sym (met ∙ ap (charset_answer c) (range-cut w (k - 1) (first + 1) left _ (omega arith) (omega arith)))

  pub check-last-past : first < 65536 → k ≤ left → 65536 < first + k → Err Malformed ≡ charset_answer c (ids_from w k 0 0 (drop q b))
  check-last-past z h s =
      sym (met ∙ ap (charset_answer c) (range-past w (k - 1) (first + 1) left (k - 1) _ (omega arith) (omega arith) (omega arith) (omega arith)))

  pub check-past : first < 65536 → left < k → 65535 < first + left → Err Malformed ≡ charset_answer c (ids_from w k 0 0 (drop q b))
  check-past z h s =
      sym (met ∙ ap (charset_answer c) (range-past w (k - 1) (first + 1) left left _ (omega arith) (omega arith) (omega arith) (omega arith)))

  pub check-on : left < k → first + left ≤ 65535 → charset_answer c (ids_from w (k - 1 - left) 0 0 (drop (q + 2 + w) b)) ≡ charset_answer c (ids_from w k 0 0 (drop q b))
  check-on h s =
      sym (met ∙ ap (charset_answer c) (range-whole w (k - 1) (first + 1) left _ (omega arith) (omega arith))
      ∙ answer-joined c (list_of (λ g. g) (first + 1) left) _)

pub check_done : (b : List ℕ) (q w k : ℕ) (c : Charset) → k ≡ 0 → Ok c ≡ charset_answer c (ids_from w k 0 0 (drop q b))
unfolding ids_from
check_done b q w k c e = rw e

-- nLeft is small
pub left-small : (left w : ℕ) → left < 256 ^ w → w ≤ 2 → left < 65536
left-small left w h s = pow_below left w 2 s h

-- ---- a table by its format

pub read_lost : (b : List ℕ) (at n : ℕ) (c : Charset) → length b ≤ at → Err Truncated ≡ charset_answer c (charset_at b at n)
unfolding charset_at
read_lost b at n c h = rw (drop_of_length-le b h)

-- glyph 0 has no entry
glyph_0 : (c : Charset) (w n : ℕ) (bs : List ℕ) → 0 < n → charset_answer c (ids_from w (n - 1) 0 0 bs) ≡ charset_answer c (ids_from w n 0 1 bs)
unfolding ids_from
glyph_0 c w zero bs h = absurd (not-suc-le-zero h)
glyph_0 c w (suc n) bs h = simp sub-one (ap (charset_answer c) (range_none w n 0 1 bs) ∙ sym (answer-on c 0 (ids_from w n 1 0 bs)))

module _ (b : List ℕ) (at n : ℕ) (c : Charset) (there : at < length b) where
  pub read_unknown : (format : ℕ) → format ≡ get_or b at 0 → 2 < format → Err Malformed ≡ charset_answer c (charset_at b at n)
  unfolding charset_at
  read_unknown format e h =
      let k : 2 < get_or b at 0 = omega arith in
      rw (drop-cons b at 0 there) (simp (lt-ltb 2 (get_or b at 0) k))

  pub read-ranges : (format : ℕ) → format ≡ get_or b at 0 → format ≤ 2 → 0 < n
      → charset_answer c (ids_from format (n - 1) 0 0 (drop (at + 1) b)) ≡ charset_answer c (charset_at b at n)
  unfolding charset_at
  read-ranges format e h some =
      let k : get_or b at 0 ≤ 2 = omega arith in
      rw (e, drop-cons b at 0 there, add-one) (simp (le-ltb 2 (get_or b at 0) k) (glyph_0 c (get_or b at 0) n (drop (suc at) b) some))

-- format 0: an id of two bytes for each glyph
each_lost : (k i : ℕ) (bs : List ℕ) → length bs < 2 * k → ids_from 0 k i 0 bs ≡ Err Truncated
unfolding ids_from be
each_lost zero i bs h = absurd (not-suc-le-zero h)
each_lost (suc k) i bs h =
    pick_ind (λ (r : Result (List ℕ) Refusal). r ≡ Err Truncated) (ltb (length bs) 2) _ _ (λ t. refl)
    (λ t. let n : 2 ≤ length bs = ltb-false (length bs) 2 t in
    let m : length (drop 2 bs) < 2 * k = rw length-drop (omega arith) in
    ap (onward _) (each_lost k _ (drop 2 bs) m))

each_there : (c : Charset) (k i : ℕ) (bs : List ℕ) → 2 * k ≤ length bs → charset_answer c (ids_from 0 k i 0 bs) ≡ Ok c
unfolding ids_from be
each_there c zero i bs h = refl
each_there c (suc k) i bs h =
    let n : 2 ≤ length bs = omega arith in
    let m : 2 * k ≤ length (drop 2 bs) = rw length-drop (omega arith) in
    simp (le-ltb (length bs) 2 n) (answer-on c _ (ids_from 0 k _ 0 (drop 2 bs)) ∙ each_there c k _ (drop 2 bs) m)

module _ (b : List ℕ) (at n : ℕ) (c : Charset) (there : at < length b) (some : 0 < n) (e : 0 ≡ get_or b at 0) where
  pub read-each_lost : (length b - (at + 1)) / 2 < n - 1 → Err Truncated ≡ charset_answer c (charset_at b at n)
  read-each_lost h =
      let m : length (drop (at + 1) b) < 2 * (n - 1) = rw length-drop (omega arith) in
      sym (ap (charset_answer c) (each_lost (n - 1) 0 (drop (at + 1) b) m)) ∙ read-ranges b at n c there 0 e (omega arith) some

  pub read-each : n - 1 ≤ (length b - (at + 1)) / 2 → Ok c ≡ charset_answer c (charset_at b at n)
  read-each h =
      let m : 2 * (n - 1) ≤ length (drop (at + 1) b) = rw length-drop (omega arith) in
      sym (each_there c (n - 1) 0 (drop (at + 1) b) m) ∙ read-ranges b at n c there 0 e (omega arith) some

-- the charset that the code makes of the format it read
pub table_is : (b : List ℕ) (at format : ℕ) → format ≡ get_or b at 0 → (r : Result (List ℕ) Refusal)
    → charset_answer (record { own = 1; width = format; at = at + 1 }) r ≡ charset_answer (table_at b at) r
table_is b at format e r = ap (λ (w : ℕ). charset_answer (record { own = 1; width = w; at = at + 1 }) r) e
