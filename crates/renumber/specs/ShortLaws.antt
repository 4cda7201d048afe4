-- A number of one byte or of two stands in its shortest form: it is written as it was read; one of three bytes or of five where no shorter form has it and
-- rounding leaves it.
use Rattle.std.specs.Prelude.{ℕ, suc, ◌+◌, ◌-◌, ◌*◌, ◌/◌, ◌%◌, ◌≤◌, ◌<◌, ◌≡◌, Bool, not, List, [], ◌∷◌, ℤ, pos, negsuc, neg_ℤ, length, take, drop, ltb, eqb, None, Option, Some}
use Rattle.std.specs.Bool.{then_some}
use Rattle.std.proofs.Math.Path.{refl, sym, ap, subst}
use Rattle.std.proofs.Common.{◌∙◌, drop-cons}
use Rattle.std.proofs.Math.Bool.{true, false}
use Rattle.std.proofs.lemmas.Bool.{false≢true}
use Rattle.std.proofs.Math.Decide.{dec_lt, dec_le}
use native.Mathlib.Omega.{arith}
use Rattle.std.proofs.Math.ListN.{get_or}
use borrow.Author.Tests.{ltb-true, ltb-false, eqb-true, eqb-false, not-true, not-false, lt-ltb, le-ltb, le-leb, lt-leb, eq-eqb, ne_eqb}
use Rattle.octets.specs.Pick.{pick}
use Rattle.octets.specs.Octets.{Octets, bytes_of}
use Rattle.type2_number.specs.Number.{whole, sixteen, fixed, number, number_at, Reading}
use Rattle.type2_number.specs.Encoding.{integer_bytes, encoded}
use Rattle.type2_number.specs.NumberLaws.{OperatorByte, long, form_28, form_1, form_up, form_down, form_ff}
use Rattle.type2_number.specs.Rounding.{keep-small, rounded-neg, rounded_pos}
use Rattle.type2_number.specs.EncodingLaws.{one-neg, one_pos, two-neg, two_pos, three-neg, three_pos, fixed-neg, fixed_pos, encoded-fraction, encoded-integer}
use Rattle.prune.specs.OperandLaws.{whole-up, whole-down, whole-reading}
use Rattle.prune.specs.StepLaws.{zero_one}
use Rattle.renumber.specs.Run.{is_plain, is_operator, is_three_lem, is_five_lem, three_len, five_len, plain_len, part}

-- a number that stands up to n as it is written
pub record ShortAt (s : List ℕ) (at n : ℕ) : Type 0 where
  pub value : ℤ
  pub reads : number_at s at ≡ number value n
  pub reading : Reading value
  pub own : encoded value ≡ part s at n
  pub further : at < n
  pub inside : n ≤ length s

-- ---- the bytes of the integer a - b

up-bytes : (k : ℕ) → k < 32768 → encoded (pos (k * 65536)) ≡ integer_bytes false k
up-bytes k h =
    let e : k * 65536 / 65536 ≡ k = omega arith in
    sym (encoded-integer (pos (k * 65536)) false (k * 65536) refl refl (omega arith) (omega arith)) ∙ ap (integer_bytes false) e

down-bytes : (k m : ℕ) → k < 32768 → suc m ≡ k * 65536 → encoded (negsuc m) ≡ integer_bytes true k
down-bytes k m h e =
    let f : suc m / 65536 ≡ k = omega arith in
    sym (encoded-integer (negsuc m) true (suc m) refl refl (omega arith) (omega arith)) ∙ ap (integer_bytes true) f

whole-up-bytes : (a b k : ℕ) → a ≡ b + k → k < 32768 → encoded (whole a b) ≡ integer_bytes false k
whole-up-bytes a b k e h =
    let f : a - b ≡ k = omega arith in
    ap encoded (whole-up a b (omega arith)) ∙ ap (λ (n : ℕ). encoded (pos (n * 65536))) f ∙ up-bytes k h

whole-down-bytes : (a b k : ℕ) → b ≡ a + k → 0 < k → k < 32768 → encoded (whole a b) ≡ integer_bytes true k
whole-down-bytes a b k e p h =
    let m = k * 65536 - 1 in
    ap encoded (whole-down a b m (omega arith)) ∙ down-bytes k m h (omega arith)

one_byte : (v : ℕ) → 32 ≤ v → v < 247 → encoded (whole v 139) ≡ v ∷ []
one_byte v h k = go (dec_le 139 v)
  where
    go : Dec (139 ≤ v) → encoded (whole v 139) ≡ v ∷ []
    go (yes p) =
        let e : 139 + (v - 139) ≡ v = omega arith in
        whole-up-bytes v 139 (v - 139) (omega arith) (omega arith) ∙ sym (one_pos false (v - 139) refl (omega arith)) ∙ ap (λ (n : ℕ). n ∷ []) e
    go (no p) =
        let e : 139 - (139 - v) ≡ v = omega arith in
        whole-down-bytes v 139 (139 - v) (omega arith) (omega arith) (omega arith) ∙ sym (one-neg true (139 - v) refl (omega arith)) ∙ ap (λ (n : ℕ). n ∷ []) e

pair-of : (a b v w : ℕ) → a ≡ v → b ≡ w → (a ∷ b ∷ []) ≡ v ∷ w ∷ []
pair-of a b v w e f = ap (λ (n : ℕ). n ∷ b ∷ []) e ∙ ap (λ (n : ℕ). v ∷ n ∷ []) f

two_up : (v w : ℕ) → 247 ≤ v → v < 251 → w < 256 → encoded (whole ((v - 247) * 256 + w + 108) 0) ≡ v ∷ w ∷ []
two_up v w h k l =
    let n = (v - 247) * 256 + w + 108 in
    whole-up-bytes n 0 n (omega arith) (omega arith) ∙ sym (two_pos false n refl (omega arith) (omega arith))
    ∙ pair-of ((n - 108) / 256 + 247) ((n - 108) % 256) v w (omega arith) (omega arith)

two_down : (v w : ℕ) → 251 ≤ v → v < 255 → w < 256 → encoded (whole 0 ((v - 251) * 256 + w + 108)) ≡ v ∷ w ∷ []
two_down v w h k l =
    let n = (v - 251) * 256 + w + 108 in
    whole-down-bytes 0 n n (omega arith) (omega arith) (omega arith) ∙ sym (two-neg true n refl (omega arith) (omega arith))
    ∙ pair-of ((n - 108) / 256 + 251) ((n - 108) % 256) v w (omega arith) (omega arith)

three_up : (n : ℕ) → 1131 < n → n < 32768 → encoded (whole n 0) ≡ 28 ∷ bytes_of 2 n
three_up n h k = whole-up-bytes n 0 n (omega arith) k ∙ sym (three_pos false n refl h)

three_down : (n : ℕ) → 32768 < n → n < 64405 → encoded (whole n 65536) ≡ 28 ∷ bytes_of 2 n
three_down n h k =
    let e : 65536 - (65536 - n) ≡ n = omega arith in
    whole-down-bytes n 65536 (65536 - n) (omega arith) (omega arith) (omega arith) ∙ sym (three-neg true (65536 - n) refl (omega arith))
    ∙ ap (λ (m : ℕ). 28 ∷ bytes_of 2 m) e

two-of : (n a b : ℕ) → n ≡ a * 256 + b → a < 256 → b < 256 → bytes_of 2 n ≡ a ∷ b ∷ []
unfolding bytes_of
two-of n a b e h k = pair-of (n / 256 % 256) (n % 256) a b (omega arith) (omega arith)

-- ---- the bytes of a 16.16 between -256 and 256 that is no integer

four-of : (n a b c d : ℕ) → n ≡ (a * 256 + b) * 65536 + (c * 256 + d) → a < 256 → b < 256 → c < 256 → d < 256 → bytes_of 4 n ≡ a ∷ b ∷ c ∷ d ∷ []
unfolding bytes_of
four-of n a b c d e ha hb hc hd =
    let p : n / 256 / 256 / 256 % 256 ≡ a = omega arith in
    let q : n / 256 / 256 % 256 ≡ b = omega arith in
    let r : n / 256 % 256 ≡ c = omega arith in
    let s : n % 256 ≡ d = omega arith in
    ap (λ (x : ℕ). x ∷ (n / 256 / 256 % 256) ∷ (n / 256 % 256) ∷ (n % 256) ∷ []) p
    ∙ ap (λ (x : ℕ). a ∷ x ∷ (n / 256 % 256) ∷ (n % 256) ∷ []) q ∙ ap (λ (x : ℕ). a ∷ b ∷ x ∷ (n % 256) ∷ []) r ∙ ap (λ (x : ℕ). a ∷ b ∷ c ∷ x ∷ []) s

fixed-up : (h l : ℕ) → h < 256 → fixed h l ≡ pos (h * 65536 + l)
fixed-up h l k =
    let m : h < 32768 = omega arith in
    let e : h * 65536 + l - 0 ≡ h * 65536 + l = omega arith in
    rw (lt-ltb h 32768 m, le-leb 0 (h * 65536 + l) (omega arith)) (ap pos e)

fixed-down : (h l m : ℕ) → 65279 < h → l < 65536 → h * 65536 + l + suc m ≡ 4294967296 → fixed h l ≡ negsuc m
fixed-down h l m k j e =
    let u : 32768 ≤ h = omega arith in
    let d : 4294967296 - (h * 65536 + l) ≡ suc m = omega arith in
    rw (le-ltb h 32768 u, lt-leb 4294967296 (h * 65536 + l) (omega arith)) (ap (λ (n : ℕ). neg_ℤ (pos n)) d)

up-reading : (n : ℕ) → n < 16777216 → Reading (pos n)
up-reading n h = record { small = omega arith; kept = rounded_pos n ∙ ap pos (keep-small n h) }

down-reading : (m : ℕ) → suc m < 16777216 → Reading (negsuc m)
down-reading m h = record { small = omega arith; kept = rounded-neg (suc m) ∙ ap (λ (n : ℕ). neg_ℤ (pos n)) (keep-small (suc m) h) }

up-fraction : (n : ℕ) → n < 16777216 → (n % 65536 ≡ 0 → ⊥) → encoded (pos n) ≡ 255 ∷ bytes_of 4 n
up-fraction n h k = sym (fixed_pos false n refl (omega arith) ∙ encoded-fraction (pos n) false n refl refl k)

down-fraction : (m v : ℕ) → v + suc m ≡ 4294967296 → (suc m % 65536 ≡ 0 → ⊥) → encoded (negsuc m) ≡ 255 ∷ bytes_of 4 v
down-fraction m v e k =
    let d : 4294967296 - suc m ≡ v = omega arith in
    sym (ap (λ (n : ℕ). 255 ∷ bytes_of 4 n) (sym d) ∙ fixed-neg true (suc m) refl ∙ encoded-fraction (negsuc m) true (suc m) refl refl k)

-- ---- the bytes at a place

pub part-one : (s : List ℕ) (at : ℕ) → at < length s → part s at (at + 1) ≡ get_or s at 0 ∷ []
part-one s at h =
    let e : at + 1 - at ≡ 1 = omega arith in
    ap (λ (n : ℕ). take n (drop at s)) e ∙ ap (take 1) (drop-cons s at 0 h)

part-two : (s : List ℕ) (at : ℕ) → at + 1 < length s → part s at (at + 2) ≡ get_or s at 0 ∷ get_or s (at + 1) 0 ∷ []
part-two s at h =
    let e : at + 2 - at ≡ 2 = omega arith in
    let f : suc at ≡ at + 1 = omega arith in
    let g : drop (suc at) s ≡ get_or s (at + 1) 0 ∷ drop (suc (at + 1)) s = ap (λ (n : ℕ). drop n s) f ∙ drop-cons s (at + 1) 0 h in
    ap (λ (n : ℕ). take n (drop at s)) e ∙ ap (take 2) (drop-cons s at 0 (omega arith)) ∙ ap (λ (l : List ℕ). take 2 (get_or s at 0 ∷ l)) g

take_next : (s : List ℕ) (k i j : ℕ) → j ≡ i + 1 → i < length s → take (suc k) (drop i s) ≡ get_or s i 0 ∷ take k (drop j s)
take_next s k i j e h =
    let f : suc i ≡ j = omega arith in
    ap (take (suc k)) (drop-cons s i 0 h) ∙ ap (λ (n : ℕ). get_or s i 0 ∷ take k (drop n s)) f

part-three : (s : List ℕ) (at : ℕ) → 3 ≤ length s - at → part s at (at + 3) ≡ get_or s at 0 ∷ get_or s (at + 1) 0 ∷ get_or s (at + 2) 0 ∷ []
part-three s at h =
    let e : at + 3 - at ≡ 3 = omega arith in
    ap (λ (n : ℕ). take n (drop at s)) e ∙ take_next s 2 at (at + 1) (omega arith) (omega arith)
    ∙ ap (λ (l : List ℕ). get_or s at 0 ∷ l) (take_next s 1 (at + 1) (at + 2) (omega arith) (omega arith)
    ∙ ap (λ (l : List ℕ). get_or s (at + 1) 0 ∷ l) (take_next s 0 (at + 2) (at + 3) (omega arith) (omega arith)))

part_five : (s : List ℕ) (at : ℕ) → 5 ≤ length s - at
    → part s at (at + 5) ≡ get_or s at 0 ∷ get_or s (at + 1) 0 ∷ get_or s (at + 2) 0 ∷ get_or s (at + 3) 0 ∷ get_or s (at + 4) 0 ∷ []
part_five s at h =
    let e : at + 5 - at ≡ 5 = omega arith in
    ap (λ (n : ℕ). take n (drop at s)) e ∙ take_next s 4 at (at + 1) (omega arith) (omega arith)
    ∙ ap (λ (l : List ℕ). get_or s at 0 ∷ l) (take_next s 3 (at + 1) (at + 2) (omega arith) (omega arith)
    ∙ ap (λ (l : List ℕ). get_or s (at + 1) 0 ∷ l) (take_next s 2 (at + 2) (at + 3) (omega arith) (omega arith)
    ∙ ap (λ (l : List ℕ). get_or s (at + 2) 0 ∷ l) (take_next s 1 (at + 3) (at + 4) (omega arith) (omega arith)
    ∙ ap (λ (l : List ℕ). get_or s (at + 3) 0 ∷ l) (take_next s 0 (at + 4) (at + 5) (omega arith) (omega arith)))))

-- ---- how long a plain token is, as the code finds it

pub none_there : {A : Type 0} (n : ℕ) → Some n ≡ None → A
none_there n e = absurd (zero_one cc)

as_pick : (t : Bool) (n : ℕ) → then_some t n ≡ pick t (Some n) None
as_pick true n = refl
as_pick false n = refl

module _ (s : List ℕ) (at : ℕ) where
  pub plain-three : get_or s at 0 ≡ 28 → (n : Option ℕ) → n ≡ three_len s at → n ≡ plain_len s at
  unfolding plain_len
  plain-three v n e = let l : get_or s at 0 < 32 = omega arith in rw (lt-ltb (get_or s at 0) 32 l, eq-eqb (get_or s at 0) 28 v) e

  pub plain-operator : get_or s at 0 < 32 → (get_or s at 0 ≡ 28 → ⊥) → (t : Bool) → t ≡ is_plain (get_or s at 0) → then_some t 1 ≡ plain_len s at
  unfolding plain_len
  plain-operator l d t e = rw (lt-ltb (get_or s at 0) 32 l, sym e, ne_eqb (get_or s at 0) 28 d) (as_pick t 1)

  pub plain-one : 32 ≤ get_or s at 0 → get_or s at 0 < 247 → Some 1 ≡ plain_len s at
  unfolding plain_len
  plain-one l k = rw (le-ltb (get_or s at 0) 32 l, lt-ltb (get_or s at 0) 247 k)

  pub plain-cut : 247 ≤ get_or s at 0 → get_or s at 0 < 255 → length s - at < 2 → None ≡ plain_len s at
  unfolding plain_len
  plain-cut l k m =
      let q : 32 ≤ get_or s at 0 = omega arith in
      rw (le-ltb (get_or s at 0) 32 q, le-ltb (get_or s at 0) 247 l, lt-ltb (get_or s at 0) 255 k, lt-ltb (length s - at) 2 m)

  pub plain-two : 247 ≤ get_or s at 0 → get_or s at 0 < 255 → 2 ≤ length s - at → Some 2 ≡ plain_len s at
  unfolding plain_len
  plain-two l k m =
      let q : 32 ≤ get_or s at 0 = omega arith in
      rw (le-ltb (get_or s at 0) 32 q, le-ltb (get_or s at 0) 247 l, lt-ltb (get_or s at 0) 255 k, le-ltb (length s - at) 2 m)

  pub plain_five : 255 ≤ get_or s at 0 → (n : Option ℕ) → n ≡ five_len s at → n ≡ plain_len s at
  unfolding plain_len
  plain_five l n e =
      let q : 32 ≤ get_or s at 0 = omega arith in
      let p : 247 ≤ get_or s at 0 = omega arith in
      rw (le-ltb (get_or s at 0) 32 q, le-ltb (get_or s at 0) 247 p, le-ltb (get_or s at 0) 255 l) e

  pub three-cut : length s - at < 3 → None ≡ three_len s at
  unfolding three_len
  three-cut l = rw (lt-ltb (length s - at) 3 l)

  pub three-told : 3 ≤ length s - at → (t : Bool) (n : ℕ) → t ≡ is_three_lem n → n ≡ get_or s (at + 1) 0 * 256 + get_or s (at + 2) 0 → then_some t 3 ≡ three_len s at
  unfolding three_len
  three-told l t n f e = rw (le-ltb (length s - at) 3 l) (as_pick t 3 ∙ ap (λ (x : Bool). pick x (Some 3) None) (f ∙ ap is_three_lem e))

  pub five_cut : length s - at < 5 → None ≡ five_len s at
  unfolding five_len
  five_cut l = rw (lt-ltb (length s - at) 5 l)

  pub five_told : 5 ≤ length s - at → (t : Bool) (h l : ℕ) → t ≡ is_five_lem h l → h ≡ get_or s (at + 1) 0 * 256 + get_or s (at + 2) 0
      → l ≡ get_or s (at + 3) 0 * 256 + get_or s (at + 4) 0 → then_some t 5 ≡ five_len s at
  unfolding five_len
  five_told k t h l f e g =
      rw (le-ltb (length s - at) 5 k)
      (as_pick t 5
      ∙ ap (λ (x : Bool). pick x (Some 5) None) (f ∙ ap (λ (x : ℕ). is_five_lem x l) e ∙ ap (is_five_lem (get_or s (at + 1) 0 * 256 + get_or s (at + 2) 0)) g))

-- ---- what the tests of a first byte and of longer numbers tell

pub operates_told : (v : ℕ) → is_operator v ≡ true → OperatorByte v
operates_told v e = go (ltb v 32) refl
  where
    go : (a : Bool) → ltb v 32 ≡ a → OperatorByte v
    go false p = absurd (false≢true (sym (ap (λ (t : Bool). pick t (not (eqb v 28)) false) p) ∙ e))
    go true p =
        let f : eqb v 28 ≡ false = not-true _ (sym (ap (λ (t : Bool). pick t (not (eqb v 28)) false) p) ∙ e) in
        record { low = ltb-true v 32 p; other = eqb-false v 28 f }

three_facts : (n : ℕ) → is_three_lem n ≡ true → (1131 < n) × (n ≡ 32768 → ⊥) × (n < 64405)
unfolding is_three_lem
three_facts n e = go (ltb n 1132) refl (eqb n 32768) refl
  where
    go : (a : Bool) → ltb n 1132 ≡ a → (b : Bool) → eqb n 32768 ≡ b → (1131 < n) × (n ≡ 32768 → ⊥) × (n < 64405)
    go true p b q = absurd (false≢true (sym (ap (λ (t : Bool). pick t false (pick (eqb n 32768) false (ltb n 64405))) p) ∙ e))
    go false p true q =
        absurd (false≢true (sym (ap (λ (t : Bool). pick t false (pick (eqb n 32768) false (ltb n 64405))) p ∙ ap (λ (t : Bool). pick t false (ltb n 64405)) q) ∙ e))
    go false p false q =
        let r : ltb n 64405 ≡ true = sym (ap (λ (t : Bool). pick t false (pick (eqb n 32768) false (ltb n 64405))) p ∙ ap (λ (t : Bool). pick t false (ltb n 64405)) q) ∙ e in
        let f = ltb-false n 1132 p in
        (omega arith, eqb-false n 32768 q, ltb-true n 64405 r)

five_facts : (h l : ℕ) → is_five_lem h l ≡ true → (l ≡ 0 → ⊥) × ((h < 256 → ⊥) → 65279 < h)
unfolding is_five_lem
five_facts h l e = go (eqb l 0) refl (ltb h 256) refl
  where
    go : (a : Bool) → eqb l 0 ≡ a → (b : Bool) → ltb h 256 ≡ b → (l ≡ 0 → ⊥) × ((h < 256 → ⊥) → 65279 < h)
    go true p b q = absurd (false≢true (sym (ap (λ (t : Bool). pick t false (pick (ltb h 256) true (ltb 65279 h))) p) ∙ e))
    go false p true q = (eqb-false l 0 p, λ n. absurd (n (ltb-true h 256 q)))
    go false p false q =
        let r : ltb 65279 h ≡ true = sym (ap (λ (t : Bool). pick t false (pick (ltb h 256) true (ltb 65279 h))) p ∙ ap (λ (t : Bool). pick t true (ltb 65279 h)) q) ∙ e in
        (eqb-false l 0 p, λ n. ltb-true 65279 h r)

above : (n m : ℕ) → m ≤ n → (n ≡ m → ⊥) → m < n
above n m h d = go (dec_lt m n)
  where
    go : Dec (m < n) → m < n
    go (yes p) = p
    go (no p) = absurd (d (omega arith))

-- ---- a plain number

module _ (s : List ℕ) (at : ℕ) (b : Octets s) (h : at < length s) where
  short-one : 32 ≤ get_or s at 0 → get_or s at 0 < 247 → ShortAt s at (at + 1)
  short-one l k =
      let v = get_or s at 0 in
      let r = whole-reading v 139 (omega arith) (omega arith) in
      record {
        value = whole v 139;
        reads = form_1 s at l k ∙ ap (λ (z : ℤ). number z (at + 1)) r.kept;
        reading = r;
        own = one_byte v l k ∙ sym (part-one s at h);
        further = omega arith;
        inside = omega arith;
      }

  short-two : 247 ≤ get_or s at 0 → get_or s at 0 < 255 → 2 ≤ length s - at → ShortAt s at (at + 2)
  short-two l k m = go (dec_lt (get_or s at 0) 251)
    where
      go : Dec (get_or s at 0 < 251) → ShortAt s at (at + 2)
      go (yes p) =
          let n = (get_or s at 0 - 247) * 256 + get_or s (at + 1) 0 + 108 in
          let w = b (at + 1) in
          let r = whole-reading n 0 (omega arith) (omega arith) in
          record {
            value = whole n 0;
            reads = form_up s at l p ∙ long s at 2 (whole n 0) m ∙ ap (λ (z : ℤ). number z (at + 2)) r.kept;
            reading = r;
            own = two_up (get_or s at 0) (get_or s (at + 1) 0) l p w ∙ sym (part-two s at (omega arith));
            further = omega arith;
            inside = omega arith;
          }
      go (no p) =
          let n = (get_or s at 0 - 251) * 256 + get_or s (at + 1) 0 + 108 in
          let w = b (at + 1) in
          let r = whole-reading 0 n (omega arith) (omega arith) in
          record {
            value = whole 0 n;
            reads = form_down s at (omega arith) k ∙ long s at 2 (whole 0 n) m ∙ ap (λ (z : ℤ). number z (at + 2)) r.kept;
            reading = r;
            own = two_down (get_or s at 0) (get_or s (at + 1) 0) (omega arith) k w ∙ sym (part-two s at (omega arith));
            further = omega arith;
            inside = omega arith;
          }

  short-three : get_or s at 0 ≡ 28 → 3 ≤ length s - at → is_three_lem (get_or s (at + 1) 0 * 256 + get_or s (at + 2) 0) ≡ true → ShortAt s at (at + 3)
  short-three v m t = go (dec_lt n 32768)
    where
      n : ℕ
      n = get_or s (at + 1) 0 * 256 + get_or s (at + 2) 0

      facts : (1131 < n) × (n ≡ 32768 → ⊥) × (n < 64405)
      facts = three_facts n t

      own : encoded (sixteen n) ≡ 28 ∷ bytes_of 2 n → encoded (sixteen n) ≡ part s at (at + 3)
      own e =
          e ∙ ap (λ (l : List ℕ). 28 ∷ l) (two-of n (get_or s (at + 1) 0) (get_or s (at + 2) 0) refl (b (at + 1)) (b (at + 2)))
          ∙ ap (λ (x : ℕ). x ∷ get_or s (at + 1) 0 ∷ get_or s (at + 2) 0 ∷ []) (sym v) ∙ sym (part-three s at m)

      short : Reading (sixteen n) → encoded (sixteen n) ≡ 28 ∷ bytes_of 2 n → ShortAt s at (at + 3)
      short r e = record {
        value = sixteen n;
        reads = form_28 s at v ∙ long s at 3 (sixteen n) m ∙ ap (λ (z : ℤ). number z (at + 3)) r.kept;
        reading = r;
        own = own e;
        further = omega arith;
        inside = omega arith;
      }

      go : Dec (n < 32768) → ShortAt s at (at + 3)
      go (yes p) =
          let e : sixteen n ≡ whole n 0 = rw (lt-ltb n 32768 p) in
          short (subst Reading (sym e) (whole-reading n 0 (omega arith) (omega arith))) (ap encoded e ∙ three_up n facts.0 p)
      go (no p) =
          let e : sixteen n ≡ whole n 65536 = rw (le-ltb n 32768 (omega arith)) in
          let d = facts.1 in
          short (subst Reading (sym e) (whole-reading n 65536 (omega (arith, facts.2)) (omega arith)))
          (ap encoded e ∙ three_down n (above n 32768 (omega arith) d) facts.2)

  short_five : 255 ≤ get_or s at 0 → 5 ≤ length s - at
      → is_five_lem (get_or s (at + 1) 0 * 256 + get_or s (at + 2) 0) (get_or s (at + 3) 0 * 256 + get_or s (at + 4) 0) ≡ true → ShortAt s at (at + 5)
  short_five v m t = go (dec_lt hi 256)
    where
      hi : ℕ
      hi = get_or s (at + 1) 0 * 256 + get_or s (at + 2) 0

      lo : ℕ
      lo = get_or s (at + 3) 0 * 256 + get_or s (at + 4) 0

      facts : (lo ≡ 0 → ⊥) × ((hi < 256 → ⊥) → 65279 < hi)
      facts = five_facts hi lo t

      low : lo < 65536
      low = omega (arith, b (at + 3), b (at + 4))

      high : hi < 65536
      high = omega (arith, b (at + 1), b (at + 2))

      own : encoded (fixed hi lo) ≡ 255 ∷ bytes_of 4 (hi * 65536 + lo) → encoded (fixed hi lo) ≡ part s at (at + 5)
      own e =
          let f : 255 ≡ get_or s at 0 = omega (arith, b at) in
          e ∙ ap (λ (x : List ℕ). 255 ∷ x)
          (four-of (hi * 65536 + lo) (get_or s (at + 1) 0) (get_or s (at + 2) 0) (get_or s (at + 3) 0) (get_or s (at + 4) 0) refl (b (at + 1)) (b (at + 2)) (b (at + 3)) (b (at + 4)))
          ∙ ap (λ (x : ℕ). x ∷ get_or s (at + 1) 0 ∷ get_or s (at + 2) 0 ∷ get_or s (at + 3) 0 ∷ get_or s (at + 4) 0 ∷ []) f ∙ sym (part_five s at m)

      short : Reading (fixed hi lo) → encoded (fixed hi lo) ≡ 255 ∷ bytes_of 4 (hi * 65536 + lo) → ShortAt s at (at + 5)
      short r e = record {
        value = fixed hi lo;
        reads = form_ff s at v ∙ long s at 5 (fixed hi lo) m ∙ ap (λ (z : ℤ). number z (at + 5)) r.kept;
        reading = r;
        own = own e;
        further = omega arith;
        inside = omega arith;
      }

      go : Dec (hi < 256) → ShortAt s at (at + 5)
      go (yes p) =
          let e = fixed-up hi lo p in
          let n = hi * 65536 + lo in
          let k : n % 65536 ≡ lo = omega (arith, low) in
          short (subst Reading (sym e) (up-reading n (omega (arith, low)))) (ap encoded e ∙ up-fraction n (omega (arith, low)) (λ z. facts.0 (sym k ∙ z)))
      go (no p) =
          let u = facts.1 p in
          let some : 0 < lo = above lo 0 (omega arith) facts.0 in
          let x = 4294967295 - (hi * 65536 + lo) in
          let sum : hi * 65536 + lo + suc x ≡ 4294967296 = omega (arith, low, high) in
          let e = fixed-down hi lo x u low sum in
          short (subst Reading (sym e) (down-reading x (omega (arith, some, sum, u))))
          (ap encoded e ∙ down-fraction x (hi * 65536 + lo) sum (λ z. facts.0 (omega (arith, low, sum))))

  -- a number by its first byte, and how many bytes it has
  as_long : {n m : ℕ} → Some n ≡ Some m → ShortAt s at (at + m) → ShortAt s at (at + n)
  as_long {n} {m} e k = let f : m ≡ n = cc in subst (λ (x : ℕ). ShortAt s at (at + x)) f k

  from-three : get_or s at 0 ≡ 28 → (n : ℕ) → Some n ≡ three_len s at → ShortAt s at (at + n)
  unfolding three_len
  from-three v n e = go (dec_lt (length s - at) 3) (is_three_lem (get_or s (at + 1) 0 * 256 + get_or s (at + 2) 0)) refl
    where
      go : Dec (length s - at < 3) → (t : Bool) → is_three_lem (get_or s (at + 1) 0 * 256 + get_or s (at + 2) 0) ≡ t → ShortAt s at (at + n)
      go (yes p) t q = none_there _ (e ∙ rw (lt-ltb (length s - at) 3 p))
      go (no p) false q = none_there _ (e ∙ rw (le-ltb (length s - at) 3 (omega arith)) (ap (λ (u : Bool). pick u (Some 3) None) q))
      go (no p) true q = as_long (e ∙ rw (le-ltb (length s - at) 3 (omega arith)) (ap (λ (u : Bool). pick u (Some 3) None) q)) (short-three v (omega arith) q)

  from_five : 255 ≤ get_or s at 0 → (n : ℕ) → Some n ≡ five_len s at → ShortAt s at (at + n)
  unfolding five_len
  from_five v n e = go (dec_lt (length s - at) 5) (is_five_lem (get_or s (at + 1) 0 * 256 + get_or s (at + 2) 0) (get_or s (at + 3) 0 * 256 + get_or s (at + 4) 0)) refl
    where
      go : Dec (length s - at < 5) → (t : Bool) → is_five_lem (get_or s (at + 1) 0 * 256 + get_or s (at + 2) 0) (get_or s (at + 3) 0 * 256 + get_or s (at + 4) 0) ≡ t
          → ShortAt s at (at + n)
      go (yes p) t q = none_there _ (e ∙ rw (lt-ltb (length s - at) 5 p))
      go (no p) false q = none_there _ (e ∙ rw (le-ltb (length s - at) 5 (omega arith)) (ap (λ (u : Bool). pick u (Some 5) None) q))
      go (no p) true q = as_long (e ∙ rw (le-ltb (length s - at) 5 (omega arith)) (ap (λ (u : Bool). pick u (Some 5) None) q)) (short_five v (omega arith) q)

  from-high : 32 ≤ get_or s at 0 → (n : ℕ) → Some n ≡ plain_len s at → ShortAt s at (at + n)
  from-high l n e = go (dec_lt (get_or s at 0) 247) (dec_lt (get_or s at 0) 255) (dec_lt (length s - at) 2)
    where
      go : Dec (get_or s at 0 < 247) → Dec (get_or s at 0 < 255) → Dec (length s - at < 2) → ShortAt s at (at + n)
      go (yes p) q r = as_long (e ∙ sym (plain-one s at l p)) (short-one l p)
      go (no p) (yes q) (no r) = as_long (e ∙ sym (plain-two s at (omega arith) q (omega arith))) (short-two (omega arith) q (omega arith))
      go (no p) (yes q) (yes r) = none_there _ (e ∙ sym (plain-cut s at (omega arith) q r))
      go (no p) (no q) r = let v : 255 ≤ get_or s at 0 = omega arith in from_five v n (e ∙ sym (plain_five s at v (five_len s at) refl))

  -- a byte that is no operator begins a number
  pub short-at : is_operator (get_or s at 0) ≡ false → (n : ℕ) → Some n ≡ plain_len s at → ShortAt s at (at + n)
  short-at o n e = go (dec_lt (get_or s at 0) 32)
    where
      go : Dec (get_or s at 0 < 32) → ShortAt s at (at + n)
      go (no p) = from-high (omega arith) n e
      go (yes p) =
          let t : eqb (get_or s at 0) 28 ≡ true = not-false _ (sym (ap (λ (u : Bool). pick u (not (eqb (get_or s at 0) 28)) false) (lt-ltb (get_or s at 0) 32 p)) ∙ o) in
          let v = eqb-true (get_or s at 0) 28 t in
          from-three v n (e ∙ sym (plain-three s at v (three_len s at) refl))
