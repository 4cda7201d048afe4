-- A number that was written reads back: the bytes of a reading read as that reading, whatever follows them.
use Rattle.std.specs.Prelude.{◌≡◌, refl, List, [], ◌∷◌, ◌++◌, true, false, ℕ, suc, ◌+◌, ◌-◌, ◌*◌, ◌/◌, ◌%◌, ◌≤◌, ◌<◌, ℤ, pos, negsuc, neg_ℤ, length, drop, get_or}
use Rattle.std.proofs.Common.{sym, ap, ◌∙◌, subst, arith, lit<, lt-ltb, le-ltb, le-leb}
use Rattle.std.proofs.Math.Decide.{dec_lt, dec_le}
use Rattle.std.proofs.lemmas.Bool.{lt-leb}
use Rattle.octets.specs.Octets.{bytes_of}
use Rattle.octets.specs.ListLaws.{lies_at, lies_first, lies_length}
use Rattle.type2_number.specs.Number.{diff, mag, is_neg, keep24, rounded, whole, fixed, sixteen, number, number_at, Reading}
use Rattle.type2_number.specs.Encoding.{integer_bytes, encoded}
use Rattle.type2_number.specs.NumberLaws.{long, form_28, form_1, form_up, form_down, form_ff}
use Rattle.type2_number.specs.EncodingLaws.{one-neg, one_pos, two-neg, two_pos, three-neg, three_pos, fixed-neg, fixed_pos, fixed-top, encoded-fraction, encoded-integer, encoded_big}

diff-up : (a b c : ℕ) → a ≡ b + c → diff a b ≡ pos c
diff-up a b c e = rw (le-leb b a (omega arith)) (ap pos (omega arith))

diff-down : (a b c : ℕ) → 0 < c → a + c ≡ b → diff a b ≡ neg_ℤ (pos c)
diff-down a b c h e = let m : b - a ≡ c = omega arith in rw (lt-leb b a (omega arith)) (ap (λ (n : ℕ). neg_ℤ (pos n)) m)

two_bytes : (v : ℕ) → bytes_of 2 v ≡ (v / 256 % 256) ∷ (v % 256) ∷ []
unfolding bytes_of
two_bytes v = refl

four_bytes : (v : ℕ) → bytes_of 4 v ≡ (v / 256 / 256 / 256 % 256) ∷ (v / 256 / 256 % 256) ∷ (v / 256 % 256) ∷ (v % 256) ∷ []
unfolding bytes_of
four_bytes v = refl

module _ (b : List ℕ) (at : ℕ) (post : List ℕ) where
  back_one : (v : ℕ) (z : ℤ) → 32 ≤ v → v < 247 → drop at b ≡ v ∷ post → whole v 139 ≡ z → rounded z ≡ z → number_at b at ≡ number z (at + 1)
  back_one v z h k lies e r =
      let f : get_or b at 0 ≡ v = lies_first b at _ lies in
      form_1 b at (omega arith) (omega arith) ∙ ap (λ (x : ℤ). number (rounded x) (at + 1)) (ap (λ (w : ℕ). whole w 139) f ∙ e) ∙ ap (λ (x : ℤ). number x (at + 1)) r

  back-up : (v w : ℕ) (z : ℤ) → 247 ≤ v → v < 251 → drop at b ≡ v ∷ w ∷ post → whole ((v - 247) * 256 + w + 108) 0 ≡ z → rounded z ≡ z
      → number_at b at ≡ number z (at + 2)
  back-up v w z h k lies e r =
      let f : get_or b at 0 ≡ v = lies_first b at _ lies in
      let g : get_or b (at + 1) 0 ≡ w = lies_at b at _ lies 1 in
      let n : 2 ≤ length b - at = omega (arith, lies_length b at _ lies) in
      form_up b at (omega arith) (omega arith) ∙ long b at 2 _ n
      ∙ ap (λ (x : ℤ). number (rounded x) (at + 2)) (ap (λ (x : ℕ). whole ((x - 247) * 256 + get_or b (at + 1) 0 + 108) 0) f ∙ ap (λ (x : ℕ). whole ((v - 247) * 256 + x + 108) 0) g ∙ e)
      ∙ ap (λ (x : ℤ). number x (at + 2)) r

  back-down : (v w : ℕ) (z : ℤ) → 251 ≤ v → v < 255 → drop at b ≡ v ∷ w ∷ post → whole 0 ((v - 251) * 256 + w + 108) ≡ z → rounded z ≡ z
      → number_at b at ≡ number z (at + 2)
  back-down v w z h k lies e r =
      let f : get_or b at 0 ≡ v = lies_first b at _ lies in
      let g : get_or b (at + 1) 0 ≡ w = lies_at b at _ lies 1 in
      let n : 2 ≤ length b - at = omega (arith, lies_length b at _ lies) in
      form_down b at (omega arith) (omega arith) ∙ long b at 2 _ n
      ∙ ap (λ (x : ℤ). number (rounded x) (at + 2)) (ap (λ (x : ℕ). whole 0 ((x - 251) * 256 + get_or b (at + 1) 0 + 108)) f ∙ ap (λ (x : ℕ). whole 0 ((v - 251) * 256 + x + 108)) g ∙ e)
      ∙ ap (λ (x : ℤ). number x (at + 2)) r

  back_28 : (v : ℕ) (z : ℤ) → v < 65536 → drop at b ≡ 28 ∷ (bytes_of 2 v ++ post) → sixteen v ≡ z → rounded z ≡ z → number_at b at ≡ number z (at + 3)
  back_28 v z h lies e r =
      let lies' : drop at b ≡ 28 ∷ (v / 256 % 256) ∷ (v % 256) ∷ post = lies ∙ ap (λ (l : List ℕ). 28 ∷ (l ++ post)) (two_bytes v) in
      let f : get_or b at 0 ≡ 28 = lies_first b at _ lies' in
      let g : get_or b (at + 1) 0 ≡ v / 256 % 256 = lies_at b at _ lies' 1 in
      let k : get_or b (at + 2) 0 ≡ v % 256 = lies_at b at _ lies' 2 in
      let n : 3 ≤ length b - at = omega (arith, lies_length b at _ lies') in
      let m : get_or b (at + 1) 0 * 256 + get_or b (at + 2) 0 ≡ v = omega arith in
      form_28 b at f ∙ long b at 3 _ n ∙ ap (λ (x : ℤ). number (rounded x) (at + 3)) (ap sixteen m ∙ e) ∙ ap (λ (x : ℤ). number x (at + 3)) r

  back_ff : (v : ℕ) (y z : ℤ) → v < 4294967296 → drop at b ≡ 255 ∷ (bytes_of 4 v ++ post) → fixed (v / 65536) (v % 65536) ≡ y → rounded y ≡ z
      → number_at b at ≡ number z (at + 5)
  back_ff v y z h lies e r =
      let lies' : drop at b ≡ 255 ∷ (v / 256 / 256 / 256 % 256) ∷ (v / 256 / 256 % 256) ∷ (v / 256 % 256) ∷ (v % 256) ∷ post
      = lies ∙ ap (λ (l : List ℕ). 255 ∷ (l ++ post)) (four_bytes v) in
      let f : get_or b at 0 ≡ 255 = lies_first b at _ lies' in
      let b1 : get_or b (at + 1) 0 ≡ v / 256 / 256 / 256 % 256 = lies_at b at _ lies' 1 in
      let b2 : get_or b (at + 2) 0 ≡ v / 256 / 256 % 256 = lies_at b at _ lies' 2 in
      let b3 : get_or b (at + 3) 0 ≡ v / 256 % 256 = lies_at b at _ lies' 3 in
      let b4 : get_or b (at + 4) 0 ≡ v % 256 = lies_at b at _ lies' 4 in
      let n : 5 ≤ length b - at = omega (arith, lies_length b at _ lies') in
      let hi : get_or b (at + 1) 0 * 256 + get_or b (at + 2) 0 ≡ v / 65536 = omega arith in
      let lo : get_or b (at + 3) 0 * 256 + get_or b (at + 4) 0 ≡ v % 65536 = omega arith in
      form_ff b at (omega arith) ∙ long b at 5 _ n
      ∙ ap (λ (x : ℤ). number (rounded x) (at + 5)) (ap (λ (x : ℕ). fixed x (get_or b (at + 3) 0 * 256 + get_or b (at + 4) 0)) hi ∙ ap (fixed (v / 65536)) lo ∙ e)
      ∙ ap (λ (x : ℤ). number x (at + 5)) r

fixed-low : (v : ℕ) → v < 2147483648 → fixed (v / 65536) (v % 65536) ≡ pos v
fixed-low v h = let k : v / 65536 < 32768 = omega arith in rw (lt-ltb (v / 65536) 32768 k) (diff-up (v / 65536 * 65536 + v % 65536) 0 v (omega arith))

fixed-high : (v n : ℕ) → 0 < n → n ≤ 2147483648 → v + n ≡ 4294967296 → fixed (v / 65536) (v % 65536) ≡ neg_ℤ (pos n)
fixed-high v n p h e =
    let k : 32768 ≤ v / 65536 = omega arith in
    rw (le-ltb (v / 65536) 32768 k) (diff-down (v / 65536 * 65536 + v % 65536) 4294967296 n p (omega arith))

sixteen-low : (v : ℕ) → v < 32768 → sixteen v ≡ pos (v * 65536)
sixteen-low v h = rw (lt-ltb v 32768 h) (diff-up (v * 65536) 0 (v * 65536) (omega arith))

sixteen-high : (v i : ℕ) → 0 < i → i < 32768 → v + i ≡ 65536 → sixteen v ≡ neg_ℤ (pos (i * 65536))
sixteen-high v i p h e =
    let k : 32768 ≤ v = omega arith in
    rw (le-ltb v 32768 k) (diff-down (v * 65536) 4294967296 (i * 65536) (omega arith) (omega arith))

-- the bytes read as z, wherever they stand
Reads : ℤ → List ℕ → Type 0
Reads z bs = (b : List ℕ) (at : ℕ) (post : List ℕ) → drop at b ≡ bs ++ post → number_at b at ≡ number z (at + length bs)

reads_ff : (v : ℕ) (y z : ℤ) → v < 4294967296 → fixed (v / 65536) (v % 65536) ≡ y → rounded y ≡ z → Reads z (255 ∷ bytes_of 4 v)
unfolding Reads bytes_of
reads_ff v y z h e r b at post lies = back_ff b at post v y z h lies e r

reads_28 : (v : ℕ) (z : ℤ) → v < 65536 → sixteen v ≡ z → rounded z ≡ z → Reads z (28 ∷ bytes_of 2 v)
unfolding Reads bytes_of
reads_28 v z h e r b at post lies = back_28 b at post v z h lies e r

reads-one : (v : ℕ) (z : ℤ) → 32 ≤ v → v < 247 → whole v 139 ≡ z → rounded z ≡ z → Reads z (v ∷ [])
unfolding Reads
reads-one v z h k e r b at post lies = back_one b at post v z h k lies e r

reads_up : (v w : ℕ) (z : ℤ) → 247 ≤ v → v < 251 → whole ((v - 247) * 256 + w + 108) 0 ≡ z → rounded z ≡ z → Reads z (v ∷ w ∷ [])
unfolding Reads
reads_up v w z h k e r b at post lies = back-up b at post v w z h k lies e r

reads-down : (v w : ℕ) (z : ℤ) → 251 ≤ v → v < 255 → whole 0 ((v - 251) * 256 + w + 108) ≡ z → rounded z ≡ z → Reads z (v ∷ w ∷ [])
unfolding Reads
reads-down v w z h k e r b at post lies = back-down b at post v w z h k lies e r

-- an integer below 32768, up and down
integer-up : (i : ℕ) → i < 32768 → rounded (pos (i * 65536)) ≡ pos (i * 65536) → Reads (pos (i * 65536)) (integer_bytes false i)
integer-up i h r = go (dec_le i 107) (dec_le i 1131)
  where
    z : ℤ
    z = pos (i * 65536)

    go : Dec (i ≤ 107) → Dec (i ≤ 1131) → Reads z (integer_bytes false i)
    go (yes p) q = subst (Reads z) (one_pos false i refl p) (reads-one (139 + i) z (omega arith) (omega arith) (diff-up ((139 + i) * 65536) (139 * 65536) (i * 65536) (omega arith)) r)
    go (no p) (yes q) =
        subst (Reads z) (two_pos false i refl (omega arith) q)
        (reads_up ((i - 108) / 256 + 247) ((i - 108) % 256) z (omega arith) (omega arith)
        (diff-up ((((i - 108) / 256 + 247 - 247) * 256 + (i - 108) % 256 + 108) * 65536) 0 (i * 65536) (omega arith)) r)
    go (no p) (no q) = subst (Reads z) (three_pos false i refl (omega arith)) (reads_28 i z (omega arith) (sixteen-low i h) r)

integer-down : (i : ℕ) → 0 < i → i < 32768 → rounded (neg_ℤ (pos (i * 65536))) ≡ neg_ℤ (pos (i * 65536)) → Reads (neg_ℤ (pos (i * 65536))) (integer_bytes true i)
integer-down i o h r = go (dec_le i 107) (dec_le i 1131)
  where
    z : ℤ
    z = neg_ℤ (pos (i * 65536))

    go : Dec (i ≤ 107) → Dec (i ≤ 1131) → Reads z (integer_bytes true i)
    go (yes p) q = subst (Reads z) (one-neg true i refl p) (reads-one (139 - i) z (omega arith) (omega arith) (diff-down ((139 - i) * 65536) (139 * 65536) (i * 65536) (omega arith) (omega arith)) r)
    go (no p) (yes q) =
        subst (Reads z) (two-neg true i refl (omega arith) q)
        (reads-down ((i - 108) / 256 + 251) ((i - 108) % 256) z (omega arith) (omega arith)
        (diff-down 0 ((((i - 108) / 256 + 251 - 251) * 256 + (i - 108) % 256 + 108) * 65536) (i * 65536) (omega arith) (omega arith)) r)
    go (no p) (no q) = subst (Reads z) (three-neg true i refl (omega arith)) (reads_28 (65536 - i) z (omega arith) (sixteen-high (65536 - i) i o h (omega arith)) r)

-- the largest 16.16 reads as 32768
keep_largest : keep24 2147483647 ≡ 2147483648
unfolding keep24
keep_largest = refl

rounded_largest : rounded (pos 2147483647) ≡ pos 2147483648
unfolding rounded
rounded_largest = ap pos keep_largest

above : (n : ℕ) → n ≤ 2147483648 → rounded (pos n) ≡ pos n → Reads (pos n) (encoded (pos n))
above n h r = go (dec_lt 0 (n % 65536)) (dec_lt n 2147483648)
  where
    z : ℤ
    z = pos n

    go : Dec (0 < n % 65536) → Dec (n < 2147483648) → Reads z (encoded z)
    go (yes p) q =
        subst (Reads z) (fixed_pos false n refl (omega arith) ∙ encoded-fraction z false n refl refl (λ e. omega arith))
        (reads_ff n z z (omega arith) (fixed-low n (omega arith)) r)
    go (no p) (yes q) =
        let e : n / 65536 * 65536 ≡ n = omega arith in
        let s : rounded (pos (n / 65536 * 65536)) ≡ pos (n / 65536 * 65536) = rw e r in
        subst (Reads z) (encoded-integer z false n refl refl (omega arith) q)
        (subst (λ (m : ℕ). Reads (pos m) (integer_bytes false (n / 65536))) e (integer-up (n / 65536) (omega arith) s))
    go (no p) (no q) =
        let e : 2147483648 ≡ n = omega arith in
        subst (Reads z) (fixed-top false n refl (omega arith) ∙ encoded_big z false n refl refl (omega arith) (omega arith))
        (reads_ff 2147483647 (pos 2147483647) z (lit< tt) (fixed-low 2147483647 (lit< tt)) (rounded_largest ∙ ap pos e))

below : (n : ℕ) → 0 < n → n ≤ 2147483648 → (z : ℤ) → z ≡ neg_ℤ (pos n) → true ≡ is_neg z → n ≡ mag z → rounded z ≡ z → Reads z (encoded z)
below n o h z f t m r = go (dec_lt 0 (n % 65536)) (dec_lt n 2147483648)
  where
    minus : Reads z (255 ∷ bytes_of 4 (4294967296 - n))
    minus = reads_ff (4294967296 - n) z z (omega arith) (fixed-high (4294967296 - n) n o h (omega arith) ∙ sym f) r

    go : Dec (0 < n % 65536) → Dec (n < 2147483648) → Reads z (encoded z)
    go (yes p) q = subst (Reads z) (fixed-neg true n refl ∙ encoded-fraction z true n t m (λ e. omega arith)) minus
    go (no p) (yes q) =
        let e : n / 65536 * 65536 ≡ n = omega arith in
        let g : neg_ℤ (pos (n / 65536 * 65536)) ≡ z = ap (λ (k : ℕ). neg_ℤ (pos k)) e ∙ sym f in
        let s : rounded (neg_ℤ (pos (n / 65536 * 65536))) ≡ neg_ℤ (pos (n / 65536 * 65536)) = rw g r in
        subst (Reads z) (encoded-integer z true n t m (omega arith) q)
        (subst (λ (y : ℤ). Reads y (integer_bytes true (n / 65536))) g (integer-down (n / 65536) (omega arith) (omega arith) s))
    go (no p) (no q) = subst (Reads z) (fixed-neg true n refl ∙ encoded_big z true n t m (omega arith) (omega arith)) minus

all : (z : ℤ) → Reading z → Reads z (encoded z)
all (pos n) r = above n r.small r.kept
all (negsuc n) r = below (suc n) (omega arith) r.small (negsuc n) refl refl refl r.kept

-- a reading that stands somewhere in its encoding reads as that reading, with the place after it
pub number-back : (z : ℤ) → Reading z → (b : List ℕ) (at : ℕ) (post : List ℕ) → drop at b ≡ encoded z ++ post
    → number_at b at ≡ number z (at + length (encoded z))
unfolding Reads
number-back z r b at post lies = all z r b at post lies
