-- An integer that was written reads back, in each of its forms, whatever follows it.
use Rattle.std.specs.Prelude.{ℕ, ◌+◌, ◌-◌, ◌*◌, ◌/◌, ◌%◌, ◌≤◌, ◌<◌, ◌≡◌, refl, ◌⊎◌, Bool, true, false, List, [], ◌∷◌, ◌++◌, ltb, length, drop, get_or}
use Rattle.std.proofs.Common.{sym, ap, ◌∙◌, subst, inl, inr, eq-zero-or-pos, arith, lit<, lit≤, length-append, drop-drop, lt-ltb, le-ltb}
use Rattle.std.proofs.Math.Decide.{dec_le}
use Rattle.octets.specs.Pick.{pick}
use Rattle.octets.specs.Octets.{num_at, bytes_of}
use Rattle.octets.specs.OctetsLaws.{length-bytes, num-written}
use Rattle.octets.specs.ListLaws.{lies_at, lies_first, lies_length}
use Rattle.decimal.specs.declared.Decimal.{Decimal}
use Rattle.decimal.specs.Decimal.{normal}
use Rattle.decimal.specs.DecimalLaws.{normal-nought, whole-nought}
use Rattle.decimal.specs.Number.{Number, number, integer_at, twos_at, pair_at, number_at}
use Rattle.decimal.specs.NumberLaws.{integer-got, form_28, form_29, form_below, form_above, form_pair}
use Rattle.decimal.specs.Written.{int_bytes, int5_bytes}
use Rattle.decimal_write.specs.IntLaws.{one, two, three, five}

-- what stands behind the first of the bytes that lie at a place
pub next : (b : List ℕ) (at : ℕ) (l : List ℕ) → drop at b ≡ l → drop (at + 1) b ≡ drop 1 l
next b at l lies = sym (drop-drop 1 at b) ∙ ap (drop 1) lies

-- the bytes bs read as d, wherever they stand
abbrev pub Reads : Decimal → List ℕ → Type 0
Reads d bs = (b : List ℕ) (at : ℕ) (post : List ℕ) → drop at b ≡ bs ++ post → number_at b at ≡ number d (at + length bs)

-- ---- integers

reads-below : (v : ℕ) → 32 ≤ v → v < 139 → Reads (normal true (139 - v) 0 0) (v ∷ [])
reads-below v h k b at post lies =
    let f : get_or b at 0 ≡ v = lies_first b at _ lies in
    let n : at + 1 ≤ length b = omega (arith, lies_length b at _ lies) in
    form_below b at (omega arith) (omega arith) ∙ ap (λ (x : ℕ). integer_at b at 1 true (139 - x)) f ∙ integer-got b at 1 true (139 - v) n

reads-above : (v : ℕ) → 139 ≤ v → v < 247 → Reads (normal false (v - 139) 0 0) (v ∷ [])
reads-above v h k b at post lies =
    let f : get_or b at 0 ≡ v = lies_first b at _ lies in
    let n : at + 1 ≤ length b = omega (arith, lies_length b at _ lies) in
    form_above b at (omega arith) (omega arith) ∙ ap (λ (x : ℕ). integer_at b at 1 false (x - 139)) f ∙ integer-got b at 1 false (v - 139) n

pair-got : (b : List ℕ) (at v w : ℕ) (d : Decimal) → get_or b (at + 1) 0 ≡ w → at + 2 ≤ length b
    → pick (ltb v 251) (normal false ((v - 247) * 256 + w + 108) 0 0) (normal true ((v - 251) * 256 + w + 108) 0 0) ≡ d → pair_at b at v ≡ number d (at + 2)
pair-got b at v w d e h q =
    ap (λ (x : ℕ). pick (ltb v 251) (integer_at b at 2 false ((v - 247) * 256 + x + 108)) (integer_at b at 2 true ((v - 251) * 256 + x + 108))) e
    ∙ both (ltb v 251) (integer-got b at 2 false ((v - 247) * 256 + w + 108) h) (integer-got b at 2 true ((v - 251) * 256 + w + 108) h) ∙ ap (λ (x : Decimal). number x (at + 2)) q
  where
    both : (t : Bool) {x y : Number} {p r : Decimal} → x ≡ number p (at + 2) → y ≡ number r (at + 2) → pick t x y ≡ number (pick t p r) (at + 2)
    both true m n = m
    both false m n = n

reads-pair : (v w : ℕ) (d : Decimal) → 247 ≤ v → v < 255
    → pick (ltb v 251) (normal false ((v - 247) * 256 + w + 108) 0 0) (normal true ((v - 251) * 256 + w + 108) 0 0) ≡ d → Reads d (v ∷ w ∷ [])
reads-pair v w d h k q b at post lies =
    let f : get_or b at 0 ≡ v = lies_first b at _ lies in
    let n : at + 2 ≤ length b = omega (arith, lies_length b at _ lies) in
    form_pair b at (omega arith) (omega arith) ∙ ap (pair_at b at) f ∙ pair-got b at v w d (lies_at b at _ lies 1) n q

twos_got : (b : List ℕ) (at width half v : ℕ) (d : Decimal) → at + width ≤ length b → pick (ltb v half) (normal false v 0 0) (normal true (half * 2 - v) 0 0) ≡ d
    → twos_at b at width half v ≡ number d (at + width)
twos_got b at width half v d h q =
    both (ltb v half) (integer-got b at width false v h) (integer-got b at width true (half * 2 - v) h) ∙ ap (λ (x : Decimal). number x (at + width)) q
  where
    both : (t : Bool) {x y : Number} {p r : Decimal} → x ≡ number p (at + width) → y ≡ number r (at + width) → pick t x y ≡ number (pick t p r) (at + width)
    both true m n = m
    both false m n = n

reads_28 : (v : ℕ) (d : Decimal) → v < 65536 → pick (ltb v 32768) (normal false v 0 0) (normal true (65536 - v) 0 0) ≡ d → Reads d (28 ∷ bytes_of 2 v)
reads_28 v d h q b at post lies =
    let f : get_or b at 0 ≡ 28 = lies_first b at _ lies in
    let n : at + 3 ≤ length b = omega (arith, lies_length b at _ lies, length-append (bytes_of 2 v) post, length-bytes 2 v) in
    let m : num_at b (at + 1) 2 ≡ v = num-written b (at + 1) 2 v post h (next b at _ lies) in
    let l : at + 3 ≡ at + length (28 ∷ bytes_of 2 v) = omega (arith, length-bytes 2 v) in
    form_28 b at f ∙ ap (twos_at b at 3 32768) m ∙ twos_got b at 3 32768 v d n q ∙ ap (number d) l

reads_29 : (v : ℕ) (d : Decimal) → v < 4294967296 → pick (ltb v 2147483648) (normal false v 0 0) (normal true (4294967296 - v) 0 0) ≡ d → Reads d (29 ∷ bytes_of 4 v)
reads_29 v d h q b at post lies =
    let f : get_or b at 0 ≡ 29 = lies_first b at _ lies in
    let n : at + 5 ≤ length b = omega (arith, lies_length b at _ lies, length-append (bytes_of 4 v) post, length-bytes 4 v) in
    let m : num_at b (at + 1) 4 ≡ v = num-written b (at + 1) 4 v post h (next b at _ lies) in
    let l : at + 5 ≡ at + length (29 ∷ bytes_of 4 v) = omega (arith, length-bytes 4 v) in
    form_29 b at f ∙ ap (twos_at b at 5 2147483648) m ∙ twos_got b at 5 2147483648 v d n q ∙ ap (number d) l

-- the five-byte form of a number of 32 bits
pub reads_int5 : (s : Bool) (v : ℕ) → v ≤ pick s 2147483648 2147483647 → Reads (normal s v 0 0) (int5_bytes s v)
unfolding int5_bytes
reads_int5 false v h = reads_29 v (normal false v 0 0) (omega arith) (rw (lt-ltb v 2147483648 (omega arith)))
reads_int5 true v h = go (eq-zero-or-pos v)
  where
    go : (v ≡ 0) ⊎ (0 < v) → Reads (normal true v 0 0) (29 ∷ bytes_of 4 (4294967296 - v))
    go (inl e) = rw e (subst (λ (d : Decimal). Reads d (29 ∷ bytes_of 4 0)) (normal-nought false 0 0 ∙ sym (normal-nought true 0 0)) (reads_29 0 (normal false 0 0 0) (lit< tt) refl))
    go (inr p) =
        let m : 4294967296 - (4294967296 - v) ≡ v = omega arith in
        reads_29 (4294967296 - v) (normal true v 0 0) (omega arith) (rw (le-ltb (4294967296 - v) 2147483648 (omega arith), m))

-- the shortest form, up and down
int_up : (v : ℕ) → v ≤ 2147483647 → Reads (normal false v 0 0) (int_bytes false v)
int_up v h = go (dec_le v 107) (dec_le v 1131) (dec_le v 32767)
  where
    d : Decimal
    d = normal false v 0 0

    go : Dec (v ≤ 107) → Dec (v ≤ 1131) → Dec (v ≤ 32767) → Reads d (int_bytes false v)
    go (yes p) q r =
        let m : 139 + v - 139 ≡ v = omega arith in
        rw (one false v p) (subst (λ (n : ℕ). Reads (normal false n 0 0) ((139 + v) ∷ [])) m (reads-above (139 + v) (omega arith) (omega arith)))
    go (no p) (yes q) r =
        let a = (v - 108) / 256 + 247 in
        let m : (a - 247) * 256 + (v - 108) % 256 + 108 ≡ v = omega arith in
        rw (two false v (omega arith) q) (reads-pair a ((v - 108) % 256) d (omega arith) (omega arith) (rw (lt-ltb a 251 (omega arith)) (ap (λ (n : ℕ). normal false n 0 0) m)))
    go (no p) (no q) (yes r) =
        rw (three false v (omega arith) r) (reads_28 v d (omega arith) (rw (lt-ltb v 32768 (omega arith))))
    go (no p) (no q) (no r) = rw (five false v (omega arith) (omega arith)) (reads_int5 false v h)

int_down : (v : ℕ) → v ≤ 2147483648 → Reads (normal true v 0 0) (int_bytes true v)
int_down v h = go (eq-zero-or-pos v) (dec_le v 107) (dec_le v 1131) (dec_le v 32768)
  where
    d : Decimal
    d = normal true v 0 0

    go : (v ≡ 0) ⊎ (0 < v) → Dec (v ≤ 107) → Dec (v ≤ 1131) → Dec (v ≤ 32768) → Reads d (int_bytes true v)
    go (inl o) p q r =
        let e : normal false 0 0 0 ≡ normal true v 0 0 = normal-nought false 0 0 ∙ whole-nought true v o in
        let m : 139 ≡ 139 - v = omega arith in
        rw (one true v (omega arith), ← m) (subst (λ (x : Decimal). Reads x (139 ∷ [])) e (reads-above 139 (lit≤ tt) (lit< tt)))
    go (inr o) (yes p) q r =
        let m : 139 - (139 - v) ≡ v = omega arith in
        rw (one true v p) (subst (λ (n : ℕ). Reads (normal true n 0 0) ((139 - v) ∷ [])) m (reads-below (139 - v) (omega arith) (omega arith)))
    go (inr o) (no p) (yes q) r =
        let a = (v - 108) / 256 + 251 in
        let m : (a - 251) * 256 + (v - 108) % 256 + 108 ≡ v = omega arith in
        rw (two true v (omega arith) q) (reads-pair a ((v - 108) % 256) d (omega arith) (omega arith) (rw (le-ltb a 251 (omega arith)) (ap (λ (n : ℕ). normal true n 0 0) m)))
    go (inr o) (no p) (no q) (yes r) =
        let m : 65536 - (65536 - v) ≡ v = omega arith in
        rw (three true v (omega arith) r) (reads_28 (65536 - v) d (omega arith) (rw (le-ltb (65536 - v) 32768 (omega arith)) (ap (λ (n : ℕ). normal true n 0 0) m)))
    go (inr o) (no p) (no q) (no r) = rw (five true v (omega arith) (omega arith)) (reads_int5 true v h)

pub reads_int : (s : Bool) (v : ℕ) → v ≤ pick s 2147483648 2147483647 → Reads (normal s v 0 0) (int_bytes s v)
reads_int false v h = int_up v h
reads_int true v h = int_down v h
