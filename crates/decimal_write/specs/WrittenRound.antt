-- A number that was written reads back, whatever follows it: as an integer, or as a real whose text is the number.
use Rattle.std.specs.Prelude.{ℕ, zero, suc, ◌+◌, ◌-◌, ◌*◌, ◌/◌, ◌%◌, ◌^◌, ◌≤◌, ◌<◌, ◌≡◌, refl, ◌⊎◌, Bool, true, ltb, eqb, length, drop, get_or, Ok, Err}
use Rattle.std.proofs.Common.{sym, ap, ◌∙◌, subst, inl, inr, pow-suc, mod-lt, mod-eq_of_lt, div-add-mod', eq-zero-or-pos, mul_assoc, div-le_self, zero-mul, zero-add, not-suc-le-zero, pos_of_ne-zero, arith, lit<, length-append, lt-ltb, le-ltb, eq-eqb, ne_eqb}
use Rattle.std.proofs.Math.Bool.{false}
use mathlib.Core.List.{List, [], ◌∷◌, ◌++◌, append_assoc, append-nil}
use Rattle.std.proofs.Math.Decide.{ℕ_discrete, dec_lt}
use Rattle.std.proofs.Math.Arith.{mod-mul}
use Rattle.std.proofs.Math.ListN.{get_or-append}
use Rattle.std.proofs.lemmas.Bool.{lt-leb}
use Rattle.octets.specs.Pick.{pick}
use Rattle.octets.specs.ListLaws.{lies_first}
use Rattle.decimal.specs.declared.Decimal.{Decimal}
use Rattle.decimal.specs.Decimal.{normal, Normal}
use Rattle.decimal.specs.DecimalLaws.{ten_pos, normal-nought, nought_is, normal-last, one_power, reduced, whole_done}
use Rattle.decimal.specs.Real.{nibbles, text, before, text_of, Form, form, mantissa, form_of, limited, value_of}
use Rattle.decimal.specs.Number.{number, placed, real_of, real_at}
use Rattle.decimal.specs.NumberLaws.{form_30}
use Rattle.decimal.specs.RunLaws.{text_end, text-more}
use Rattle.decimal.specs.Values.{trunc_of}
use Rattle.decimal.specs.ValuesLaws.{trunc-whole, trunc-fraction}
use Rattle.decimal.specs.Written.{int_bytes, digits_of, width_of, bare_text, real_text, packed, real_bytes, number_bytes}
use Rattle.decimal_write.specs.TextLaws.{width_pos, width_within, width_below, length_digits, digit_at, whole_width, with-point, text-neg, text_pos, length-whole-neg, length-whole_pos, length-part-neg, length-part_pos, length-real}
use Rattle.decimal_write.specs.WrittenLaws.{number_int, number_big, number-part}
use Rattle.decimal_write.specs.IntRound.{next, Reads, reads_int}
use Rattle.refusal.specs.declared.Refusal.TheVariants.{Real}

-- an integer is what its size and sign say
whole_back : (d : Decimal) → Normal d → d.down ≡ 0 → normal d.neg (trunc_of d) 0 0 ≡ d
whole_back d h e = go (eq-zero-or-pos d.digits)
  where
    go : (d.digits ≡ 0) ⊎ (0 < d.digits) → normal d.neg (trunc_of d) 0 0 ≡ d
    go (inl o) =
        let t : trunc_of d ≡ 0 = trunc-whole d e ∙ ap (λ (m : ℕ). m * 10 ^ d.up) o ∙ zero-mul (10 ^ d.up) in
        ap (λ (n : ℕ). normal d.neg n 0 0) t ∙ normal-nought d.neg 0 0 ∙ sym (nought_is d h o)
    go (inr p) =
        sym (whole_done d.neg d.digits d.up (trunc_of d) (sym (trunc-whole d e)) (normal-last d h p))
        ∙ ap (λ (k : ℕ). record { neg = d.neg; digits = d.digits; up = d.up; down = k }) (sym e)

-- ---- reals: the nibbles

-- nibbles of a text: neither the end nor the one that is not used
Fit : List ℕ → Type 0
Fit [] = Unit
Fit (x ∷ xs) = ((x < 13) ⊎ (x ≡ 14)) × Fit xs

fit_append : (xs ys : List ℕ) → Fit xs → Fit ys → Fit (xs ++ ys)
unfolding Fit
fit_append [] ys h k = k
fit_append (x ∷ xs) ys h k = (h.0, fit_append xs ys h.1 k)

fit_digits : (k n : ℕ) → Fit (digits_of k n)
unfolding Fit digits_of
fit_digits zero n = tt
fit_digits (suc k) n = fit_append (digits_of k (n / 10)) (n % 10 ∷ []) (fit_digits k (n / 10)) (inl (omega arith), tt)

not_end : (x : ℕ) → (x < 13) ⊎ (x ≡ 14) → x ≡ 15 → ⊥
not_end x (inl h) e = omega arith
not_end x (inr h) e = omega arith

not_unused : (x : ℕ) → (x < 13) ⊎ (x ≡ 14) → x ≡ 13 → ⊥
not_unused x (inl h) e = omega arith
not_unused x (inr h) e = omega arith

small : (x : ℕ) → (x < 13) ⊎ (x ≡ 14) → x < 15
small x (inl h) = omega arith
small x (inr h) = omega arith

-- the text that was packed is the text that is read
text-packed : (l post : List ℕ) → Fit l → text_of (nibbles (packed l ++ post)) ≡ text l
unfolding Fit packed nibbles
text-packed [] post h = text_end 15 (15 ∷ nibbles post) refl
text-packed (x ∷ []) post h =
    let a : (x * 16 + 15) / 16 ≡ x = omega arith in
    let b : (x * 16 + 15) % 16 ≡ 15 = omega arith in
    rw (a, b) (text-more x (15 ∷ nibbles post) (not_end x h.0) (not_unused x h.0) ∙ ap (before x) (text_end 15 (nibbles post) refl))
text-packed (x ∷ y ∷ xs) post h =
    let l = small y h.1.0 in
    let a : (x * 16 + y) / 16 ≡ x = omega arith in
    let b : (x * 16 + y) % 16 ≡ y = omega arith in
    rw (a, b) (text-more x (y ∷ nibbles (packed xs ++ post)) (not_end x h.0) (not_unused x h.0)
    ∙ ap (before x) (text-more y (nibbles (packed xs ++ post)) (not_end y h.1.0) (not_unused y h.1.0) ∙ ap (before y) (text-packed xs post h.1.1)))

fit_bare : (d : Decimal) → Fit (bare_text d)
unfolding Fit bare_text
fit_bare d = fit_append (digits_of (width_of (trunc_of d)) (trunc_of d)) _ (fit_digits (width_of (trunc_of d)) (trunc_of d)) (tail (eqb d.down 0))
  where
    tail : (t : Bool) → Fit (pick t [] (10 ∷ digits_of d.down d.digits))
    tail true = tt
    tail false = (inl (omega arith), fit_digits d.down d.digits)

fit_text : (d : Decimal) → Fit (real_text d)
unfolding Fit real_text
fit_text d = sign d.neg
  where
    sign : (t : Bool) → Fit (pick t (14 ∷ []) [] ++ bare_text d)
    sign true = (inr refl, fit_bare d)
    sign false = fit_bare d

-- ---- reals: the grammar

mantissa-digit : (s any point : Bool) (n f x : ℕ) (xs : List ℕ) → x < 10 → mantissa s any point n f (x ∷ xs) ≡ mantissa s true point (n * 10 + x) (pick point (f + 1) f) xs
unfolding mantissa
mantissa-digit s any point n f x xs h = rw (lt-ltb x 10 h)

-- digits in a row
digits-run : (k : ℕ) (s any point : Bool) (n f m : ℕ) (rest : List ℕ)
    → mantissa s any point n f (digits_of (suc k) m ++ rest) ≡ mantissa s true point (n * 10 ^ suc k + m % 10 ^ suc k) (pick point (f + suc k) f) rest
unfolding digits_of
digits-run zero s any point n f m rest = mantissa-digit s any point n f (m % 10) rest (omega arith)
digits-run (suc k) s any point n f m rest =
    let u = 10 ^ suc k in
    let a : (n * u + m / 10 % u) * 10 + m % 10 ≡ n * (u * 10) + m % (u * 10) = omega (arith, mod-mul m {m = u} {c = 10} (ten_pos (suc k)) (lit< tt), mul_assoc n u 10) in
    let b : (n * u + m / 10 % u) * 10 + m % 10 ≡ n * 10 ^ suc (suc k) + m % 10 ^ suc (suc k) = rw (pow-suc 10 (suc k)) a in
    rw append_assoc (digits-run k s any point n f (m / 10) (m % 10 ∷ rest)
    ∙ mantissa-digit s true point (n * u + m / 10 % u) (pick point (f + suc k) f) (m % 10) rest (omega arith)
    ∙ ap (λ (x : ℕ). mantissa s true point x (pick point (pick point (f + suc k) f + 1) (pick point (f + suc k) f)) rest) b
    ∙ ap (λ (x : ℕ). mantissa s true point (n * 10 ^ suc (suc k) + m % 10 ^ suc (suc k)) x rest) (count point))
  where
    count : (t : Bool) → pick t (pick t (f + suc k) f + 1) (pick t (f + suc k) f) ≡ pick t (f + suc (suc k)) f
    count true = omega arith
    count false = refl

mantissa-point : (s any : Bool) (n f : ℕ) (xs : List ℕ) → mantissa s any false n f (10 ∷ xs) ≡ mantissa s any true n f xs
unfolding mantissa
mantissa-point s any n f xs = refl

mantissa_end : (s point : Bool) (n f : ℕ) → mantissa s true point n f [] ≡ form s n f false 0
unfolding mantissa
mantissa_end s point n f = refl

-- digits in a row, as many as the width says
row : (w : ℕ) (s any point : Bool) (n f m : ℕ) (rest : List ℕ) → 0 < w
    → mantissa s any point n f (digits_of w m ++ rest) ≡ mantissa s true point (n * 10 ^ w + m % 10 ^ w) (pick point (f + w) f) rest
row zero s any point n f m rest h = absurd (not-suc-le-zero h)
row (suc k) s any point n f m rest h = digits-run k s any point n f m rest

module _ (d : Decimal) (s : Bool) where
  -- the integer part
  front : (rest : List ℕ) → mantissa s false false 0 0 (digits_of (width_of (trunc_of d)) (trunc_of d) ++ rest) ≡ mantissa s true false (trunc_of d) 0 rest
  front rest =
      let m : 0 * 10 ^ width_of (trunc_of d) + trunc_of d % 10 ^ width_of (trunc_of d) ≡ trunc_of d =
      rw (zero-mul, mod-eq_of_lt (width_within (trunc_of d))) (zero-add (trunc_of d)) in
      row (width_of (trunc_of d)) s false false 0 0 (trunc_of d) rest (width_pos (trunc_of d)) ∙ ap (λ (n : ℕ). mantissa s true false n 0 rest) m

  bare-whole : d.down ≡ 0 → mantissa s false false 0 0 (bare_text d) ≡ form s (trunc_of d) 0 false 0
  unfolding bare_text
  bare-whole e = rw (eq-eqb d.down 0 e) (front [] ∙ mantissa_end s false (trunc_of d) 0)

  bare-part : Normal d → (d.down ≡ 0 → ⊥) → mantissa s false false 0 0 (bare_text d) ≡ form s d.digits d.down false 0
  bare-part h e =
      let m : trunc_of d * 10 ^ d.down + d.digits % 10 ^ d.down ≡ d.digits =
      ap (λ (n : ℕ). n * 10 ^ d.down + d.digits % 10 ^ d.down) (trunc-fraction d (one_power d (reduced d h) e)) ∙ div-add-mod' d.digits (10 ^ d.down) in
      let z : 0 + d.down ≡ d.down = zero-add d.down in
      ap (mantissa s false false 0 0) (with-point d (width_of (trunc_of d)) 0 refl e)
      ∙ front (10 ∷ digits_of d.down d.digits) ∙ mantissa-point s true (trunc_of d) 0 (digits_of d.down d.digits)
      ∙ ap (mantissa s true true (trunc_of d) 0) (sym (append-nil (digits_of d.down d.digits)))
      ∙ row d.down s true true (trunc_of d) 0 d.digits [] (pos_of_ne-zero e)
      ∙ mantissa_end s true (trunc_of d * 10 ^ d.down + d.digits % 10 ^ d.down) (0 + d.down)
      ∙ ap (λ (n : ℕ). form s n (0 + d.down) false 0) m ∙ ap (λ (n : ℕ). form s d.digits n false 0) z

-- the sign: the first nibble is a minus or a digit
form_minus : (l : List ℕ) → form_of (14 ∷ l) ≡ mantissa true false false 0 0 l
unfolding form_of
form_minus l = refl

form_bare : (l : List ℕ) → 0 < length l → get_or l 0 0 < 10 → form_of l ≡ mantissa false false false 0 0 l
unfolding form_of
form_bare [] h k = absurd (not-suc-le-zero h)
form_bare (x ∷ xs) h k = rw (ne_eqb x 14 (λ e. omega arith))

bare-first : (d : Decimal) → (0 < length (bare_text d)) × (get_or (bare_text d) 0 0 < 10)
unfolding bare_text
bare-first d =
    let w = width_of (trunc_of d) in
    let l = length_digits w (trunc_of d) in
    let p = width_pos (trunc_of d) in
    let tail = pick (eqb d.down 0) [] (10 ∷ digits_of d.down d.digits) in
    let o : 0 < length (digits_of w (trunc_of d)) = omega arith in
    let e : get_or (digits_of w (trunc_of d) ++ tail) 0 0 ≡ trunc_of d / 10 ^ (w - 1 - 0) % 10 =
    get_or-append (digits_of w (trunc_of d)) tail 0 0 o ∙ digit_at w (trunc_of d) 0 0 p in
    (omega (arith, length-append (digits_of w (trunc_of d)) tail), omega (arith, mod-lt (trunc_of d / 10 ^ (w - 1 - 0)) {m = 10} (lit< tt)))

form_text : (d : Decimal) (t : Form) → ((s : Bool) → s ≡ d.neg → mantissa s false false 0 0 (bare_text d) ≡ t) → form_of (real_text d) ≡ t
form_text d t h = go d.neg refl
  where
    go : (s : Bool) → d.neg ≡ s → form_of (real_text d) ≡ t
    go true e = ap form_of (text-neg d e) ∙ form_minus (bare_text d) ∙ h true (sym e)
    go false e = ap form_of (text_pos d e) ∙ form_bare (bare_text d) (bare-first d).0 (bare-first d).1 ∙ h false (sym e)

-- ---- reals: the limits

limited-normal : (d : Decimal) → Normal d → limited d ≡ Ok d
limited-normal d h =
    ap (λ (t : Bool). pick t (Err Real) (pick (ltb 30 d.up) (Err Real) (pick (ltb 30 d.down) (Err Real) (Ok d)))) (lt-leb (10 ^ 15) d.digits h.few)
    ∙ ap (λ (t : Bool). pick t (Err Real) (pick (ltb 30 d.down) (Err Real) (Ok d))) (le-ltb 30 d.up h.high)
    ∙ ap (λ (t : Bool). pick t (Err Real) (Ok d)) (le-ltb 30 d.down h.low)

-- at most 63 nibbles before the end
text-short : (d : Decimal) → Normal d → length (real_text d) ≤ 63
text-short d h = go (eq-zero-or-pos d.down) d.neg refl
  where
    part : 0 < d.down → width_of (trunc_of d) ≤ 15
    part p =
        let t : trunc_of d ≡ d.digits / 10 ^ d.down = trunc-fraction d (one_power d (reduced d h) (λ e. omega arith)) in
        let l : trunc_of d ≤ d.digits = rw t (div-le_self d.digits (10 ^ d.down)) in
        let k : trunc_of d < 10 ^ 15 = omega (arith, h.few) in
        width_below 14 (trunc_of d) k

    go : (d.down ≡ 0) ⊎ (0 < d.down) → (s : Bool) → d.neg ≡ s → length (real_text d) ≤ 63
    go (inl e) true s = omega (arith, length-whole-neg d (width_of (trunc_of d)) refl e s, whole_width d h)
    go (inl e) false s = omega (arith, length-whole_pos d (width_of (trunc_of d)) refl e s, whole_width d h)
    go (inr p) true s = omega (arith, length-part-neg d (width_of (trunc_of d)) refl (λ e. omega arith) s, part p, h.low)
    go (inr p) false s = omega (arith, length-part_pos d (width_of (trunc_of d)) refl (λ e. omega arith) s, part p, h.low)

value-text : (d : Decimal) → Normal d → value_of (length (real_text d) + 1) (form_of (real_text d)) ≡ Ok d
unfolding value_of
value-text d h = go (ℕ_discrete d.down 0)
  where
    l : ltb 64 (length (real_text d) + 1) ≡ false
    l = le-ltb 64 (length (real_text d) + 1) (omega (arith, text-short d h))

    as_form : (n f : ℕ) → form_of (real_text d) ≡ form d.neg n f false 0 → normal d.neg n 0 f ≡ d → value_of (length (real_text d) + 1) (form_of (real_text d)) ≡ Ok d
    as_form n f e q =
        ap (value_of (length (real_text d) + 1)) e ∙ ap (λ (t : Bool). pick t (Err Real) (limited (normal d.neg n 0 f))) l ∙ ap limited q ∙ limited-normal d h

    go : Dec (d.down ≡ 0) → value_of (length (real_text d) + 1) (form_of (real_text d)) ≡ Ok d
    go (yes e) = as_form (trunc_of d) 0 (form_text d (form d.neg (trunc_of d) 0 false 0) (λ s o. bare-whole d s e ∙ ap (λ (x : Bool). form x (trunc_of d) 0 false 0) o)) (whole_back d h e)
    go (no e) =
        as_form d.digits d.down (form_text d (form d.neg d.digits d.down false 0) (λ s o. bare-part d s h e ∙ ap (λ (x : Bool). form x d.digits d.down false 0) o))
        (ap (λ (u : ℕ). normal d.neg d.digits u d.down) (sym (one_power d (reduced d h) e)) ∙ h.same)

pub reads-real : (d : Decimal) → Normal d → Reads d (real_bytes d)
unfolding real_bytes real_at
reads-real d h b at post lies =
    let l = real_text d in
    let x : drop (at + 1) b ≡ packed l ++ post = next b at _ lies in
    let n : at + 1 + (length l / 2 + 1) ≡ at + length (real_bytes d) = omega (arith, length-real d) in
    form_30 b at (lies_first b at _ lies) ∙ ap (λ (q : List ℕ). real_of (at + 1) (text_of (nibbles q))) x ∙ ap (real_of (at + 1)) (text-packed l post (fit_text d))
    ∙ ap (placed (at + 1 + (length l / 2 + 1))) (value-text d h) ∙ ap (number d) n

-- ---- any number

pub reads-number : (d : Decimal) → Normal d → Reads d (number_bytes d)
reads-number d h = go (ℕ_discrete d.down 0) (dec_lt (trunc_of d) 2147483647)
  where
    bound : (s : Bool) → trunc_of d < 2147483647 → trunc_of d ≤ pick s 2147483648 2147483647
    bound true l = omega arith
    bound false l = omega arith

    go : Dec (d.down ≡ 0) → Dec (trunc_of d < 2147483647) → Reads d (number_bytes d)
    go (yes e) (yes l) =
        rw (number_int d e l) (subst (λ (x : Decimal). Reads x (int_bytes d.neg (trunc_of d))) (whole_back d h e) (reads_int d.neg (trunc_of d) (bound d.neg l)))
    go (yes e) (no l) = rw (number_big d e (omega arith)) (reads-real d h)
    go (no e) l = rw (number-part d e) (reads-real d h)
