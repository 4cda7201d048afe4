-- Laws of answers, by the code's ways out: the kinds of one number, and pairs.
use Rattle.std.specs.Prelude.{ℕ, zero, suc, ◌+◌, ◌-◌, ◌*◌, ◌/◌, ◌≤◌, ◌<◌, ◌≡◌, refl, Bool, true, false, List, [], ◌∷◌, ◌++◌, leb, eqb, ℤ, length, take, drop, None, Some}
use Rattle.std.specs.Int.{from_bool}
use Rattle.std.proofs.Common.{sym, ap, ◌∙◌, arith, length-append, length-drop, length-take-le, drop-drop, take_all}
use Rattle.std.proofs.lemmas.List.{drop-take, take-take}
use Rattle.std.proofs.Math.ListN.{get_or}
use borrow.Author.Tests.{eq-eqb, ne_eqb, lt-ltb, le-ltb, le-leb, lt-leb}
use Rattle.octets.specs.Pick.{pick, pick_ind}
use Rattle.octets.specs.Octets.{be, num_at, bytes_of, Wrote}
use Rattle.octets.specs.OctetsLaws.{length-bytes}
use Rattle.octets.specs.PutLaws.{wrote_as}
use Rattle.type2_number.specs.Number.{is_neg, mag, Read, cut, operator, number, number_at}
use Rattle.type2_number.specs.Floats.{scaled_of}
use Rattle.type2_number.specs.Answers.{number_of}
use Rattle.type2_number.specs.Encoding.{integer_bytes, fixed_bytes}
use Rattle.type2_number.specs.declared.Number.{Number}
use Rattle.type2_number.specs.declared.Number.TheVariants.{Num as NumAt, Cut, Operator}
use Rattle.charstring.specs.Bias.{bias_of}
use Rattle.charstring.specs.Token.{lookup}
use Rattle.charstring.specs.declared.MaskLen.{MaskLen}
use Rattle.charstring.specs.declared.Token.{Token}
use Rattle.charstring.specs.declared.Token.TheVariants.{Num, Op, Esc, Mask}
use Rattle.charstring_cases.specs.Numbers.{count_bytes, read_bytes, number_answer, integer_answer, fixed_answer, bias_answer}
use Rattle.charstring_cases.specs.Streams.{token_bytes, pairs_at, stream_bytes, stream_answer}
use Rattle.charstring_cases.specs.Answers.{answer_to}
use Rattle.cases.specs.AnswersLaws.{wrote-front}

no : ◌≡◌ {A = ℕ} 0 1 → ⊥
no h = omega arith

-- ---- a number of a case

pub count_is : (z : ℤ) (neg : Bool) (size sign : ℕ) → neg ≡ is_neg z → size ≡ mag z → sign ≡ from_bool neg → sign ∷ bytes_of 4 size ≡ count_bytes z
unfolding count_bytes
count_is z neg size sign e f g = cc (g ∙ sign_byte neg, ap {B = ℕ} (λ (t : Bool). pick t 1 0) e)
  where
    sign_byte : (t : Bool) → from_bool t ≡ pick t 1 0
    sign_byte true = refl
    sign_byte false = refl

pub count-length : (z : ℤ) → length (count_bytes z) ≡ 5
unfolding count_bytes
count-length z = ap suc (length-bytes 4 (mag z))

-- ---- kind n

told-cut : (q : Read) → number_of q ≡ Cut → read_bytes q ≡ 0 ∷ []
told-cut cut e = refl
told-cut operator e = absurd (no cc)
told-cut (number z n) e = absurd (no cc)

told-operator : (q : Read) → number_of q ≡ Operator → read_bytes q ≡ 1 ∷ []
told-operator cut e = absurd (no cc)
told-operator operator e = refl
told-operator (number z n) e = absurd (no cc)

told-number : (q : Read) (v : ℤ) (n : ℕ) → number_of q ≡ NumAt v n → read_bytes q ≡ 2 ∷ (count_bytes v ++ bytes_of 1 n)
told-number cut v n e = absurd (no cc)
told-number operator v n e = absurd (no cc)
told-number (number z m) v n e =
    let f : z ≡ v = cc in
    let k : m ≡ n = cc in
    cc

module _ (s : List ℕ) where
  pub number-none : length s ≡ 0 → number_answer s ≡ None
  unfolding number_answer
  number-none e = rw (eq-eqb (length s) 0 e)

  module _ (h : length s ≡ 0 → ⊥) (r : Number) (e : r ≡ number_of (number_at s 0)) where
    some_read : number_answer s ≡ Some (read_bytes (number_at s 0))
    unfolding number_answer
    some_read = rw (ne_eqb (length s) 0 h)

    pub number_cut : r ≡ Cut → number_answer s ≡ Some (0 ∷ [])
    number_cut f = some_read ∙ ap Some (told-cut (number_at s 0) (sym e ∙ f))

    pub number-operator : r ≡ Operator → number_answer s ≡ Some (1 ∷ [])
    number-operator f = some_read ∙ ap Some (told-operator (number_at s 0) (sym e ∙ f))

    pub number_read : (v : ℤ) (n : ℕ) → r ≡ NumAt v n → number_answer s ≡ Some (2 ∷ (count_bytes v ++ bytes_of 1 n))
    number_read v n f = some_read ∙ ap Some (told-number (number_at s 0) v n (sym e ∙ f))

-- ---- kinds i, f and b

pub integer-length : (t : Bool) (v : ℕ) → length (integer_bytes t v) ≤ 3
unfolding integer_bytes
integer-length t v =
    pick_ind (λ (l : List ℕ). length l ≤ 3) (leb v 107) _ _ (λ e. omega arith)
    (λ e. pick_ind (λ (l : List ℕ). length l ≤ 3) (leb v 1131) _ _ (λ f. omega arith) (λ f. omega (arith, length-bytes 2 (pick t (65536 - v) v))))

module _ (s : List ℕ) where
  pub integer-size : (length s ≡ 3 → ⊥) → integer_answer s ≡ None
  unfolding integer_answer
  integer-size h = rw (ne_eqb (length s) 3 h)

  pub fixed-size : (length s ≡ 5 → ⊥) → fixed_answer s ≡ None
  unfolding fixed_answer
  fixed-size h = rw (ne_eqb (length s) 5 h)

  pub bias_size : (length s ≡ 4 → ⊥) → bias_answer s ≡ None
  unfolding bias_answer
  bias_size h = rw (ne_eqb (length s) 4 h)

  pub bias_found : length s ≡ 4 → bias_answer s ≡ Some (bytes_of 4 (bias_of (num_at s 0 4)))
  unfolding bias_answer
  bias_found h = rw (eq-eqb (length s) 4 h)

  module _ (h : length s ≡ 3) where
    pub integer-sign : 1 < get_or s 0 0 → integer_answer s ≡ None
    unfolding integer_answer
    integer-sign k = rw (eq-eqb (length s) 3 h, lt-ltb 1 (get_or s 0 0) k)

    pub integer_large : get_or s 0 0 ≤ 1 → 32768 ≤ num_at s 1 2 → integer_answer s ≡ None
    unfolding integer_answer
    integer_large k l = rw (eq-eqb (length s) 3 h, le-ltb 1 (get_or s 0 0) k, le-ltb (num_at s 1 2) 32768 l)

    pub integer-found : get_or s 0 0 ≤ 1 → num_at s 1 2 < 32768 → integer_answer s ≡ Some (integer_bytes (eqb (get_or s 0 0) 1) (num_at s 1 2))
    unfolding integer_answer
    integer-found k l = rw (eq-eqb (length s) 3 h, le-ltb 1 (get_or s 0 0) k, lt-ltb (num_at s 1 2) 32768 l)

  module _ (h : length s ≡ 5) where
    pub fixed-sign : 1 < get_or s 0 0 → fixed_answer s ≡ None
    unfolding fixed_answer
    fixed-sign k = rw (eq-eqb (length s) 5 h, lt-ltb 1 (get_or s 0 0) k)

    pub fixed_large : get_or s 0 0 ≤ 1 → 2147483648 < num_at s 1 4 → fixed_answer s ≡ None
    unfolding fixed_answer
    fixed_large k l = rw (eq-eqb (length s) 5 h, le-ltb 1 (get_or s 0 0) k, lt-leb (num_at s 1 4) 2147483648 l)

    pub fixed-found : get_or s 0 0 ≤ 1 → num_at s 1 4 ≤ 2147483648 → fixed_answer s ≡ Some (fixed_bytes (eqb (get_or s 0 0) 1) (num_at s 1 4))
    unfolding fixed_answer
    fixed-found k l = rw (eq-eqb (length s) 5 h, le-ltb 1 (get_or s 0 0) k, le-leb (num_at s 1 4) 2147483648 l)

-- ---- a token by its constructor

pub token_put : (t u : Token) → t ≡ u → (old : List ℕ) {new : List ℕ} → new ≡ old ++ token_bytes u → new ≡ old ++ token_bytes t
token_put t u e old {new} w = w ∙ ap (λ (x : Token). old ++ token_bytes x) (sym e)

pub token-length : (t : Token) → length (token_bytes t) ≤ 6
token-length (Num v) = omega (arith, count-length (scaled_of v))
token-length (Op b) = omega arith
token-length (Esc b) = omega arith
token-length (Mask at n) = rw length-append (omega (arith, length-bytes 2 at, length-bytes 2 n))

-- ---- pairs, one number after the other

pub pairs-length : (s : List ℕ) (p n : ℕ) → length (pairs_at s p n) ≡ n
unfolding pairs_at
pairs-length s p zero = refl
pairs-length s p (suc n) = ap suc (pairs-length s (p + 2) n)

-- the numbers from the i-th on
abbrev pub pairs_left : List ℕ → ℕ → ℕ → List ℕ
pairs_left s n i = pairs_at s (2 * i) (n - i)

pub pairs_next : (s : List ℕ) (n i : ℕ) → i < n → pairs_left s n i ≡ num_at s (2 * i) 2 ∷ pairs_left s n (i + 1)
unfolding pairs_at
pairs_next s n i h =
    let m : n - i ≡ suc (n - (i + 1)) = omega arith in
    let e : 2 * i + 2 ≡ 2 * (i + 1) = omega arith in
    ap (pairs_at s (2 * i)) m ∙ ap (λ (p : ℕ). num_at s (2 * i) 2 ∷ pairs_at s p (n - (i + 1))) e

pub pairs-none : (s : List ℕ) (n i : ℕ) → i ≡ n → pairs_left s n i ≡ []
unfolding pairs_at
pairs-none s n i e = let z : n - i ≡ 0 = omega arith in ap (pairs_at s (2 * i)) z

-- ---- kinds t and e: the parts of an input

pub stream_as : (t u : Bool) (given : ℕ → MaskLen) (s : List ℕ) → t ≡ u → stream_bytes u given s ≡ stream_bytes t given s
stream_as t u given s e = ap (λ (x : Bool). stream_bytes x given s) (sym e)

module _ (t : Bool) (s : List ℕ) where
  pub stream_none : length s ≡ 0 → stream_answer t s ≡ None
  unfolding stream_answer
  stream_none e = rw (eq-eqb (length s) 0 e)

  module _ (h : length s ≡ 0 → ⊥) where
    pub stream_many : 16 < get_or s 0 0 → stream_answer t s ≡ None
    unfolding stream_answer
    stream_many k = rw (ne_eqb (length s) 0 h, lt-ltb 16 (get_or s 0 0) k)

    module _ (k : get_or s 0 0 ≤ 16) where
      pub stream_short : length s < 1 + 4 * get_or s 0 0 → stream_answer t s ≡ None
      unfolding stream_answer
      stream_short l = rw (ne_eqb (length s) 0 h, le-ltb 16 (get_or s 0 0) k, lt-ltb (length s) (1 + 4 * get_or s 0 0) l)

      module _ (l : 1 + 4 * get_or s 0 0 ≤ length s) where
        pub stream_long : 60 < length s - (1 + 4 * get_or s 0 0) → stream_answer t s ≡ None
        unfolding stream_answer
        stream_long m =
            rw (ne_eqb (length s) 0 h, le-ltb 16 (get_or s 0 0) k, le-ltb (length s) (1 + 4 * get_or s 0 0) l, lt-ltb 60 (length s - (1 + 4 * get_or s 0 0)) m)

        pub stream_found : length s - (1 + 4 * get_or s 0 0) ≤ 60
            → stream_answer t s ≡ Some (stream_bytes t (lookup (pairs_at s 1 (2 * get_or s 0 0))) (drop (1 + 4 * get_or s 0 0) s))
        unfolding stream_answer
        stream_found m =
            rw (ne_eqb (length s) 0 h, le-ltb 16 (get_or s 0 0) k, le-ltb (length s) (1 + 4 * get_or s 0 0) l, le-ltb 60 (length s - (1 + 4 * get_or s 0 0)) m)

-- numbers of a part are those of the whole
num-within : (s : List ℕ) (a m p : ℕ) → p + 2 ≤ m → num_at (take m (drop a s)) p 2 ≡ num_at s (a + p) 2
unfolding num_at
num-within s a m p h =
    let e : m ≡ p + (m - p) = omega arith in
    ap (λ (k : ℕ). be 0 (take 2 (drop p (take k (drop a s))))) e ∙ ap (λ (l : List ℕ). be 0 (take 2 l)) (drop-take p (m - p) (drop a s))
    ∙ ap (be 0) (take-take 2 (m - p) (drop p (drop a s)) (omega arith)) ∙ ap (λ (l : List ℕ). be 0 (take 2 l)) (drop-drop p a s)

pairs-within : (s : List ℕ) (a m p n : ℕ) → p + 2 * n ≤ m → pairs_at (take m (drop a s)) p n ≡ pairs_at s (a + p) n
unfolding pairs_at
pairs-within s a m p zero h = refl
pairs-within s a m p (suc n) h =
    let e : a + (p + 2) ≡ a + p + 2 = omega arith in
    ap (λ (x : ℕ). x ∷ pairs_at (take m (drop a s)) (p + 2) n) (num-within s a m p (omega arith))
    ∙ ap (λ (l : List ℕ). num_at s (a + p) 2 ∷ l) (pairs-within s a m (p + 2) n (omega arith) ∙ ap (λ (k : ℕ). pairs_at s k n) e)

-- the bytes of n pairs
pub part-length : (s : List ℕ) (n : ℕ) → 1 + 4 * n ≤ length s → length (take (1 + 4 * n - 1) (drop 1 s)) ≡ 4 * n
part-length s n h = let m = length-take-le (1 + 4 * n - 1) (drop 1 s) (rw length-drop (omega arith)) in omega (arith, m)

-- the pairs of the input, and the rest of it
pub stream-written : (t : Bool) (s old new : List ℕ) (n k : ℕ) → n ≡ get_or s 0 0 → Wrote old 0 (pairs_at s 1 (2 * n)) new k
    → stream_bytes t (lookup (take k new)) (take (length s - (1 + 4 * n)) (drop (1 + 4 * n) s))
    ≡ stream_bytes t (lookup (pairs_at s 1 (2 * get_or s 0 0))) (drop (1 + 4 * get_or s 0 0) s)
stream-written t s old new n k e w =
    let r : take (length s - (1 + 4 * n)) (drop (1 + 4 * n) s) ≡ drop (1 + 4 * n) s = take_all (length s - (1 + 4 * n)) (drop (1 + 4 * n) s) (rw length-drop (omega arith)) in
    ap (λ (l : List ℕ). stream_bytes t (lookup l) (take (length s - (1 + 4 * n)) (drop (1 + 4 * n) s))) (wrote-front w)
    ∙ ap (stream_bytes t (lookup (pairs_at s 1 (2 * n)))) r
    ∙ ap (λ (m : ℕ). stream_bytes t (lookup (pairs_at s 1 (2 * m))) (drop (1 + 4 * m) s)) e

-- the same where the pairs were read in the part that has them
pub stream_parts : (t : Bool) (s old new : List ℕ) (n k : ℕ) → n ≡ get_or s 0 0 → 1 + 4 * n ≤ length s
    → (let part = take (1 + 4 * n - 1) (drop 1 s) in Wrote old 0 (pairs_at part 0 (length part / 2)) new k)
    → stream_bytes t (lookup (take k new)) (take (length s - (1 + 4 * n)) (drop (1 + 4 * n) s))
    ≡ stream_bytes t (lookup (pairs_at s 1 (2 * get_or s 0 0))) (drop (1 + 4 * get_or s 0 0) s)
stream_parts t s old new n k e h w =
    let part = take (1 + 4 * n - 1) (drop 1 s) in
    let q : length part / 2 ≡ 2 * n = omega (arith, part-length s n h) in
    let p : pairs_at part 0 (length part / 2) ≡ pairs_at s 1 (2 * n) = ap (pairs_at part 0) q ∙ pairs-within s 1 (1 + 4 * n - 1) 0 (2 * n) (omega arith) in
    stream-written t s old new n k e (wrote_as w p)

-- ---- by the kind

pub answer-none : (b : ℕ) (s : List ℕ) → (b ≡ 110 → ⊥) → (b ≡ 105 → ⊥) → (b ≡ 102 → ⊥) → (b ≡ 116 → ⊥) → (b ≡ 101 → ⊥) → (b ≡ 98 → ⊥)
    → answer_to b s ≡ None
unfolding answer_to
answer-none b s n i f t e z = simp (ne_eqb b 110 n, ne_eqb b 105 i, ne_eqb b 102 f, ne_eqb b 116 t, ne_eqb b 101 e, ne_eqb b 98 z)
