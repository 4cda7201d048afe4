-- A real operand of a DICT: TN5176, section 4, table 5. After the byte 30 stand nibbles: 0 to 9 digits, a the point, b an E, c an E and
-- a minus, e a minus, f the end; d is not used. It is well formed when Rust's f64 parse takes its text (document 01, 'Entries and
-- their refusals'), and then within the limits of refusal 5, or refused.
use Rattle.std.specs.Prelude.{ℕ, ◌+◌, ◌*◌, ◌/◌, ◌%◌, ◌^◌, Bool, true, false, List, [], ◌∷◌, ltb, leb, eqb, Result, Ok, Err}
use Rattle.octets.specs.Pick.{pick}
use Rattle.decimal.specs.declared.Decimal.{Decimal}
use Rattle.decimal.specs.Decimal.{normal}
use Rattle.refusal.specs.declared.Refusal.{Refusal}
use Rattle.refusal.specs.declared.Refusal.TheVariants.{Malformed, Real}

-- the nibbles of bytes
unfoldable pub nibbles : List ℕ → List ℕ
nibbles [] = []
nibbles (b ∷ bs) = b / 16 ∷ b % 16 ∷ nibbles bs

-- the nibbles before the end; or the bytes end first; or a nibble d, which is wrong at once
pub data Text : Type 0 where
  cut : Text
  wrong : Text
  text : List ℕ → Text

-- a nibble before the rest of a text
abbrev pub before : ℕ → Text → Text
before x cut = cut
before x wrong = wrong
before x (text xs) = text (x ∷ xs)

-- the text that nibbles start with
unfoldable pub text_of : List ℕ → Text
text_of [] = cut
text_of (x ∷ xs) = pick (eqb x 15) (text []) (pick (eqb x 13) wrong (before x (text_of xs)))

-- what a well formed text says: a minus or none; all its digits as one number, and how many of them stand behind the point; a minus
-- or none before the exponent, and the exponent
pub data Form : Type 0 where
  bad : Form
  form : (neg : Bool) (digits behind : ℕ) (eneg : Bool) (exp : ℕ) → Form

-- the digits of an exponent, `any` once there was one
unfoldable pub exp_digits : Bool → ℕ → ℕ → Bool → Bool → ℕ → List ℕ → Form
exp_digits s n f es any e [] = pick any (form s n f es e) bad
exp_digits s n f es any e (x ∷ xs) = pick (ltb x 10) (exp_digits s n f es true (e * 10 + x) xs) bad

-- after an E: a minus or none, and digits
unfoldable pub exponent : Bool → ℕ → ℕ → List ℕ → Form
unfolding exp_digits
exponent s n f [] = bad
exponent s n f (x ∷ xs) = pick (eqb x 14) (exp_digits s n f true false 0 xs) (exp_digits s n f false false 0 (x ∷ xs))

-- digits and at most one point, `any` once there was a digit, `point` once there was the point; then the end or an exponent
unfoldable pub mantissa : Bool → Bool → Bool → ℕ → ℕ → List ℕ → Form
unfolding exponent exp_digits
mantissa s any point n f [] = pick any (form s n f false 0) bad
mantissa s any point n f (x ∷ xs) =
    let digit = mantissa s true point (n * 10 + x) (pick point (f + 1) f) xs in
    let behind = mantissa s any true n f xs in
    pick (ltb x 10) digit
    (pick (eqb x 10) (pick point bad behind)
    (pick (eqb x 11) (pick any (exponent s n f xs) bad)
    (pick (eqb x 12) (pick any (exp_digits s n f true false 0 xs) bad) bad)))

-- a whole text: a minus or none, and a mantissa; an empty text is 0
unfoldable pub form_of : List ℕ → Form
unfolding mantissa
form_of [] = form false 0 0 false 0
form_of (x ∷ xs) = pick (eqb x 14) (mantissa true false false 0 0 xs) (mantissa false false false 0 0 (x ∷ xs))

-- at most 15 digits, and a power of ten from -30 to 30; zero has no digit and no power
abbrev pub limited : Decimal → Result Decimal Refusal
limited d =
    pick (leb (10 ^ 15) d.digits) (Err Real)
    (pick (ltb 30 d.up) (Err Real)
    (pick (ltb 30 d.down) (Err Real) (Ok d)))

-- a text of so many nibbles, its end counted: malformed, or past a limit
unfoldable pub value_of : ℕ → Form → Result Decimal Refusal
unfolding normal
value_of count bad = Err Malformed
value_of count (form s n f es e) =
    pick (ltb 64 count) (Err Real) (limited (normal s n (pick es 0 e) (pick es (f + e) f)))
