-- The grammar of Real.antt (TN5176, section 4, table 5) run nibble by nibble: how far a text was read, exactly, and as much of it as the code holds, whose numbers
-- stop at a bound past every limit of refusal 5.
use Rattle.std.specs.Prelude.{ℕ, ◌+◌, ◌-◌, ◌*◌, ◌/◌, ◌%◌, ◌^◌, ◌≤◌, ◌<◌, min, ◌≡◌, Bool, true, false, List, [], ltb, eqb, length, drop, Result, Option}
use Rattle.octets.specs.Pick.{pick}
use Rattle.decimal.specs.declared.Held.{Held}
use Rattle.decimal.specs.declared.Stage.{Stage}
use Rattle.decimal.specs.declared.Stage.TheVariants.{Start, Mantissa, Exponent, Power, Malformed as Spoilt}
use Rattle.decimal.specs.Decimal.{zeros, stripped}
use Rattle.decimal.specs.Real.{nibbles, Text, cut, wrong, text, Form, bad, form, mantissa, exponent, exp_digits, text_of, form_of, value_of}
use Rattle.decimal.specs.Number.{Number, refused, placed, real_at, answer_of}
use Rattle.decimal.specs.declared.NumberAt.{NumberAt}
use Rattle.refusal.specs.declared.Refusal.{Refusal}
use Rattle.refusal.specs.declared.Refusal.TheVariants.{Truncated, Malformed}

-- nothing read; within a mantissa; just after an E; within an exponent's digits; malformed. The numbers are those of `mantissa`,
-- `exponent` and `exp_digits`.
pub data Exact : Type 0 where
  begun : Exact
  in_mantissa : (neg any point : Bool) (digits behind : ℕ) → Exact
  after_e : (neg : Bool) (digits behind : ℕ) → Exact
  in_exponent : (neg : Bool) (digits behind : ℕ) (eneg any : Bool) (exp : ℕ) → Exact
  spoilt : Exact

-- a nibble of a mantissa
abbrev pub mantissa_step : Bool → Bool → Bool → ℕ → ℕ → ℕ → Exact
mantissa_step s any point n f x =
    pick (ltb x 10) (in_mantissa s true point (n * 10 + x) (pick point (f + 1) f))
    (pick (eqb x 10) (pick point spoilt (in_mantissa s any true n f))
    (pick (eqb x 11) (pick any (after_e s n f) spoilt)
    (pick (eqb x 12) (pick any (in_exponent s n f true false 0) spoilt) spoilt)))

-- a nibble of an exponent
abbrev pub exponent_step : Bool → ℕ → ℕ → Bool → ℕ → ℕ → Exact
exponent_step s n f es e x = pick (ltb x 10) (in_exponent s n f es true (e * 10 + x)) spoilt

-- one nibble more
abbrev pub step_of : Exact → ℕ → Exact
step_of begun x = pick (eqb x 14) (in_mantissa true false false 0 0) (mantissa_step false false false 0 0 x)
step_of (in_mantissa s any point n f) x = mantissa_step s any point n f x
step_of (after_e s n f) x = pick (eqb x 14) (in_exponent s n f true false 0) (exponent_step s n f false 0 x)
step_of (in_exponent s n f es any e) x = exponent_step s n f es e x
step_of spoilt x = spoilt

-- what the whole text says, by the nibbles that are left
abbrev pub form_from : Exact → List ℕ → Form
form_from begun xs = form_of xs
form_from (in_mantissa s any point n f) xs = mantissa s any point n f xs
form_from (after_e s n f) xs = exponent s n f xs
form_from (in_exponent s n f es any e) xs = exp_digits s n f es any e xs
form_from spoilt xs = bad

-- what the real is that starts at p, by the text that is left after k nibbles
abbrev pub real_from : Exact → ℕ → ℕ → Text → Number
real_from g k p cut = refused Truncated
real_from g k p wrong = refused Malformed
real_from g k p (text ns) = placed (p + ((k + length ns) / 2 + 1)) (value_of (k + length ns + 1) (form_from g ns))

-- the digits as the code holds them: without the zeros at their end, and stopped at 16 digits; counts stop at 1000
abbrev pub held_of : Bool → ℕ → ℕ → Held
held_of s n f = record { neg = s; digits = min (stripped n) (10 ^ 15); zeros = min (zeros n) 1000; behind = min f 1000 }

-- the stage as the code holds it
abbrev pub stage_of : Exact → Stage
stage_of begun = Start
stage_of (in_mantissa s any point n f) = Mantissa any point (held_of s n f)
stage_of (after_e s n f) = Exponent (held_of s n f)
stage_of (in_exponent s n f es any e) = Power (held_of s n f) es any (min e 1000)
stage_of spoilt = Spoilt

-- no more digits behind the point, and no more zeros at the end, than nibbles were read
abbrev pub Few : ℕ → ℕ → ℕ → Type 0
Few n f k = (zeros n ≤ k) × (f ≤ k)

-- the same of a stage, after k nibbles
abbrev pub Counted : Exact → ℕ → Type 0
Counted begun k = Unit
Counted (in_mantissa s any point n f) k = Few n f k
Counted (after_e s n f) k = Few n f k
Counted (in_exponent s n f es any e) k = Few n f k
Counted spoilt k = Unit

-- r answers a well formed text of so many bytes, by what is held of it
abbrev pub Finished : ℕ → ℕ → Held → Bool → ℕ → Result (Option NumberAt) Refusal → Type 0
Finished bytes next h es exp r =
    (s : Bool) (n f e k : ℕ) → h ≡ held_of s n f → exp ≡ min e 1000 → Few n f k → bytes ≡ k / 2 + 1
    → r ≡ answer_of (placed next (value_of (k + 1) (form s n f es e)))

-- r answers a text of so many bytes that has ended, by its stage
abbrev pub Ended : Stage → ℕ → ℕ → Result (Option NumberAt) Refusal → Type 0
Ended st bytes next r =
    (g : Exact) (k : ℕ) → st ≡ stage_of g → Counted g k → bytes ≡ k / 2 + 1
    → r ≡ answer_of (placed next (value_of (k + 1) (form_from g [])))

-- what the code holds after k nibbles of the real at `at`, the nibbles xs being left: what is left gives what the whole gave
pub record Going (b : List ℕ) (at : ℕ) (st : Stage) (k : ℕ) (xs : List ℕ) : Type 0 where
  pub exact : Exact
  pub held : st ≡ stage_of exact
  pub counted : Counted exact k
  pub rest : real_from exact k (at + 1) (text_of xs) ≡ real_at b at

-- the same between two bytes, p being the next
pub record Running (b : List ℕ) (at : ℕ) (st : Stage) (p : ℕ) : Type 0 where
  pub after : at < p
  pub within : p ≤ length b
  pub going : Going b at st (2 * (p - (at + 1))) (nibbles (drop p b))

-- the counts of what is held stop at 1000, and its digits end in no zero unless they are 0 or have stopped
abbrev pub Bounded : Held → Type 0
Bounded h = (h.zeros ≤ 1000) × (h.behind ≤ 1000) × (h.digits % 10 ≡ 0 → h.digits < 10 ^ 15 → h.digits ≡ 0)

-- the same of a stage
abbrev pub Stopped : Stage → Type 0
Stopped Start = Unit
Stopped (Mantissa any point h) = Bounded h
Stopped (Exponent h) = Unit
Stopped (Power h eneg any exp) = (Bounded h) × (exp ≤ 1000)
Stopped Spoilt = Unit
