-- The number at a position of a DICT: TN5176, section 4, tables 3 and 4, and for reals table 5.
use Rattle.std.specs.Prelude.{ℕ, ◌+◌, ◌-◌, ◌*◌, ◌/◌, ◌≤◌, ◌<◌, Bool, true, false, List, ltb, eqb, length, drop, get_or, Result, Ok, Err, Option, Some, None}
use Rattle.octets.specs.Pick.{pick}
use Rattle.octets.specs.Octets.{num_at}
use Rattle.decimal.specs.declared.Decimal.{Decimal}
use Rattle.decimal.specs.Decimal.{normal, Normal}
use Rattle.decimal.specs.Real.{nibbles, Text, cut, wrong, text, text_of, form_of, value_of}
use Rattle.decimal.specs.declared.NumberAt.{NumberAt}
use Rattle.refusal.specs.declared.Refusal.{Refusal}
use Rattle.refusal.specs.declared.Refusal.TheVariants.{Truncated, Malformed}

-- what stands there: a refusal; no number, but an operator or a byte that is neither, the caller's matter; or a number and the
-- position after it
pub data Number : Type 0 where
  refused : Refusal → Number
  not_number : Number
  number : Decimal → ℕ → Number

-- an integer of width bytes, where they are there
abbrev pub integer_at : List ℕ → ℕ → ℕ → Bool → ℕ → Number
integer_at b at width s n = pick (ltb (length b) (at + width)) (refused Truncated) (number (normal s n 0 0) (at + width))

-- the sign and the size of a number in two's complement, `half` being the least that is negative
abbrev pub twos_at : List ℕ → ℕ → ℕ → ℕ → ℕ → Number
twos_at b at width half v = pick (ltb v half) (integer_at b at width false v) (integer_at b at width true (half * 2 - v))

-- the first byte v, 247 to 254, and one byte more
abbrev pub pair_at : List ℕ → ℕ → ℕ → Number
pair_at b at v =
    let w = get_or b (at + 1) 0 in
    pick (ltb v 251) (integer_at b at 2 false ((v - 247) * 256 + w + 108)) (integer_at b at 2 true ((v - 251) * 256 + w + 108))

-- a real's value with the position after its last byte
abbrev pub placed : ℕ → Result Decimal Refusal → Number
placed next (Err n) = refused n
placed next (Ok d) = number d next

-- a real whose nibbles start at p: two nibbles to a byte, the end among them
abbrev pub real_of : ℕ → Text → Number
real_of p cut = refused Truncated
real_of p wrong = refused Malformed
real_of p (text ns) = placed (p + (length ns / 2 + 1)) (value_of (length ns + 1) (form_of ns))

-- the real whose first byte, 30, stands at `at`
unfoldable pub real_at : List ℕ → ℕ → Number
unfolding nibbles text_of value_of form_of
real_at b at = real_of (at + 1) (text_of (nibbles (drop (at + 1) b)))

-- the number at `at`, by its first byte: 28 and two bytes, 29 and four, both in two's complement; 30 and a real; 32 to 246 by
-- itself; 247 to 254 with one byte more
unfoldable pub number_at : List ℕ → ℕ → Number
unfolding num_at normal real_at
number_at b at =
    let v = get_or b at 0 in
    pick (eqb v 28) (twos_at b at 3 32768 (num_at b (at + 1) 2))
    (pick (eqb v 29) (twos_at b at 5 2147483648 (num_at b (at + 1) 4))
    (pick (eqb v 30) (real_at b at)
    (pick (ltb v 32) not_number
    (pick (ltb v 139) (integer_at b at 1 true (139 - v))
    (pick (ltb v 247) (integer_at b at 1 false (v - 139))
    (pick (ltb v 255) (pair_at b at v) not_number))))))

-- a number that was read, and the position after it
abbrev pub a_number : Decimal → ℕ → Result (Option NumberAt) Refusal
a_number d next = Ok (Some (record { value = d; next = next }))

-- the code's answer for it
abbrev pub answer_of : Number → Result (Option NumberAt) Refusal
answer_of (refused n) = Err n
answer_of not_number = Ok None
answer_of (number d next) = a_number d next

-- the code's answer where the value is not wanted
abbrev pub past_of : Number → Result (Option ℕ) Refusal
past_of (refused n) = Err n
past_of not_number = Ok None
past_of (number d next) = Ok (Some next)

-- the same for a number of width bytes, whatever it is
abbrev pub past_width : List ℕ → ℕ → ℕ → Result (Option ℕ) Refusal
past_width b at width = pick (ltb (length b) (at + width)) (Err Truncated) (Ok (Some (at + width)))

-- a number that was read: within the limits, and within the bytes
pub record Taken (b : List ℕ) (at : ℕ) (d : Decimal) (next : ℕ) : Type 0 where
  pub normal : Normal d
  pub past : at < next
  pub within : next ≤ length b
