-- The checks of an encoding (TN5176, section 12): a format byte, whose low seven bits say 0, nCodes and a byte for each code, or 1, nRanges
-- and two bytes for each range, and whose high bit says that supplements follow, nSups and three bytes for each. Each count is a byte.
use Rattle.std.specs.Prelude.{ℕ, ◌+◌, ◌*◌, ◌/◌, ◌%◌, List, [], ◌∷◌, length, drop, ltb, eqb, Result, Ok, Err}
use Rattle.octets.specs.Pick.{pick}
use Rattle.refusal.specs.declared.Refusal.{Refusal}
use Rattle.refusal.specs.declared.Refusal.TheVariants.{Truncated, Malformed}

-- a count and that many entries of a size: truncated where bytes are missing, else what the rest gives
abbrev pub entries : ℕ → List ℕ → (List ℕ → Result Unit Refusal) → Result Unit Refusal
entries size [] rest = Err Truncated
entries size (count ∷ bs) rest = pick (ltb (length bs) (count * size)) (Err Truncated) (rest (drop (count * size) bs))

-- the supplements of a format, if it has any
abbrev pub supplements : ℕ → List ℕ → Result Unit Refusal
supplements format bs = pick (eqb (format / 128) 0) (Ok tt) (entries 3 bs (λ end. Ok tt))

-- the refusal of the encoding at the front of bs, if it is refused
abbrev pub encoding_in : List ℕ → Result Unit Refusal
encoding_in [] = Err Truncated
encoding_in (format ∷ bs) = pick (ltb 1 (format % 128)) (Err Malformed) (entries (format % 128 + 1) bs (supplements format))

-- the same of the encoding at a place
unfoldable pub encoding_at : List ℕ → ℕ → Result Unit Refusal
encoding_at b at = encoding_in (drop at b)
