-- The numbers of the refusals (document 01, 'Entries and their refusals'). 1 to 3 are the Rust's FontError; the others were added.
use Rattle.std.specs.Prelude.{ℕ, Bool, false, ltb, leb, Result, Ok, Err}
use Rattle.octets.specs.Pick.{pick}
use Rattle.refusal.specs.declared.Refusal.{Refusal}
use Rattle.refusal.specs.declared.Refusal.TheVariants.{Truncated, Malformed, Unsupported, TooLong, Real, NoSuchNumber, NotFound, BadRecord, Work, Subset, Output, StringId, Pairs, NotAccepted, NoTable}

-- too long: a font above 67,108,864 bytes, or a new name above 65,535; a real: a well-formed one of more than 64 nibbles, 15 digits, or a power
-- of ten outside -30 to 30; no such number: no glyph or item of it; not found: a kept glyph that finding would not give; a bad record: the reach
-- record or the flag; work: fewer than W work words; subset: one above 67,108,864 bytes; output: a subset above it; a string id: a new one above
-- 64,999; pairs: more than 255 (document 02, Wish 4); not accepted: a record right in form (document 02, Wish 6); no table `CFF ` (Wish 9)
abbrev pub number_of : Refusal → ℕ
number_of Truncated = 1
number_of Malformed = 2
number_of Unsupported = 3
number_of TooLong = 4
number_of Real = 5
number_of NoSuchNumber = 6
number_of NotFound = 7
number_of BadRecord = 8
number_of Work = 9
number_of Subset = 10
number_of Output = 11
number_of StringId = 12
number_of Pairs = 13
number_of NotAccepted = 14
number_of NoTable = 15

-- what a call answers for C that gives nothing but whether it is refused: 0 where it is not
abbrev pub number_or_0 : Result Unit Refusal → ℕ
number_or_0 (Err e) = number_of e
number_or_0 (Ok u) = 0

-- a number that a refused call can answer
abbrev pub is_refusal : ℕ → Bool
is_refusal n = pick (ltb n (number_of Truncated)) false (leb n (number_of NoTable))
