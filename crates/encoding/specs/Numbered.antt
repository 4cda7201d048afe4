-- What a subset has of an encoding by the number of its kind, any number being one: 0 no encoding, 1 the Expert one, 2 the pairs of a table; one of another
-- kind has no bytes, and its offset is the place.
use Rattle.std.specs.Prelude.{ℕ, ◌+◌, ◌*◌, ◌≡◌, refl, eqb}
use Rattle.octets.specs.Pick.{pick}
use Rattle.encoding.specs.Encoded.{encoding_len, offset_for}
use Rattle.encoding.specs.declared.Encoding.{Encoding}
use Rattle.encoding.specs.declared.Encoding.TheVariants.{Absent, Expert, Pairs}
use Rattle.encoding.specs.declared.numbered.Numbered.{Numbered}

-- how many bytes it has, and its offset where they stand at a place
abbrev pub numbered_len : Numbered → ℕ
numbered_len e = pick (eqb e.kind 2) (3 + 3 * e.pairs) 0

abbrev pub numbered_offset : Numbered → ℕ → ℕ
numbered_offset e at = pick (eqb e.kind 0) 0 (pick (eqb e.kind 1) 1 at)

-- an encoding by its number: it has as many bytes, and the same offset
abbrev pub by_number : Encoding → Numbered
by_number Absent = record { kind = 0; pairs = 0 }
by_number Expert = record { kind = 1; pairs = 0 }
by_number (Pairs n) = record { kind = 2; pairs = n }

pub same-len : (e : Encoding) → numbered_len (by_number e) ≡ encoding_len e
same-len Absent = refl
same-len Expert = refl
same-len (Pairs n) = refl

pub same-offset : (e : Encoding) (at : ℕ) → numbered_offset (by_number e) at ≡ offset_for e at
same-offset Absent at = refl
same-offset Expert at = refl
same-offset (Pairs n) at = refl

-- worked examples, computed: kind 7
seven-len : numbered_len (record { kind = 7; pairs = 3 }) ≡ 0
seven-len = refl

seven-offset : numbered_offset (record { kind = 7; pairs = 3 }) 40 ≡ 40
seven-offset = refl
