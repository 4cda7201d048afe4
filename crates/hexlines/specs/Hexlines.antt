-- Lines of lower-case hexadecimal (document 01, 'One sheet, whole'): two digits to a byte, the high one first. A line ends at a
-- line feed (10) or with the text; the fields of a line have a blank (32) between them.
use Rattle.std.specs.Prelude.{ℕ, ◌+◌, ◌-◌, ◌*◌, ◌/◌, ◌%◌, ◌≡◌, Bool, true, false, List, [], ◌∷◌, ltb, leb, length, None, Option, Some}
use Rattle.std.specs.Option.{is_some, unwrap_or}
use Rattle.std.proofs.Math.Seq.{slice}
use Rattle.octets.specs.Pick.{pick}
use Rattle.octets.specs.Octets.{put}
use Rattle.octets.specs.Lists.{before}

-- the value of a digit, 0 to 9 (48 to 57) or a to f (97 to 102), and none for any other byte
unfoldable pub hex_value_lem : ℕ → Option ℕ
hex_value_lem b =
    pick (ltb b 48) None
    (pick (leb b 57) (Some (b - 48))
    (pick (ltb b 97) None
    (pick (leb b 102) (Some (b - 97 + 10)) None)))

-- the byte of two digits
unfoldable pub octet_of : ℕ → ℕ → ℕ
octet_of high low = unwrap_or (hex_value_lem high) 0 * 16 + unwrap_or (hex_value_lem low) 0

-- the place of the first blank from a place on, the end where there is none
unfoldable pub field_end_lem : List ℕ → ℕ → ℕ → ℕ
field_end_lem s at end = at + before 32 (slice at end s)

-- are these digits only, and an even number of them?
unfoldable pub is_hex_lem : List ℕ → Bool
is_hex_lem [] = true
is_hex_lem (x ∷ []) = false
is_hex_lem (x ∷ (y ∷ rest)) = pick (is_some (hex_value_lem x)) (pick (is_some (hex_value_lem y)) (is_hex_lem rest) false) false

-- the bytes that digits spell
unfoldable pub spelt : List ℕ → List ℕ
spelt [] = []
spelt (x ∷ []) = []
spelt (x ∷ (y ∷ rest)) = octet_of x y ∷ spelt rest

-- the bytes of a text of hexadecimal, and none where it is not one
unfoldable pub hex_bytes : List ℕ → Option (List ℕ)
hex_bytes text = pick (is_hex_lem text) (Some (spelt text)) None

-- the bytes, where room many places hold them from to on, and else none
unfoldable pub room_for : ℕ → ℕ → Option (List ℕ) → Option (List ℕ)
room_for room to None = None
room_for room to (Some bs) = pick (ltb room (to + length bs)) None (Some bs)

-- none: the answer is None, and the slice is as it was; bytes: they stand in it from to on, and Some says the place behind them
unfoldable pub Unhexes : Option (List ℕ) → List ℕ → ℕ → List ℕ → Option ℕ → Type 0
Unhexes None old to new r = (r ≡ None) × (new ≡ old)
Unhexes (Some bs) old to new r = (r ≡ Some (to + length bs)) × (new ≡ put old to bs)

-- the digit of a value below 16
unfoldable pub digit_of : ℕ → ℕ
digit_of v = pick (ltb v 10) (48 + v) (87 + v)

-- the text of a list of bytes
unfoldable pub hex_text : List ℕ → List ℕ
hex_text [] = []
hex_text (b ∷ bs) = digit_of (b / 16) ∷ (digit_of (b % 16) ∷ hex_text bs)
