-- Runs of plain tokens (document 01, 'Corners in charstring.rs'; TN5177, sections 3.1 and 3.2): a token that is written as it was read, is no
-- call and has no mask behind it. A run is copied byte for byte, but for a number that stands last: it is held, since a call may follow.
use Rattle.std.specs.Prelude.{ℕ, ◌+◌, ◌-◌, ◌*◌, ◌≤◌, ◌<◌, ◌≡◌, Bool, true, false, not, List, ◌++◌, ltb, eqb, ℤ, length, take, drop, get_or, Some, None, Option}
use Rattle.octets.specs.Pick.{pick}
use Rattle.type2_number.specs.Number.{Reading}
use Rattle.charstring.specs.declared.MaskLen.{MaskLen}
use Rattle.charstring.specs.declared.Cursor.{Cursor}
use Rattle.charstring.specs.Bias.{last_at}
use Rattle.charstring.specs.Token.{Tok}
use Rattle.charstring.specs.Encode.{encode}
use Rattle.prune.specs.Renumber.{Calls}
use Rattle.renumber.specs.Turn.{cursor, held_bytes_lem}
use Rattle.renumber.specs.BodyLaws.{Turning}
use Rattle.renumber.specs.declared.runs.Run.{Run}

-- a byte below 32 that is an operator by itself, and no call (10, 29), no escape (12), no mask's operator (19, 20) and no number (28)
abbrev pub is_plain : ℕ → Bool
is_plain b =
    pick (eqb b 10) false (pick (eqb b 12) false (pick (eqb b 19) false (pick (eqb b 20) false (pick (eqb b 28) false (pick (eqb b 29) false true)))))

-- a byte that is an operator or begins one: below 32, and not 28
abbrev pub is_operator : ℕ → Bool
is_operator b = pick (ltb b 32) (not (eqb b 28)) false

-- an integer of 16 bits that takes three bytes: above 1131, or below -1131; -32768 is written as a 16.16
unfoldable pub is_three_lem : ℕ → Bool
is_three_lem n = pick (ltb n 1132) false (pick (eqb n 32768) false (ltb n 64405))

unfoldable pub three_len : List ℕ → ℕ → Option ℕ
three_len s at = pick (ltb (length s - at) 3) None (pick (is_three_lem (get_or s (at + 1) 0 * 256 + get_or s (at + 2) 0)) (Some 3) None)

-- a 16.16 with the halves h and l that is no integer and lies between -256 and 256: rounding to 24 digits leaves it
unfoldable pub is_five_lem : ℕ → ℕ → Bool
is_five_lem h l = pick (eqb l 0) false (pick (ltb h 256) true (ltb 65279 h))

unfoldable pub five_len : List ℕ → ℕ → Option ℕ
five_len s at =
    pick (ltb (length s - at) 5) None
    (pick (is_five_lem (get_or s (at + 1) 0 * 256 + get_or s (at + 2) 0) (get_or s (at + 3) 0 * 256 + get_or s (at + 4) 0)) (Some 5) None)

-- how many bytes the plain token at a place has, none where there is none: numbers of one byte and of two are in their shortest form, those of three
-- and five are taken where they are
unfoldable pub plain_len : List ℕ → ℕ → Option ℕ
plain_len s at =
    let v = get_or s at 0 in
    pick (ltb v 32) (pick (eqb v 28) (three_len s at) (pick (is_plain v) (Some 1) None))
    (pick (ltb v 247) (Some 1) (pick (ltb v 255) (pick (ltb (length s - at) 2) None (Some 2)) (five_len s at)))

-- the bytes from a place up to another
abbrev pub part : List ℕ → ℕ → ℕ → List ℕ
part s from to = take (to - from) (drop from s)

-- what is written at a run: the number that was held, and the run's bytes up to the number that it holds back
abbrev pub run_bytes : List ℕ → Option ℤ → ℕ → ℕ → List ℕ
run_bytes s h from last = held_bytes_lem h ++ part s from last

-- a walk that stands at a cursor with a number held has written these bytes
pub record Standing (calls : Calls) (given : ℕ → MaskLen) (s : List ℕ) (c : Cursor) (h : Option ℤ) (bs : List ℕ) : Type 0 where
  pub sent : List Tok
  pub turning : Turning calls given s c h sent
  pub written : encode sent ≡ bs

-- any walk that stands at c, holding h, comes to d, holding g, and writes these bytes on the way
pub record Passes (s : List ℕ) (c : Cursor) (h : Option ℤ) (d : Cursor) (g : Option ℤ) (bs : List ℕ) : Type 0 where
  pub goes : (calls : Calls) → ((b : ℕ) (z y : ℤ) → calls b z ≡ Some y → Reading y) → (given : ℕ → MaskLen) (pre : List ℕ)
      → Standing calls given s c h pre → Standing calls given s d g (pre ++ bs)

-- what a run from a cursor on is: where it goes on at all, the number that was held and the bytes up to its last number are written
pub record RunFrom (s : List ℕ) (c : Cursor) (r : Run) : Type 0 where
  pub starts : c.at ≤ r.last
  pub ends : r.last ≤ r.at
  pub inside : r.at ≤ length s
  pub passes : c.at < r.at → (h : Option ℤ)
      → Passes s c h (cursor r.at r.args r.stems false) (last_at s r.last r.at) (run_bytes s h c.at r.last)
