-- The reach record (document 01, 'Reach record'; the Rust's Reached and mask_lengths): ten bytes a row, big-endian: kind (1), FD (1),
-- number (2), offset (4), length (2). Kind 0 local reached, 1 global reached, 2, 3, 4 mask in glyph, local, global.
use Rattle.std.specs.Prelude.{ℕ, zero, suc, ◌/◌, ◌%◌, Bool, true, false, ◌&&◌, not, List, [], ◌∷◌, ltb, eqb, length, drop, get_or}
use Rattle.octets.specs.Pick.{pick}
use Rattle.octets.specs.Octets.{num_at}
use Rattle.charstring.specs.declared.MaskLen.{MaskLen}
use Rattle.charstring.specs.declared.MaskLen.TheVariants.{Own, Given}
use Rattle.unfold.specs.Unfold.{Row, Site, masked}

abbrev pub row_of : List ℕ → Row
row_of b = record { kind = get_or b 0 0; fd = get_or b 1 0; number = num_at b 2 2; offset = num_at b 4 4; len = num_at b 8 2 }

unfoldable pub rows_from : ℕ → List ℕ → List Row
rows_from zero b = []
rows_from (suc n) b = row_of b ∷ rows_from n (drop 10 b)

-- the rows of a record
unfoldable pub rows_of : List ℕ → List Row
rows_of b = rows_from (length b / 10) b

-- ---- refusal 8

-- FD is 0 for kinds 1, 2, 4 and in name-keyed fonts; offset and length are 0 for kinds 0, 1
abbrev pub takes_fd : Bool → ℕ → Bool
takes_fd cid kind = pick cid (pick (eqb kind 0) true (eqb kind 3)) false

abbrev pub row_fine_lem : Bool → Row → Bool
row_fine_lem cid r =
    pick (ltb 4 r.kind) false
    (pick (takes_fd cid r.kind) true (eqb r.fd 0)
    && pick (ltb r.kind 2) (eqb r.offset 0 && eqb r.len 0) true)

unfoldable pub rows_fine_lem : Bool → List Row → Bool
rows_fine_lem cid [] = true
rows_fine_lem cid (r ∷ rs) = row_fine_lem cid r && rows_fine_lem cid rs

-- a record and a flag of the right form: the flag is 0 or 1, and with 0 the record is empty
unfoldable pub record_fine : Bool → List ℕ → ℕ → Bool
record_fine cid b flag =
    pick (eqb (length b % 10) 0) (rows_fine_lem cid (rows_of b) && pick (eqb flag 0) (eqb (length b) 0) (eqb flag 1)) false

-- ---- what a record says

abbrev pub same_row_lem : Row → Row → Bool
same_row_lem r q = eqb r.kind q.kind && eqb r.fd q.fd && eqb r.number q.number && eqb r.offset q.offset && eqb r.len q.len

-- a record lists a row; a mask with another length alone is not listed
unfoldable pub lists : List Row → Row → Bool
lists [] q = false
lists (r ∷ rs) q = pick (same_row_lem r q) true (lists rs q)

-- a row is of a mask at a place of a body, whatever its length
abbrev pub at_place : Row → Row → Bool
at_place r q = eqb r.kind q.kind && eqb r.fd q.fd && eqb r.number q.number && eqb r.offset q.offset

-- the length that a record gives for the mask at an offset of a body: the first row's
unfoldable pub given_in : List Row → Site → ℕ → MaskLen
given_in [] site offset = Own
given_in (r ∷ rs) site offset = pick (at_place r (masked site offset 0)) (Given r.len) (given_in rs site offset)

-- a row of a mask of a body
abbrev pub of_body : Row → Site → Bool
of_body r site = let q = masked site 0 0 in eqb r.kind q.kind && eqb r.fd q.fd && eqb r.number q.number

-- some row has another length at the same place
unfoldable pub disagrees : Row → List Row → Bool
disagrees r [] = false
disagrees r (q ∷ rs) = pick (at_place r q && not (eqb r.len q.len)) true (disagrees r rs)

-- two lengths at one offset of a body
unfoldable pub two_lengths_lem : List Row → Site → Bool
two_lengths_lem [] site = false
two_lengths_lem (r ∷ rs) site = pick (of_body r site && disagrees r rs) true (two_lengths_lem rs site)
