-- Worked examples, computed.
use Rattle.std.specs.Prelude.{ℕ, ◌≡◌, refl, true, false, ◌&&◌, List, [], ◌∷◌, ◌++◌}
use Rattle.octets.specs.Octets.{be, num_at}
use Rattle.charstring.specs.declared.MaskLen.TheVariants.{Own, Given}
use Rattle.unfold.specs.Unfold.{Row, glyph, local, global, entered, masked}
use Rattle.record.specs.Record.{rows_from, rows_of, rows_fine_lem, record_fine, row_fine_lem, lists, given_in, disagrees, two_lengths_lem}

-- local 2 of FD 1 reached, and a mask of 2 bytes at offset 5 of it
abbrev two : List ℕ
two = 0 ∷ 1 ∷ 0 ∷ 2 ∷ 0 ∷ 0 ∷ 0 ∷ 0 ∷ 0 ∷ 0 ∷ 3 ∷ 1 ∷ 0 ∷ 2 ∷ 0 ∷ 0 ∷ 0 ∷ 5 ∷ 0 ∷ 2 ∷ []

fine_cid : record_fine true two 1 ≡ true
unfolding record_fine rows_of rows_from rows_fine_lem num_at be
fine_cid = refl

-- in a name-keyed font the FD must be 0; with flag 0 no row may stand; a flag above 1; half a row
fd_in_name-keyed : record_fine false two 1 ≡ false
unfolding record_fine rows_of rows_from rows_fine_lem num_at be
fd_in_name-keyed = refl

rows-with-flag_0 : record_fine true two 0 ≡ false
unfolding record_fine rows_of rows_from rows_fine_lem num_at be
rows-with-flag_0 = refl

flag_2 : record_fine true [] 2 ≡ false
unfolding record_fine rows_of rows_from rows_fine_lem
flag_2 = refl

half_a_row : record_fine true (0 ∷ 0 ∷ []) 1 ≡ false
unfolding record_fine rows_of rows_from rows_fine_lem
half_a_row = refl

length-given : given_in (rows_of two) (local 1 2) 5 ≡ Given 2
unfolding rows_of rows_from given_in num_at be
length-given = refl

no_length : given_in (rows_of two) (glyph 2) 5 ≡ Own
unfolding rows_of rows_from given_in num_at be
no_length = refl

one-length : two_lengths_lem (rows_of two) (local 1 2) ≡ false
unfolding rows_of rows_from two_lengths_lem disagrees num_at be
one-length = refl

-- ---- what is listed: a row with the same five fields, wherever it stands

lists_local : lists (rows_of two) (entered (local 1 2)) ≡ true
unfolding rows_of rows_from lists num_at be
lists_local = refl

lists-mask : lists (rows_of two) (masked (local 1 2) 5 2) ≡ true
unfolding rows_of rows_from lists num_at be
lists-mask = refl

-- the mask with another length alone is not listed
other_length : lists (rows_of two) (masked (local 1 2) 5 1) ≡ false
unfolding rows_of rows_from lists num_at be
other_length = refl

other_offset : lists (rows_of two) (masked (local 1 2) 4 2) ≡ false
unfolding rows_of rows_from lists num_at be
other_offset = refl

other_number : lists (rows_of two) (entered (local 1 1)) ≡ false
unfolding rows_of rows_from lists num_at be
other_number = refl

other_fd : lists (rows_of two) (entered (local 0 2)) ≡ false
unfolding rows_of rows_from lists num_at be
other_fd = refl

other_kind : lists (rows_of two) (entered (global 2)) ≡ false
unfolding rows_of rows_from lists num_at be
other_kind = refl

lists-nothing : lists (rows_of []) (entered (global 0)) ≡ false
unfolding rows_of rows_from lists
lists-nothing = refl

-- ---- the form of a row, in a CID-keyed font: kind, FD, number, offset, length

abbrev row : ℕ → ℕ → ℕ → ℕ → ℕ → Row
row kind fd number offset len = record { kind = kind; fd = fd; number = number; offset = offset; len = len }

-- masks of each body, a local subroutine's with an FD; kind 5 there is not
mask-rows : row_fine_lem true (row 2 0 7 9 1) && row_fine_lem true (row 3 255 7 9 1) && row_fine_lem true (row 4 0 7 9 1) ≡ true
mask-rows = refl

kind_5 : row_fine_lem true (row 5 0 0 0 0) ≡ false
kind_5 = refl

-- kinds 0 and 1 have neither offset nor length
offset_in_0 : row_fine_lem true (row 0 0 0 1 0) ≡ false
offset_in_0 = refl

offset_in_1 : row_fine_lem true (row 1 0 0 1 0) ≡ false
offset_in_1 = refl

length_in_0 : row_fine_lem true (row 0 0 0 0 1) ≡ false
length_in_0 = refl

length_in_1 : row_fine_lem true (row 1 0 0 0 1) ≡ false
length_in_1 = refl

-- kinds 1, 2 and 4 have no FD
fd_in_1 : row_fine_lem true (row 1 1 0 0 0) ≡ false
fd_in_1 = refl

fd_in_2 : row_fine_lem true (row 2 1 0 0 1) ≡ false
fd_in_2 = refl

fd_in_4 : row_fine_lem true (row 4 1 0 0 1) ≡ false
fd_in_4 = refl

-- in bytes: behind a good row kind 5, an offset in kind 1
kind_5_behind : record_fine true (two ++ (5 ∷ 0 ∷ 0 ∷ 0 ∷ 0 ∷ 0 ∷ 0 ∷ 0 ∷ 0 ∷ 0 ∷ [])) 1 ≡ false
unfolding record_fine rows_of rows_from rows_fine_lem num_at be
kind_5_behind = refl

offset-behind : record_fine true (two ++ (1 ∷ 0 ∷ 0 ∷ 0 ∷ 1 ∷ 0 ∷ 0 ∷ 0 ∷ 0 ∷ 0 ∷ [])) 1 ≡ false
unfolding record_fine rows_of rows_from rows_fine_lem num_at be
offset-behind = refl
