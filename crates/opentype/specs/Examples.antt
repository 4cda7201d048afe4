-- Worked examples, computed: each edge of a directory (document 02, Wish 9).
use Rattle.std.specs.Prelude.{◌≡◌, refl, ℕ, List, [], ◌∷◌, ◌++◌, take, Err}
use Rattle.octets.specs.Octets.{be, num_at}
use Rattle.opentype.specs.Opentype.{table_lying, row_from_lem, place_of}
use Rattle.refusal.specs.declared.Refusal.TheVariants.{Truncated, NoTable}

-- the first 12 bytes, of a directory of n rows
abbrev head : ℕ → List ℕ
head n = 0x4f ∷ 0x54 ∷ 0x54 ∷ 0x4f ∷ 0 ∷ n ∷ 0 ∷ 0 ∷ 0 ∷ 0 ∷ 0 ∷ 0 ∷ []

-- a row tagged `CFF` and a letter; its checksum is not that of any table
abbrev row : ℕ → ℕ → ℕ → List ℕ
row letter start len = 0x43 ∷ 0x46 ∷ 0x46 ∷ letter ∷ 9 ∷ 9 ∷ 9 ∷ 9 ∷ 0 ∷ 0 ∷ 0 ∷ start ∷ 0 ∷ 0 ∷ 0 ∷ len ∷ []

-- the second of two rows, for `CFF2` is another table; the table is the last byte, so it ends with the file
second : place_of (head 2 ++ (row 0x32 0 1 ++ (row 0x20 44 1 ++ (7 ∷ [])))) ≡ table_lying 44 1
unfolding be num_at row_from_lem place_of
second = refl

-- one byte more is past the end
past_the_end : place_of (head 1 ++ (row 0x20 28 2 ++ (7 ∷ []))) ≡ Err Truncated
unfolding be num_at row_from_lem place_of
past_the_end = refl

-- an empty table at the end is a table; what is in it is no longer the directory's
empty-table : place_of (head 1 ++ row 0x20 28 0) ≡ table_lying 28 0
unfolding be num_at row_from_lem place_of
empty-table = refl

-- a table may stand anywhere, over the directory too; offset and length are not taken for each other
over_the_directory : place_of (head 1 ++ row 0x20 3 20) ≡ table_lying 3 20
unfolding be num_at row_from_lem place_of
over_the_directory = refl

-- of two rows the first counts
first_counts : place_of (head 2 ++ (row 0x20 44 1 ++ (row 0x20 45 1 ++ (7 ∷ 8 ∷ [])))) ≡ table_lying 44 1
unfolding be num_at row_from_lem place_of
first_counts = refl

-- also where it is past the end and the other is not
first-past_the_end : place_of (head 2 ++ (row 0x20 44 2 ++ (row 0x20 44 1 ++ (7 ∷ [])))) ≡ Err Truncated
unfolding be num_at row_from_lem place_of
first-past_the_end = refl

-- offset fffffff0 and length 0000001d: their sum is 2^32 + 13, which 32 bits would take for 13
past_32_bits : place_of (head 1 ++ (0x43 ∷ 0x46 ∷ 0x46 ∷ 0x20 ∷ 0 ∷ 0 ∷ 0 ∷ 0 ∷ 0xff ∷ 0xff ∷ 0xff ∷ 0xf0 ∷ 0 ∷ 0 ∷ 0 ∷ 0x1d ∷ [])) ≡ Err Truncated
unfolding be num_at row_from_lem place_of
past_32_bits = refl

none : place_of (head 1 ++ row 0x32 0 1) ≡ Err NoTable
unfolding be num_at row_from_lem place_of
none = refl

no_rows : place_of (head 0) ≡ Err NoTable
unfolding be num_at row_from_lem place_of
no_rows = refl

-- a row behind the directory's end is none of its rows
behind_the_directory : place_of (head 1 ++ (row 0x32 0 1 ++ row 0x20 0 1)) ≡ Err NoTable
unfolding be num_at row_from_lem place_of
behind_the_directory = refl

-- the whole directory must be there, though its first row names the table
short-directory : place_of (head 2 ++ (row 0x20 0 1 ++ take 15 (row 0x32 0 1))) ≡ Err Truncated
unfolding be num_at row_from_lem place_of
short-directory = refl

-- 11 bytes and 4 are no directory, nor are 12 that count a row
eleven : place_of (take 11 (head 0)) ≡ Err Truncated
unfolding be num_at row_from_lem place_of
eleven = refl

four : place_of (take 4 (head 0)) ≡ Err Truncated
unfolding be num_at row_from_lem place_of
four = refl

twelve : place_of (head 1) ≡ Err Truncated
unfolding be num_at row_from_lem place_of
twelve = refl

-- any other file is the font: the three bytes `OTT`, `OTTP`, a bare font, no byte
three : place_of (take 3 (head 0)) ≡ table_lying 0 3
unfolding be num_at row_from_lem place_of
three = refl

other : place_of (0x4f ∷ 0x54 ∷ 0x54 ∷ 0x50 ∷ []) ≡ table_lying 0 4
unfolding be num_at row_from_lem place_of
other = refl

bare : place_of (1 ∷ 0 ∷ 4 ∷ 1 ∷ []) ≡ table_lying 0 4
unfolding be num_at row_from_lem place_of
bare = refl

nothing : place_of [] ≡ table_lying 0 0
unfolding be num_at row_from_lem place_of
nothing = refl
