-- Worked examples, computed: document 01's input and its output, and inputs at the edges of the form.
use Rattle.std.specs.Prelude.{ℕ, ◌≡◌, refl, List, [], ◌∷◌, None, Some}
use Rattle.octets.specs.Octets.{bytes_of}
use Rattle.refusal.specs.declared.Refusal.TheVariants.{Output}
use Rattle.hexlines.specs.Hexlines.{hex_value_lem, octet_of, is_hex_lem, spelt, digit_of, hex_text}
use Rattle.cases.specs.Lines.{lines_of}
use Rattle.subset.specs.Cut.{refused, subset}
use Rattle.sheet.specs.Sheet.{hex_up_to, is_kept, hex_of, all_rows, filled, are_rows, row_bytes, pairs, is_sheet_lem, sheet_in, sheet_of, in_lines, subset_lines, printed, answer_to, cut_sheet}
use Rattle.subset.specs.declared.Way.TheVariants.{Renumbered}

-- document 01's font, input, subset and output
abbrev the_font : List ℕ
the_font = 1 ∷ 0 ∷ 4 ∷ 1 ∷ 0 ∷ 1 ∷ 1 ∷ 1 ∷ 2 ∷ 88 ∷ 0 ∷ 1 ∷ 1 ∷ 1 ∷ 3 ∷ 160 ∷ 17 ∷ 0 ∷ 0 ∷ 0 ∷ 0 ∷ 0 ∷ 2 ∷ 1 ∷ 1 ∷ 2 ∷ 3 ∷ 14 ∷ 14 ∷ []

abbrev the_input : List ℕ
the_input = 48 ∷ 49 ∷ 48 ∷ 48 ∷ 48 ∷ 52 ∷ 48 ∷ 49 ∷ 48 ∷ 48 ∷ 48 ∷ 49 ∷ 48 ∷ 49 ∷ 48 ∷ 49 ∷ 48 ∷ 50 ∷ 53 ∷ 56 ∷ 48 ∷ 48 ∷ 48 ∷ 49 ∷ 48 ∷ 49 ∷ 48 ∷ 49 ∷ 48 ∷ 51 ∷ 97 ∷ 48 ∷ 49 ∷ 49 ∷ 48 ∷ 48 ∷ 48 ∷ 48 ∷ 48 ∷ 48 ∷ 48 ∷ 48 ∷ 48 ∷ 48 ∷ 48 ∷ 50 ∷ 48 ∷ 49 ∷ 48 ∷ 49 ∷ 48 ∷ 50 ∷ 48 ∷ 51 ∷ 48 ∷ 101 ∷ 48 ∷ 101 ∷ 10 ∷ 52 ∷ 49 ∷ 10 ∷ 48 ∷ 48 ∷ 48 ∷ 49 ∷ 10 ∷ 48 ∷ 49 ∷ 10 ∷ []

abbrev the_subset : List ℕ
the_subset = 1 ∷ 0 ∷ 4 ∷ 1 ∷ 0 ∷ 1 ∷ 1 ∷ 1 ∷ 2 ∷ 65 ∷ 0 ∷ 1 ∷ 1 ∷ 1 ∷ 24 ∷ 29 ∷ 0 ∷ 0 ∷ 0 ∷ 42 ∷ 15 ∷ 29 ∷ 0 ∷ 0 ∷ 0 ∷ 45 ∷ 17 ∷ 29 ∷ 0 ∷ 0 ∷ 0 ∷ 0 ∷ 29 ∷ 0 ∷ 0 ∷ 0 ∷ 53 ∷ 18 ∷ 0 ∷ 0 ∷ 0 ∷ 0 ∷ 0 ∷ 0 ∷ 1 ∷ 0 ∷ 2 ∷ 1 ∷ 1 ∷ 2 ∷ 3 ∷ 14 ∷ 14 ∷ []

abbrev the_output : List ℕ
the_output = 48 ∷ 48 ∷ 48 ∷ 48 ∷ 48 ∷ 48 ∷ 48 ∷ 48 ∷ 51 ∷ 53 ∷ 10 ∷ 48 ∷ 49 ∷ 48 ∷ 48 ∷ 48 ∷ 52 ∷ 48 ∷ 49 ∷ 48 ∷ 48 ∷ 48 ∷ 49 ∷ 48 ∷ 49 ∷ 48 ∷ 49 ∷ 48 ∷ 50 ∷ 52 ∷ 49 ∷ 48 ∷ 48 ∷ 48 ∷ 49 ∷ 48 ∷ 49 ∷ 48 ∷ 49 ∷ 49 ∷ 56 ∷ 49 ∷ 100 ∷ 10 ∷ 48 ∷ 48 ∷ 48 ∷ 48 ∷ 48 ∷ 48 ∷ 50 ∷ 97 ∷ 48 ∷ 102 ∷ 49 ∷ 100 ∷ 48 ∷ 48 ∷ 48 ∷ 48 ∷ 48 ∷ 48 ∷ 50 ∷ 100 ∷ 49 ∷ 49 ∷ 49 ∷ 100 ∷ 48 ∷ 48 ∷ 48 ∷ 48 ∷ 48 ∷ 48 ∷ 48 ∷ 48 ∷ 10 ∷ 49 ∷ 100 ∷ 48 ∷ 48 ∷ 48 ∷ 48 ∷ 48 ∷ 48 ∷ 51 ∷ 53 ∷ 49 ∷ 50 ∷ 48 ∷ 48 ∷ 48 ∷ 48 ∷ 48 ∷ 48 ∷ 48 ∷ 48 ∷ 48 ∷ 48 ∷ 48 ∷ 48 ∷ 48 ∷ 49 ∷ 48 ∷ 48 ∷ 48 ∷ 50 ∷ 48 ∷ 49 ∷ 10 ∷ 48 ∷ 49 ∷ 48 ∷ 50 ∷ 48 ∷ 51 ∷ 48 ∷ 101 ∷ 48 ∷ 101 ∷ 10 ∷ []

-- the input
document-sheet : sheet_of (the_input) ≡ Some (record { font = the_font; name = 65 ∷ []; keep = 1 ∷ []; rec = []; flag = 1 })
unfolding sheet_of sheet_in is_sheet_lem hex_up_to is_kept hex_of are_rows all_rows filled row_bytes pairs lines_of is_hex_lem spelt octet_of hex_value_lem
document-sheet = refl

-- its last line feed is missing
no_last-feed : sheet_of (48 ∷ 49 ∷ 48 ∷ 48 ∷ 48 ∷ 52 ∷ 48 ∷ 49 ∷ 48 ∷ 48 ∷ 48 ∷ 49 ∷ 48 ∷ 49 ∷ 48 ∷ 49 ∷ 48 ∷ 50 ∷ 53 ∷ 56 ∷ 48 ∷ 48 ∷ 48 ∷ 49 ∷ 48 ∷ 49 ∷ 48 ∷ 49 ∷ 48 ∷ 51 ∷ 97 ∷ 48 ∷ 49 ∷ 49 ∷ 48 ∷ 48 ∷ 48 ∷ 48 ∷ 48 ∷ 48 ∷ 48 ∷ 48 ∷ 48 ∷ 48 ∷ 48 ∷ 50 ∷ 48 ∷ 49 ∷ 48 ∷ 49 ∷ 48 ∷ 50 ∷ 48 ∷ 51 ∷ 48 ∷ 101 ∷ 48 ∷ 101 ∷ 10 ∷ 52 ∷ 49 ∷ 10 ∷ 48 ∷ 48 ∷ 48 ∷ 49 ∷ 10 ∷ 48 ∷ 49 ∷ []) ≡ Some (record { font = the_font; name = 65 ∷ []; keep = 1 ∷ []; rec = []; flag = 1 })
unfolding sheet_of sheet_in is_sheet_lem hex_up_to is_kept hex_of are_rows all_rows filled row_bytes pairs lines_of is_hex_lem spelt octet_of hex_value_lem
no_last-feed = refl

-- three empty lines, the flag, and an empty row
empty-lines : sheet_of (10 ∷ 10 ∷ 10 ∷ 48 ∷ 48 ∷ 10 ∷ 10 ∷ []) ≡ Some (record { font = []; name = []; keep = []; rec = []; flag = 0 })
unfolding sheet_of sheet_in is_sheet_lem hex_up_to is_kept hex_of are_rows all_rows filled row_bytes pairs lines_of is_hex_lem spelt octet_of hex_value_lem
empty-lines = refl

-- an empty row and one
one-row : sheet_of (10 ∷ 10 ∷ 10 ∷ 48 ∷ 49 ∷ 10 ∷ 10 ∷ 48 ∷ 48 ∷ 48 ∷ 49 ∷ 48 ∷ 50 ∷ 48 ∷ 51 ∷ 48 ∷ 52 ∷ 48 ∷ 53 ∷ 48 ∷ 54 ∷ 48 ∷ 55 ∷ 48 ∷ 56 ∷ 102 ∷ 102 ∷ []) ≡ Some (record { font = []; name = []; keep = []; rec = 0 ∷ 1 ∷ 2 ∷ 3 ∷ 4 ∷ 5 ∷ 6 ∷ 7 ∷ 8 ∷ 255 ∷ []; flag = 1 })
unfolding sheet_of sheet_in is_sheet_lem hex_up_to is_kept hex_of are_rows all_rows filled row_bytes pairs lines_of is_hex_lem spelt octet_of hex_value_lem
one-row = refl

-- no flag line
no_flag : sheet_of (48 ∷ 48 ∷ 10 ∷ 10 ∷ 10 ∷ []) ≡ None
unfolding sheet_of sheet_in is_sheet_lem hex_up_to is_kept hex_of are_rows all_rows filled row_bytes pairs lines_of is_hex_lem spelt octet_of hex_value_lem
no_flag = refl

-- upper case
upper_case : sheet_of (10 ∷ 52 ∷ 65 ∷ 10 ∷ 10 ∷ 48 ∷ 48 ∷ 10 ∷ []) ≡ None
unfolding sheet_of sheet_in is_sheet_lem hex_up_to is_kept hex_of are_rows all_rows filled row_bytes pairs lines_of is_hex_lem spelt octet_of hex_value_lem
upper_case = refl

-- a number of two digits
half-number : sheet_of (10 ∷ 10 ∷ 48 ∷ 48 ∷ 10 ∷ 48 ∷ 48 ∷ 10 ∷ []) ≡ None
unfolding sheet_of sheet_in is_sheet_lem hex_up_to is_kept hex_of are_rows all_rows filled row_bytes pairs lines_of is_hex_lem spelt octet_of hex_value_lem
half-number = refl

-- a row of 18 digits
short_row : sheet_of (10 ∷ 10 ∷ 10 ∷ 48 ∷ 49 ∷ 10 ∷ 48 ∷ 48 ∷ 48 ∷ 49 ∷ 48 ∷ 50 ∷ 48 ∷ 51 ∷ 48 ∷ 52 ∷ 48 ∷ 53 ∷ 48 ∷ 54 ∷ 48 ∷ 55 ∷ 48 ∷ 56 ∷ []) ≡ None
unfolding sheet_of sheet_in is_sheet_lem hex_up_to is_kept hex_of are_rows all_rows filled row_bytes pairs lines_of is_hex_lem spelt octet_of hex_value_lem
short_row = refl

-- document 01's output is what is printed of its subset
document-printed : printed (subset Renumbered the_subset) ≡ the_output
unfolding printed in_lines hex_text digit_of bytes_of
document-printed = refl

-- 7 names no way
number-printed : subset_lines 7 (65 ∷ []) ≡ 48 ∷ 55 ∷ 48 ∷ 48 ∷ 48 ∷ 48 ∷ 48 ∷ 48 ∷ 48 ∷ 49 ∷ 10 ∷ 52 ∷ 49 ∷ 10 ∷ []
unfolding in_lines hex_text digit_of bytes_of
number-printed = refl

-- `ff0b`, refusal 11
refusal-printed : printed (refused Output) ≡ 102 ∷ 102 ∷ 48 ∷ 98 ∷ 10 ∷ []
unfolding printed in_lines hex_text digit_of bytes_of
refusal-printed = refl

-- other input: `ff00`
other_printed : cut_sheet (48 ∷ []) ≡ 102 ∷ 102 ∷ 48 ∷ 48 ∷ 10 ∷ []
unfolding cut_sheet answer_to sheet_of sheet_in lines_of printed in_lines hex_text digit_of bytes_of
other_printed = refl
