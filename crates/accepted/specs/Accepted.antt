-- Records from elsewhere (document 02, Wish 6): a record is accepted exactly when every kept glyph is plain, the record lists all that their unfoldings
-- meet, and each subroutine that it lists as reached, unused FDs aside, exists. Further rows are allowed. The flag counts as 1.
use Rattle.std.specs.Prelude.{ℕ, Bool, true, false, List, [], ◌∷◌, ltb, eqb, length, None, Option, Some, Result, Ok, Err}
use Rattle.octets.specs.Pick.{pick}
use Rattle.octets.specs.Lists.{all_below}
use Rattle.unfold.specs.Unfold.{Row}
use Rattle.record.specs.Record.{rows_of, record_fine, lists}
use Rattle.dict.specs.Lookup.{cid_keyed}
use Rattle.cff.specs.Font.{Program, read_font}
use Rattle.subset.specs.Kept.{is_in, kept_of, used_fds, locals_of}
use Rattle.subset.specs.Cut.{all_found_lem}
use Rattle.traced.specs.Traced.{met_all}
use Rattle.refusal.specs.declared.Refusal.{Refusal}
use Rattle.refusal.specs.declared.Refusal.TheVariants.{NoSuchNumber, NotFound, BadRecord, NotAccepted}

-- a test holds of each row
unfoldable pub each_row : (Row → Bool) → List Row → Bool
each_row test [] = true
each_row test (r ∷ rows) = pick (test r) (each_row test rows) false

-- ---- the three conditions

-- every glyph is plain, and each row that they meet is listed
abbrev pub lists_met : List Row → Option (List Row) → Bool
lists_met rows None = false
lists_met rows (Some met) = each_row (lists rows) met

-- the subroutine of a row exists, where the row lists one as reached: kind 0 a local one, of an FD in use; kind 1 a global one
abbrev pub number_is : Program → List ℕ → Row → Bool
number_is p used r =
    pick (eqb r.kind 0) (pick (is_in r.fd used) (ltb r.number (length (locals_of p r.fd))) true)
    (pick (eqb r.kind 1) (ltb r.number (length p.globals)) true)

-- a record is accepted for glyph 0 and the glyphs of a keep list
unfoldable pub accepted_by : Program → List ℕ → List ℕ → Bool
accepted_by p keep rec =
    let kept = kept_of (length p.charstrings) keep in
    pick (each_row (number_is p (used_fds p kept)) (rows_of rec)) (lists_met (rows_of rec) (met_all p kept)) false

-- ---- the answer: accepted, or the refusal

-- a font that was read: refused for a number past the font, a glyph that finding would not give, a record that is not of its form with flag 1, and one
-- that is not accepted
abbrev pub check_program : Program → List ℕ → List ℕ → Result Unit Refusal
check_program p keep rec =
    pick (all_below (length p.charstrings) keep)
    (pick (all_found_lem p (kept_of (length p.charstrings) keep))
    (pick (record_fine (cid_keyed p.top) rec 1)
    (pick (accepted_by p keep rec) (Ok tt) (Err NotAccepted)) (Err BadRecord)) (Err NotFound)) (Err NoSuchNumber)

abbrev pub check_read : Result Program Refusal → List ℕ → List ℕ → Result Unit Refusal
check_read (Err n) keep rec = Err n
check_read (Ok p) keep rec = check_program p keep rec

-- a call: the font, the kept numbers, the record
unfoldable pub check_of : List ℕ → List ℕ → List ℕ → Result Unit Refusal
check_of font keep rec = check_read (read_font font) keep rec
