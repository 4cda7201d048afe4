-- Tracing (document 02, Wish 1): from a font and a keep list to the reach record of document 01, 'Reach record': the subroutines that the kept
-- glyphs enter and the masks that they meet, ten bytes each, in rising byte order without repeats; and what the entry `trace` answers and leaves.
use Rattle.std.specs.Prelude.{ℕ, ◌≡◌, List, [], ◌∷◌, ◌++◌, map, ltb, length, None, Option, Some, Result, Ok, Err}
use Rattle.octets.specs.Pick.{pick}
use Rattle.octets.specs.Octets.{be, bytes_of, put}
use Rattle.octets.specs.Lists.{all_below}
use Rattle.octets.specs.Steps.{and}
use Rattle.unfold.specs.Unfold.{Row, Glyph, not_plain_lem, plain}
use Rattle.cff.specs.Font.{Program, read_font}
use Rattle.subset.specs.Kept.{kept_of}
use Rattle.subset.specs.Cut.{all_found_lem}
use Rattle.row_window.specs.Window.{gathered}
use Rattle.faithful.specs.Faithful.{unfolded}
use Rattle.traced.specs.declared.Recorded.{Recorded}
use Rattle.refusal.specs.declared.Refusal.{Refusal}
use Rattle.refusal.specs.declared.Refusal.TheVariants.{NoSuchNumber, NotFound, Output}

-- ---- what glyphs meet

-- the rows that a plain glyph meets
abbrev pub met_by : Glyph → Option (List Row)
met_by not_plain_lem = None
met_by (plain ts met) = Some met

-- the rows that glyphs meet, where all are plain
unfoldable pub met_all : Program → List ℕ → Option (List Row)
met_all p [] = Some []
met_all p (g ∷ gs) = and (met_by (unfolded p g)) (λ met. and (met_all p gs) (λ rows. Some (met ++ rows)))

-- ---- the record

-- a row: kind (1), FD (1), number (2), offset (4), length (2)
abbrev pub row_bytes : Row → List ℕ
row_bytes r = r.kind ∷ r.fd ∷ (bytes_of 2 r.number ++ (bytes_of 4 r.offset ++ bytes_of 2 r.len))

-- its bytes as a number: rows in rising byte order are those whose numbers rise
abbrev pub row_key : Row → ℕ
row_key r = be 0 (row_bytes r)

-- numbers of ten bytes, one behind the other
unfoldable pub tens_bytes : List ℕ → List ℕ
tens_bytes [] = []
tens_bytes (k ∷ ks) = bytes_of 10 k ++ tens_bytes ks

-- the record of rows: rising, each once
unfoldable pub record_of : List Row → List ℕ
record_of rows = tens_bytes (gathered [] (map row_key rows))

-- ---- the outcome

-- a refusal, or the flag and the record
pub data Traced : Type 0 where
  refused : Refusal → Traced
  traced : ℕ → List ℕ → Traced

-- flag 0 with an empty record where a kept glyph is not plain; else flag 1, and refused where the record is too long for the room
abbrev pub answered : ℕ → Option (List Row) → Traced
answered room None = traced 0 []
answered room (Some rows) = pick (ltb room (length (record_of rows))) (refused Output) (traced 1 (record_of rows))

-- a font that was read: refused for a number past the font, and for a glyph that finding would not give
abbrev pub trace_program : Program → List ℕ → ℕ → Traced
trace_program p keep room =
    let kept = kept_of (length p.charstrings) keep in
    pick (all_below (length p.charstrings) keep) (pick (all_found_lem p kept) (answered room (met_all p kept)) (refused NotFound)) (refused NoSuchNumber)

abbrev pub trace_read : Result Program Refusal → List ℕ → ℕ → Traced
trace_read (Err n) keep room = refused n
trace_read (Ok p) keep room = trace_program p keep room

-- a call: the font, the kept numbers, how much room is lent
unfoldable pub trace_of : List ℕ → List ℕ → ℕ → Traced
trace_of font keep room = trace_read (read_font font) keep room

-- ---- the entry

-- the flag and the length of a record
abbrev pub a_record : ℕ → ℕ → Result Recorded Refusal
a_record flag len = Ok (record { flag = flag; len = len })

-- its answer
abbrev pub traced_as : Traced → Result Recorded Refusal
traced_as (refused n) = Err n
traced_as (traced flag rec) = a_record flag (length rec)

-- what it leaves in the slice: the record in front where the call is not refused, as it was behind it and where it is
abbrev pub leaves_record : Traced → List ℕ → List ℕ
leaves_record (refused n) out = out
leaves_record (traced flag rec) out = put out 0 rec

-- the contract of `trace(font, keep, out)`: its answer, and each byte of the slice afterwards
pub record Traces (font keep out out' : List ℕ) (r : Result Recorded Refusal) : Type 0 where
  pub answers : r ≡ traced_as (trace_of font keep (length out))
  pub output : out' ≡ leaves_record (trace_of font keep (length out)) out
