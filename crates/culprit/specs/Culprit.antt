-- Which glyph costs the small file (document 02, Wish 12): for a keep list whose traced subset is stubbed, way 1, the smallest kept glyph but 0 such
-- that the list without it, traced anew, gives way 0; and what the entry `blocking_glyph` answers and leaves.
use Rattle.std.specs.Prelude.{ℕ, ◌-◌, ◌≡◌, Bool, true, false, not, List, [], ◌∷◌, ◌++◌, ltb, eqb, length, drop, Result, Ok, Err, Option, Some, None}
use Rattle.octets.specs.Pick.{pick}
use Rattle.dict.specs.Lookup.{ros_in, cid_keyed}
use Rattle.cff.specs.Font.{Program, read_font}
use Rattle.cff.specs.Find.{work_size}
use Rattle.subset.specs.Kept.{is_in, those}
use Rattle.subset.specs.Cut.{Outcome, refused, subset, has_ros_lem, unsupported_in, cut_program, zeros}
use Rattle.traced.specs.Traced.{Traced, refused as refusedTrace, traced, trace_program}
use Rattle.refusal.specs.Refusal.{number_of}
use Rattle.refusal.specs.declared.Refusal.{Refusal}
use Rattle.refusal.specs.declared.Refusal.TheVariants.{Malformed, Unsupported, TooLong}
use Rattle.subset.specs.Way.{is_renumbered, is_stubbed}
use Rattle.subset.specs.declared.Way.{Way}
use Rattle.subset.specs.declared.Way.TheVariants.{Renumbered, Stubbed, Copied}

-- ---- traced and cut

-- the subset call by the font's keying, without an encoding, with what was traced; its output is large enough, since a subset of more than 67,108,864
-- bytes is refused with 10. A trace that is refused, 6, 7 or 11, refuses it
abbrev pub cut_traced : Program → List ℕ → List ℕ → ℕ → Traced → Outcome
cut_traced p name keep words (refusedTrace n) = refused n
cut_traced p name keep words (traced flag rec) = cut_program work_size (cid_keyed p.top) false p name keep rec flag words 67108864

-- the call's own refusals first: 3, 2, 4, then 6 and 7 with the trace; 11 a traced record longer than the lent slice; then the call's 9, 12 and 10
unfoldable pub traced_cut : Program → List ℕ → List ℕ → ℕ → ℕ → Outcome
traced_cut p name keep words lent =
    pick (unsupported_in false p) (refused Unsupported)
    (pick (pick (cid_keyed p.top) (has_ros_lem (ros_in p.top)) true)
    (pick (ltb 65535 (length name)) (refused TooLong) (cut_traced p name keep words (trace_program p keep lent))) (refused Malformed))

-- ---- the answer

-- a keep list without a glyph
unfoldable pub without : ℕ → List ℕ → List ℕ
without g [] = []
without g (x ∷ xs) = pick (eqb x g) (without g xs) (x ∷ without g xs)

-- an outcome that is not refused and has a way
abbrev pub has_way : Way → Outcome → Bool
has_way w (refused n) = false
has_way Renumbered (subset way bs) = is_renumbered way
has_way Stubbed (subset way bs) = is_stubbed way
has_way Copied (subset way bs) = pick (is_renumbered way) false (not (is_stubbed way))

-- glyph g is kept, and the list without it, traced anew, gives way 0
unfoldable pub is_culprit : Program → List ℕ → List ℕ → ℕ → ℕ → ℕ → Bool
is_culprit p name keep words lent g = pick (is_in g keep) (has_way Renumbered (traced_cut p name (without g keep) words lent)) false

abbrev pub first_of : List ℕ → Option ℕ
first_of [] = None
first_of (g ∷ gs) = Some g

-- the first glyph but 0 that is one
unfoldable pub least_culprit : Program → List ℕ → List ℕ → ℕ → ℕ → Option ℕ
least_culprit p name keep words lent = first_of (those (is_culprit p name keep words lent) (length p.charstrings - 1) 1)

-- by the outcome of the whole list: only a stubbed subset, way 1, has one
abbrev pub answer_by : Outcome → Option ℕ → Result (Option ℕ) Refusal
answer_by (refused n) c = Err n
answer_by (subset way bs) c = Ok (pick (is_stubbed way) c None)

unfoldable pub culprit_in : Program → List ℕ → List ℕ → ℕ → ℕ → Result (Option ℕ) Refusal
culprit_in p name keep words lent = answer_by (traced_cut p name keep words lent) (least_culprit p name keep words lent)

abbrev pub culprit_read : Result Program Refusal → List ℕ → List ℕ → ℕ → ℕ → Result (Option ℕ) Refusal
culprit_read (Err n) name keep words lent = Err n
culprit_read (Ok p) name keep words lent = culprit_in p name keep words lent

-- a call: the font, the new name, the kept numbers, how many words and how many bytes for the record are lent
unfoldable pub culprit_of : List ℕ → List ℕ → List ℕ → ℕ → ℕ → Result (Option ℕ) Refusal
culprit_of font name keep words lent = culprit_read (read_font font) name keep words lent

-- ---- what is left

-- 9 is passed: refusals 12 and 10, and a subset
abbrev pub passes_nine : Outcome → Bool
passes_nine (refused n) = pick (eqb (number_of n) 12) true (eqb (number_of n) 10)
passes_nine (subset way bs) = true

abbrev pub uses_read : Result Program Refusal → List ℕ → List ℕ → ℕ → ℕ → Bool
uses_read (Err n) name keep words lent = false
uses_read (Ok p) name keep words lent = passes_nine (traced_cut p name keep words lent)

-- what is lent is used
unfoldable pub uses_lent : List ℕ → List ℕ → List ℕ → ℕ → ℕ → Bool
uses_lent font name keep words lent = uses_read (read_font font) name keep words lent

-- W of a font
abbrev pub words_in : Result Program Refusal → ℕ
words_in (Err n) = 0
words_in (Ok p) = work_size p

-- the contract of `blocking_glyph(font, name, keep, work, record)`: its answer; the first W words and the whole record slice, which end as zeros once 9 is
-- passed, else as found
pub record Blocks (font name keep work slice work' slice' : List ℕ) (r : Result (Option ℕ) Refusal) : Type 0 where
  pub answers : r ≡ culprit_of font name keep (length work) (length slice)
  pub words :
      work' ≡ pick (uses_lent font name keep (length work) (length slice)) (zeros (words_in (read_font font)) ++ drop (words_in (read_font font)) work) work
  pub bytes : slice' ≡ pick (uses_lent font name keep (length work) (length slice)) (zeros (length slice)) slice
