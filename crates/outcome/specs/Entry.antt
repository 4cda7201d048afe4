-- The entries of subsetting (document 01, 'Entries and their refusals'): what a call answers, and what it leaves in the output and in the work
-- words, as the outcome says; demand 3; and, where the encoding was asked for, that the subset keeps the codes (document 02, Wish 4).
use Rattle.std.specs.Prelude.{ℕ, ◌≤◌, ◌≡◌, Bool, true, false, List, ltb, length, Result, Ok, Err}
use Rattle.octets.specs.Pick.{pick}
use Rattle.octets.specs.Lists.{all_below}
use Rattle.record.specs.Record.{rows_of, record_fine}
use Rattle.dict.specs.Lookup.{ros_in, cid_keyed}
use Rattle.cff.specs.Font.{Program, read_font}
use Rattle.cff.specs.Find.{work_size}
use Rattle.subset.specs.Kept.{kept_of, written_order, used_fds}
use Rattle.subset.specs.Pruned.{pruned}
use Rattle.subset.specs.Codes.{coded_if}
use Rattle.subset.specs.Cut.{Outcome, refused, subset, all_found_lem, has_ros_lem, same_bool_lem, own_of, written, unsupported_in, cut_with, leaves_out, leaves_work}
use Rattle.small.specs.Small.{small_size}
use Rattle.faithful.specs.Faithful.{Faithful}
use Rattle.faithful.specs.Codes.{KeepsCodes}
use Rattle.outcome.specs.declared.Subsetted.{Subsetted}
use Rattle.refusal.specs.declared.Refusal.{Refusal}
use Rattle.refusal.specs.declared.Refusal.TheVariants.{Malformed, Unsupported, TooLong, NoSuchNumber, NotFound, BadRecord, Work}
use Rattle.subset.specs.declared.Way.{Way}

-- the way and the length of a subset
abbrev pub a_cut : Way → ℕ → Result Subsetted Refusal
a_cut way len = Ok (record { way = way; len = len })

-- document 01's values of an answer
abbrev pub answer_of : Outcome → Result Subsetted Refusal
answer_of (refused n) = Err n
answer_of (subset way bs) = a_cut way (length bs)

-- how many work words a call asks for: the small one (document 02, Wish 10), or the other
abbrev pub size_of : Bool → Program → ℕ
size_of true = small_size
size_of false = work_size

-- W of a font, for a call that asks for so many
abbrev pub work_in : (Program → ℕ) → Result Program Refusal → ℕ
work_in size (Err n) = 0
work_in size (Ok p) = size p

-- a call that asks for so many words, on these inputs, with these work words and this output before and after, answered r
pub record CutsWith (size : Program → ℕ) (cid ask : Bool) (font name keep rec : List ℕ) (flag : ℕ) (work out work' out' : List ℕ) (r : Result Subsetted Refusal) : Type 0 where
  pub answers : r ≡ answer_of (cut_with size cid ask font name keep rec flag (length work) (length out))
  pub output : out' ≡ leaves_out (cut_with size cid ask font name keep rec flag (length work) (length out)) out
  pub words : work' ≡ leaves_work (cut_with size cid ask font name keep rec flag (length work) (length out)) (work_in size (read_font font)) work
  pub faithful : Faithful font keep rec flag (cut_with size cid ask font name keep rec flag (length work) (length out))
  pub codes : KeepsCodes ask font keep (cut_with size cid ask font name keep rec flag (length work) (length out))

-- the call of document 01
abbrev pub Cuts : Bool → Bool → List ℕ → List ℕ → List ℕ → List ℕ → ℕ → List ℕ → List ℕ → List ℕ → List ℕ → Result Subsetted Refusal → Type 0
Cuts = CutsWith work_size

-- the small call
abbrev pub CutsSmall : Bool → Bool → List ℕ → List ℕ → List ℕ → List ℕ → ℕ → List ℕ → List ℕ → List ℕ → List ℕ → Result Subsetted Refusal → Type 0
CutsSmall = CutsWith small_size

-- ---- the refusals before the work words are used

-- that of a font that was read, the first in this order: unsupported (the keying), unsupported (stroked, or an Expert encoding that is not asked for),
-- malformed, too long, no such number, not found, a bad record, work; or none
unfoldable pub refusal_of : (Program → ℕ) → Bool → Bool → Program → ℕ → List ℕ → List ℕ → ℕ → ℕ → Result Unit Refusal
refusal_of size cid ask p name keep rec flag words =
    pick (same_bool_lem cid (cid_keyed p.top))
    (pick (unsupported_in ask p) (Err Unsupported)
    (pick (pick cid (has_ros_lem (ros_in p.top)) true)
    (pick (ltb 65535 name) (Err TooLong)
    (pick (all_below (length p.charstrings) keep)
    (pick (all_found_lem p (kept_of (length p.charstrings) keep))
    (pick (record_fine cid rec flag)
    (pick (ltb words (size p)) (Err Work) (Ok tt)) (Err BadRecord)) (Err NotFound)) (Err NoSuchNumber))) (Err Malformed))) (Err Unsupported)

-- ---- what the cut of a font that passes them does

-- the outcome of the cut
abbrev pub cut_behind : Bool → Program → List ℕ → List ℕ → List ℕ → ℕ → ℕ → Outcome
cut_behind ask p name keep rec flag room =
    let kept = kept_of (length p.charstrings) keep in
    written p (coded_if ask p kept (own_of p (written_order p kept))) name kept (written_order p kept) room (pruned p (rows_of rec) (used_fds p kept) (written_order p kept) flag)

-- the answer and the output are an outcome's
pub record Cut (o : Outcome) (out out' : List ℕ) (r : Result Subsetted Refusal) : Type 0 where
  pub answers : r ≡ answer_of o
  pub output : out' ≡ leaves_out o out

-- a font, a new name, a keep list, a record and a flag that are not refused before the cut, and words enough for the small call
pub record Passed (cid ask : Bool) (p : Program) (name : ℕ) (keep rec : List ℕ) (flag words : ℕ) : Type 0 where
  pub keying : cid ≡ cid_keyed p.top
  pub supported : unsupported_in ask p ≡ false
  pub ros : pick cid (has_ros_lem (ros_in p.top)) true ≡ true
  pub named : name ≤ 65535
  pub below : all_below (length p.charstrings) keep ≡ true
  pub found : all_found_lem p (kept_of (length p.charstrings) keep) ≡ true
  pub recorded : record_fine cid rec flag ≡ true
  pub room : small_size p ≤ words
