-- The outcome of a subset call (document 01, 'Entries and their refusals'): the refusals in their order, or the way and the bytes; and what
-- a call leaves in the output and in the work words.
use Rattle.std.specs.Prelude.{ℕ, zero, suc, Bool, true, false, not, List, [], ◌∷◌, ◌++◌, ltb, eqb, length, drop, get_or, None, Option, Some, Result, Ok, Err}
use Rattle.octets.specs.Pick.{pick}
use Rattle.octets.specs.Octets.{put}
use Rattle.octets.specs.Lists.{all_below}
use Rattle.dict.specs.Lookup.{ros_in, cid_keyed, stroked_in}
use Rattle.dict.specs.declared.RosEntry.{RosEntry}
use Rattle.record.specs.Record.{rows_of, record_fine}
use Rattle.cff.specs.Font.{Coding, standard, expert, custom, Program, read_font}
use Rattle.cff.specs.Find.{work_size, find_name, find_cid}
use Rattle.subset.specs.declared.Way.{Way}
use Rattle.subset.specs.Kept.{kept_of, written_order, used_fds}
use Rattle.subset.specs.Texts.{name_of}
use Rattle.subset.specs.Pruned.{Pruned, pruned}
use Rattle.subset.specs.Codes.{Coded, coded_if, pair_count}
use Rattle.subset.specs.Subset.{own_by_name, own_by_cid, subset_bytes}
use Rattle.refusal.specs.Refusal.{number_of}
use Rattle.refusal.specs.declared.Refusal.{Refusal}
use Rattle.refusal.specs.declared.Refusal.TheVariants.{Malformed, Unsupported, TooLong, NoSuchNumber, NotFound, BadRecord, Work, Subset, Output, StringId, Pairs}

-- a refusal, or the way and the subset
pub data Outcome : Type 0 where
  refused : Refusal → Outcome
  subset : Way → List ℕ → Outcome

-- ---- tests

-- finding gives glyph g
abbrev pub is_glyph : ℕ → Option ℕ → Bool
is_glyph g None = false
is_glyph g (Some h) = eqb h g

-- finding a glyph's own name or CID gives that glyph
abbrev pub is_found : Program → ℕ → Bool
is_found p g = pick (cid_keyed p.top) (is_glyph g (find_cid p (get_or p.ids g 0))) (is_glyph g (find_name p (name_of p g)))

unfoldable pub all_found_lem : Program → List ℕ → Bool
all_found_lem p [] = true
all_found_lem p (g ∷ gs) = pick (is_found p g) (all_found_lem p gs) false

abbrev pub has_ros_lem : Option RosEntry → Bool
has_ros_lem None = false
has_ros_lem (Some q) = true

abbrev pub same_bool_lem : Bool → Bool → Bool
same_bool_lem true b = b
same_bool_lem false b = not b

-- ---- the outcome

-- the own strings of the subset
abbrev pub own_of : Program → List ℕ → List (List ℕ)
own_of p order = pick (cid_keyed p.top) (own_by_cid p) (own_by_name p order)

-- from 9 passed on: 12 a string id above 64,999, 13 more than 255 pairs, 10 a subset above 67,108,864 bytes, 11 above the room
abbrev pub written : Program → Coded → List ℕ → List ℕ → List ℕ → ℕ → Pruned → Outcome
written p coded name kept order room q =
    pick (ltb 64609 (length (own_of p order))) (refused StringId)
    (pick (ltb 255 (pair_count coded)) (refused Pairs)
    (pick (ltb 67108864 (length (subset_bytes p coded name kept order q.bodies))) (refused Subset)
    (pick (ltb room (length (subset_bytes p coded name kept order q.bodies))) (refused Output)
    (subset q.way (subset_bytes p coded name kept order q.bodies)))))

-- the Expert encoding is unsupported where no encoding is asked for, as it is in the Rust; and a stroked font always
abbrev pub is_expert : Coding → Bool
is_expert standard = false
is_expert expert = true
is_expert (custom ns) = false

abbrev pub unsupported_in : Bool → Program → Bool
unsupported_in ask p = pick (stroked_in p.top) true (pick ask false (is_expert p.coding))

-- a font that was read: 3 the other keying, 3 a stroked font or an Expert encoding that is not asked for, 2 a ROS that cannot be used, 4 a long
-- name, 6 a number past the font, 7 a glyph that finding would not give, 8 the record or the flag, 9 fewer work words than the call asks for
abbrev pub cut_program : (Program → ℕ) → Bool → Bool → Program → List ℕ → List ℕ → List ℕ → ℕ → ℕ → ℕ → Outcome
cut_program size cid ask p name keep rec flag words room =
    let kept = kept_of (length p.charstrings) keep in
    let order = written_order p kept in
    pick (same_bool_lem cid (cid_keyed p.top))
    (pick (unsupported_in ask p) (refused Unsupported)
    (pick (pick cid (has_ros_lem (ros_in p.top)) true)
    (pick (ltb 65535 (length name)) (refused TooLong)
    (pick (all_below (length p.charstrings) keep)
    (pick (all_found_lem p kept)
    (pick (record_fine cid rec flag)
    (pick (ltb words (size p)) (refused Work)
    (written p (coded_if ask p kept (own_of p order)) name kept order room (pruned p (rows_of rec) (used_fds p kept) order flag)))
    (refused BadRecord)) (refused NotFound)) (refused NoSuchNumber))) (refused Malformed))) (refused Unsupported)

abbrev pub cut_read : (Program → ℕ) → Bool → Bool → Result Program Refusal → List ℕ → List ℕ → List ℕ → ℕ → ℕ → ℕ → Outcome
cut_read size cid ask (Err n) name keep rec flag words room = refused n
cut_read size cid ask (Ok p) name keep rec flag words room = cut_program size cid ask p name keep rec flag words room

-- a call: how many work words it asks for, the keying asked for, whether the encoding is, the font, the new name, the kept numbers, the record,
-- the flag, how many words and how much room are lent
unfoldable pub cut_with : (Program → ℕ) → Bool → Bool → List ℕ → List ℕ → List ℕ → List ℕ → ℕ → ℕ → ℕ → Outcome
cut_with size cid ask font name keep rec flag words room = cut_read size cid ask (read_font font) name keep rec flag words room

-- a call that asks for W
abbrev pub cut_of : Bool → Bool → List ℕ → List ℕ → List ℕ → List ℕ → ℕ → ℕ → ℕ → Outcome
cut_of cid ask font name keep rec flag words room = cut_with work_size cid ask font name keep rec flag words room

-- ---- what is left

-- the output: the subset in front where the call is not refused, as it was behind it and where it is
abbrev pub leaves_out : Outcome → List ℕ → List ℕ
leaves_out (refused n) out = out
leaves_out (subset way bs) out = put out 0 bs

unfoldable pub zeros : ℕ → List ℕ
zeros zero = []
zeros (suc n) = 0 ∷ zeros n

-- the work words: the first W end as zeros from 9 passed on (refusals 10 to 13 and a subset; 14 and 15 are tested before), the others stay
abbrev pub uses_work : Outcome → Bool
uses_work (refused n) = pick (ltb 9 (number_of n)) (ltb (number_of n) 14) false
uses_work (subset way bs) = true

abbrev pub leaves_work : Outcome → ℕ → List ℕ → List ℕ
leaves_work o w work = pick (uses_work o) (zeros w ++ drop w work) work
