-- Worked examples, computed (document 02, Wish 6): which records of a CID-keyed font are accepted, and the refusals in their order.
use Rattle.std.specs.Prelude.{ℕ, ◌≡◌, refl, List, [], ◌∷◌, ◌++◌, Ok, Err}
use Rattle.std.proofs.Common.{ap, ◌∙◌}
use Rattle.octets.specs.Octets.{be, num_at}
use Rattle.octets.specs.Lists.{all_below}
use Rattle.type2_number.specs.Number as t2
use Rattle.decimal.specs.Decimal.{zeros_of, zeros, stripped, normal}
use Rattle.decimal.specs.Values.{trunc_of}
use Rattle.dict.specs.Lookup.{last_from, last_of}
use Rattle.find.specs.Find.{glyph_with_id}
use Rattle.unfold.specs.Unfold.{leave, but, target_of, operator_at, step_at, walk, run_body, unfold_glyph}
use Rattle.record.specs.Record.{rows_from, rows_of, rows_fine_lem, record_fine, lists}
use Rattle.opentype.specs.Opentype.{place_of}
use Rattle.cff.specs.Font.{Program, read_table, read_font}
use Rattle.subset.specs.Kept.{is_in, those, fds_of}
use Rattle.subset.specs.Cut.{all_found_lem}
use Rattle.subset.specs.CidFont.{cid_font, cid_program, reads, reach, wrong_reach}
use Rattle.traced.specs.Traced.{met_all}
use Rattle.accepted.specs.Accepted.{each_row, accepted_by, check_program, check_read, check_of}
use Rattle.refusal.specs.declared.Refusal.TheVariants.{Truncated, NoSuchNumber, NotFound, BadRecord, NotAccepted}

-- glyphs 0, 1, 3 and 4 of `cid_font`, of FDs 0 and 2; FD 1 has no glyph
abbrev pub keep : List ℕ
keep = 1 ∷ 3 ∷ 4 ∷ []

-- ---- rows

-- locals 1 of FD 0 and of FD 2, global 1, and the masks of the latter two, which have one byte
abbrev local_row : List ℕ
local_row = 0x00 ∷ 0x00 ∷ 0x00 ∷ 0x01 ∷ 0x00 ∷ 0x00 ∷ 0x00 ∷ 0x00 ∷ 0x00 ∷ 0x00 ∷ []

abbrev other_row : List ℕ
other_row = 0x00 ∷ 0x02 ∷ 0x00 ∷ 0x01 ∷ 0x00 ∷ 0x00 ∷ 0x00 ∷ 0x00 ∷ 0x00 ∷ 0x00 ∷ []

abbrev global_row : List ℕ
global_row = 0x01 ∷ 0x00 ∷ 0x00 ∷ 0x01 ∷ 0x00 ∷ 0x00 ∷ 0x00 ∷ 0x00 ∷ 0x00 ∷ 0x00 ∷ []

abbrev global_mask : ℕ → List ℕ
global_mask len = 0x04 ∷ 0x00 ∷ 0x00 ∷ 0x01 ∷ 0x00 ∷ 0x00 ∷ 0x00 ∷ 0x00 ∷ 0x00 ∷ len ∷ []

abbrev local_mask : List ℕ
local_mask = 0x03 ∷ 0x02 ∷ 0x00 ∷ 0x01 ∷ 0x00 ∷ 0x00 ∷ 0x00 ∷ 0x02 ∷ 0x00 ∷ 0x01 ∷ []

-- local subroutine k of an FD
abbrev reached : ℕ → ℕ → List ℕ
reached fd k = 0x00 ∷ fd ∷ 0x00 ∷ k ∷ 0x00 ∷ 0x00 ∷ 0x00 ∷ 0x00 ∷ 0x00 ∷ 0x00 ∷ []

-- ---- accepted

-- the record of the Rust's trace, whose rows do not rise
pub program-accepts : check_program cid_program keep reach ≡ Ok tt
unfolding
    accepted_by each_row lists met_all unfold_glyph run_body walk step_at operator_at leave but target_of t2.number_at t2.rounded t2.keep24 rows_of rows_from record_fine rows_fine_lem num_at be
    all_below all_found_lem glyph_with_id is_in those fds_of last_of last_from normal stripped zeros zeros_of trunc_of
program-accepts = refl

-- from the bytes of the font
pub accepts : check_of cid_font keep reach ≡ Ok tt
unfolding check_of
accepts = ap (λ g. check_read g keep reach) reads ∙ program-accepts

-- in another order, and a row twice
reordered : check_program cid_program keep (local_mask ++ (global_row ++ (global_mask 0x01 ++ (other_row ++ (local_row ++ global_row))))) ≡ Ok tt
unfolding
    accepted_by each_row lists met_all unfold_glyph run_body walk step_at operator_at leave but target_of t2.number_at t2.rounded t2.keep24 rows_of rows_from record_fine rows_fine_lem num_at be
    all_below all_found_lem glyph_with_id is_in those fds_of last_of last_from normal stripped zeros zeros_of trunc_of
reordered = refl

-- a further subroutine, which exists; glyph 2, which is not kept, enters it
further : check_program cid_program keep (reach ++ reached 0x02 0x00) ≡ Ok tt
unfolding
    accepted_by each_row lists met_all unfold_glyph run_body walk step_at operator_at leave but target_of t2.number_at t2.rounded t2.keep24 rows_of rows_from record_fine rows_fine_lem num_at be
    all_below all_found_lem glyph_with_id is_in those fds_of last_of last_from normal stripped zeros zeros_of trunc_of
further = refl

-- a second length for a mask that is met
abbrev pub twice : List ℕ
twice = reach ++ global_mask 0x02

program-twice : check_program cid_program keep twice ≡ Ok tt
unfolding
    accepted_by each_row lists met_all unfold_glyph run_body walk step_at operator_at leave but target_of t2.number_at t2.rounded t2.keep24 rows_of rows_from record_fine rows_fine_lem num_at be
    all_below all_found_lem glyph_with_id is_in those fds_of last_of last_from normal stripped zeros zeros_of trunc_of
program-twice = refl

pub twice-accepted : check_of cid_font keep twice ≡ Ok tt
unfolding check_of
twice-accepted = ap (λ g. check_read g keep twice) reads ∙ program-twice

-- a length that no mask has, which does not stand for one that is met
long_length : check_program cid_program keep (reach ++ global_mask 0x11) ≡ Ok tt
unfolding
    accepted_by each_row lists met_all unfold_glyph run_body walk step_at operator_at leave but target_of t2.number_at t2.rounded t2.keep24 rows_of rows_from record_fine rows_fine_lem num_at be
    all_below all_found_lem glyph_with_id is_in those fds_of last_of last_from normal stripped zeros zeros_of trunc_of
long_length = refl

-- a number past the subroutines of an FD that is not in use, and of one that does not exist
unused : check_program cid_program keep (reach ++ (reached 0x01 0x07 ++ reached 0x09 0x07)) ≡ Ok tt
unfolding
    accepted_by each_row lists met_all unfold_glyph run_body walk step_at operator_at leave but target_of t2.number_at t2.rounded t2.keep24 rows_of rows_from record_fine rows_fine_lem num_at be
    all_below all_found_lem glyph_with_id is_in those fds_of last_of last_from normal stripped zeros zeros_of trunc_of
unused = refl

-- the mask of a subroutine that does not exist
mask-alone : check_program cid_program keep (reach ++ (0x03 ∷ 0x02 ∷ 0x00 ∷ 0x07 ∷ 0x00 ∷ 0x00 ∷ 0x00 ∷ 0x00 ∷ 0x00 ∷ 0x01 ∷ [])) ≡ Ok tt
unfolding
    accepted_by each_row lists met_all unfold_glyph run_body walk step_at operator_at leave but target_of t2.number_at t2.rounded t2.keep24 rows_of rows_from record_fine rows_fine_lem num_at be
    all_below all_found_lem glyph_with_id is_in those fds_of last_of last_from normal stripped zeros zeros_of trunc_of
mask-alone = refl

-- ---- not accepted

-- the last row dropped
dropped : check_program cid_program keep (local_row ++ (other_row ++ (global_row ++ global_mask 0x01))) ≡ Err NotAccepted
unfolding
    accepted_by each_row lists met_all unfold_glyph run_body walk step_at operator_at leave but target_of t2.number_at t2.rounded t2.keep24 rows_of rows_from record_fine rows_fine_lem num_at be
    all_below all_found_lem glyph_with_id is_in those fds_of last_of last_from normal stripped zeros zeros_of trunc_of
dropped = refl

-- the first
first-dropped : check_program cid_program keep (other_row ++ (global_row ++ (global_mask 0x01 ++ local_mask))) ≡ Err NotAccepted
unfolding
    accepted_by each_row lists met_all unfold_glyph run_body walk step_at operator_at leave but target_of t2.number_at t2.rounded t2.keep24 rows_of rows_from record_fine rows_fine_lem num_at be
    all_below all_found_lem glyph_with_id is_in those fds_of last_of last_from normal stripped zeros zeros_of trunc_of
first-dropped = refl

-- another length alone does not list a mask
other_length : check_program cid_program keep (local_row ++ (other_row ++ (global_row ++ (global_mask 0x02 ++ local_mask)))) ≡ Err NotAccepted
unfolding
    accepted_by each_row lists met_all unfold_glyph run_body walk step_at operator_at leave but target_of t2.number_at t2.rounded t2.keep24 rows_of rows_from record_fine rows_fine_lem num_at be
    all_below all_found_lem glyph_with_id is_in those fds_of last_of last_from normal stripped zeros zeros_of trunc_of
other_length = refl

-- nor does one of 17 bytes, the last four bits of which are right
length_17 : check_program cid_program keep (local_row ++ (other_row ++ (global_row ++ (global_mask 0x11 ++ local_mask)))) ≡ Err NotAccepted
unfolding
    accepted_by each_row lists met_all unfold_glyph run_body walk step_at operator_at leave but target_of t2.number_at t2.rounded t2.keep24 rows_of rows_from record_fine rows_fine_lem num_at be
    all_below all_found_lem glyph_with_id is_in those fds_of last_of last_from normal stripped zeros zeros_of trunc_of
length_17 = refl

-- the font has two global subroutines
past-globals : check_program cid_program keep wrong_reach ≡ Err NotAccepted
unfolding
    accepted_by each_row lists met_all unfold_glyph run_body walk step_at operator_at leave but target_of t2.number_at t2.rounded t2.keep24 rows_of rows_from record_fine rows_fine_lem num_at be
    all_below all_found_lem glyph_with_id is_in those fds_of last_of last_from normal stripped zeros zeros_of trunc_of
past-globals = refl

-- and two local ones of each FD in use
past-locals : check_program cid_program keep (reach ++ reached 0x02 0x02) ≡ Err NotAccepted
unfolding
    accepted_by each_row lists met_all unfold_glyph run_body walk step_at operator_at leave but target_of t2.number_at t2.rounded t2.keep24 rows_of rows_from record_fine rows_fine_lem num_at be
    all_below all_found_lem glyph_with_id is_in those fds_of last_of last_from normal stripped zeros zeros_of trunc_of
past-locals = refl

-- glyph 4 is operator 0, which is not plain
abbrev rough : Program
rough =
    record {
      top = cid_program.top;
      strings = cid_program.strings;
      globals = cid_program.globals;
      charstrings = (0x0e ∷ []) ∷ (0x0e ∷ []) ∷ (0x0e ∷ []) ∷ (0x0e ∷ []) ∷ (0x00 ∷ []) ∷ [];
      ids = cid_program.ids;
      privates = cid_program.privates;
      fds = cid_program.fds;
      dicts = cid_program.dicts;
      coding = cid_program.coding;
    }

not_plain : check_program rough keep reach ≡ Err NotAccepted
unfolding
    accepted_by each_row lists met_all unfold_glyph run_body walk step_at operator_at leave but target_of t2.number_at t2.rounded t2.keep24 rows_of rows_from record_fine rows_fine_lem num_at be
    all_below all_found_lem glyph_with_id is_in those fds_of last_of last_from normal stripped zeros zeros_of trunc_of
not_plain = refl

-- where it is not kept
not_kept : check_program rough (1 ∷ 3 ∷ []) [] ≡ Ok tt
unfolding
    accepted_by each_row lists met_all unfold_glyph run_body walk step_at operator_at leave but target_of t2.number_at t2.rounded t2.keep24 rows_of rows_from record_fine rows_fine_lem num_at be
    all_below all_found_lem glyph_with_id is_in those fds_of last_of last_from normal stripped zeros zeros_of trunc_of
not_kept = refl

-- ---- the refusals in their order

-- glyph 4 has the CID of glyph 1, which finding gives
abbrev twins : Program
twins =
    record {
      top = cid_program.top;
      strings = cid_program.strings;
      globals = cid_program.globals;
      charstrings = cid_program.charstrings;
      ids = 0 ∷ 5 ∷ 9 ∷ 3 ∷ 5 ∷ [];
      privates = cid_program.privates;
      fds = cid_program.fds;
      dicts = cid_program.dicts;
      coding = cid_program.coding;
    }

-- a number past the font, with a glyph that finding would not give and a record of one byte
six : check_program twins (4 ∷ 5 ∷ []) (0x05 ∷ []) ≡ Err NoSuchNumber
unfolding
    accepted_by each_row lists met_all unfold_glyph run_body walk step_at operator_at leave but target_of t2.number_at t2.rounded t2.keep24 rows_of rows_from record_fine rows_fine_lem num_at be
    all_below all_found_lem glyph_with_id is_in those fds_of last_of last_from normal stripped zeros zeros_of trunc_of
six = refl

-- without it
seven : check_program twins (4 ∷ []) (0x05 ∷ []) ≡ Err NotFound
unfolding
    accepted_by each_row lists met_all unfold_glyph run_body walk step_at operator_at leave but target_of t2.number_at t2.rounded t2.keep24 rows_of rows_from record_fine rows_fine_lem num_at be
    all_below all_found_lem glyph_with_id is_in those fds_of last_of last_from normal stripped zeros zeros_of trunc_of
seven = refl

-- a record that lists nothing that is met, and is not of its form
eight : check_program cid_program keep (0x05 ∷ []) ≡ Err BadRecord
unfolding
    accepted_by each_row lists met_all unfold_glyph run_body walk step_at operator_at leave but target_of t2.number_at t2.rounded t2.keep24 rows_of rows_from record_fine rows_fine_lem num_at be
    all_below all_found_lem glyph_with_id is_in those fds_of last_of last_from normal stripped zeros zeros_of trunc_of
eight = refl

-- of its form: the flag counts as 1, with which an empty record is
fourteen : check_program cid_program keep [] ≡ Err NotAccepted
unfolding
    accepted_by each_row lists met_all unfold_glyph run_body walk step_at operator_at leave but target_of t2.number_at t2.rounded t2.keep24 rows_of rows_from record_fine rows_fine_lem num_at be
    all_below all_found_lem glyph_with_id is_in those fds_of last_of last_from normal stripped zeros zeros_of trunc_of
fourteen = refl

pub drops : check_of cid_font keep [] ≡ Err NotAccepted
unfolding check_of
drops = ap (λ g. check_read g keep []) reads ∙ fourteen

-- reading's come first
unread : check_of (0x01 ∷ 0x00 ∷ []) (4 ∷ 5 ∷ []) (0x05 ∷ []) ≡ Err Truncated
unfolding check_of read_font place_of read_table num_at be
unread = refl
