-- The subset's bytes (the Rust's subset and subset_cid; document 01, 'Layout'): header, names, top DICT, strings, globals, charset format 0,
-- where it was asked for the encoding (document 02, Wish 4), for CID FDSelect, charstrings, for CID the FD INDEX, then each Private with its local subroutines. Offsets have the five-byte form, so
-- that the top DICT's length does not depend on them.
use Rattle.std.specs.Prelude.{ℕ, ◌+◌, List, [], ◌∷◌, ◌++◌, eqb, length, get_or, None, Option, Some}
use Rattle.octets.specs.Pick.{pick}
use Rattle.decimal.specs.Decimal.{normal, whole}
use Rattle.dict.specs.Op.{subrs, font_matrix, ros, cid_count, copied_top_entries, copied_top_strings}
use Rattle.dict.specs.Dict.{Entry}
use Rattle.dict.specs.Lookup.{Operands, last_of, ros_in, cid_count_in, cid_keyed}
use Rattle.dict.specs.declared.RosEntry.{RosEntry}
use Rattle.dict_write.specs.Written.{entry_bytes, copied_entry, offset_entry, private_entry, private_bytes}
use Rattle.index.specs.Write.{size_for, index_bytes}
use Rattle.charset.specs.CharsetBytes.{charset_bytes}
use Rattle.charset.specs.FdSelectBytes.{fd_select_bytes}
use Rattle.strings.specs.Strings.{string_text}
use Rattle.cff.specs.Font.{Private, Program, charset, char_strings, fd_array, fd_select_lem}
use Rattle.subset.specs.Kept.{used_fds, new_fd, private_of}
use Rattle.subset.specs.Texts.{Named, named_entries, texts_of, names_of, own_strings_lem, new_id}
use Rattle.subset.specs.Pruned.{Bodies}
use Rattle.subset.specs.Codes.{Coded, coded_bytes, coded_at, encoding_entry}

-- ---- entries of the top DICT

unfoldable pub named_bytes : List (List ℕ) → List Named → List ℕ
named_bytes own [] = []
named_bytes own (n ∷ ns) = entry_bytes n.op (whole (new_id own n.text) ∷ []) ++ named_bytes own ns

-- the last entry of each of these operators that is there, as it is
unfoldable pub copied_bytes : List Entry → List ℕ → List ℕ
copied_bytes es [] = []
copied_bytes es (op ∷ ops) = copied_entry op (last_of op es) ++ copied_bytes es ops

abbrev pub ros_entry : Program → List (List ℕ) → Option RosEntry → List ℕ
ros_entry p own None = []
ros_entry p own (Some q) =
    entry_bytes ros (whole (new_id own (string_text p.strings q.registry)) ∷ whole (new_id own (string_text p.strings q.ordering)) ∷ normal q.supplement.neg q.supplement.size 0 0 ∷ [])

abbrev pub ros_texts : Program → Option RosEntry → List (List ℕ)
ros_texts p None = []
ros_texts p (Some q) = string_text p.strings q.registry ∷ string_text p.strings q.ordering ∷ []

-- ---- Privates

-- a Private DICT, with Subrs where a local subroutine is left: it stands directly behind
abbrev pub private_dict : Private → List (List ℕ) → List ℕ
private_dict q ls = private_bytes q.entries ++ pick (eqb (length ls) 0) [] (offset_entry subrs (length (private_bytes q.entries) + 6))

-- and its local subroutines
abbrev pub private_part : Private → List (List ℕ) → List ℕ
private_part q ls = private_dict q ls ++ pick (eqb (length ls) 0) [] (index_bytes ls)

-- a Font DICT: the last FontMatrix entry of the FD, as a copied top entry is (document 02, Wish 2), then Private
abbrev pub matrix_of : Program → ℕ → Operands
matrix_of p f = last_of font_matrix (get_or p.dicts f [])

abbrev pub font_dict : Program → ℕ → ℕ → ℕ → List ℕ
font_dict p f size at = copied_entry font_matrix (matrix_of p f) ++ private_entry size at

-- those of the FDs in use, one behind the other; and their Font DICTs, the first Private standing at a place
unfoldable pub private_parts : Program → List ℕ → List (List (List ℕ)) → List ℕ
private_parts p [] lss = []
private_parts p (f ∷ fs) [] = []
private_parts p (f ∷ fs) (ls ∷ lss) = private_part (private_of p f) ls ++ private_parts p fs lss

unfoldable pub font_dicts : Program → ℕ → List ℕ → List (List (List ℕ)) → List (List ℕ)
font_dicts p at [] lss = []
font_dicts p at (f ∷ fs) [] = []
font_dicts p at (f ∷ fs) (ls ∷ lss) =
    font_dict p f (length (private_dict (private_of p f) ls)) at ∷ font_dicts p (at + length (private_part (private_of p f) ls)) fs lss

-- ---- name-keyed

abbrev pub named : Program → List Named
named p = named_entries p copied_top_strings

abbrev pub own_by_name : Program → List ℕ → List (List ℕ)
own_by_name p order = own_strings_lem [] (texts_of (named p) ++ names_of p order)

-- the encoding's offset being v
abbrev pub top_by_name : Program → List (List ℕ) → ℕ → ℕ → ℕ → ℕ → ℕ → List ℕ
top_by_name p own at₁ v at₂ size at₃ =
    named_bytes own (named p) ++ (copied_bytes p.top copied_top_entries
    ++ (offset_entry charset at₁ ++ (encoding_entry v ++ (offset_entry char_strings at₂ ++ private_entry size at₃))))

-- the ids of texts
unfoldable pub new_ids : List (List ℕ) → List (List ℕ) → List ℕ
new_ids own [] = []
new_ids own (t ∷ ts) = new_id own t ∷ new_ids own ts

abbrev pub one_local_lem : Bodies → List (List ℕ)
one_local_lem b = get_or b.locals 0 []

unfoldable pub subset_by_name : Program → Coded → List ℕ → List ℕ → Bodies → List ℕ
subset_by_name p coded name order b =
    let own = own_by_name p order in
    let names = index_bytes (name ∷ []) in
    let strings = index_bytes own in
    let globals = index_bytes b.globals in
    let ids = charset_bytes (new_ids own (names_of p order)) in
    let codes = coded_bytes coded in
    let charstrings = index_bytes b.charstrings in
    let private = private_part (private_of p 0) (one_local_lem b) in
    let size = length (private_dict (private_of p 0) (one_local_lem b)) in
    let at₁ = 4 + length names + length (index_bytes (top_by_name p own 0 (coded_at coded 1) 0 0 0 ∷ [])) + length strings + length globals in
    let at₂ = at₁ + length ids in
    let at₃ = at₂ + length codes in
    let at₄ = at₃ + length charstrings in
    1 ∷ 0 ∷ 4 ∷ size_for (at₄ + length private) ∷ (names ++ (index_bytes (top_by_name p own at₁ (coded_at coded at₂) at₃ size at₄ ∷ [])
    ++ (strings ++ (globals ++ (ids ++ (codes ++ (charstrings ++ private)))))))

-- ---- CID-keyed

abbrev pub own_by_cid : Program → List (List ℕ)
own_by_cid p = own_strings_lem [] (ros_texts p (ros_in p.top) ++ texts_of (named p))

abbrev pub top_by_cid : Program → List (List ℕ) → ℕ → ℕ → ℕ → ℕ → List ℕ
top_by_cid p own at₁ at₂ at₃ at₄ =
    ros_entry p own (ros_in p.top) ++ (named_bytes own (named p) ++ (copied_bytes p.top copied_top_entries
    ++ (entry_bytes cid_count (whole (cid_count_in p.top) ∷ [])
    ++ (offset_entry charset at₁ ++ (offset_entry fd_select_lem at₂ ++ (offset_entry char_strings at₃ ++ offset_entry fd_array at₄))))))

-- the CIDs of glyphs, and their FDs by the new numbers
unfoldable pub cids_of : Program → List ℕ → List ℕ
cids_of p [] = []
cids_of p (g ∷ gs) = get_or p.ids g 0 ∷ cids_of p gs

unfoldable pub new_fds : Program → List ℕ → List ℕ → List ℕ
new_fds p used [] = []
new_fds p used (g ∷ gs) = new_fd used (get_or p.fds g 0) ∷ new_fds p used gs

unfoldable pub subset_by_cid : Program → List ℕ → List ℕ → List ℕ → Bodies → List ℕ
subset_by_cid p name used order b =
    let own = own_by_cid p in
    let names = index_bytes (name ∷ []) in
    let strings = index_bytes own in
    let globals = index_bytes b.globals in
    let ids = charset_bytes (cids_of p order) in
    let select = fd_select_bytes (new_fds p used order) in
    let charstrings = index_bytes b.charstrings in
    let at₁ = 4 + length names + length (index_bytes (top_by_cid p own 0 0 0 0 ∷ [])) + length strings + length globals in
    let at₂ = at₁ + length ids in
    let at₃ = at₂ + length select in
    let at₄ = at₃ + length charstrings in
    let at₅ = at₄ + length (index_bytes (font_dicts p 0 used b.locals)) in
    let privates = private_parts p used b.locals in
    1 ∷ 0 ∷ 4 ∷ size_for (at₅ + length privates) ∷ (names ++ (index_bytes (top_by_cid p own at₁ at₂ at₃ at₄ ∷ [])
    ++ (strings ++ (globals ++ (ids ++ (select ++ (charstrings ++ (index_bytes (font_dicts p at₅ used b.locals) ++ privates))))))))

-- the subset of the glyphs kept, written in an order
unfoldable pub subset_bytes : Program → Coded → List ℕ → List ℕ → List ℕ → Bodies → List ℕ
subset_bytes p coded name kept order b = pick (cid_keyed p.top) (subset_by_cid p name (used_fds p kept) order b) (subset_by_name p coded name order b)
