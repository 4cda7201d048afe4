-- A CID-keyed subset reads back (document 01, 'Layout'): as a CID-keyed font with its strings, CIDs, FDs and bodies.
use Prim.Native.Nat.{ℕ, zero, suc, ◌+◌, ◌*◌, ◌≤◌, ◌<◌}
use Rattle.std.specs.Prelude.{◌≡◌, refl, Bool, true, get_or, Ok}
use Rattle.std.proofs.Common.{sym, ◌∙◌, arith, length-append}
use Rattle.std.proofs.Math.Path.{ap, subst}
use mathlib.Core.List.{List, [], ◌∷◌, ◌++◌, append-nil}
use Rattle.std.proofs.Math.ListN.{length, drop}
use Rattle.octets.specs.Pick.{pick}
use Rattle.octets.specs.Lists.{all_below}
use Rattle.index.specs.Index.{found, read_index}
use Rattle.index.specs.Write.{total, size_for, index_bytes, index_len_lem}
use Rattle.index.specs.WriteLaws.{length-index}
use Rattle.dict.specs.Dict.{Entry, dict_of}
use Rattle.dict.specs.Lookup.{absent, last_of, ros_in}
use Rattle.dict.specs.Op.{font_matrix}
use Rattle.dict_write.specs.Written.{copied_entry, private_entry}
use Rattle.dict_write.specs.WriteLaws.{private-length}
use Rattle.charset.specs.CharsetBytes.{Ids, charset_bytes}
use Rattle.charset.specs.FdSelect.{fd_select_at}
use Rattle.charset.specs.FdSelectBytes.{fd_select_bytes}
use Rattle.charset.specs.FdSelectRound.{select-round}
use Rattle.cff.specs.Font.{Private, standard, Program, privates_at, dicts_at, ids_at, cid_parts, name_parts, font_at, read_font, empty_private}
use Rattle.subset.specs.Kept.{private_of}
use Rattle.subset.specs.Pruned.{Bodies}
use Rattle.subset.specs.Subset.{private_dict, private_part, private_parts, matrix_of, font_dicts, own_by_cid, top_by_cid, cids_of, new_fds, subset_by_cid}
use Rattle.subset.specs.Cut.{has_ros_lem}
use Rattle.faithful.specs.Laid.{GoodProgram, Fitting, matrices_of, ReadsAs}
use Rattle.faithful.specs.LiesLaws.{lies_behind, lies_within, index_back}
use Rattle.faithful.specs.PrivateBack.{privates-back}
use Rattle.faithful.specs.SetBack.{set_bytes, rest_at, rest_lies, rest-within, size_small, set_back}
use Rattle.faithful.specs.FontBack.{font_of, ids-back, font-back, cid_parts-back}
use Rattle.faithful.specs.TopLaws.{CidTop, cid_top-back, cid_top-length, single-length}

-- ---- counts

-- a CID and an FD for each glyph
cids-length : (p : Program) (order : List ℕ) → length (cids_of p order) ≡ length order
unfolding cids_of
cids-length p [] = refl
cids-length p (g ∷ gs) = ap suc (cids-length p gs)

fds_length : (p : Program) (used order : List ℕ) → length (new_fds p used order) ≡ length order
unfolding new_fds
fds_length p used [] = refl
fds_length p used (g ∷ gs) = ap suc (fds_length p used gs)

-- the CIDs of a subset fit two bytes
cids-small : (p : Program) → Ids p.ids → (order : List ℕ) → Ids (cids_of p order)
unfolding cids_of
cids-small p small [] i = omega arith
cids-small p small (g ∷ gs) zero = small g
cids-small p small (g ∷ gs) (suc i) = cids-small p small gs i

-- a Font DICT for each FD in use
dicts-count : (p : Program) (at : ℕ) (used : List ℕ) (lss : List (List (List ℕ))) → length lss ≡ length used → length (font_dicts p at used lss) ≡ length used
unfolding font_dicts
dicts-count p at [] lss same = refl
dicts-count p at (f ∷ fs) [] same = absurd (omega arith)
dicts-count p at (f ∷ fs) (ls ∷ lss) same = ap suc (dicts-count p (at + length (private_part (private_of p f) ls)) fs lss (omega arith))

-- of eleven bytes and its FontMatrix, wherever its Private DICT stands
unfoldable matrices_len : Program → List ℕ → ℕ
matrices_len p [] = 0
matrices_len p (f ∷ fs) = length (copied_entry font_matrix (matrix_of p f)) + matrices_len p fs

dicts-total : (p : Program) (at : ℕ) (used : List ℕ) (lss : List (List (List ℕ))) → length lss ≡ length used
    → total (font_dicts p at used lss) ≡ matrices_len p used + 11 * length used
unfolding font_dicts total matrices_len
dicts-total p at [] lss same = refl
dicts-total p at (f ∷ fs) [] same = absurd (omega arith)
dicts-total p at (f ∷ fs) (ls ∷ lss) same =
    let size = length (private_dict (private_of p f) ls) in
    omega (
      arith,
      length-append (copied_entry font_matrix (matrix_of p f)) (private_entry size at),
      private-length size at,
      dicts-total p (at + length (private_part (private_of p f) ls)) fs lss (omega arith),
    )

-- so that the length of the FD INDEX does not depend on it
dicts-length : (p : Program) (at : ℕ) (used : List ℕ) (lss : List (List (List ℕ))) → length lss ≡ length used
    → length (index_bytes (font_dicts p at used lss)) ≡ index_len_lem (length used) (matrices_len p used + 11 * length used)
dicts-length p at used lss same =
    length-index (font_dicts p at used lss) ∙ ap (λ (n : ℕ). index_len_lem n (total (font_dicts p at used lss))) (dicts-count p at used lss same)
    ∙ ap (index_len_lem (length used)) (dicts-total p at used lss same)

-- ---- the parts behind the globals, at₁ being the place of the charset

-- the places of FDSelect, the charstrings, the FD INDEX and the Private DICTs
module _ (p : Program) (used order : List ℕ) (b : Bodies) (at₁ : ℕ) where
  abbrev select_place : ℕ
  select_place = at₁ + length (charset_bytes (cids_of p order))

  abbrev glyphs_place : ℕ
  glyphs_place = select_place + length (fd_select_bytes (new_fds p used order))

  abbrev array_place : ℕ
  array_place = glyphs_place + length (index_bytes b.charstrings)

  abbrev privates_place : ℕ
  privates_place = array_place + length (index_bytes (font_dicts p 0 used b.locals))

  -- the Font DICTs as they are written
  abbrev dicts_written : List (List ℕ)
  dicts_written = font_dicts p privates_place used b.locals

  -- all that stands behind the globals
  abbrev behind_globals : List ℕ
  behind_globals =
      charset_bytes (cids_of p order) ++ (fd_select_bytes (new_fds p used order)
      ++ (index_bytes b.charstrings ++ (index_bytes dicts_written ++ private_parts p used b.locals)))

  module _ (fitting : Fitting (length order) used b) (bs : List ℕ) (charset-within : at₁ ≤ length bs) (charset-lies : drop at₁ bs ≡ behind_globals) where
    -- each of these places is within the bytes, and what was written stands there
    select-within : select_place ≤ length bs
    select-within = lies_within bs at₁ (charset_bytes (cids_of p order)) _ charset-lies charset-within

    select_lies : drop select_place bs ≡ fd_select_bytes (new_fds p used order) ++ (index_bytes b.charstrings ++ (index_bytes dicts_written ++ private_parts p used b.locals))
    select_lies = lies_behind bs at₁ (charset_bytes (cids_of p order)) _ charset-lies

    glyphs-within : glyphs_place ≤ length bs
    glyphs-within = lies_within bs select_place (fd_select_bytes (new_fds p used order)) _ select_lies select-within

    glyphs_lie : drop glyphs_place bs ≡ index_bytes b.charstrings ++ (index_bytes dicts_written ++ private_parts p used b.locals)
    glyphs_lie = lies_behind bs select_place (fd_select_bytes (new_fds p used order)) _ select_lies

    array_within : array_place ≤ length bs
    array_within = lies_within bs glyphs_place (index_bytes b.charstrings) _ glyphs_lie glyphs-within

    array_lies : drop array_place bs ≡ index_bytes dicts_written ++ private_parts p used b.locals
    array_lies = lies_behind bs glyphs_place (index_bytes b.charstrings) _ glyphs_lie

    -- the FD INDEX is as long as where the Private DICTs stand at 0
    array_length : array_place + length (index_bytes dicts_written) ≡ privates_place
    array_length =
        ap (λ (n : ℕ). array_place + n) (dicts-length p privates_place used b.locals fitting.fds ∙ sym (dicts-length p 0 used b.locals fitting.fds))

    privates-within : privates_place ≤ length bs
    privates-within = subst (λ (n : ℕ). n ≤ length bs) array_length (lies_within bs array_place (index_bytes dicts_written) _ array_lies array_within)

    privates_lie : drop privates_place bs ≡ private_parts p used b.locals ++ []
    privates_lie =
        ap (λ (n : ℕ). drop n bs) (sym array_length) ∙ lies_behind bs array_place (index_bytes dicts_written) _ array_lies
        ∙ sym (append-nil (private_parts p used b.locals))

    module _ (good : GoodProgram p) (short : length bs ≤ 67108864) (few : length order < 65536) (fewFds : length used < 65536) (someFds : 0 < length used)
        (below : all_below (length used) (new_fds p used order) ≡ true) where
      -- the charstrings, the FD INDEX, FDSelect and the charset read back
      glyphs-read : read_index bs glyphs_place ≡ found b.charstrings (glyphs_place + length (index_bytes b.charstrings))
      glyphs-read = index_back bs glyphs_place b.charstrings _ (omega (arith, fitting.glyphs)) short glyphs_lie

      array_read : read_index bs array_place ≡ found dicts_written (array_place + length (index_bytes dicts_written))
      array_read = index_back bs array_place dicts_written _ (omega (arith, dicts-count p privates_place used b.locals fitting.fds)) short array_lies

      select_read : fd_select_at bs select_place (length b.charstrings) ≡ Ok (new_fds p used order)
      select_read =
          let n : length b.charstrings ≡ length (new_fds p used order) = fitting.glyphs ∙ sym (fds_length p used order) in
          ap (fd_select_at bs select_place) n ∙ select-round bs select_place (new_fds p used order) _ select_lies (omega (arith, fds_length p used order))

      ids-read : 3 ≤ at₁ → 0 < length order → get_or (cids_of p order) 0 0 ≡ 0 → ids_at bs (length b.charstrings) at₁ ≡ Ok (cids_of p order)
      ids-read far some first =
          let n : length b.charstrings ≡ length (cids_of p order) = fitting.glyphs ∙ sym (cids-length p order) in
          ap (λ (k : ℕ). ids_at bs k at₁) n
          ∙ ids-back bs at₁ (cids_of p order) _ far charset-lies (omega (arith, cids-length p order)) first (cids-small p good.ids order)

      -- and the Private DICTs
      private-dicts : (ps : List Private) × (privates_at bs dicts_written ≡ Ok ps) × (length ps ≡ length used)
          × ((k : ℕ) → k < length used → (get_or ps k empty_private).locals ≡ get_or b.locals k [])
          × ((k : ℕ) → last_of font_matrix (get_or (dicts_at dicts_written) k []) ≡ get_or (matrices_of p used) k absent)
      private-dicts = privates-back bs privates_place p used b.locals [] good fitting.fds fitting.locals short privates-within privates_lie

      -- the font that is read, by the entries of its top DICT
      abbrev font_read : List Entry → Program
      font_read es =
          font_of (own_by_cid p) b.globals es b.charstrings (cids_of p order)
          (record { privates = private-dicts.0; fds = new_fds p used order; dicts = dicts_at dicts_written; coding = standard })

      font-read : (top : List ℕ) (es : List Entry) → dict_of top ≡ Ok es → CidTop es at₁ select_place glyphs_place array_place
          → 3 ≤ at₁ → 0 < length order → get_or (cids_of p order) 0 0 ≡ 0 → font_at bs (own_by_cid p) b.globals top ≡ Ok (font_read es)
      font-read top es dict t far some first =
          let ps = private-dicts.0 in
          let n = private-dicts.2 in
          let q : cid_parts bs es (length b.charstrings) ≡ Ok (record { privates = ps; fds = new_fds p used order; dicts = dicts_at dicts_written; coding = standard })
          = cid_parts-back bs es (length b.charstrings) array_place select_place _ dicts_written ps (new_fds p used order) t.fd_array_at t.fd_select_at array_read
          private-dicts.1 (omega arith) select_read (ap (λ (k : ℕ). all_below k (new_fds p used order)) n ∙ below) in
          font-back bs (own_by_cid p) b.globals top es b.charstrings (cids_of p order) _ dict t.charstring_type_none at₁ glyphs_place _
          t.charset_at t.char_strings_at glyphs-read (omega (arith, fitting.glyphs)) (ids-read far some first)
          (ap (λ (k : Bool). pick k (cid_parts bs es (length b.charstrings)) (name_parts bs es (length b.charstrings))) t.keying ∙ q)

-- ---- the whole

module _ (p : Program) (name used order : List ℕ) (b : Bodies) where
  -- the place of the charset, the top DICT and the header's offset size as they are written
  abbrev charset_place : ℕ
  charset_place = rest_at name (top_by_cid p (own_by_cid p) 0 0 0 0) (own_by_cid p) b.globals

  abbrev top_written : List ℕ
  top_written =
      top_by_cid p (own_by_cid p) charset_place (select_place p used order b charset_place) (glyphs_place p used order b charset_place) (array_place p used order b charset_place)

  abbrev size_written : ℕ
  size_written = size_for (privates_place p used order b charset_place + length (private_parts p used b.locals))

  -- the top DICT is as long as with other offsets
  place_is : rest_at name top_written (own_by_cid p) b.globals ≡ charset_place
  place_is =
      let e = single-length top_written (top_by_cid p (own_by_cid p) 0 0 0 0) (cid_top-length p (own_by_cid p) _ _ _ _) in
      ap (λ (n : ℕ). 4 + length (index_bytes (name ∷ [])) + n + length (index_bytes (own_by_cid p)) + length (index_bytes b.globals)) e

  -- the charset and what follows it stand there
  rest-place : (charset_place ≤ length (subset_by_cid p name used order b)) × (drop charset_place (subset_by_cid p name used order b) ≡ behind_globals p used order b charset_place)
  unfolding subset_by_cid
  rest-place =
      let rest : List ℕ = behind_globals p used order b charset_place in
      let bs : List ℕ = set_bytes size_written name top_written (own_by_cid p) b.globals rest in (
        subst (λ (k : ℕ). k ≤ length bs) place_is (rest-within size_written name top_written (own_by_cid p) b.globals rest),
        ap (λ (k : ℕ). drop k bs) (sym place_is) ∙ rest_lies size_written name top_written (own_by_cid p) b.globals rest,
      )

  -- it is read as the font that its top DICT gives
  subset-back : length (own_by_cid p) < 65536 → length b.globals < 65536 → length (subset_by_cid p name used order b) ≤ 67108864 → (font : Program)
      → font_at (subset_by_cid p name used order b) (own_by_cid p) b.globals top_written ≡ Ok font → read_font (subset_by_cid p name used order b) ≡ Ok font
  unfolding subset_by_cid
  subset-back manyStrings manyGlobals short font e =
      set_back size_written name top_written (own_by_cid p) b.globals (behind_globals p used order b charset_place) (size_small (privates_place p used order b charset_place + length (private_parts p used b.locals))) manyStrings manyGlobals short font e

-- a CID-keyed subset reads back
pub by-cid : (p : Program) (name used order : List ℕ) (b : Bodies) → GoodProgram p → has_ros_lem (ros_in p.top) ≡ true → Fitting (length order) used b
    → 0 < length order → length order < 65536 → get_or (cids_of p order) 0 0 ≡ 0 → 0 < length used → length used < 65536
    → all_below (length used) (new_fds p used order) ≡ true
    → length (own_by_cid p) ≤ 64609 → length (subset_by_cid p name used order b) ≤ 67108864
    → ReadsAs true (own_by_cid p) (cids_of p order) (new_fds p used order) (matrices_of p used) standard b (subset_by_cid p name used order b)
by-cid p name used order b good there fitting some few first someFds fewFds below fewStrings short =
    let bs = subset_by_cid p name used order b in
    let at₁ = charset_place p name used order b in
    let r = rest-place p name used order b in
    let w₂ = select-within p used order b at₁ fitting bs r.0 r.1 in
    let w₃ = glyphs-within p used order b at₁ fitting bs r.0 r.1 in
    let w₄ = array_within p used order b at₁ fitting bs r.0 r.1 in
    let top = cid_top-back p (own_by_cid p) at₁ (select_place p used order b at₁) (glyphs_place p used order b at₁) (array_place p used order b at₁) good there fewStrings
    (omega arith) (omega arith) (omega arith) (omega arith) in
    let ps = private-dicts p used order b at₁ fitting bs r.0 r.1 good short few fewFds someFds below in
    let font = font-read p used order b at₁ fitting bs r.0 r.1 good short few fewFds someFds below _ top.0 top.1 top.2 (omega arith) some first in
    record {
      program =
          font_of (own_by_cid p) b.globals top.0 b.charstrings (cids_of p order)
          (record { privates = ps.0; fds = new_fds p used order; dicts = dicts_at (dicts_written p used order b at₁); coding = standard });
      reads = subset-back p name used order b (omega arith) fitting.globals short _ font;
      keying = top.2.keying;
      strings = refl;
      globals = refl;
      charstrings = refl;
      ids = refl;
      fds = refl;
      codes = refl;
      matrix = ps.4;
      locals = λ k h. ps.3 k (omega (arith, fitting.fds));
    }
