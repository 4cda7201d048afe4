-- Demand 3 (document 01, 'Plain glyphs') for a font that was read and a subset that is written: the subset reads back, finding gives each kept glyph, and it unfolds to what
-- it did. The parts: a font that was read (GoodLaws), glyphs kept and found (KeptLaws, FoundLaws, UsedLaws), bodies (PrunedLaws), bytes that read
-- back (ByName, ByCid).
use Rattle.std.specs.Prelude.{ℕ, ◌<◌, ◌≤◌, ◌≡◌, false, List, [], get_or, Result, Ok, Some, None}
use Rattle.std.proofs.Math.Path.{refl, subst}
use Rattle.std.proofs.Common.{sym, ap, ◌∙◌, arith}
use Rattle.std.proofs.Math.Bool.{Bool, true}
use Rattle.std.proofs.Math.ListN.{length}
use Rattle.octets.specs.Pick.{pick}
use Rattle.octets.specs.Octets.{Octets}
use Rattle.unfold.specs.Unfold.{Tok, Row, plain, unfold_glyph}
use Rattle.record.specs.Record.{rows_of}
use Rattle.dict.specs.Lookup.{Operands, cid_keyed, ros_in}
use Rattle.charset.specs.ListedLaws.{list_at}
use Rattle.charset.specs.FdSelect.{no_fds}
use Rattle.cff.specs.Font.{Coding, standard, Program, coding_at, read_font}
use Rattle.cff.specs.Find.{name_as, cid_as}
use Rattle.find.specs.Find.{glyph_with_id, glyph_with_text}
use Rattle.subset.specs.Kept.{is_in, kept_of, locals_of, sorted_by, written_order, used_fds, new_fd}
use Rattle.subset.specs.Texts.{name_of, names_of}
use Rattle.subset.specs.Pruned.{Bodies, pruned}
use Rattle.subset.specs.Codes.{Coded, coded_by_lem, coded_if}
use Rattle.subset.specs.Subset.{matrix_of, own_by_name, own_by_cid, new_ids, cids_of, new_fds, subset_by_name, subset_by_cid, subset_bytes}
use Rattle.subset.specs.Cut.{all_found_lem, has_ros_lem, own_of}
use Rattle.faithful.specs.Faithful.{unfolded, IsKept, Recorded, found_for, Holds}
use Rattle.faithful.specs.Matrices.{matrix_for, KeepsMatrices}
use Rattle.faithful.specs.Laid.{GoodProgram, Fitting, matrices_of, ReadsAs}
use Rattle.subset.specs.KeptListLaws.{in_at}
use Rattle.faithful.specs.KeptLaws.{kept_is, kept-some, order-count, order-has, order_in, all-below}
use Rattle.faithful.specs.FirstLaws.{first-name, first_cid}
use Rattle.faithful.specs.FoundLaws.{found_name, found_cid}
use Rattle.faithful.specs.UsedLaws.{used-has, used-some, used-count, used-one, new-fd-at, matrices_at, new_fds_there, new_fds_at}
use Rattle.faithful.proofs.PrunedLaws.{pruned-fits, pruned_unfolds}
use Rattle.faithful.specs.ByName.{codes_written, codes-read, by_name}
use Rattle.faithful.specs.Codes.{CodesKept}
use Rattle.faithful.specs.CodesLaws.{coding_of, SmallIds, coded-by-small, codes-meant}
use Rattle.faithful.specs.ByCid.{by-cid}
use Rattle.refusal.specs.declared.Refusal.{Refusal}

-- ---- numbers of the glyphs kept

abbrev pub kept_in : Program → List ℕ → List ℕ
kept_in p keep = kept_of (length p.charstrings) keep

abbrev by_cid : Program → List ℕ → List ℕ
by_cid p keep = sorted_by (λ g. get_or p.ids g 0) (kept_in p keep)

-- a glyph of a subset that reads back: what finding gives, and what it unfolds to
module _ (p : Program) (keep rec : List ℕ) (flag : ℕ) (good : GoodProgram p) (octets : Octets rec) where
  abbrev kept : List ℕ
  kept = kept_in p keep

  abbrev used : List ℕ
  used = used_fds p kept

  module _ (order : List ℕ) (inside : (i : ℕ) → i < length order → is_in (get_or order i 0) kept ≡ true) where
    abbrev bodies : Bodies
    bodies = (pruned p (rows_of rec) used order flag).bodies

    -- the i-th glyph of the subset unfolds as the glyph that it was
    new_unfolds : (cid : Bool) (own : List (List ℕ)) (ids fds : List ℕ) (ms : List Operands) (coding : Coding) (bs : List ℕ) (r : ReadsAs cid own ids fds ms coding bodies bs) (i : ℕ) → i < length order
        → get_or fds i 0 ≡ new_fd used (get_or p.fds (get_or order i 0) 0)
        → (ts : List Tok) (met : List Row) → unfolded p (get_or order i 0) ≡ plain ts met → Recorded rec flag met
        → (met' : List Row) × (unfolded r.program i ≡ plain ts met')
    new_unfolds cid own ids fds ms coding bs r i h fd ts met e listed =
        let f = new_fd used (get_or p.fds (get_or order i 0) 0) in
        let u = used-has p kept (get_or order i 0) good (inside i h) (all-below (length p.charstrings) keep order inside i h) in
        let n : f < length bodies.locals = subst (λ (k : ℕ). f < k) (sym (pruned-fits p (rows_of rec) used order flag good).fds) (new-fd-at used (get_or p.fds (get_or order i 0) 0) u).0 in
        let w = pruned_unfolds p rec kept order flag good octets i h (inside i h) (all-below (length p.charstrings) keep order inside i h) f i ts met e listed in
        let d : get_or r.program.fds i 0 ≡ f = ap (λ (l : List ℕ). get_or l i 0) r.fds ∙ fd in (
          w.0,
          ap (λ (k : ℕ). unfold_glyph r.program.globals (locals_of r.program k) k i (get_or r.program.charstrings i [])) d
              ∙ ap (λ (l : List (List ℕ)). unfold_glyph r.program.globals l f i (get_or r.program.charstrings i [])) (r.locals f n)
              ∙ ap (λ (l : List (List ℕ)). unfold_glyph l (get_or bodies.locals f []) f i (get_or r.program.charstrings i [])) r.globals
              ∙ ap (λ (l : List (List ℕ)). unfold_glyph bodies.globals (get_or bodies.locals f []) f i (get_or l i [])) r.charstrings
              ∙ w.1,
        )

  -- the glyphs kept are below the count
  kept-inside : (i : ℕ) → i < length kept → is_in (get_or kept i 0) kept ≡ true
  kept-inside = in_at kept

  some : (0 < length kept) × (length kept ≤ length p.charstrings) × (get_or kept 0 0 ≡ 0)
  some = kept-some (length p.charstrings) keep good.some

  few : length kept < 65536
  few = omega (arith, some.1, good.charstrings.count)

  -- ---- name-keyed

  module _ (coded : Coded) (name : List ℕ) (named : cid_keyed p.top ≡ false) (found : all_found_lem p kept ≡ true) (strings : length (own_by_name p kept) ≤ 64609) where
    abbrev by_name_lem : List ℕ
    by_name_lem = subset_by_name p coded name kept (bodies kept kept-inside)

    -- the encoding that is read there
    abbrev codes_read : Coding
    codes_read = coding_at by_name_lem (codes_written p coded name kept (bodies kept kept-inside))

    name-reads : length by_name_lem ≤ 67108864
        → ReadsAs false (own_by_name p kept) (new_ids (own_by_name p kept) (names_of p kept)) (no_fds (length kept)) [] codes_read (bodies kept kept-inside) by_name_lem
    name-reads size =
        by_name p coded name kept (bodies kept kept-inside) good
        (subst (λ (l : List ℕ). Fitting (length kept) l (bodies kept kept-inside)) (used-one p kept good named some.0 (all-below (length p.charstrings) keep kept kept-inside))
        (pruned-fits p (rows_of rec) used kept flag good))
        some.0 few (first-name p keep good (own_by_name p kept)) strings size

    -- the one FD
    name-fd : (i : ℕ) → i < length kept → get_or (no_fds (length kept)) i 0 ≡ new_fd used (get_or p.fds (get_or kept i 0) 0)
    name-fd i h =
        let l = (new-fd-at used (get_or p.fds (get_or kept i 0) 0) (used-has p kept (get_or kept i 0) good (kept-inside i h) (all-below (length p.charstrings) keep kept kept-inside i h))).0 in
        let u : length used ≡ 1 = ap length (used-one p kept good named some.0 (all-below (length p.charstrings) keep kept kept-inside)) in
        let z : new_fd used (get_or p.fds (get_or kept i 0) 0) ≡ 0 = omega arith in
        list_at (λ g. 0) 0 (length kept) i h ∙ sym z

    name-held : (size : length by_name_lem ≤ 67108864) (i : ℕ) → i < length kept → (ts : List Tok) (met : List Row) → unfolded p (get_or kept i 0) ≡ plain ts met → Recorded rec flag met
        → Holds p (get_or kept i 0) ts by_name_lem
    name-held size i h ts met e listed =
        let r = name-reads size in
        let u = new_unfolds kept kept-inside false (own_by_name p kept) (new_ids (own_by_name p kept) (names_of p kept)) (no_fds (length kept)) [] codes_read by_name_lem r i h (name-fd i h) ts met e listed in
        let text = name_of p (get_or kept i 0) in
        record {
          program = r.program;
          reads = r.reads;
          new = i;
          found =
              ap (λ (t : Bool). pick t (cid_as (read_font by_name_lem) (get_or p.ids (get_or kept i 0) 0)) (name_as (read_font by_name_lem) text)) named
              ∙ ap (λ (q : Result Program Refusal). name_as q text) r.reads
              ∙ ap (λ (t : Bool). Ok (pick t None (glyph_with_text r.program.strings text 0 r.program.ids))) r.keying
              ∙ ap (λ (l : List (List ℕ)). Ok (glyph_with_text l text 0 r.program.ids)) r.strings
              ∙ ap (λ (l : List ℕ). Ok (glyph_with_text (own_by_name p kept) text 0 l)) r.ids
              ∙ ap Ok (found_name p (length p.charstrings) keep named found i h);
          met = u.0;
          unfolds = u.1;
        }

    -- Wish 4: what the codes mean
    name-codes : length by_name_lem ≤ 67108864 → coded ≡ coded_by_lem p kept (own_by_name p kept) p.coding
        → (q : Program) × (read_font by_name_lem ≡ Ok q) × CodesKept p keep q
    name-codes size is =
        let r = name-reads size in
        let small : SmallIds coded = subst SmallIds (sym is) (coded-by-small p kept (own_by_name p kept) strings p.coding) in
        let read : r.program.coding ≡ coding_of (coded_by_lem p kept (own_by_name p kept) p.coding) =
        r.codes ∙ codes-read p coded name kept (bodies kept kept-inside) small ∙ ap coding_of is in
        (r.program, r.reads, record { codes = codes-meant p (length p.charstrings) keep named found r.program r.strings r.ids read })

  -- ---- CID-keyed

  abbrev sorted : List ℕ
  sorted = by_cid p keep

  module _ (name : List ℕ) (keyed : cid_keyed p.top ≡ true) (ros : has_ros_lem (ros_in p.top) ≡ true) (found : all_found_lem p kept ≡ true) (strings : length (own_by_cid p) ≤ 64609) where
    -- what is true of the order of a CID-keyed subset
    order_is : written_order p kept ≡ sorted
    order_is = ap (λ (t : Bool). pick t sorted kept) keyed

    sorted-inside : (i : ℕ) → i < length sorted → is_in (get_or sorted i 0) kept ≡ true
    sorted-inside = subst (λ (l : List ℕ). (i : ℕ) → i < length l → is_in (get_or l i 0) kept ≡ true) order_is (order_in p kept)

    sorted-count : length sorted ≡ length kept
    sorted-count = ap length (sym order_is) ∙ order-count p kept

    abbrev of_cid : List ℕ
    of_cid = subset_by_cid p name used sorted (bodies sorted sorted-inside)

    cid_reads : length of_cid ≤ 67108864 → ReadsAs true (own_by_cid p) (cids_of p sorted) (new_fds p used sorted) (matrices_of p used) standard (bodies sorted sorted-inside) of_cid
    cid_reads size =
        let n = sorted-count in
        by-cid p name used sorted (bodies sorted sorted-inside) good ros (pruned-fits p (rows_of rec) used sorted flag good)
        (omega (arith, some.0)) (omega (arith, few)) (first_cid p keep good) (used-some p kept (get_or kept 0 0) good (kept-inside 0 some.0) (all-below (length p.charstrings) keep kept kept-inside 0 some.0)) (used-count p kept good)
        (new_fds_there p kept good sorted sorted-inside (all-below (length p.charstrings) keep sorted sorted-inside)) strings size

    -- what finding gives for the CID of the i-th glyph
    cid_given : (size : length of_cid ≤ 67108864) (i : ℕ) → i < length sorted → found_for p (get_or sorted i 0) of_cid ≡ Ok (Some i)
    cid_given size i h =
        let r = cid_reads size in
        let id = get_or p.ids (get_or sorted i 0) 0 in
        ap (λ (t : Bool). pick t (cid_as (read_font of_cid) id) (name_as (read_font of_cid) (name_of p (get_or sorted i 0)))) keyed
        ∙ ap (λ (q : Result Program Refusal). cid_as q id) r.reads
        ∙ ap (λ (t : Bool). Ok (pick t (glyph_with_id id 0 r.program.ids) None)) r.keying
        ∙ ap (λ (l : List ℕ). Ok (glyph_with_id id 0 l)) r.ids
        ∙ ap Ok (found_cid p (length p.charstrings) keep keyed found i h)

    cid_held : (size : length of_cid ≤ 67108864) (i : ℕ) → i < length sorted → (ts : List Tok) (met : List Row) → unfolded p (get_or sorted i 0) ≡ plain ts met → Recorded rec flag met
        → Holds p (get_or sorted i 0) ts of_cid
    cid_held size i h ts met e listed =
        let r = cid_reads size in
        let u = new_unfolds sorted sorted-inside true (own_by_cid p) (cids_of p sorted) (new_fds p used sorted) (matrices_of p used) standard of_cid r i h (new_fds_at p used sorted i h) ts met e listed in
        record {
          program = r.program;
          reads = r.reads;
          new = i;
          found = cid_given size i h;
          met = u.0;
          unfolds = u.1;
        }

    -- the matrices of the FDs in use, and of the i-th glyph
    fd_matrix : (size : length of_cid ≤ 67108864) (k : ℕ) → k < length used → matrix_of (cid_reads size).program k ≡ matrix_of p (get_or used k 0)
    fd_matrix size k h = (cid_reads size).matrix k ∙ matrices_at p used k h

    glyph_matrix : (size : length of_cid ≤ 67108864) (i : ℕ) → i < length sorted → matrix_for (cid_reads size).program i ≡ matrix_for p (get_or sorted i 0)
    glyph_matrix size i h =
        let fd = get_or p.fds (get_or sorted i 0) 0 in
        let u = used-has p kept (get_or sorted i 0) good (sorted-inside i h) (all-below (length p.charstrings) keep sorted sorted-inside i h) in
        let n = new-fd-at used fd u in
        ap (λ (l : List ℕ). matrix_of (cid_reads size).program (get_or l i 0)) (cid_reads size).fds
        ∙ ap (matrix_of (cid_reads size).program) (new_fds_at p used sorted i h)
        ∙ fd_matrix size (new_fd used fd) n.0 ∙ ap (matrix_of p) n.1

    -- a glyph that is kept stands among the sorted ones
    sorted-has : (g : ℕ) → IsKept p keep g → (i : ℕ) × (i < length sorted) × (get_or sorted i 0 ≡ g)
    sorted-has g k =
        subst (λ (l : List ℕ). (i : ℕ) × (i < length l) × (get_or l i 0 ≡ g)) order_is (order-has p kept g (kept_is p keep g k))

    cid_matrices : length of_cid ≤ 67108864 → KeepsMatrices p keep of_cid
    cid_matrices size =
        record {
          program = (cid_reads size).program;
          reads = (cid_reads size).reads;
          fds = fd_matrix size;
          glyphs = λ g k. let at = sorted-has g k in
              subst (λ (h : ℕ). (new : ℕ) × (found_for p h of_cid ≡ Ok (Some new)) × (matrix_for (cid_reads size).program new ≡ matrix_for p h)) at.2
              (at.0, cid_given size at.0 at.1, glyph_matrix size at.0 at.1);
        }

  -- ---- both

  -- the order and the subset's bytes, by the keying
  abbrev order_by : Bool → List ℕ
  order_by cid = pick cid sorted kept

  abbrev bodies_by : Bool → Bodies
  bodies_by cid = (pruned p (rows_of rec) used (order_by cid) flag).bodies

  abbrev bytes_by : Bool → Coded → List ℕ → List ℕ
  bytes_by cid coded name = pick cid (subset_by_cid p name used (order_by cid) (bodies_by cid)) (subset_by_name p coded name (order_by cid) (bodies_by cid))

  held : (cid : Bool) (coded : Coded) (name : List ℕ) → cid_keyed p.top ≡ cid → pick cid (has_ros_lem (ros_in p.top)) true ≡ true → all_found_lem p kept ≡ true
      → length (pick cid (own_by_cid p) (own_by_name p (order_by cid))) ≤ 64609 → length (bytes_by cid coded name) ≤ 67108864
      → (i : ℕ) → i < length (order_by cid) → (ts : List Tok) (met : List Row) → unfolded p (get_or (order_by cid) i 0) ≡ plain ts met → Recorded rec flag met
      → Holds p (get_or (order_by cid) i 0) ts (bytes_by cid coded name)
  held true coded name k ros found strings size i h ts met e listed = cid_held name k ros found strings size i h ts met e listed
  held false coded name k ros found strings size i h ts met e listed = name-held coded name k found strings size i h ts met e listed

  -- a glyph kept stands in the order
  placed : (g : ℕ) → IsKept p keep g → (i : ℕ) × (i < length (order_by (cid_keyed p.top))) × (get_or (order_by (cid_keyed p.top)) i 0 ≡ g)
  placed g k = order-has p kept g (kept_is p keep g k)

  -- Wish 2 for a font that was read, and that is not refused
  pub matrices_kept : (coded : Coded) (name : List ℕ) → cid_keyed p.top ≡ true → pick (cid_keyed p.top) (has_ros_lem (ros_in p.top)) true ≡ true → all_found_lem p kept ≡ true
      → length (own_of p (written_order p kept)) ≤ 64609
      → length (subset_bytes p coded name kept (written_order p kept) (pruned p (rows_of rec) used (written_order p kept) flag).bodies) ≤ 67108864
      → KeepsMatrices p keep (subset_bytes p coded name kept (written_order p kept) (pruned p (rows_of rec) used (written_order p kept) flag).bodies)
  unfolding subset_bytes
  matrices_kept coded name keyed = subst Kept (sym keyed) (λ ros found strings size. cid_matrices name keyed ros found strings size)
    where
      Kept : Bool → Type 0
      Kept cid =
          pick cid (has_ros_lem (ros_in p.top)) true ≡ true → all_found_lem p kept ≡ true → length (pick cid (own_by_cid p) (own_by_name p (order_by cid))) ≤ 64609
          → length (bytes_by cid coded name) ≤ 67108864 → KeepsMatrices p keep (bytes_by cid coded name)

  -- demand 3 for a font that was read, and that is not refused
  pub glyph_held : (coded : Coded) (name : List ℕ) → pick (cid_keyed p.top) (has_ros_lem (ros_in p.top)) true ≡ true → all_found_lem p kept ≡ true
      → length (own_of p (written_order p kept)) ≤ 64609
      → length (subset_bytes p coded name kept (written_order p kept) (pruned p (rows_of rec) used (written_order p kept) flag).bodies) ≤ 67108864
      → (g : ℕ) → IsKept p keep g → (ts : List Tok) (met : List Row) → unfolded p g ≡ plain ts met → Recorded rec flag met
      → Holds p g ts (subset_bytes p coded name kept (written_order p kept) (pruned p (rows_of rec) used (written_order p kept) flag).bodies)
  unfolding subset_bytes
  glyph_held coded name ros found strings size g k ts met e listed =
      let at = placed g k in
      subst (λ (h : ℕ). Holds p h ts (bytes_by (cid_keyed p.top) coded name)) at.2
      (held (cid_keyed p.top) coded name refl ros found strings size at.0 at.1 ts met (ap (unfolded p) at.2 ∙ e) listed)

  -- Wish 4 for a font that was read, and that is not refused
  pub codes-kept : (ask : Bool) (name : List ℕ) → ask ≡ true → cid_keyed p.top ≡ false → all_found_lem p kept ≡ true
      → length (own_of p (written_order p kept)) ≤ 64609
      → length (subset_bytes p (coded_if ask p kept (own_of p (written_order p kept))) name kept (written_order p kept) (pruned p (rows_of rec) used (written_order p kept) flag).bodies) ≤ 67108864
      → (q : Program) × (read_font (subset_bytes p (coded_if ask p kept (own_of p (written_order p kept))) name kept (written_order p kept) (pruned p (rows_of rec) used (written_order p kept) flag).bodies) ≡ Ok q) × CodesKept p keep q
  unfolding subset_bytes
  codes-kept ask name asked named =
      subst (λ (t : Bool). Kept t (cid_keyed p.top)) (sym asked)
      (subst (Kept true) (sym named) (λ found strings size. name-codes (coded_by_lem p kept (own_by_name p kept) p.coding) name named found strings size refl))
    where
      Kept : Bool → Bool → Type 0
      Kept t cid =
          all_found_lem p kept ≡ true → length (pick cid (own_by_cid p) (own_by_name p (order_by cid))) ≤ 64609
          → length (bytes_by cid (coded_if t p kept (pick cid (own_by_cid p) (own_by_name p (order_by cid)))) name) ≤ 67108864
          → (q : Program) × (read_font (bytes_by cid (coded_if t p kept (pick cid (own_by_cid p) (own_by_name p (order_by cid)))) name) ≡ Ok q) × CodesKept p keep q
