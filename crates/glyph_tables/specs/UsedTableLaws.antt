-- The FDSelect that is written is that of the subset (document 01, 'Layout'): the table has the FDs in use, and gives their new numbers.
use Rattle.std.specs.Prelude.{ℕ, suc, ◌+◌, ◌≤◌, ◌<◌, ◌≡◌, Bool, false, eqb, length}
use Rattle.std.proofs.Math.Path.{refl, ap, fun_ext}
use Rattle.std.proofs.Common.{sym, ◌∙◌, ⊎_elim, arith, ne_eqb}
use Rattle.std.proofs.Math.Bool.{true}
use mathlib.Core.List.{List, [], ◌∷◌}
use Rattle.std.proofs.Math.ListN.{get_or}
use Rattle.octets.specs.Octets.{put}
use Rattle.octets.specs.Pick.{pick}
use Rattle.cff.specs.Font.{Program}
use Rattle.subset.specs.Kept.{is_in, those, fds_of, used_fds, new_fd}
use Rattle.subset.specs.Subset.{new_fds}
use Rattle.bits.specs.Bits.{count_below}
use Rattle.subset.specs.Pruned.{mapped}
use Rattle.faithful.specs.Laid.{GoodProgram}
use Rattle.subset.specs.KeptListLaws.{in_none, in_head, in_more, in_cases, in_at, in_place, those-has, those_in, those-same}
use Rattle.subset.specs.RankLaws.{count-few, length-those}
use Rattle.faithful.specs.UsedLaws.{fds_has, fds_fit, fd_there}
use Rattle.kept.specs.Packed.{marked}
use Rattle.kept.specs.MarkLaws.{same_truth}
use Rattle.reach.specs.Reach.{ranks_of}
use Rattle.reach.specs.WordLaws.{HoldRanks, set_hold}
use Rattle.glyph_tables.specs.Tables.{new_fd_by, new_fds_by, Numbered}
use Rattle.glyph_tables.specs.ThoseLaws.{those-bounds, new-count}

-- ---- FDs of lists with the same glyphs

-- an FD of some glyphs is that of one of them
fds_glyph : (p : Program) (gs : List ℕ) (f : ℕ) → is_in f (fds_of p gs) ≡ true → (g : ℕ) × (is_in g gs ≡ true) × (get_or p.fds g 0 ≡ f)
unfolding fds_of
fds_glyph p [] f h = absurd (in_none f h)
fds_glyph p (x ∷ gs) f h =
    ⊎_elim (λ e. (x, in_head x x gs refl, e)) (λ e. let r = fds_glyph p gs f e in (r.0, in_more x r.0 gs r.1, r.2))
    (in_cases (get_or p.fds x 0) f (fds_of p gs) h)

-- an FD of a list is one of any list with the same glyphs
fds_over : (p : Program) (gs hs : List ℕ) → ((g : ℕ) → is_in g gs ≡ is_in g hs) → (f : ℕ) → is_in f (fds_of p gs) ≡ true → is_in f (fds_of p hs) ≡ true
fds_over p gs hs same f h =
    let r = fds_glyph p gs f h in
    ap (λ (k : ℕ). is_in k (fds_of p hs)) (sym r.2) ∙ fds_has p hs r.0 (sym (same r.0) ∙ r.1)

-- lists with the same glyphs have the same FDs
pub fds_same : (p : Program) (gs hs : List ℕ) → ((g : ℕ) → is_in g gs ≡ is_in g hs) → (f : ℕ) → is_in f (fds_of p gs) ≡ is_in f (fds_of p hs)
fds_same p gs hs same f = same_truth _ _ (fds_over p gs hs same f) (fds_over p hs gs (λ g. sym (same g)) f)

-- ---- the FDs in use

-- the glyphs that are written: those that are kept, each one of the font's
module _ (p : Program) (kept order : List ℕ) (good : GoodProgram p) (same : (g : ℕ) → is_in g order ≡ is_in g kept)
    (below : (i : ℕ) → i < length order → get_or order i 0 < length p.charstrings) where
  -- the test of an FD in use
  abbrev uses : ℕ → Bool
  uses f = is_in f (fds_of p order)

  -- an FD in use is one of the font's
  uses_there : (f : ℕ) → uses f ≡ true → f < length p.privates
  uses_there f h =
      let r = fds_glyph p order f h in
      let i = in_place order r.0 r.1 in
      let l : r.0 < length p.charstrings = omega (arith, below i.0 i.1, i.2) in
      omega (arith, fd_there p r.0 good l, r.2)

  -- and a byte
  uses-small : (f : ℕ) → uses f ≡ true → f < 256
  uses-small f h = fds_fit p order f good.fds h

  -- they are those of 256 that are in use
  used-those : used_fds p kept ≡ those uses 256 0
  used-those =
      ap (λ (t : ℕ → Bool). those t (length p.privates) 0) (fun_ext (λ f. sym (fds_same p order kept same f)))
      ∙ those-bounds uses (length p.privates) 256 0 (λ f h. omega (arith, uses_there f h)) (λ f h. omega (arith, uses-small f h))

  -- each of them is in use
  used-uses : (f : ℕ) → is_in f (used_fds p kept) ≡ uses f
  used-uses f =
      ap (is_in f) used-those
      ∙ same_truth _ _ (λ h. (those_in uses 256 0 f h).2) (λ h. those-has uses 256 0 f (omega arith) (omega (arith, uses-small f h)) h)

  -- the new number of one counts those below it
  used-new : (f : ℕ) → uses f ≡ true → new_fd (used_fds p kept) f ≡ count_below uses f
  used-new f h = ap (λ (l : List ℕ). new_fd l f) used-those ∙ new-count uses 256 f (uses-small f h) h

  -- the table was made from the FDs of the glyphs
  module _ (old table : List ℕ) (room : 256 ≤ length old) (ranks : table ≡ put old 0 (ranks_of (λ f. is_in f (fds_of p order)) 0 256)) where
    -- a word by the count of those below it
    word : (f : ℕ) → f < 256 → get_or table f 0 ≡ pick (uses f) (count_below uses f + 1) 0
    word f h =
        let hold : HoldRanks table 0 uses 256 = set_hold old table 0 uses 256 (omega arith) ranks in
        let e : f ≡ 0 + f = omega arith in
        ap (λ (i : ℕ). get_or table i 0) e ∙ hold.word f h

    -- a word is the new number of its FD, plus 1, or 0 for an FD that is not in use
    pub table-word : (f : ℕ) → f < 256 → get_or table f 0 ≡ pick (is_in f (used_fds p kept)) (new_fd (used_fds p kept) f + 1) 0
    table-word f h = word f h ∙ go (uses f) refl ∙ ap (λ (t : Bool). pick t (new_fd (used_fds p kept) f + 1) 0) (sym (used-uses f))
      where
        go : (t : Bool) → uses f ≡ t → pick t (count_below uses f + 1) 0 ≡ pick t (new_fd (used_fds p kept) f + 1) 0
        go true t = ap (λ (m : ℕ). m + 1) (sym (used-new f t))
        go false t = refl

    -- the FDs in use are those whose word is not 0, in this order
    pub table-used : used_fds p kept ≡ those (marked table) 256 0
    table-used = used-those ∙ those-same uses (marked table) 256 0
        (λ f h. sym (ap (λ (w : ℕ). pick (eqb w 0) false true) (word f (omega arith)) ∙ go (uses f) (count_below uses f)))
      where
        go : (t : Bool) (m : ℕ) → pick (eqb (pick t (m + 1) 0) 0) false true ≡ t
        go true m = rw (ne_eqb (m + 1) 0 (λ e. omega arith))
        go false m = refl

    -- how many there are
    pub table-count : count_below (λ f. is_in f (fds_of p order)) 256 ≡ length (used_fds p kept)
    table-count =
        let e : 0 + 256 ≡ 256 = omega arith in
        let c : count_below uses (0 + 256) ≡ count_below uses 256 = ap (count_below uses) e in
        omega (arith, length-those uses 256 0, count-few uses 0, ap length used-those)

    -- the word of an FD in use
    word-used : (f : ℕ) → uses f ≡ true → get_or table f 0 ≡ count_below uses f + 1
    word-used f h = word f (uses-small f h) ∙ ap (λ (t : Bool). pick t (count_below uses f + 1) 0) h

    -- the table has a new number for the FD of each glyph
    pub table-numbered : Numbered table (fds_of p order)
    table-numbered i h =
        let f = get_or (fds_of p order) i 0 in
        let u : uses f ≡ true = in_at (fds_of p order) i h in
        record { in_use_lem = omega (arith, word-used f u); small = omega (arith, word-used f u, count-few uses f, uses-small f u) }

    -- by which FDs of some of the glyphs have the new numbers that the subset writes
    news : (gs : List ℕ) → ((i : ℕ) → i < length gs → is_in (get_or gs i 0) order ≡ true) → new_fds_by table (fds_of p gs) ≡ new_fds p (used_fds p kept) gs
    unfolding mapped fds_of new_fds
    news [] there = refl
    news (g ∷ gs) there =
        let f = get_or p.fds g 0 in
        let u : uses f ≡ true = fds_has p order g (there 0 (omega arith)) in
        let e : new_fd_by table f ≡ new_fd (used_fds p kept) f = omega (arith, word-used f u, used-new f u) in
        ap (λ (x : ℕ). x ∷ new_fds_by table (fds_of p gs)) e
        ∙ ap (λ (l : List ℕ). new_fd (used_fds p kept) f ∷ l) (news gs (λ i h. there (suc i) (omega arith)))

    -- and those of all
    pub table-new_fds : new_fds_by table (fds_of p order) ≡ new_fds p (used_fds p kept) order
    table-new_fds = news order (λ i h. in_at order i h)
