-- Demand 3 (document 01, 'Plain glyphs') as a theorem: whatever the font, the new name, the keep list, the record and the flag are, the outcome of a call is faithful.
use Rattle.std.specs.Prelude.{ℕ, ◌≤◌, ◌≡◌, refl, Bool, true, false, List, ltb, length, Result, Ok, Err}
use Rattle.std.proofs.Common.{sym, ◌∙◌, subst, ltb-false}
use Rattle.octets.specs.Pick.{pick, pick_ind}
use Rattle.octets.specs.Octets.{Octets}
use Rattle.octets.specs.Lists.{all_below}
use Rattle.unfold.specs.Unfold.{plain}
use Rattle.prune.specs.StepLaws.{zero_one}
use Rattle.record.specs.Record.{rows_of, record_fine}
use Rattle.dict.specs.Lookup.{cid_keyed, ros_in}
use Rattle.cff.specs.Font.{Program, read_font}
use Rattle.subset.specs.Kept.{written_order, used_fds}
use Rattle.subset.specs.Pruned.{Pruned, pruned}
use Rattle.subset.specs.Codes.{Coded, coded_if, pair_count}
use Rattle.subset.specs.Subset.{subset_bytes}
use Rattle.subset.specs.Cut.{Outcome, refused, subset, all_found_lem, has_ros_lem, same_bool_lem, own_of, written, unsupported_in, cut_program, cut_read, cut_with}
use Rattle.faithful.specs.Faithful.{unfolded, IsKept, Holds, Faithful}
use Rattle.faithful.specs.Laid.{GoodProgram}
use Rattle.faithful.specs.GoodPartsLaws.{got_same}
use Rattle.faithful.specs.GoodLaws.{font-good}
use Rattle.faithful.specs.Matrices.{KeepsMatrices, Scaled}
use Rattle.faithful.specs.Codes.{CodesKept, KeepsCodes}
use Rattle.faithful.proofs.Held.{kept_in, glyph_held, matrices_kept, codes-kept}
use Rattle.refusal.specs.declared.Refusal.{Refusal}
use Rattle.refusal.specs.declared.Refusal.TheVariants.{Malformed, Unsupported, TooLong, NoSuchNumber, NotFound, BadRecord, Work, Subset, Output, StringId, Pairs}
use Rattle.subset.specs.declared.Way.{Way}

-- two that are the same
pub same_bool : (a b : Bool) → same_bool_lem a b ≡ true → a ≡ b
same_bool true b e = sym e
same_bool false true e = absurd (zero_one cc)
same_bool false false e = refl

-- what holds of a refusal, and of a subset that is within its limits, holds of the outcome
module _ (ask : Bool) (name keep rec : List ℕ) (flag room : ℕ) (p : Program) (Meets : Outcome → Type 0) (refuses : (n : Refusal) → Meets (refused n)) where
  -- the order, what becomes of the bodies, the encoding, and the subset
  abbrev order : List ℕ
  order = written_order p (kept_in p keep)

  abbrev cut : Pruned
  cut = pruned p (rows_of rec) (used_fds p (kept_in p keep)) order flag

  abbrev coded : Coded
  coded = coded_if ask p (kept_in p keep) (own_of p order)

  abbrev bytes : List ℕ
  bytes = subset_bytes p coded name (kept_in p keep) order cut.bodies

  abbrev Keyed : Type 0
  Keyed = pick (cid_keyed p.top) (has_ros_lem (ros_in p.top)) true ≡ true

  module _ (meets : (way : Way) → Keyed → all_found_lem p (kept_in p keep) ≡ true → length (own_of p order) ≤ 64609 → length bytes ≤ 67108864 → Meets (subset way bytes)) where
    written-meets : Keyed → all_found_lem p (kept_in p keep) ≡ true → Meets (written p coded name (kept_in p keep) order room cut)
    written-meets ros found =
        let last = pick (ltb room (length bytes)) (refused Output) (subset cut.way bytes) in
        let sized = pick (ltb 67108864 (length bytes)) (refused Subset) last in
        pick_ind Meets (ltb 64609 (length (own_of p order))) (refused StringId) (pick (ltb 255 (pair_count coded)) (refused Pairs) sized) (λ t. refuses StringId)
        (λ own. pick_ind Meets (ltb 255 (pair_count coded)) (refused Pairs) sized (λ t. refuses Pairs)
        (λ codes. pick_ind Meets (ltb 67108864 (length bytes)) (refused Subset) last (λ t. refuses Subset)
        (λ size. pick_ind Meets (ltb room (length bytes)) (refused Output) (subset cut.way bytes) (λ t. refuses Output)
        (λ fits. meets cut.way ros found (ltb-false 64609 (length (own_of p order)) own) (ltb-false 67108864 (length bytes) size)))))

    program-meets : (need : Program → ℕ) (cid : Bool) (words : ℕ) → Meets (cut_program need cid ask p name keep rec flag words room)
    program-meets need cid words =
        pick_ind Meets (same_bool_lem cid (cid_keyed p.top)) _ (refused Unsupported)
        (λ k. pick_ind Meets (unsupported_in ask p) (refused Unsupported) _ (λ t. refuses Unsupported)
        (λ s. pick_ind Meets (pick cid (has_ros_lem (ros_in p.top)) true) _ (refused Malformed)
        (λ ros. pick_ind Meets (ltb 65535 (length name)) (refused TooLong) _ (λ t. refuses TooLong)
        (λ n. pick_ind Meets (all_below (length p.charstrings) keep) _ (refused NoSuchNumber)
        (λ b. pick_ind Meets (all_found_lem p (kept_in p keep)) _ (refused NotFound)
        (λ found. pick_ind Meets (record_fine cid rec flag) _ (refused BadRecord)
        (λ r. pick_ind Meets (ltb words (need p)) (refused Work) _ (λ t. refuses Work)
        (λ w. written-meets (subst (λ (c : Bool). pick c (has_ros_lem (ros_in p.top)) true ≡ true) (same_bool cid (cid_keyed p.top) k) ros) found))
        (λ t. refuses BadRecord))
        (λ t. refuses NotFound))
        (λ t. refuses NoSuchNumber)))
        (λ t. refuses Malformed)))
        (λ t. refuses Unsupported)

module _ (ask : Bool) (font name keep rec : List ℕ) (flag room : ℕ) (octets : Octets rec) (p : Program) (good : GoodProgram p) (is : read_font font ≡ Ok p) where
  -- demand 3 and Wish 2, of a font that was read
  program_faithful : (need : Program → ℕ) (cid : Bool) (words : ℕ) → Faithful font keep rec flag (cut_program need cid ask p name keep rec flag words room)
  program_faithful =
      program-meets ask name keep rec flag room p (Faithful font keep rec flag) (λ n. tt)
      (λ way ros found strings size q e g k ts met u listed.
      subst (λ (x : Program). IsKept x keep g → unfolded x g ≡ plain ts met → Holds x g ts (bytes ask name keep rec flag room p (Faithful font keep rec flag) (λ n. tt)))
      (got_same p q (sym is ∙ e)) (λ h v. glyph_held p keep rec flag good octets _ name ros found strings size g h ts met v listed) k u)

  program-scaled : (need : Program → ℕ) (cid : Bool) (words : ℕ) → Scaled font keep (cut_program need cid ask p name keep rec flag words room)
  program-scaled =
      program-meets ask name keep rec flag room p (Scaled font keep) (λ n. tt)
      (λ way ros found strings size q e keyed.
      subst (λ (x : Program). cid_keyed x.top ≡ true → KeepsMatrices x keep (bytes ask name keep rec flag room p (Scaled font keep) (λ n. tt)))
      (got_same p q (sym is ∙ e)) (λ k. matrices_kept p keep rec flag good octets _ name k ros found strings size) keyed)

  -- Wish 4
  program-coded : (need : Program → ℕ) (cid : Bool) (words : ℕ) → KeepsCodes ask font keep (cut_program need cid ask p name keep rec flag words room)
  program-coded =
      program-meets ask name keep rec flag room p (KeepsCodes ask font keep) (λ n. tt)
      (λ way ros found strings size asked q e named.
      subst (λ (x : Program). cid_keyed x.top ≡ false
      → (r : Program) × (read_font (bytes ask name keep rec flag room p (KeepsCodes ask font keep) (λ n. tt)) ≡ Ok r) × CodesKept x keep r)
      (got_same p q (sym is ∙ e)) (λ k. codes-kept p keep rec flag good octets ask name asked k found strings size) named)

-- THE THEOREM: demand 3, whatever the font, the new name, the keep list, the record and the flag are, and however many work words a call asks for
pub faithful : (need : Program → ℕ) (cid ask : Bool) (font name keep rec : List ℕ) (flag words room : ℕ) → Octets font → Octets rec
    → Faithful font keep rec flag (cut_with need cid ask font name keep rec flag words room)
unfolding cut_with
faithful need cid ask font name keep rec flag words room bytes octets = go (read_font font) refl
  where
    go : (x : Result Program Refusal) → read_font font ≡ x → Faithful font keep rec flag (cut_read need cid ask x name keep rec flag words room)
    go (Err n) e = tt
    go (Ok p) e = program_faithful ask font name keep rec flag room octets p (font-good font p bytes e) e need cid words

-- Wish 2: each FD of a subset has the FontMatrix that it had
pub matrix_back : (need : Program → ℕ) (cid ask : Bool) (font name keep rec : List ℕ) (flag words room : ℕ) → Octets font → Octets rec → Scaled font keep (cut_with need cid ask font name keep rec flag words room)
unfolding cut_with
matrix_back need cid ask font name keep rec flag words room bytes octets = go (read_font font) refl
  where
    go : (x : Result Program Refusal) → read_font font ≡ x → Scaled font keep (cut_read need cid ask x name keep rec flag words room)
    go (Err n) e = tt
    go (Ok p) e = program-scaled ask font name keep rec flag room octets p (font-good font p bytes e) e need cid words

-- Wish 4: where the encoding was asked for, each code whose glyph is kept has in the subset the glyph of the same name, and no other code any
pub codes-back : (need : Program → ℕ) (cid ask : Bool) (font name keep rec : List ℕ) (flag words room : ℕ) → Octets font → Octets rec
    → KeepsCodes ask font keep (cut_with need cid ask font name keep rec flag words room)
unfolding cut_with
codes-back need cid ask font name keep rec flag words room bytes octets = go (read_font font) refl
  where
    go : (x : Result Program Refusal) → read_font font ≡ x → KeepsCodes ask font keep (cut_read need cid ask x name keep rec flag words room)
    go (Err n) e = tt
    go (Ok p) e = program-coded ask font name keep rec flag room octets p (font-good font p bytes e) e need cid words
