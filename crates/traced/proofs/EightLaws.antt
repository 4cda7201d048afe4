-- Refusal 8 (document 01, 'Entries and their refusals') stands for nothing but a record or a flag that is not of the right form.
use Rattle.std.specs.Prelude.{ℕ, ◌≡◌, Bool, true, List, ltb, length}
use Rattle.std.proofs.Common.{sym, ap, ◌∙◌}
use Rattle.std.proofs.lemmas.Bool.{false≢true}
use Rattle.octets.specs.Pick.{pick, pick_ind}
use Rattle.octets.specs.Lists.{all_below}
use Rattle.prune.specs.StepLaws.{zero_one}
use Rattle.record.specs.Record.{rows_of, record_fine}
use Rattle.dict.specs.Lookup.{cid_keyed, ros_in}
use Rattle.cff.specs.Font.{Program}
use Rattle.cff.specs.Find.{work_size}
use Rattle.subset.specs.Kept.{kept_of, written_order, used_fds}
use Rattle.subset.specs.Pruned.{Pruned, pruned}
use Rattle.subset.specs.Codes.{Coded, coded_if, pair_count}
use Rattle.subset.specs.Subset.{subset_bytes}
use Rattle.subset.specs.Cut.{Outcome, refused, subset, all_found_lem, has_ros_lem, same_bool_lem, own_of, written, unsupported_in, cut_program}
use Rattle.faithful.proofs.Theorem.{same_bool}
use Rattle.refusal.specs.declared.Refusal.TheVariants.{Malformed, Unsupported, TooLong, NoSuchNumber, NotFound, BadRecord, Work, Subset, Output, StringId, Pairs}
use Rattle.subset.specs.declared.Way.{Way}

-- an outcome that is not refusal 8
abbrev Other : Outcome → Type 0
Other o = o ≡ refused BadRecord → ⊥

cut_other : (way : Way) (bs : List ℕ) → Other (subset way bs)
cut_other way bs e = zero_one cc

module _ (ask : Bool) (p : Program) (name keep rec : List ℕ) (flag lent : ℕ) where
  abbrev kept : List ℕ
  kept = kept_of (length p.charstrings) keep

  abbrev order : List ℕ
  order = written_order p kept

  abbrev cut : Pruned
  cut = pruned p (rows_of rec) (used_fds p kept) order flag

  abbrev coded : Coded
  coded = coded_if ask p kept (own_of p order)

  abbrev bytes : List ℕ
  bytes = subset_bytes p coded name kept order cut.bodies

  written_other : Other (written p coded name kept order lent cut)
  written_other =
      let last = pick (ltb lent (length bytes)) (refused Output) (subset cut.way bytes) in
      let sized = pick (ltb 67108864 (length bytes)) (refused Subset) last in
      pick_ind Other (ltb 64609 (length (own_of p order))) (refused StringId) (pick (ltb 255 (pair_count coded)) (refused Pairs) sized) (λ t e. zero_one cc)
      (λ t. pick_ind Other (ltb 255 (pair_count coded)) (refused Pairs) sized (λ s e. zero_one cc)
      (λ s. pick_ind Other (ltb 67108864 (length bytes)) (refused Subset) last (λ u e. zero_one cc)
      (λ u. pick_ind Other (ltb lent (length bytes)) (refused Output) (subset cut.way bytes) (λ v e. zero_one cc)
      (λ v. cut_other cut.way bytes))))

  -- a call whose record and flag are of the right form for the font's keying
  pub not_eight : record_fine (cid_keyed p.top) rec flag ≡ true → (cid : Bool) (words : ℕ) → Other (cut_program work_size cid ask p name keep rec flag words lent)
  not_eight fine cid words =
      pick_ind Other (same_bool_lem cid (cid_keyed p.top)) _ (refused Unsupported)
      (λ k. pick_ind Other (unsupported_in ask p) (refused Unsupported) _ (λ t e. zero_one cc)
      (λ q. pick_ind Other (pick cid (has_ros_lem (ros_in p.top)) true) _ (refused Malformed)
      (λ ros. pick_ind Other (ltb 65535 (length name)) (refused TooLong) _ (λ t e. zero_one cc)
      (λ n. pick_ind Other (all_below (length p.charstrings) keep) _ (refused NoSuchNumber)
      (λ b. pick_ind Other (all_found_lem p kept) _ (refused NotFound)
      (λ found. pick_ind Other (record_fine cid rec flag) _ (refused BadRecord)
      (λ r. pick_ind Other (ltb words (work_size p)) (refused Work) _ (λ t e. zero_one cc)
      (λ w. written_other))
      (λ t. absurd (false≢true (sym t ∙ ap (λ (c : Bool). record_fine c rec flag) (same_bool cid (cid_keyed p.top) k) ∙ fine))))
      (λ t e. zero_one cc))
      (λ t e. zero_one cc)))
      (λ t e. zero_one cc)))
      (λ t e. zero_one cc)
