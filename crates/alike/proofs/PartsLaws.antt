-- The bytes of a subset are the same for fonts that are alike, its bodies being the same.
use Prim.Native.Nat.{ℕ, ◌+◌}
use Rattle.std.specs.Prelude.{◌≡◌, Bool, eqb, get_or, None, Option, Some}
use Rattle.std.proofs.Math.Path.{refl, ap}
use Rattle.std.proofs.Common.{◌∙◌}
use mathlib.Core.List.{List, [], ◌∷◌, ◌++◌}
use Rattle.std.proofs.Math.ListN.{length}
use Rattle.octets.specs.Pick.{pick}
use Rattle.decimal.specs.Decimal.{normal, whole}
use Rattle.dict.specs.Op.{subrs, ros, font_matrix}
use Rattle.dict.specs.Lookup.{Operands, ros_in, cid_keyed}
use Rattle.dict.specs.declared.RosEntry.{RosEntry}
use Rattle.dict_write.specs.Written.{entries_bytes, entry_bytes, copied_entry, offset_entry, private_entry, private_bytes}
use Rattle.index.specs.Write.{index_bytes}
use Rattle.strings.specs.Strings.{string_text}
use Rattle.cff.specs.Font.{Program}
use Rattle.subset.specs.Kept.{new_fd, private_of, used_fds}
use Rattle.subset.specs.Texts.{new_id}
use Rattle.subset.specs.Pruned.{Bodies}
use Rattle.subset.specs.Codes.{Coded}
use Rattle.subset.specs.Subset.{ros_entry, private_dict, private_part, font_dict, private_parts, font_dicts, cids_of, new_fds, own_by_cid, subset_by_name, subset_by_cid, subset_bytes}
use Rattle.subset.proofs.AlikeLaws.{cids-alike}
use Rattle.alike.specs.Alike.{Alike}
use Rattle.alike.proofs.TopLaws.{keyed-same, ros-same, count_same, copied-same, named-same, names_same, id_same, texts-same, matrix_same, used-same}

-- a Private DICT and its local subroutines, by the bytes of its entries
abbrev dict_by : List (List ℕ) → List ℕ → List ℕ
dict_by ls bs = bs ++ pick (eqb (length ls) 0) [] (offset_entry subrs (length bs + 6))

module _ {keep : List ℕ} {global : ℕ → Bool} {local : ℕ → ℕ → Bool} {p q : Program} (a : Alike keep global local p q) where
  -- ---- Private DICTs and Font DICTs

  entries-same : (f : ℕ) → private_bytes (private_of p f).entries ≡ private_bytes (private_of q f).entries
  entries-same f = ap entries_bytes (a.privates f).entries

  dict-same : (f : ℕ) (ls : List (List ℕ)) → private_dict (private_of p f) ls ≡ private_dict (private_of q f) ls
  dict-same f ls = ap (dict_by ls) (entries-same f)

  part_same : (f : ℕ) (ls : List (List ℕ)) → private_part (private_of p f) ls ≡ private_part (private_of q f) ls
  part_same f ls = ap (λ (bs : List ℕ). bs ++ pick (eqb (length ls) 0) [] (index_bytes ls)) (dict-same f ls)

  font-dict-same : (f size at : ℕ) → font_dict p f size at ≡ font_dict q f size at
  font-dict-same f size at = ap (λ (o : Operands). copied_entry font_matrix o ++ private_entry size at) (matrix_same a f)

  parts_same : (fs : List ℕ) (lss : List (List (List ℕ))) → private_parts p fs lss ≡ private_parts q fs lss
  unfolding private_parts
  parts_same [] lss = refl
  parts_same (f ∷ fs) [] = refl
  parts_same (f ∷ fs) (ls ∷ lss) =
      ap (λ (bs : List ℕ). bs ++ private_parts p fs lss) (part_same f ls) ∙ ap (λ (bs : List ℕ). private_part (private_of q f) ls ++ bs) (parts_same fs lss)

  dicts-same : (at : ℕ) (fs : List ℕ) (lss : List (List (List ℕ))) → font_dicts p at fs lss ≡ font_dicts q at fs lss
  unfolding font_dicts
  dicts-same at [] lss = refl
  dicts-same at (f ∷ fs) [] = refl
  dicts-same at (f ∷ fs) (ls ∷ lss) =
      let next : List ℕ → ℕ = λ bs. at + length bs in
      ap (λ (bs : List ℕ). font_dict p f (length bs) at ∷ font_dicts p (next (private_part (private_of p f) ls)) fs lss) (dict-same f ls)
      ∙ (ap (λ (bs : List ℕ). font_dict p f (length (private_dict (private_of q f) ls)) at ∷ font_dicts p (next bs) fs lss) (part_same f ls)
      ∙ (ap (λ (d : List ℕ). d ∷ font_dicts p (next (private_part (private_of q f) ls)) fs lss) (font-dict-same f (length (private_dict (private_of q f) ls)) at)
      ∙ ap (λ (ds : List (List ℕ)). font_dict q f (length (private_dict (private_of q f) ls)) at ∷ ds) (dicts-same (next (private_part (private_of q f) ls)) fs lss)))

  -- ---- ids and FDs

  cids-same : (gs : List ℕ) → cids_of p gs ≡ cids_of q gs
  cids-same gs = cids-alike p q gs (λ g h. id_same a g)

  new_fds_same : (used gs : List ℕ) → new_fds p used gs ≡ new_fds q used gs
  unfolding new_fds
  new_fds_same used [] = refl
  new_fds_same used (g ∷ gs) =
      ap (λ (l : List ℕ). new_fd used (get_or l g 0) ∷ new_fds p used gs) a.fds ∙ ap (λ (l : List ℕ). new_fd used (get_or q.fds g 0) ∷ l) (new_fds_same used gs)

  ros-by : (own : List (List ℕ)) (r : Option RosEntry) → ros_entry p own r ≡ ros_entry q own r
  ros-by own None = refl
  ros-by own (Some q) =
      ap (λ (l : List (List ℕ)). entry_bytes ros (whole (new_id own (string_text l q.registry)) ∷ whole (new_id own (string_text l q.ordering)) ∷ normal q.supplement.neg q.supplement.size 0 0 ∷ []))
      a.strings

  ros-entry-same : (own : List (List ℕ)) → ros_entry p own (ros_in p.top) ≡ ros_entry q own (ros_in q.top)
  ros-entry-same own = ap (ros_entry p own) (ros-same a) ∙ ros-by own (ros_in q.top)

  -- ---- the subset

  by_name : (coded : Coded) (name order : List ℕ) (b : Bodies) → subset_by_name p coded name order b ≡ subset_by_name q coded name order b
  unfolding subset_by_name
  by_name coded name order b = rw (named-same a, names_same a order, copied-same a, (a.privates 0).entries)

  by-cid : (name used order : List ℕ) (b : Bodies) → subset_by_cid p name used order b ≡ subset_by_cid q name used order b
  unfolding subset_by_cid
  by-cid name used order b =
      let entry = ros-entry-same (own_by_cid q) in
      rw (texts-same a, named-same a, entry, copied-same a, count_same a, cids-same order, new_fds_same used order, parts_same used b.locals)
      (simp dicts-same)

  pub bytes_same : (coded : Coded) (name kept order : List ℕ) (b : Bodies) → subset_bytes p coded name kept order b ≡ subset_bytes q coded name kept order b
  unfolding subset_bytes
  bytes_same coded name kept order b =
      ap (λ (t : Bool). pick t (subset_by_cid p name (used_fds p kept) order b) (subset_by_name p coded name order b)) (keyed-same a)
      ∙ (ap (λ (fs : List ℕ). pick (cid_keyed q.top) (subset_by_cid p name fs order b) (subset_by_name p coded name order b)) (used-same a kept)
      ∙ (ap (λ (bs : List ℕ). pick (cid_keyed q.top) bs (subset_by_name p coded name order b)) (by-cid name (used_fds q kept) order b)
      ∙ ap (λ (bs : List ℕ). pick (cid_keyed q.top) (subset_by_cid q name (used_fds q kept) order b) bs) (by_name coded name order b)))
