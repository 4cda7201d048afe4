-- The top DICT (document 01, 'Layout') over slots is the subset's (crates/subset, top_by_name and top_by_cid), where the slots hold the string ids that the font's top DICT
-- names and the ids of those texts in the subset.
use Prim.Native.Nat.{ℕ, suc, ◌+◌, ◌<◌}
use Rattle.std.specs.Prelude.{◌≡◌, Bool, length, None, Option, Some}
use Rattle.std.proofs.Math.Path.{refl, ap}
use Rattle.std.proofs.Common.{sym, ◌∙◌}
use Rattle.std.proofs.Math.Bool.{true}
use mathlib.Core.List.{List, [], ◌∷◌, ◌++◌, append_assoc, append-nil}
use native.Mathlib.Omega.{arith}
use Rattle.std.proofs.Math.ListN.{get_or}
use Rattle.decimal.specs.declared.Signed.{Signed}
use Rattle.decimal.specs.Decimal.{normal, whole}
use Rattle.decimal.specs.Written.{number_bytes}
use Rattle.dict.specs.Op.{ros, cid_count, copied_top_entries, copied_top_strings}
use Rattle.dict.specs.Lookup.{id_in, ros_in, cid_count_in, a_ros}
use Rattle.dict.specs.declared.RosEntry.{RosEntry}
use Rattle.dict_write.specs.Written.{op_bytes_lem, operands_bytes, entry_bytes, offset_entry, private_entry}
use Rattle.own_strings.specs.Slots.{no_slot}
use Rattle.own_strings.specs.declared.slots.Slot.{Slot}
use Rattle.strings.specs.Strings.{string_text}
use Rattle.cff.specs.Font.{Program, charset, char_strings, fd_array, fd_select_lem}
use Rattle.subset.specs.Texts.{Named, named_by, named_entries, new_id}
use Rattle.subset.specs.Codes.{encoding_entry}
use Rattle.subset.specs.Subset.{named_bytes, named, copied_bytes, ros_entry, top_by_name, top_by_cid}
use Rattle.top_dict.specs.Top.{value_entry, slot_entry, slot_entries, string_entries, ids_bytes, ros_of, carried, code_offsets, named_offsets, glyph_offsets, cid_offsets, top_named, cid_front, top_cid}
use Rattle.top_dict.specs.TopLaws.{slot_there, slot-none}

-- the slots hold the six string ids, and the new ids of those that are there; in a CID-keyed font those of registry and ordering too
pub record Slotted (p : Program) (cid : Bool) (own : List (List ℕ)) (slots : List Slot) : Type 0 where
  pub there : (j : ℕ) → j < 6 → (get_or slots (2 + j) no_slot).sid ≡ id_in (get_or copied_top_strings j 0) p.top
  pub renamed : (j sid : ℕ) → j < 6 → id_in (get_or copied_top_strings j 0) p.top ≡ Some sid → (get_or slots (2 + j) no_slot).id ≡ new_id own (string_text p.strings sid)
  pub registry : cid ≡ true → (r o : ℕ) (s : Signed) → ros_in p.top ≡ a_ros r o s → (get_or slots 0 no_slot).id ≡ new_id own (string_text p.strings r)
  pub ordering : cid ≡ true → (r o : ℕ) (s : Signed) → ros_in p.top ≡ a_ros r o s → (get_or slots 1 no_slot).id ≡ new_id own (string_text p.strings o)

-- ---- the string entries

module _ (p : Program) (own : List (List ℕ)) (slots : List Slot) where
  one-named : (op m : ℕ) (rest : List ℕ) (ns : List Named) → rest ≡ named_bytes own ns → (i : Option ℕ) → id_in op p.top ≡ i → (get_or slots m no_slot).sid ≡ i
      → ((sid : ℕ) → i ≡ Some sid → (get_or slots m no_slot).id ≡ new_id own (string_text p.strings sid))
      → slot_entry slots m op ++ rest ≡ named_bytes own (named_by p op i ns)
  unfolding named_bytes
  one-named op m rest ns e None i h f = ap (λ (l : List ℕ). l ++ rest) (sym (slot-none slots m op h)) ∙ e
  one-named op m rest ns e (Some sid) i h f =
      ap (λ (l : List ℕ). l ++ rest) (sym (slot_there slots m op sid h))
      ∙ ap (λ (n : ℕ). value_entry op n ++ rest) (f sid refl)
      ∙ ap (λ (l : List ℕ). value_entry op (new_id own (string_text p.strings sid)) ++ l) e

  entries-named : (ops : List ℕ) (m : ℕ) → ((j : ℕ) → j < length ops → (get_or slots (m + j) no_slot).sid ≡ id_in (get_or ops j 0) p.top)
      → ((j sid : ℕ) → j < length ops → id_in (get_or ops j 0) p.top ≡ Some sid → (get_or slots (m + j) no_slot).id ≡ new_id own (string_text p.strings sid))
      → slot_entries slots m ops ≡ named_bytes own (named_entries p ops)
  unfolding slot_entries named_entries named_bytes
  entries-named [] m f g = refl
  entries-named (op ∷ ops) m f g =
      let z : m ≡ m + 0 = omega arith in
      one-named op m (slot_entries slots (m + 1) ops) (named_entries p ops)
      (entries-named ops (m + 1)
      (λ j h. let e : m + 1 + j ≡ m + suc j = omega arith in ap (λ (n : ℕ). (get_or slots n no_slot).sid) e ∙ f (suc j) (omega arith))
      (λ j sid h i. let e : m + 1 + j ≡ m + suc j = omega arith in ap (λ (n : ℕ). (get_or slots n no_slot).id) e ∙ g (suc j) sid (omega arith) i))
      (id_in op p.top) refl
      (ap (λ (n : ℕ). (get_or slots n no_slot).sid) z ∙ f 0 (omega arith))
      (λ sid i. ap (λ (n : ℕ). (get_or slots n no_slot).id) z ∙ g 0 sid (omega arith) i)

  strings-named : (cid : Bool) → Slotted p cid own slots → string_entries slots ≡ named_bytes own (named p)
  strings-named cid w =
      entries-named copied_top_strings 2 w.there w.renamed

  -- ---- ROS

  ros-bytes : (a b : ℕ) (s : Signed)
      → (number_bytes (whole a) ++ number_bytes (whole b)) ++ (number_bytes (normal s.neg s.size 0 0) ++ op_bytes_lem ros)
      ≡ entry_bytes ros (whole a ∷ whole b ∷ normal s.neg s.size 0 0 ∷ [])
  unfolding entry_bytes operands_bytes
  ros-bytes a b s = simp (append_assoc, append-nil)

  ros-named : (x : Option RosEntry) → ((r o : ℕ) (s : Signed) → x ≡ a_ros r o s → (get_or slots 0 no_slot).id ≡ new_id own (string_text p.strings r))
      → ((r o : ℕ) (s : Signed) → x ≡ a_ros r o s → (get_or slots 1 no_slot).id ≡ new_id own (string_text p.strings o)) → ros_of slots x ≡ ros_entry p own x
  unfolding ros_of ids_bytes
  ros-named None f g = refl
  ros-named (Some q) f g =
      ros-bytes (get_or slots 0 no_slot).id (get_or slots 1 no_slot).id q.supplement
      ∙ ap (λ (n : ℕ). entry_bytes ros (whole n ∷ whole (get_or slots 1 no_slot).id ∷ normal q.supplement.neg q.supplement.size 0 0 ∷ [])) (f q.registry q.ordering q.supplement refl)
      ∙ ap (λ (n : ℕ). entry_bytes ros (whole (new_id own (string_text p.strings q.registry)) ∷ whole n ∷ normal q.supplement.neg q.supplement.size 0 0 ∷ [])) (g q.registry q.ordering q.supplement refl)

  -- ---- the top DICT

  by_name : (s c a e d f : List ℕ) → (s ++ c) ++ ((a ++ e) ++ (d ++ f)) ≡ s ++ (c ++ (a ++ (e ++ (d ++ f))))
  by_name s c a e d f = simp append_assoc

  pub top-named_is : (cid : Bool) → Slotted p cid own slots → (at₁ v at₂ size at₃ : ℕ)
      → top_named p.top slots at₁ v at₂ size at₃ ≡ top_by_name p own at₁ v at₂ size at₃
  unfolding top_named carried named_offsets code_offsets
  top-named_is cid w at₁ v at₂ size at₃ =
      by_name (string_entries slots) (copied_bytes p.top copied_top_entries) (offset_entry charset at₁) (encoding_entry v) (offset_entry char_strings at₂) (private_entry size at₃)
      ∙ ap
      (λ (l : List ℕ). l ++ (copied_bytes p.top copied_top_entries ++ (offset_entry charset at₁ ++ (encoding_entry v ++ (offset_entry char_strings at₂ ++ private_entry size at₃)))))
      (strings-named cid w)

  regroup : (r s c v a b d e : List ℕ) → (r ++ ((s ++ c) ++ v)) ++ ((a ++ b) ++ (d ++ e)) ≡ r ++ (s ++ (c ++ (v ++ (a ++ (b ++ (d ++ e))))))
  regroup r s c v a b d e = simp append_assoc

  pub top_cid_is : Slotted p true own slots → (at₁ at₂ at₃ at₄ : ℕ) → top_cid p.top slots at₁ at₂ at₃ at₄ ≡ top_by_cid p own at₁ at₂ at₃ at₄
  unfolding top_cid cid_front carried cid_offsets glyph_offsets
  top_cid_is w at₁ at₂ at₃ at₄ =
      regroup (ros_of slots (ros_in p.top)) (string_entries slots) (copied_bytes p.top copied_top_entries) (value_entry cid_count (cid_count_in p.top))
      (offset_entry charset at₁) (offset_entry fd_select_lem at₂) (offset_entry char_strings at₃) (offset_entry fd_array at₄)
      ∙ ap (λ (l : List ℕ). l ++ (string_entries slots ++ behind)) (ros-named (ros_in p.top) (w.registry refl) (w.ordering refl))
      ∙ ap (λ (l : List ℕ). ros_entry p own (ros_in p.top) ++ (l ++ behind)) (strings-named true w)
    where
      behind : List ℕ
      behind =
          copied_bytes p.top copied_top_entries ++ (entry_bytes cid_count (whole (cid_count_in p.top) ∷ [])
          ++ (offset_entry charset at₁ ++ (offset_entry fd_select_lem at₂ ++ (offset_entry char_strings at₃ ++ offset_entry fd_array at₄))))
