-- The top DICT of a subset reads back (document 01, 'Layout'): what reading a font looks up in it, and that its length does not depend on its
-- offsets, which have the five-byte form.
use Rattle.std.specs.Prelude.{ℕ, ◌+◌, ◌≤◌, ◌<◌, ◌≡◌, Bool, eqb, length, None, Option, Some, Ok}
use Rattle.std.proofs.Math.Path.{refl, ap}
use Rattle.std.proofs.Common.{sym, ◌∙◌, arith, eqb-true, length-append}
use Rattle.std.proofs.Math.Bool.{true, false}
use mathlib.Core.List.{List, [], ◌∷◌, ◌++◌}
use Rattle.octets.specs.Pick.{pick}
use Rattle.octets.specs.PickLaws.{none-holds}
use Rattle.index.specs.Write.{total, index_len_lem, index_bytes}
use Rattle.index.specs.WriteLaws.{length-index}
use Rattle.decimal.specs.Decimal.{whole}
use Rattle.dict.specs.Op.{private, charstring_type, ros, cid_count, copied_top_entries, copied_top_strings}
use Rattle.dict.specs.Dict.{Entry, dict_of}
use Rattle.dict.specs.Lookup.{Operands, absent, operands, last_from, last_of, only, offset_told, offset_as, offset_in, private_as, private_in, id_in, is_there, cid_keyed, ros_in, cid_count_in, type_as, charstring_type_in, private_there}
use Rattle.dict.specs.declared.RosEntry.{RosEntry}
use Rattle.dict_write.specs.Written.{op_bytes_lem, offset_entry}
use Rattle.dict_write.specs.WriteLaws.{offset-length, private-length}
use Rattle.dict_write.specs.Parts.{Part, plain, offset, private_part, parts_entries}
use Rattle.dict_write.specs.DictRound.{parts-read}
use Rattle.cff.specs.ReadsLaws.{no}
use Rattle.cff.specs.Font.{or_zero, Program, charset, encoding, char_strings, fd_array, fd_select_lem}
use Rattle.subset.specs.Kept.{is_in}
use Rattle.subset.specs.Cut.{has_ros_lem}
use Rattle.subset.specs.Texts.{Named, named_by, named_entries}
use Rattle.subset.specs.Codes.{encoding_entry}
use Rattle.subset.specs.Subset.{top_by_name, top_by_cid}
use Rattle.faithful.specs.Laid.{GoodProgram}
use Rattle.faithful.specs.WholeLaws.{offset-whole, private-whole}
use Rattle.faithful.specs.TopParts.{named_parts, copied_part, copied_parts, ros_parts, shared_parts, encoding_parts, name_top_parts, cid_top_parts}
use Rattle.faithful.specs.TopFitLaws.{name-bytes, cid_bytes, name_fit, cid_fit}

-- ---- the last entry of an operator that some parts lack

module _ (op : ℕ) (o : Operands) (rest : List Part) where
  -- an entry of another operator leaves it
  other_leaves : (q : ℕ) → eqb q op ≡ false → (ds : Operands) → pick (eqb q op) ds o ≡ o
  other_leaves q e ds = ap (λ (t : Bool). pick t ds o) e

  -- a string entry leaves it
  named-one-leaves : (p : Program) (own : List (List ℕ)) (q : ℕ) → eqb q op ≡ false → (i : Option ℕ) (ns : List Named)
      → last_from op o (parts_entries (named_parts own ns ++ rest)) ≡ last_from op o (parts_entries rest)
      → last_from op o (parts_entries (named_parts own (named_by p q i ns) ++ rest)) ≡ last_from op o (parts_entries rest)
  unfolding named_parts parts_entries last_from
  named-one-leaves p own q e None ns h = h
  named-one-leaves p own q e (Some sid) ns h =
      ap (λ (x : Operands). last_from op x (parts_entries (named_parts own ns ++ rest))) (other_leaves q e _) ∙ h

  -- the string entries leave it
  named-leave : (p : Program) (own : List (List ℕ)) (ops : List ℕ) → is_in op ops ≡ false
      → last_from op o (parts_entries (named_parts own (named_entries p ops) ++ rest)) ≡ last_from op o (parts_entries rest)
  unfolding named_parts named_entries is_in
  named-leave p own [] h = refl
  named-leave p own (q ∷ ops) h =
      let n = none-holds (eqb q op) (is_in op ops) h in
      named-one-leaves p own q n.0 (id_in q p.top) (named_entries p ops) (named-leave p own ops n.1)

  -- a copied entry leaves it
  copied-one-leaves : (q : ℕ) → eqb q op ≡ false → (x : Operands) (ps : List Part)
      → last_from op o (parts_entries (ps ++ rest)) ≡ last_from op o (parts_entries rest)
      → last_from op o (parts_entries ((copied_part q x ++ ps) ++ rest)) ≡ last_from op o (parts_entries rest)
  unfolding parts_entries last_from
  copied-one-leaves q e absent ps h = h
  copied-one-leaves q e (operands ds) ps h =
      ap (λ (x : Operands). last_from op x (parts_entries (ps ++ rest))) (other_leaves q e (operands ds)) ∙ h

  -- the copied entries leave it
  copied-leave : (es : List Entry) (ops : List ℕ) → is_in op ops ≡ false
      → last_from op o (parts_entries (copied_parts es ops ++ rest)) ≡ last_from op o (parts_entries rest)
  unfolding copied_parts is_in
  copied-leave es [] h = refl
  copied-leave es (q ∷ ops) h =
      let n = none-holds (eqb q op) (is_in op ops) h in
      copied-one-leaves q n.0 (last_of q es) (copied_parts es ops) (copied-leave es ops n.1)

  -- ROS leaves it
  ros-leaves : (p : Program) (own : List (List ℕ)) → eqb ros op ≡ false → (r : Option RosEntry)
      → last_from op o (parts_entries (ros_parts p own r ++ rest)) ≡ last_from op o (parts_entries rest)
  unfolding parts_entries last_from
  ros-leaves p own e None = refl
  ros-leaves p own e (Some q) = ap (λ (x : Operands). last_from op x (parts_entries rest)) (other_leaves ros e _)

  -- the encoding leaves it
  encoding-leaves : (v : ℕ) → eqb encoding op ≡ false → (t : Bool)
      → last_from op o (parts_entries (pick t [] (offset encoding v ∷ []) ++ rest)) ≡ last_from op o (parts_entries rest)
  unfolding parts_entries last_from
  encoding-leaves v e true = refl
  encoding-leaves v e false = ap (λ (x : Operands). last_from op x (parts_entries rest)) (other_leaves encoding e _)

-- what both keyings share leaves it
pub shared-leave : (op : ℕ) (o : Operands) (rest : List Part) (p : Program) (own : List (List ℕ))
    → is_in op copied_top_strings ≡ false → is_in op copied_top_entries ≡ false
    → last_from op o (parts_entries (shared_parts p own rest)) ≡ last_from op o (parts_entries rest)
shared-leave op o rest p own h k =
    named-leave op o (copied_parts p.top copied_top_entries ++ rest) p own copied_top_strings h ∙ copied-leave op o rest p.top copied_top_entries k

-- ---- what is looked up

-- of a name-keyed subset: no ROS, no CharstringType; the charset, the encoding, the charstrings and Private where they are said to be, an encoding
-- that is not there being at 0
pub record NameTop (es : List Entry) (at₁ v at₂ size at₃ : ℕ) : Type 0 where
  pub keying : cid_keyed es ≡ false
  pub charstring_type_none : charstring_type_in es ≡ Ok tt
  pub charset_at : offset_in charset es ≡ Ok (Some at₁)
  pub encoding_at : or_zero (offset_in encoding es) ≡ Ok v
  pub char_strings_at : offset_in char_strings es ≡ Ok (Some at₂)
  pub private_at : private_in es ≡ private_there size at₃

-- of a CID-keyed subset: ROS, no CharstringType; the charset, FDSelect, the charstrings and the FD INDEX where they are said to be
pub record CidTop (es : List Entry) (at₁ at₂ at₃ at₄ : ℕ) : Type 0 where
  pub keying : cid_keyed es ≡ true
  pub charstring_type_none : charstring_type_in es ≡ Ok tt
  pub charset_at : offset_in charset es ≡ Ok (Some at₁)
  pub fd_select_at : offset_in fd_select_lem es ≡ Ok (Some at₂)
  pub char_strings_at : offset_in char_strings es ≡ Ok (Some at₃)
  pub fd_array_at : offset_in fd_array es ≡ Ok (Some at₄)

-- an offset that was written in the five-byte form
at_offset : (op v : ℕ) (es : List Entry) → v < 2147483648 → last_of op es ≡ operands (whole v ∷ []) → offset_in op es ≡ Ok (Some v)
at_offset op v es h e = ap (λ (o : Operands). offset_as (only o)) e ∙ ap offset_told (offset-whole v h)

-- the encoding's offset, which is 0 where its entry is not there, in front of parts that have none
encoding-offset : (v : ℕ) (rest : List Part) (es : List Entry) → v < 2147483648 → (t : Bool) → eqb v 0 ≡ t
    → ((o : Operands) → last_from encoding o (parts_entries rest) ≡ o)
    → last_of encoding es ≡ last_from encoding absent (parts_entries (pick t [] (offset encoding v ∷ []) ++ rest))
    → or_zero (offset_in encoding es) ≡ Ok v
unfolding parts_entries last_from
encoding-offset v rest es h true e k l = ap (λ (x : Operands). or_zero (offset_as (only x))) (l ∙ k absent) ∙ ap Ok (sym (eqb-true v 0 e))
encoding-offset v rest es h false e k l = ap or_zero (at_offset encoding v es h (l ∙ k (operands (whole v ∷ []))))

module _ (p : Program) (own : List (List ℕ)) (at₁ v at₂ size at₃ : ℕ)
    (h₁ : at₁ < 2147483648) (hᵥ : v < 2147483648) (h₂ : at₂ < 2147483648) (h : size < 2147483648) (h₃ : at₃ < 2147483648) where
  -- the entries of a name-keyed subset's top DICT, and the parts at its end
  abbrev name_entries : List Entry
  name_entries = parts_entries (name_top_parts p own at₁ v at₂ size at₃)

  abbrev name_tail : List Part
  name_tail = offset char_strings at₂ ∷ private_part size at₃ ∷ []

  -- what is not among the copied operators is looked up at the end
  name-last : (op : ℕ) → is_in op copied_top_strings ≡ false → is_in op copied_top_entries ≡ false
      → last_of op name_entries ≡ last_from op absent (parts_entries (offset charset at₁ ∷ (encoding_parts v ++ name_tail)))
  unfolding last_of
  name-last op h k = shared-leave op absent (offset charset at₁ ∷ (encoding_parts v ++ name_tail)) p own h k

  -- past the encoding
  name-past : (op : ℕ) → is_in op copied_top_strings ≡ false → is_in op copied_top_entries ≡ false → eqb encoding op ≡ false
      → last_of op name_entries ≡ last_from op absent (parts_entries (offset charset at₁ ∷ name_tail))
  unfolding last_from parts_entries
  name-past op h k e = name-last op h k ∙ encoding-leaves op _ name_tail v e (eqb v 0)

  -- so that each lookup gives what was written
  name-top : NameTop name_entries at₁ v at₂ size at₃
  unfolding last_from parts_entries is_in
  name-top =
      record {
        keying = ap is_there (name-past ros refl refl refl);
        charstring_type_none = ap (λ (o : Operands). type_as (only o)) (name-past charstring_type refl refl refl);
        charset_at = at_offset charset at₁ name_entries h₁ (name-past charset refl refl refl);
        encoding_at = encoding-offset v name_tail name_entries hᵥ (eqb v 0) refl (λ x. refl) (name-last encoding refl refl);
        char_strings_at = at_offset char_strings at₂ name_entries h₂ (name-past char_strings refl refl refl);
        private_at = ap private_as (name-past private refl refl refl) ∙ private-whole size at₃ h h₃;
      }

module _ (p : Program) (own : List (List ℕ)) (there : has_ros_lem (ros_in p.top) ≡ true) (at₁ at₂ at₃ at₄ : ℕ)
    (h₁ : at₁ < 2147483648) (h₂ : at₂ < 2147483648) (h₃ : at₃ < 2147483648) (h₄ : at₄ < 2147483648) where
  -- the entries of a CID-keyed subset's top DICT, and the parts at its end
  abbrev cid_entries : List Entry
  cid_entries = parts_entries (cid_top_parts p own at₁ at₂ at₃ at₄)

  abbrev cid_tail : List Part
  cid_tail =
      plain (record { op = cid_count; operands = whole (cid_count_in p.top) ∷ [] })
      ∷ offset charset at₁ ∷ offset fd_select_lem at₂ ∷ offset char_strings at₃ ∷ offset fd_array at₄ ∷ []

  -- what is not among the copied operators, and not ROS, is looked up at the end
  cid_last : (op : ℕ) → eqb ros op ≡ false → is_in op copied_top_strings ≡ false → is_in op copied_top_entries ≡ false
      → last_of op cid_entries ≡ last_from op absent (parts_entries cid_tail)
  unfolding last_of
  cid_last op e h k = ros-leaves op absent (shared_parts p own cid_tail) p own e (ros_in p.top) ∙ shared-leave op absent cid_tail p own h k

  -- ROS stays, whatever stands behind it
  ros_stays : (r : Option RosEntry) → has_ros_lem r ≡ true → is_there (last_from ros absent (parts_entries (ros_parts p own r ++ shared_parts p own cid_tail))) ≡ true
  unfolding last_from parts_entries is_in
  ros_stays None e = absurd (no cc)
  ros_stays (Some q) e = ap is_there (shared-leave ros _ cid_tail p own refl refl)

  -- so that each lookup gives what was written
  cid_top : CidTop cid_entries at₁ at₂ at₃ at₄
  unfolding last_of last_from parts_entries is_in
  cid_top =
      record {
        keying = ros_stays (ros_in p.top) there;
        charstring_type_none = ap (λ (o : Operands). type_as (only o)) (cid_last charstring_type refl refl refl);
        charset_at = at_offset charset at₁ cid_entries h₁ (cid_last charset refl refl refl);
        fd_select_at = at_offset fd_select_lem at₂ cid_entries h₂ (cid_last fd_select_lem refl refl refl);
        char_strings_at = at_offset char_strings at₃ cid_entries h₃ (cid_last char_strings refl refl refl);
        fd_array_at = at_offset fd_array at₄ cid_entries h₄ (cid_last fd_array refl refl refl);
      }

-- ---- the top DICT reads back

-- of a name-keyed subset
pub name-top-back : (p : Program) (own : List (List ℕ)) (at₁ v at₂ size at₃ : ℕ) → GoodProgram p → length own ≤ 64609
    → at₁ < 2147483648 → v < 2147483648 → at₂ < 2147483648 → size < 2147483648 → at₃ < 2147483648
    → (es : List Entry) × (dict_of (top_by_name p own at₁ v at₂ size at₃) ≡ Ok es) × NameTop es at₁ v at₂ size at₃
name-top-back p own at₁ v at₂ size at₃ good few h₁ hᵥ h₂ h h₃ = (
  name_entries p own at₁ v at₂ size at₃ h₁ hᵥ h₂ h h₃,
  ap dict_of (sym (name-bytes p own at₁ v at₂ size at₃))
      ∙ parts-read (name_top_parts p own at₁ v at₂ size at₃) (name_fit p own good few at₁ v at₂ size at₃ h₁ hᵥ h₂ h h₃),
  name-top p own at₁ v at₂ size at₃ h₁ hᵥ h₂ h h₃,
)

-- of a CID-keyed subset
pub cid_top-back : (p : Program) (own : List (List ℕ)) (at₁ at₂ at₃ at₄ : ℕ) → GoodProgram p → has_ros_lem (ros_in p.top) ≡ true → length own ≤ 64609
    → at₁ < 2147483648 → at₂ < 2147483648 → at₃ < 2147483648 → at₄ < 2147483648
    → (es : List Entry) × (dict_of (top_by_cid p own at₁ at₂ at₃ at₄) ≡ Ok es) × CidTop es at₁ at₂ at₃ at₄
cid_top-back p own at₁ at₂ at₃ at₄ good there few h₁ h₂ h₃ h₄ = (
  cid_entries p own there at₁ at₂ at₃ at₄ h₁ h₂ h₃ h₄,
  ap dict_of (sym (cid_bytes p own at₁ at₂ at₃ at₄)) ∙ parts-read (cid_top_parts p own at₁ at₂ at₃ at₄) (cid_fit p own good few at₁ at₂ at₃ at₄ h₁ h₂ h₃ h₄),
  cid_top p own there at₁ at₂ at₃ at₄ h₁ h₂ h₃ h₄,
)

-- ---- its length does not depend on its offsets

-- nor does that of an offset's entry
same-offset : (op v w : ℕ) → length (offset_entry op v) ≡ length (offset_entry op w)
same-offset op v w = sym (offset-length op v (length (op_bytes_lem op)) refl) ∙ offset-length op w (length (op_bytes_lem op)) refl

-- nor that of the encoding's, where neither or both are there
same-encoding : (t : Bool) (v w : ℕ) → length (pick t [] (offset_entry encoding v)) ≡ length (pick t [] (offset_entry encoding w))
same-encoding true v w = refl
same-encoding false v w = same-offset encoding v w

module _ (p : Program) (own : List (List ℕ)) where
  -- of a name-keyed subset
  pub name-top-length : (at₁ v w at₂ size at₃ : ℕ) → eqb v 0 ≡ eqb w 0 → length (top_by_name p own at₁ v at₂ size at₃) ≡ length (top_by_name p own 0 w 0 0 0)
  name-top-length at₁ v w at₂ size at₃ e =
      let c : length (encoding_entry v) ≡ length (encoding_entry w) = ap (λ (t : Bool). length (pick t [] (offset_entry encoding v))) e ∙ same-encoding (eqb w 0) v w in
      simp length-append (omega (arith, same-offset charset at₁ 0, c, same-offset char_strings at₂ 0, private-length size at₃, private-length 0 0))

  -- of a CID-keyed subset
  pub cid_top-length : (at₁ at₂ at₃ at₄ : ℕ) → length (top_by_cid p own at₁ at₂ at₃ at₄) ≡ length (top_by_cid p own 0 0 0 0)
  cid_top-length at₁ at₂ at₃ at₄ =
      simp length-append (omega (arith, same-offset charset at₁ 0, same-offset fd_select_lem at₂ 0, same-offset char_strings at₃ 0, same-offset fd_array at₄ 0))

-- an INDEX of one item is as long as that of another of the same length
pub single-length : (x y : List ℕ) → length x ≡ length y → length (index_bytes (x ∷ [])) ≡ length (index_bytes (y ∷ []))
unfolding total
single-length x y e = length-index (x ∷ []) ∙ ap (λ (n : ℕ). index_len_lem 1 (n + 0)) e ∙ sym (length-index (y ∷ []))
