-- The parts of the top DICT (document 01, 'Layout'), one behind the other, as the code writes them.
use Rattle.std.specs.Prelude.{ℕ, ◌+◌, ◌≡◌, refl, List, [], ◌∷◌, ◌++◌, length, get_or}
use Rattle.std.proofs.Common.{sym, ap, ◌∙◌, append-nil, length-append}
use Rattle.octets.specs.Octets.{bytes_of}
use Rattle.decimal.specs.Written.{number_bytes}
use Rattle.dict.specs.Op.{cid_count, copied_top_entries}
use Rattle.dict.specs.Dict.{Entry}
use Rattle.dict.specs.Lookup.{ros_in, cid_count_in}
use Rattle.dict_write.specs.Written.{op_bytes_lem, operands_bytes, entry_bytes, offset_entry, private_entry}
use Rattle.index.specs.Write.{size_for, head_bytes, index_bytes}
use Rattle.index.specs.WriteLaws.{index-single}
use Rattle.decimal.specs.Decimal.{whole}
use Rattle.own_strings.specs.Slots.{no_slot}
use Rattle.own_strings.specs.declared.slots.Slot.{Slot}
use Rattle.cff.specs.Font.{charset, char_strings, fd_array, fd_select_lem}
use Rattle.subset.specs.Codes.{encoding_entry}
use Rattle.subset.specs.Subset.{copied_bytes}
use Rattle.top_dict.specs.Top.{value_entry, string_entries, ids_bytes, ros_of, carried, code_offsets, named_offsets, glyph_offsets, cid_offsets, top_named, cid_front, top_cid, single_head}
use Rattle.top_dict.specs.Writing.{Split, split-append}

-- ---- an entry of one number

pub value-bytes : (op n : ℕ) → value_entry op n ≡ number_bytes (whole n) ++ op_bytes_lem op
unfolding entry_bytes operands_bytes
value-bytes op n = ap (λ (l : List ℕ). l ++ op_bytes_lem op) (append-nil (number_bytes (whole n)))

pub value-length : (op n : ℕ) → length (value_entry op n) ≡ length (number_bytes (whole n)) + length (op_bytes_lem op)
value-length op n = ap length (value-bytes op n) ∙ length-append (number_bytes (whole n)) (op_bytes_lem op)

-- ---- the parts of each group, one behind the other

pub value-parts : (op n : ℕ) → Split (value_entry op n) (number_bytes (whole n)) (op_bytes_lem op)
value-parts op n = record { is = value-bytes op n }

pub ids-parts : (slots : List Slot) → Split (ids_bytes slots) (number_bytes (whole (get_or slots 0 no_slot).id)) (number_bytes (whole (get_or slots 1 no_slot).id))
unfolding ids_bytes
ids-parts slots = record { is = refl }

pub carried-parts : (es : List Entry) (slots : List Slot) → Split (carried es slots) (string_entries slots) (copied_bytes es copied_top_entries)
unfolding carried
carried-parts es slots = record { is = refl }

pub code-parts : (at₁ v : ℕ) → Split (code_offsets at₁ v) (offset_entry charset at₁) (encoding_entry v)
unfolding code_offsets
code-parts at₁ v = record { is = refl }

pub named-parts : (at₁ v at₂ size at₃ : ℕ) → Split (named_offsets at₁ v at₂ size at₃) (code_offsets at₁ v) (offset_entry char_strings at₂ ++ private_entry size at₃)
unfolding named_offsets
named-parts at₁ v at₂ size at₃ = record { is = refl }

pub named-rest : (at₂ size at₃ : ℕ) → Split (offset_entry char_strings at₂ ++ private_entry size at₃) (offset_entry char_strings at₂) (private_entry size at₃)
named-rest at₂ size at₃ = split-append (offset_entry char_strings at₂) (private_entry size at₃)

pub glyph_parts : (at₁ at₂ : ℕ) → Split (glyph_offsets at₁ at₂) (offset_entry charset at₁) (offset_entry fd_select_lem at₂)
unfolding glyph_offsets
glyph_parts at₁ at₂ = record { is = refl }

pub cid-parts : (at₁ at₂ at₃ at₄ : ℕ) → Split (cid_offsets at₁ at₂ at₃ at₄) (glyph_offsets at₁ at₂) (offset_entry char_strings at₃ ++ offset_entry fd_array at₄)
unfolding cid_offsets
cid-parts at₁ at₂ at₃ at₄ = record { is = refl }

pub cid_rest : (at₃ at₄ : ℕ) → Split (offset_entry char_strings at₃ ++ offset_entry fd_array at₄) (offset_entry char_strings at₃) (offset_entry fd_array at₄)
cid_rest at₃ at₄ = split-append (offset_entry char_strings at₃) (offset_entry fd_array at₄)

pub top-named-parts : (es : List Entry) (slots : List Slot) (at₁ v at₂ size at₃ : ℕ)
    → Split (top_named es slots at₁ v at₂ size at₃) (carried es slots) (named_offsets at₁ v at₂ size at₃)
unfolding top_named
top-named-parts es slots at₁ v at₂ size at₃ = record { is = refl }

pub front-parts : (es : List Entry) (slots : List Slot)
    → Split (cid_front es slots) (ros_of slots (ros_in es)) (carried es slots ++ value_entry cid_count (cid_count_in es))
unfolding cid_front
front-parts es slots = record { is = refl }

pub front_rest : (es : List Entry) (slots : List Slot)
    → Split (carried es slots ++ value_entry cid_count (cid_count_in es)) (carried es slots) (value_entry cid_count (cid_count_in es))
front_rest es slots = split-append (carried es slots) (value_entry cid_count (cid_count_in es))

pub top_cid_parts : (es : List Entry) (slots : List Slot) (at₁ at₂ at₃ at₄ : ℕ)
    → Split (top_cid es slots at₁ at₂ at₃ at₄) (cid_front es slots) (cid_offsets at₁ at₂ at₃ at₄)
unfolding top_cid
top_cid_parts es slots at₁ at₂ at₃ at₄ = record { is = refl }

pub head-parts : (n : ℕ) → Split (single_head n) (head_bytes 1 (size_for (n + 1))) (bytes_of (size_for (n + 1)) (n + 1))
unfolding single_head
head-parts n = record { is = refl }

-- an INDEX of one item: what stands before the item, and the item
pub single-parts : (n : ℕ) (x : List ℕ) → n ≡ length x → Split (index_bytes (x ∷ [])) (single_head n) x
unfolding single_head
single-parts n x e =
    record {
      is =
          sym (ap (λ (m : ℕ). head_bytes 1 (size_for (m + 1)) ++ bytes_of (size_for (m + 1)) (m + 1) ++ x) e
          ∙ index-single x (size_for (length x + 1)) refl);
    }
