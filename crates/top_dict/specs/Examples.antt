-- Worked examples: the top DICT of document 01's 'One sheet, whole', whose font names no string and has no entry that is copied.
use Rattle.std.specs.Prelude.{ℕ, ◌≡◌, refl, List, [], ◌∷◌}
use Rattle.octets.specs.Octets.{bytes_of}
use Rattle.decimal.specs.Written.{int5_bytes}
use Rattle.dict.specs.Lookup.{last_from, last_of}
use Rattle.dict_write.specs.Written.{copied_entry, op_bytes_lem, offset_entry, private_entry}
use Rattle.own_strings.specs.Slots.{no_slot}
use Rattle.own_strings.specs.declared.slots.Slot.{Slot}
use Rattle.subset.specs.Subset.{copied_bytes}
use Rattle.top_dict.specs.Top.{slot_entry, slot_entries, carried, code_offsets, named_offsets, top_named}

-- eight slots of no string
no_strings : List Slot
no_strings = no_slot ∷ no_slot ∷ no_slot ∷ no_slot ∷ no_slot ∷ no_slot ∷ no_slot ∷ no_slot ∷ []

sheet : top_named [] no_strings 0x2a 0 0x2d 0 0x35
    ≡ 0x1d ∷ 0 ∷ 0 ∷ 0 ∷ 0x2a ∷ 0x0f ∷ 0x1d ∷ 0 ∷ 0 ∷ 0 ∷ 0x2d ∷ 0x11 ∷ 0x1d ∷ 0 ∷ 0 ∷ 0 ∷ 0 ∷ 0x1d ∷ 0 ∷ 0 ∷ 0 ∷ 0x35 ∷ 0x12 ∷ []
unfolding copied_entry no_strings top_named carried slot_entries slot_entry copied_bytes last_of last_from named_offsets code_offsets offset_entry private_entry int5_bytes bytes_of op_bytes_lem
sheet = refl

-- with an Encoding at 0x2d, directly after charset's
coded : named_offsets 0x2a 0x2d 0x33 0 0x3b
    ≡ 0x1d ∷ 0 ∷ 0 ∷ 0 ∷ 0x2a ∷ 0x0f ∷ 0x1d ∷ 0 ∷ 0 ∷ 0 ∷ 0x2d ∷ 0x10 ∷ 0x1d ∷ 0 ∷ 0 ∷ 0 ∷ 0x33 ∷ 0x11
    ∷ 0x1d ∷ 0 ∷ 0 ∷ 0 ∷ 0 ∷ 0x1d ∷ 0 ∷ 0 ∷ 0 ∷ 0x3b ∷ 0x12 ∷ []
unfolding named_offsets code_offsets offset_entry private_entry int5_bytes bytes_of op_bytes_lem
coded = refl
