-- The top DICT of a subset part by part (document 01, 'Layout'): for CID ROS, then the string entries, the copied entries, for CID CIDCount,
-- the offsets, for a name-keyed subset the encoding's among them where it has one (document 02, Wish 4), and Private.
use Rattle.std.specs.Prelude.{ℕ, List, [], ◌∷◌, ◌++◌, eqb, None, Option, Some}
use Rattle.octets.specs.Pick.{pick}
use Rattle.decimal.specs.Decimal.{normal, whole}
use Rattle.dict.specs.Op.{ros, cid_count, copied_top_entries}
use Rattle.dict.specs.Dict.{Entry}
use Rattle.dict.specs.Lookup.{Operands, absent, operands, last_of, ros_in, cid_count_in}
use Rattle.dict.specs.declared.RosEntry.{RosEntry}
use Rattle.dict_write.specs.Parts.{Part, plain, offset, private_part}
use Rattle.strings.specs.Strings.{string_text}
use Rattle.cff.specs.Font.{Program, charset, encoding, char_strings, fd_array, fd_select_lem}
use Rattle.subset.specs.Texts.{Named, new_id}
use Rattle.subset.specs.Subset.{named}

-- the string entries
unfoldable pub named_parts : List (List ℕ) → List Named → List Part
named_parts own [] = []
named_parts own (n ∷ ns) = plain (record { op = n.op; operands = whole (new_id own n.text) ∷ [] }) ∷ named_parts own ns

-- the entry of an operator that is copied, where it is there
abbrev pub copied_part : ℕ → Operands → List Part
copied_part op absent = []
copied_part op (operands ds) = plain (record { op = op; operands = ds }) ∷ []

-- the copied entries
unfoldable pub copied_parts : List Entry → List ℕ → List Part
copied_parts es [] = []
copied_parts es (op ∷ ops) = copied_part op (last_of op es) ++ copied_parts es ops

-- ROS
abbrev pub ros_parts : Program → List (List ℕ) → Option RosEntry → List Part
ros_parts p own None = []
ros_parts p own (Some q) =
    plain (record {
      op = ros;
      operands = whole (new_id own (string_text p.strings q.registry)) ∷ whole (new_id own (string_text p.strings q.ordering)) ∷ normal q.supplement.neg q.supplement.size 0 0 ∷ [];
    }) ∷ []

-- what both keyings share, before the other parts
abbrev pub shared_parts : Program → List (List ℕ) → List Part → List Part
shared_parts p own rest = named_parts own (named p) ++ (copied_parts p.top copied_top_entries ++ rest)

-- the encoding, its offset being v: none at 0
abbrev pub encoding_parts : ℕ → List Part
encoding_parts v = pick (eqb v 0) [] (offset encoding v ∷ [])

-- the top DICT of a name-keyed subset
abbrev pub name_top_parts : Program → List (List ℕ) → ℕ → ℕ → ℕ → ℕ → ℕ → List Part
name_top_parts p own at₁ v at₂ size at₃ =
    shared_parts p own (offset charset at₁ ∷ (encoding_parts v ++ (offset char_strings at₂ ∷ private_part size at₃ ∷ [])))

-- the top DICT of a CID-keyed subset
abbrev pub cid_top_parts : Program → List (List ℕ) → ℕ → ℕ → ℕ → ℕ → List Part
cid_top_parts p own at₁ at₂ at₃ at₄ =
    ros_parts p own (ros_in p.top) ++ shared_parts p own
    (plain (record { op = cid_count; operands = whole (cid_count_in p.top) ∷ [] })
    ∷ offset charset at₁ ∷ offset fd_select_lem at₂ ∷ offset char_strings at₃ ∷ offset fd_array at₄ ∷ [])
