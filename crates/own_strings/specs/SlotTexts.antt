-- The texts of the slots of a top DICT are the texts that the subset uses before the names of glyphs (document 01, 'Layout'): for a CID-keyed
-- font registry and ordering of a ROS that can be used, then the string entries that are there.
use Rattle.std.specs.Prelude.{ℕ, ◌<◌, min, ◌≡◌, refl, true, false, List, [], ◌∷◌, ◌++◌, None, Option, Some}
use Rattle.std.proofs.Common.{ap, ◌∙◌, arith}
use Rattle.std.proofs.Math.Nat.{min-le_right}
use Rattle.octets.specs.Pick.{pick_ind}
use Rattle.decimal.specs.Values.{trunc_of, clamped}
use Rattle.decimal.specs.declared.Decimal.{Decimal}
use Rattle.dict.specs.Op.{copied_top_strings}
use Rattle.dict.specs.Lookup.{id_in, ros_in}
use Rattle.dict.specs.declared.RosEntry.{RosEntry}
use Rattle.strings.specs.Strings.{string_text}
use Rattle.cff.specs.Font.{Program}
use Rattle.subset.specs.Texts.{Named, named_by, named_entries, texts_of}
use Rattle.subset.specs.Subset.{named, ros_texts}
use Rattle.own_strings.specs.Slots.{ros_slots, entry_slots, slots_of, slot_texts}
use Rattle.own_strings.specs.SlotLaws.{texts-append}

-- ---- string ids have 16 bits

pub clamped_low : (d : Decimal) → clamped 65535 d < 65536
clamped_low d =
    pick_ind (λ (k : ℕ). k < 65536) d.neg 0 (min (trunc_of d) 65535)
    (λ s. omega arith)
    (λ s. omega (arith, min-le_right (trunc_of d) 65535))

-- ---- the string entries

entry-by : (p : Program) (op : ℕ) (o : Option ℕ) (xs : List (Option ℕ)) (rest : List Named)
    → slot_texts p.strings xs ≡ texts_of rest → slot_texts p.strings (o ∷ xs) ≡ texts_of (named_by p op o rest)
unfolding slot_texts texts_of
entry-by p op None xs rest e = e
entry-by p op (Some sid) xs rest e = ap (λ (l : List (List ℕ)). string_text p.strings sid ∷ l) e

entries-texts : (p : Program) (ops : List ℕ) → slot_texts p.strings (entry_slots p.top ops) ≡ texts_of (named_entries p ops)
unfolding entry_slots named_entries texts_of slot_texts
entries-texts p [] = refl
entries-texts p (op ∷ ops) = entry-by p op (id_in op p.top) (entry_slots p.top ops) (named_entries p ops) (entries-texts p ops)

-- ---- registry and ordering

ros-by : (p : Program) (o : Option RosEntry) → slot_texts p.strings (ros_slots o) ≡ ros_texts p o
unfolding slot_texts
ros-by p None = refl
ros-by p (Some q) = refl

-- ---- all slots

pub cid_texts : (p : Program) → slot_texts p.strings (slots_of true p.top) ≡ ros_texts p (ros_in p.top) ++ texts_of (named p)
unfolding slots_of
cid_texts p =
    texts-append p.strings (ros_slots (ros_in p.top)) (entry_slots p.top copied_top_strings)
    ∙ ap (λ (l : List (List ℕ)). l ++ slot_texts p.strings (entry_slots p.top copied_top_strings)) (ros-by p (ros_in p.top))
    ∙ ap (λ (l : List (List ℕ)). ros_texts p (ros_in p.top) ++ l) (entries-texts p copied_top_strings)

pub name-texts : (p : Program) → slot_texts p.strings (slots_of false p.top) ≡ texts_of (named p)
unfolding slots_of slot_texts
name-texts p =
    entries-texts p copied_top_strings
