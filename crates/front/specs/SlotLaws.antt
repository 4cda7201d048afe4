-- Laws of the slots: what the two steps that fill them leave, and that it is what the top DICT of the subset is written from.
use Rattle.std.specs.Prelude.{ℕ, ◌+◌, ◌≤◌, ◌<◌, ◌≡◌, refl, Bool, true, List, [], ◌∷◌, ◌++◌, Option, Some, None}
use Rattle.std.proofs.Common.{sym, ◌∙◌, subst, arith}
use Rattle.std.proofs.Math.Path.{ap}
use Rattle.std.proofs.Math.ListN.{length, get_or, get_or-map}
use Rattle.decimal.specs.declared.Signed.{Signed}
use Rattle.dict.specs.Op.{copied_top_strings}
use Rattle.dict.specs.Lookup.{ros_in, a_ros}
use Rattle.dict.specs.declared.RosEntry.{RosEntry}
use Rattle.strings.specs.Strings.{string_text}
use Rattle.cff.specs.Font.{Program}
use Rattle.index.specs.Index.{items_of}
use Rattle.index.specs.declared.Index.{Index}
use Rattle.subset.specs.Texts.{own_strings_lem, new_id}
use Rattle.faithful.specs.TopFitLaws.{new-below}
use Rattle.own_strings.specs.declared.slots.Slot.{Slot}
use Rattle.own_strings.specs.Slots.{sids_of, ids_of, no_slot, ros_slots, first_slots, entry_slots, slots_of, slot_id, slot_ids, slots_own}
use Rattle.own_strings.specs.SlotLaws.{slot-full}
use Rattle.own_strings.specs.Ready.{HasStrings, SlotsGiven}
use Rattle.own_strings.specs.TurnLaws.{entry_at, sids-length, text-short}
use Rattle.own_strings.specs.StageLaws.{own-bound}
use Rattle.own_strings.specs.IdsLaws.{slots-given, slots-known}
use Rattle.top_dict.specs.Top.{Filled}
use Rattle.top_dict.specs.Slotted.{Slotted}
use Rattle.front.specs.Front.{SlotsReady}

-- what the two steps leave
module _ (p : Program) (cid : Bool) (mid new : List Slot) (eight : length mid ≡ 8) (first : sids_of mid ≡ slots_of cid p.top)
    (same : sids_of new ≡ sids_of mid) (second : ids_of new ≡ slot_ids (slots_own p.strings mid) p.strings (sids_of mid)) where
  pub slots_ready : SlotsReady p cid new
  slots_ready = record { front = same ∙ first; given = (slots-given p.strings mid new eight same second).0 }

  pub slots_same : slots_own p.strings mid ≡ slots_own p.strings new
  slots_same = sym (slots-given p.strings mid new eight same second).1

-- ---- new ids are string ids

id_below : (own strings : List (List ℕ)) (o : Option ℕ) → length own ≤ 64609 → slot_id own strings o < 65536
unfolding slot_id
id_below own strings None h = omega arith
id_below own strings (Some x) h = new-below own (string_text strings x) h

pub slots_filled : (b : List ℕ) (ix : Index) → HasStrings b ix → (slots : List Slot) → SlotsGiven (items_of b ix) slots → Filled slots
unfolding own_strings_lem
slots_filled b ix has slots g =
    let S = items_of b ix in
    let f = own-bound S (text-short b ix has) [] (sids_of slots) in
    let l : length (slots_own S slots) ≤ 64609 = omega (arith, f.0, sids-length slots, g.eight) in
    record {
      small =
          λ j h. subst (λ (x : ℕ). x < 65536) (sym (sym (get_or-map (λ (s : Slot). s.id) slots j no_slot) ∙ slots-known S slots g [] j h))
          (id_below (slots_own S slots) S (get_or (sids_of slots) j None) l);
    }

-- ---- the slots hold what the top DICT names

module _ (p : Program) (cid : Bool) (slots : List Slot) (g : SlotsReady p cid slots) (ts : List (List ℕ)) where
  abbrev own : List (List ℕ)
  own = own_strings_lem (slots_own p.strings slots) ts

  -- the string id of a slot, and its new id
  slot_at : (j : ℕ) → (get_or slots j no_slot).sid ≡ get_or (slots_of cid p.top) j None
  slot_at j = sym (get_or-map (λ (s : Slot). s.sid) slots j no_slot) ∙ ap (λ (l : List (Option ℕ)). get_or l j None) g.front

  new-at : (j x : ℕ) → j < 8 → get_or (slots_of cid p.top) j None ≡ Some x → (get_or slots j no_slot).id ≡ new_id own (string_text p.strings x)
  new-at j x h e =
      sym (get_or-map (λ (s : Slot). s.id) slots j no_slot) ∙ slots-known p.strings slots g.given ts j h
      ∙ ap (slot_id own p.strings) (ap (λ (m : List (Option ℕ)). get_or m j None) g.front ∙ e) ∙ slot-full p.strings own x

  first-at : cid ≡ true → (r o : ℕ) (s : Signed) → ros_in p.top ≡ a_ros r o s → slots_of cid p.top ≡ Some r ∷ Some o ∷ entry_slots p.top copied_top_strings
  unfolding slots_of
  first-at c r o s e =
      ap (λ (t : Bool). first_slots t p.top ++ entry_slots p.top copied_top_strings) c ∙ ap (λ (x : Option RosEntry). ros_slots x ++ entry_slots p.top copied_top_strings) e

  pub slots_slotted : Slotted p cid own slots
  slots_slotted =
      record {
        there = λ j h. slot_at (2 + j) ∙ entry_at cid p.top j h;
        renamed = λ j sid h e. new-at (2 + j) sid (omega arith) (entry_at cid p.top j h ∙ e);
        registry = λ c r o s e. new-at 0 r (omega arith) (ap (λ (l : List (Option ℕ)). get_or l 0 None) (first-at c r o s e));
        ordering = λ c r o s e. new-at 1 o (omega arith) (ap (λ (l : List (Option ℕ)). get_or l 1 None) (first-at c r o s e));
      }
