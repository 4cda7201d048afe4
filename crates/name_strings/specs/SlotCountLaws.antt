-- Laws of a loop over the eight slots, whose new ids are known: the own strings of the slots before are counted, and one more where an id is the next.
use Rattle.std.specs.Prelude.{ℕ, ◌+◌, ◌*◌, ◌≤◌, ◌<◌, ◌≡◌, take, drop, Option, Some, None}
use Rattle.std.proofs.Math.Path.{refl, sym, ap}
use Rattle.std.proofs.Common.{◌∙◌, arith, take_all, length-take-le}
use mathlib.Core.List.{List, []}
use Rattle.std.proofs.Math.ListN.{length, get_or, get_or-map}
use Rattle.index.specs.Index.{items_of}
use Rattle.index.specs.Write.{total}
use Rattle.index.specs.declared.Index.{Index}
use Rattle.subset.specs.Texts.{own_strings_lem}
use Rattle.own_strings.specs.declared.Own.{Own}
use Rattle.own_strings.specs.declared.slots.Slot.{Slot}
use Rattle.own_strings.specs.Slots.{sids_of, no_slot, slot_texts, slot_id, own_of, slots_own, counted}
use Rattle.own_strings.specs.Ready.{HasStrings, SlotsGiven}
use Rattle.own_strings.specs.SlotLaws.{used, used-empty, stage-more, stage-rest, counted_is}
use Rattle.own_strings.specs.TurnLaws.{text-short, sids-length}
use Rattle.own_strings.specs.StageLaws.{own-bound}
use Rattle.own_strings.specs.IdsLaws.{slots-known}

-- before slot j
pub record Counting (strings : List (List ℕ)) (slots : List Slot) (own : Own) (j : ℕ) : Type 0 where
  pub within : j ≤ 8
  pub counts : own ≡ own_of (own_strings_lem [] (slot_texts strings (take j (sids_of slots))))

-- the string id of slot j, and its new one
pub slot-sid : (slots : List Slot) (j : ℕ) (o : Option ℕ) → (get_or slots j no_slot).sid ≡ o → get_or (sids_of slots) j None ≡ o
slot-sid slots j o e = get_or-map (λ (s : Slot). s.sid) slots j no_slot ∙ e

pub slot-new : (strings : List (List ℕ)) (slots : List Slot) → SlotsGiven strings slots → (ts : List (List ℕ)) (j : ℕ) → j < 8 → (o : Option ℕ) → (get_or slots j no_slot).sid ≡ o
    → (get_or slots j no_slot).id ≡ slot_id (own_strings_lem (slots_own strings slots) ts) strings o
slot-new strings slots g ts j h o e =
    sym (get_or-map (λ (s : Slot). s.id) slots j no_slot) ∙ slots-known strings slots g ts j h
    ∙ ap (slot_id (own_strings_lem (slots_own strings slots) ts) strings) (slot-sid slots j o e)

module _ (b : List ℕ) (ix : Index) (has : HasStrings b ix) (slots : List Slot) (g : SlotsGiven (items_of b ix) slots) where
  abbrev S : List (List ℕ)
  S = items_of b ix

  abbrev l : List (Option ℕ)
  l = sids_of slots

  eight : length l ≡ 8
  eight = sids-length slots ∙ g.eight

  pub counting-start : Counting S slots (record { count = 0; total = 0 }) 0
  unfolding slot_texts own_strings_lem total
  counting-start = record { within = omega arith; counts = refl }

  module _ (own : Own) (j : ℕ) (t : Counting S slots own j) where
    abbrev stage : List (List ℕ)
    stage = own_strings_lem [] (slot_texts S (take j l))

    -- what `count_one` asks
    pub counting_asks : (own.count < 4294967296) × (own.total < 4611686018427387904)
    unfolding total
    counting_asks =
        asks (length-take-le j l (omega (arith, eight, t.within))) (ap (λ (o : Own). o.count) t.counts) (ap (λ (o : Own). o.total) t.counts)
        (own-bound S (text-short b ix has) [] (take j l))
      where
        asks : length (take j l) ≡ j → own.count ≡ length stage → own.total ≡ total stage
            → (length stage ≤ 0 + length (take j l)) × (total stage ≤ 0 + length (take j l) * 67108864)
            → (own.count < 4294967296) × (own.total < 4611686018427387904)
        asks m c s f = (omega (arith, m, c, f.0, t.within), omega (arith, m, s, f.1, t.within))

    pub counting_end : 8 ≤ j → own ≡ own_of (slots_own S slots)
    counting_end h = t.counts ∙ ap (λ (x : List (Option ℕ)). own_of (own_strings_lem [] (slot_texts S x))) (take_all j l (omega (arith, eight)))

    module _ (h : j < 8) where
      inside : j < length l
      inside = omega (arith, eight)

      -- a slot of no string
      pub counting-none : (get_or slots j no_slot).sid ≡ None → Counting S slots own (j + 1)
      counting-none e =
          record {
            within = omega arith;
            counts = t.counts ∙ ap own_of (sym (stage-more S [] l j inside ∙ ap (used S stage) (slot-sid slots j None e) ∙ used-empty S stage));
          }

      pub counting-next : (x : ℕ) → (get_or slots j no_slot).sid ≡ Some x → (after : Own) → after ≡ counted S own x (get_or slots j no_slot).id → Counting S slots after (j + 1)
      unfolding own_strings_lem
      counting-next x s after e =
          let all = slots_own S slots in
          let r : get_or l j None ≡ Some x = slot-sid slots j (Some x) s in
          record {
            within = omega arith;
            counts =
                e ∙ ap (λ (o : Own). counted S o x (get_or slots j no_slot).id) t.counts
                ∙ ap (counted S (own_of stage) x) (slot-new S slots g [] j h (Some x) s)
                ∙ counted_is S stage x all (slot_texts S (drop (j + 1) l))
                (stage-rest S [] l j inside ∙ ap (λ (o : Option ℕ). own_strings_lem (used S stage o) (slot_texts S (drop (j + 1) l))) r)
                ∙ ap own_of (sym (stage-more S [] l j inside ∙ ap (used S stage) r));
          }
