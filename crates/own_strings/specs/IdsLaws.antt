-- Laws of the loop that gives new ids to the eight slots, and what it leaves for later functions.
use Rattle.std.specs.Prelude.{ℕ, ◌+◌, ◌*◌, ◌<◌, ◌≤◌, ◌≡◌, take, drop, get_or, set, Option, Some, None}
use Rattle.std.proofs.Math.Path.{refl, sym, ap}
use Rattle.std.proofs.Common.{◌∙◌, arith, take_all, get_or-take}
use mathlib.Core.List.{List, []}
use Rattle.std.proofs.Math.ListN.{length, get_or-map}
use Rattle.std.proofs.Math.Seq.{length-take-le, map-set_same, take-set-lt}
use Rattle.std.proofs.lemmas.List.{drop-set-lt, length-set, length-take, map-set, take-map, take-take}
use Rattle.index.specs.Index.{items_of}
use Rattle.index.specs.Write.{total}
use Rattle.index.specs.declared.Index.{Index}
use Rattle.strings.specs.Strings.{string_text, sid_of}
use Rattle.subset.specs.Texts.{has_text, own_strings_lem}
use Rattle.own_strings.specs.declared.Own.{Own}
use Rattle.own_strings.specs.declared.slots.Slot.{Slot}
use Rattle.own_strings.specs.Slots.{sids_of, ids_of, no_slot, slot_texts, slot_id, slot_ids, own_of, slots_own, given_id, counted}
use Rattle.own_strings.specs.Ready.{HasStrings, SlotsGiven}
use Rattle.own_strings.specs.OwnLaws.{own_same}
use Rattle.own_strings.specs.SlotLaws.{used, used-empty, stage-more, slot-empty}
use Rattle.own_strings.specs.TurnLaws.{text-short, turn-set, sids-length, ids_count}
use Rattle.own_strings.specs.StageLaws.{own-bound, ids-length, ids_at, slot-keeps, turn_id, turn-own, turn_below}

-- ---- the slots

-- before slot j: those before it have their ids
pub record SlotTurn (strings : List (List ℕ)) (old now : List Slot) (own : Own) (j : ℕ) : Type 0 where
  pub within : j ≤ 8
  pub same : sids_of now ≡ sids_of old
  pub ids : take j (ids_of now) ≡ take j (slot_ids (slots_own strings old) strings (sids_of old))
  pub counts : own ≡ own_of (own_strings_lem [] (slot_texts strings (take j (sids_of old))))

module _ (b : List ℕ) (ix : Index) (has : HasStrings b ix) (old : List Slot) (size : length old ≡ 8) where
  abbrev S : List (List ℕ)
  S = items_of b ix

  abbrev l : List (Option ℕ)
  l = sids_of old

  abbrev ids : List ℕ
  ids = slot_ids (slots_own S old) S l

  eight : length l ≡ 8
  eight = sids-length old ∙ size

  ids_eight : length ids ≡ 8
  ids_eight = ids-length (slots_own S old) S l ∙ eight

  pub slot-start : SlotTurn S old old (record { count = 0; total = 0 }) 0
  unfolding slot_texts own_strings_lem total
  slot-start = record { within = omega arith; same = refl; ids = refl; counts = refl }

  module _ (now : List Slot) (own : Own) (j : ℕ) (t : SlotTurn S old now own j) where
    long : length now ≡ 8
    long = sym (sids-length now) ∙ ap length t.same ∙ eight

    pub slot_end : 8 ≤ j → (sids_of now ≡ sids_of old) × (ids_of now ≡ ids) × (own ≡ own_of (slots_own S old))
    slot_end h = (
      t.same,
      sym (take_all j (ids_of now) (omega (arith, ids_count now, long))) ∙ t.ids ∙ take_all j ids (omega (arith, ids_eight)),
      t.counts ∙ ap (λ (x : List (Option ℕ)). own_of (own_strings_lem [] (slot_texts S x))) (take_all j l (omega (arith, eight))),
    )

    -- few own strings, and short
    pub slot-bound : (own.count ≤ 8) × (own.total ≤ 536870912)
    unfolding total
    slot-bound =
        let f = own-bound S (text-short b ix has) [] (take j l) in
        let m : length (take j l) ≡ j = length-take-le j l (omega (arith, eight, t.within)) in
        let c = ap (λ (o : Own). o.count) t.counts in
        let s = ap (λ (o : Own). o.total) t.counts in
        bound m c s f
      where
        bound : length (take j l) ≡ j → own.count ≡ length (own_strings_lem [] (slot_texts S (take j l))) → own.total ≡ total (own_strings_lem [] (slot_texts S (take j l)))
            → (length (own_strings_lem [] (slot_texts S (take j l))) ≤ 0 + length (take j l)) × (total (own_strings_lem [] (slot_texts S (take j l))) ≤ 0 + length (take j l) * 67108864)
            → (own.count ≤ 8) × (own.total ≤ 536870912)
        bound m c s f = (omega (arith, m, c, f.0, t.within), omega (arith, m, s, f.1, t.within))

    module _ (h : j < 8) (o : Option ℕ) (reads : (get_or now j no_slot).sid ≡ o) where
      inside : j < length l
      inside = omega (arith, eight)

      here : get_or l j None ≡ o
      here = ap (λ (x : List (Option ℕ)). get_or x j None) (sym t.same) ∙ get_or-map (λ (s : Slot). s.sid) now j no_slot ∙ reads

      -- the slot stored with an id that is its own
      stored : (id : ℕ) → id ≡ slot_id (slots_own S old) S o → (after : Own) → after ≡ own_of (own_strings_lem [] (slot_texts S (take (j + 1) l)))
          → SlotTurn S old (set now j (record { sid = o; id = id })) after (j + 1)
      stored id is after e =
          record {
            within = omega arith;
            same = map-set_same (λ (s : Slot). s.sid) now j (record { sid = o; id = id }) no_slot (sym reads) ∙ t.same;
            ids =
                ap (take (j + 1)) (map-set (λ (s : Slot). s.id) now j (record { sid = o; id = id }))
                ∙ turn-set (ids_of now) ids j id 0 (omega (arith, ids_count now, long)) (omega (arith, ids_eight)) t.ids
                (is ∙ ap (slot_id (slots_own S old) S) (sym here) ∙ sym (ids_at (slots_own S old) S l j inside));
            counts = e;
          }

      -- the id that was given after the slots before
      module _ (before : List Slot) (cut : before ≡ take j now) (id : ℕ) (gives : id ≡ given_id S (sids_of before) (ids_of before) own.count o) where
        front : sids_of before ≡ take j l
        front = ap sids_of cut ∙ sym (take-map (λ (s : Slot). s.sid) j now) ∙ ap (take j) t.same

        front_ids : ids_of before ≡ take j ids
        front_ids = ap ids_of cut ∙ sym (take-map (λ (s : Slot). s.id) j now) ∙ t.ids

        known : (i : ℕ) → i < length (take j l) → get_or (take j ids) i 0 ≡ slot_id (slots_own S old) S (get_or (take j l) i None)
        known i k =
            let m : i < j = omega (arith, length-take-le j l (omega (arith, eight, t.within))) in
            get_or-take j ids i 0 m ∙ ids_at (slots_own S old) S l i (omega (arith, eight))
            ∙ ap (slot_id (slots_own S old) S) (sym (get_or-take j l i None m))

        given : id ≡ given_id S (take j l) (take j ids) own.count o
        given = gives ∙ ap (λ (x : List (Option ℕ)). given_id S x (ids_of before) own.count o) front ∙ ap (λ (x : List ℕ). given_id S (take j l) x own.count o) front_ids

        module _ (none : o ≡ None) where
          none_id : id ≡ 0
          unfolding given_id
          none_id = given ∙ ap (given_id S (take j l) (take j ids) own.count) none

          -- a slot of no string
          pub slot_none : SlotTurn S old (set now j (record { sid = o; id = id })) own (j + 1)
          slot_none =
              stored id (none_id ∙ sym (slot-empty S (slots_own S old)) ∙ ap (slot_id (slots_own S old) S) (sym none)) own
              (t.counts
              ∙ ap own_of (sym (stage-more S [] l j inside ∙ ap (used S (own_strings_lem [] (slot_texts S (take j l)))) (here ∙ none) ∙ used-empty S (own_strings_lem [] (slot_texts S (take j l))))))

        module _ (y : ℕ) (some : o ≡ Some y) where
          among : sid_of (string_text S y) ≡ None
              → has_text (string_text S y) (own_strings_lem [] (slot_texts S (take j l))) ≡ has_text (string_text S y) (slot_texts S (take j l))
          among = own_same (string_text S y) (slot_texts S (take j l))

          gives_some : id ≡ given_id S (take j l) (take j ids) own.count (Some y)
          gives_some = given ∙ ap (given_id S (take j l) (take j ids) own.count) some

          some_small : id < 65536
          some_small =
              let f = own-bound S (text-short b ix has) [] (take j l) in
              let m : length (take j l) ≡ j = length-take-le j l (omega (arith, eight, t.within)) in
              small m f.0
            where
              small : length (take j l) ≡ j → length (own_strings_lem [] (slot_texts S (take j l))) ≤ length {A = List ℕ} [] + length (take j l) → id < 65536
              small m f = omega (arith, turn_below S [] l j inside (take j l) (take j ids) y (here ∙ some) among known own t.counts id gives_some, m, f)

          -- one that has a string
          pub slot_turn : (after : Own) → after ≡ counted S own y id → SlotTurn S old (set now j (record { sid = o; id = id })) after (j + 1)
          slot_turn after e =
              stored id
              (turn_id S [] l j inside (take j l) (take j ids) y (here ∙ some) among known own t.counts id gives_some ∙ ap (slot_id (slots_own S old) S) (sym some))
              after
              (turn-own S [] l j inside (take j l) (take j ids) y (here ∙ some) among known own t.counts id gives_some after e)

        pub slot-id_small : id < 65536
        slot-id_small = by o refl
          where
            by : (x : Option ℕ) → o ≡ x → id < 65536
            by None e = omega (arith, none_id e)
            by (Some y) e = some_small y e

-- ---- the first eight of more slots

-- before slot j: the same of the first eight; what is behind them is as it was
pub record IdsPut (strings : List (List ℕ)) (old now : List Slot) (own : Own) (j : ℕ) : Type 0 where
  pub turn : SlotTurn strings (take 8 old) (take 8 now) own j
  pub long : 8 ≤ length now
  pub same : sids_of now ≡ sids_of old
  pub rest : drop 8 now ≡ drop 8 old

module _ (b : List ℕ) (ix : Index) (has : HasStrings b ix) (old : List Slot) (size : 8 ≤ length old) where
  abbrev T : List (List ℕ)
  T = items_of b ix

  first : length (take 8 old) ≡ 8
  first = length-take-le 8 old size

  pub ids-start : IdsPut T old old (record { count = 0; total = 0 }) 0
  ids-start = record { turn = slot-start b ix has (take 8 old) first; long = size; same = refl; rest = refl }

  module _ (now : List Slot) (own : Own) (j : ℕ) (p : IdsPut T old now own j) where
    pub ids-bound : (own.count ≤ 8) × (own.total ≤ 536870912)
    ids-bound = slot-bound b ix has (take 8 old) first (take 8 now) own j p.turn

    pub ids_end : 8 ≤ j
        → (sids_of now ≡ sids_of old) × (ids_of (take 8 now) ≡ slot_ids (slots_own T (take 8 old)) T (sids_of (take 8 old)))
        × (drop 8 now ≡ drop 8 old) × (own ≡ own_of (slots_own T (take 8 old)))
    ids_end h = let e = slot_end b ix has (take 8 old) first (take 8 now) own j p.turn h in (p.same, e.1, p.rest, e.2)

    module _ (h : j < 8) (o : Option ℕ) (reads : (get_or now j no_slot).sid ≡ o) (before : List Slot) (cut : before ≡ take j now) (id : ℕ)
        (gives : id ≡ given_id T (sids_of before) (ids_of before) own.count o) where
      here_first : (get_or (take 8 now) j no_slot).sid ≡ o
      here_first = ap (λ (s : Slot). s.sid) (get_or-take 8 now j no_slot h) ∙ reads

      cut_first : before ≡ take j (take 8 now)
      cut_first = cut ∙ sym (take-take j 8 now (omega arith))

      put : (s : Slot) → s.sid ≡ o → (after : Own) → SlotTurn T (take 8 old) (set (take 8 now) j s) after (j + 1) → IdsPut T old (set now j s) after (j + 1)
      put s e after t =
          record {
            turn = rw (take-set-lt 8 now j s h) t;
            long = omega (arith, length-set now j s, p.long);
            same = map-set_same (λ (x : Slot). x.sid) now j s no_slot (e ∙ sym reads) ∙ p.same;
            rest = drop-set-lt 8 now j s h ∙ p.rest;
          }

      pub ids-none : o ≡ None → IdsPut T old (set now j (record { sid = o; id = id })) own (j + 1)
      ids-none e =
          put (record { sid = o; id = id }) refl own
          (slot_none b ix has (take 8 old) first (take 8 now) own j p.turn h o here_first before cut_first id gives e)

      pub ids-turn : (y : ℕ) → o ≡ Some y → (after : Own) → after ≡ counted T own y id → IdsPut T old (set now j (record { sid = o; id = id })) after (j + 1)
      ids-turn y e after c =
          put (record { sid = o; id = id }) refl after
          (slot_turn b ix has (take 8 old) first (take 8 now) own j p.turn h o here_first before cut_first id gives y e after c)

-- what stands then
pub slots-given : (strings : List (List ℕ)) (old now : List Slot) → length old ≡ 8 → sids_of now ≡ sids_of old → ids_of now ≡ slot_ids (slots_own strings old) strings (sids_of old)
    → SlotsGiven strings now × (slots_own strings now ≡ slots_own strings old)
slots-given strings old now size same e =
    let s : slots_own strings now ≡ slots_own strings old = ap (λ (x : List (Option ℕ)). own_strings_lem [] (slot_texts strings x)) same in
    (record { eight = sym (sids-length now) ∙ ap length same ∙ sids-length old ∙ size; ids = e ∙ rw (s, same) refl }, s)

-- they are the first eight of a slice that has as many
pub given-long : (strings : List (List ℕ)) (slots : List Slot) → SlotsGiven strings (take 8 slots) → 8 ≤ length slots
given-long strings slots g = omega (arith, length-take 8 slots, g.eight)

-- a slot among the first eight of a slice
pub sid_first : (slots : List Slot) (j : ℕ) → j < 8 → (o : Option ℕ) → (get_or slots j no_slot).sid ≡ o → (get_or (take 8 slots) j no_slot).sid ≡ o
sid_first slots j h o e = ap (λ (s : Slot). s.sid) (get_or-take 8 slots j no_slot h) ∙ e

pub id_first : (slots : List Slot) (j : ℕ) → j < 8 → (get_or (take 8 slots) j no_slot).id ≡ (get_or slots j no_slot).id
id_first slots j h = ap (λ (s : Slot). s.id) (get_or-take 8 slots j no_slot h)

-- the ids that slots were given, all own strings being there
pub slots-known : (strings : List (List ℕ)) (slots : List Slot) → SlotsGiven strings slots → (ts : List (List ℕ)) (i : ℕ) → i < 8
    → get_or (ids_of slots) i 0 ≡ slot_id (own_strings_lem (slots_own strings slots) ts) strings (get_or (sids_of slots) i None)
slots-known strings slots g ts i h =
    ap (λ (x : List ℕ). get_or x i 0) g.ids ∙ ids_at (slots_own strings slots) strings (sids_of slots) i (omega (arith, sids-length slots, g.eight))
    ∙ sym (slot-keeps strings (sids_of slots) ts i)
