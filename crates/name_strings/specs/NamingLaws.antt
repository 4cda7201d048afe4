-- Laws of a loop over the names of the kept glyphs: the id that a name is given after those before it is the one that it has among all own strings in
-- the end, since no name stands before itself; and the own strings are counted on.
use Rattle.std.specs.Prelude.{ℕ, zero, suc, ◌+◌, ◌*◌, ◌/◌, ◌≤◌, ◌<◌, ◌≡◌, refl, Bool, true, false, take, drop, get_or, Option, Some, None}
use Rattle.std.proofs.Common.{sym, ap, ◌∙◌, arith, take_all, length-take-le}
use mathlib.Core.List.{List, [], ◌∷◌, ◌++◌}
use Rattle.std.proofs.Math.ListN.{length}
use Rattle.octets.specs.Octets.{Octets}
use Rattle.index.specs.Index.{items_of}
use Rattle.index.specs.Write.{total}
use Rattle.strings.specs.Strings.{string_text, sid_of}
use Rattle.charset.specs.CharsetFound.{good-small}
use Rattle.cff.specs.Reads.{GoodFont}
use Rattle.cff.specs.declared.font.Font.{Font}
use Rattle.subset.specs.Texts.{has_text, own_strings_lem}
use Rattle.subset.proofs.TextsLaws.{has_left, ids-length as new-ids-length}
use Rattle.order.specs.Walks.{many_in, order_in}
use Rattle.order_window.specs.declared.window.Kept.{Kept}
use Rattle.order_window.specs.Window.{glyphs_of}
use Rattle.order_window.specs.OrderLaws.{order_below, order_glyph, order_id}
use Rattle.own_strings.specs.declared.Own.{Own}
use Rattle.own_strings.specs.declared.slots.Slot.{Slot}
use Rattle.own_strings.specs.Slots.{sids_of, ids_of, slot_texts, slot_id, slot_ids, word_names, word_ids, own_of, slots_own, all_own, given_id, counted}
use Rattle.own_strings.specs.OwnLaws.{has-second, own-append, own_same}
use Rattle.own_strings.specs.SlotLaws.{used, stage-more, stage-rest, Step, step}
use Rattle.own_strings.specs.TurnLaws.{text-short, sids-length}
use Rattle.own_strings.specs.StageLaws.{own-bound, ids_at, names-slots, new-ids-slots, word-ids-length, word-ids-at, names_at, names-length, names-take, turn_id, turn-own, turn_below}
use Rattle.own_strings.specs.IdsLaws.{slots-known}
use Rattle.name_strings.specs.Names.{new_names, strings_of, NamesReady, Naming}

-- ---- the names of the order

-- the first names
names-front : (strings : List (List ℕ)) (i : ℕ) (ws : List ℕ) → word_names strings (take i ws) ≡ take i (word_names strings ws)
unfolding word_names
names-front strings zero ws = refl
names-front strings (suc i) [] = refl
names-front strings (suc i) (w ∷ ws) = ap (λ (l : List (List ℕ)). string_text strings (w / 65536) ∷ l) (names-front strings i ws)

-- ---- a loop begins

pub naming-start : (k : Kept) (slots : List Slot) (own : Own) → NamesReady k slots → own ≡ own_of (slots_own (strings_of k) slots)
    → Naming k.font.now k.o.f k.words.now slots own 0
unfolding word_names own_strings_lem
naming-start k slots own r e =
    record {
      has = record { good = k.gathered.good.begun.strings-held.good; small = r.small };
      given = r.given;
      apart = r.apart;
      few = omega (arith, k.gathered.many, k.gathered.few);
      within = omega arith;
      counts = e;
    }

-- ---- it goes on and ends

module _ (b : List ℕ) (f : Font) (ws : List ℕ) (slots : List Slot) (own : Own) (i : ℕ) (n : Naming b f ws slots own i) where
  abbrev S : List (List ℕ)
  S = items_of b f.strings

  abbrev order : List ℕ
  order = order_in b f ws

  abbrev first : List (List ℕ)
  first = slots_own S slots

  -- names as slots
  abbrev xs : List (Option ℕ)
  xs = word_ids order

  -- the slots before them
  abbrev sids : List (Option ℕ)
  sids = sids_of slots

  abbrev all : List (List ℕ)
  all = own_strings_lem first (slot_texts S xs)

  abbrev stage : List (List ℕ)
  stage = own_strings_lem first (slot_texts S (take i xs))

  all_is : all_own S slots order ≡ all
  all_is = ap (own_strings_lem first) (names-slots S order)

  part_is : (j : ℕ) → all_own S slots (take j order) ≡ own_strings_lem first (slot_texts S (take j xs))
  part_is j = ap (own_strings_lem first) (names-front S j order ∙ names-take S j order)

  so_far : own ≡ own_of stage
  so_far = n.counts ∙ ap own_of (part_is i)

  many : length xs ≡ length order
  many = word-ids-length order

  eight : length sids ≡ 8
  eight = sids-length slots ∙ n.given.eight

  bound : (length stage ≤ 8 + i) × (total stage ≤ (8 + i) * 67108864)
  unfolding total
  bound =
      let short = text-short b f.strings n.has in
      within (length-take-le i xs (omega (arith, many, n.within))) (own-bound S short [] sids) (own-bound S short first (take i xs))
    where
      within : length (take i xs) ≡ i
          → (length first ≤ 0 + length sids) × (total first ≤ 0 + length sids * 67108864)
          → (length stage ≤ length first + length (take i xs)) × (total stage ≤ total first + length (take i xs) * 67108864)
          → (length stage ≤ 8 + i) × (total stage ≤ (8 + i) * 67108864)
      within q f h = (omega (arith, eight, q, f.0, h.0), omega (arith, eight, q, f.1, h.1))

  -- few own strings, and short
  pub naming-bound : (own.count ≤ 65544) × (own.total ≤ 4398583382016)
  naming-bound =
      let c = ap (λ (x : Own). x.count) so_far in
      let s = ap (λ (x : Own). x.total) so_far in
      (omega (arith, c, bound.0, n.within, n.few), omega (arith, s, bound.1, n.within, n.few))

  -- what `given_id` asks, and `count_one`
  pub naming_asks : own.count < 4294967296
  naming_asks = omega (arith, naming-bound.0)

  pub naming_counts : (own.count < 4294967296) × (own.total < 4611686018427387904)
  naming_counts = (omega (arith, naming-bound.0), omega (arith, naming-bound.1))

  pub naming_end : length order ≤ i → own ≡ own_of (all_own S slots order)
  naming_end h = n.counts ∙ ap (λ (l : List ℕ). own_of (all_own S slots l)) (take_all i order h)

  module _ (h : i < length order) (w : ℕ) (is : w ≡ get_or order i 0) (id : ℕ) (gives : id ≡ given_id S sids (ids_of slots) own.count (Some (w / 65536))) where
    abbrev name : List ℕ
    name = string_text S (w / 65536)

    inside : i < length xs
    inside = omega (arith, many)

    reads : get_or xs i None ≡ Some (w / 65536)
    reads = word-ids-at order i h ∙ ap (λ (x : ℕ). Some (x / 65536)) (sym is)

    known : (j : ℕ) → j < length sids → get_or (ids_of slots) j 0 ≡ slot_id all S (get_or sids j None)
    known j l = slots-known S slots n.given (slot_texts S xs) j (omega (arith, eight))

    -- the name is not among those before it
    fresh : has_text name (slot_texts S (take i xs)) ≡ false
    fresh =
        ap (λ (x : List ℕ). has_text x (slot_texts S (take i xs))) (ap (λ (x : ℕ). string_text S (x / 65536)) is ∙ sym (names_at S order i h))
        ∙ ap (has_text (get_or (word_names S order) i [])) (sym (names-take S i order))
        ∙ n.apart.apart.apart i (omega (arith, names-length S order))

    -- and so it is an own string exactly where a slot has it
    among : sid_of name ≡ None → has_text name stage ≡ has_text name (slot_texts S sids)
    among o =
        let ts = slot_texts S sids in
        let us = slot_texts S (take i xs) in
        ap (has_text name) (sym (own-append [] ts us)) ∙ own_same name (ts ++ us) o ∙ only-first name ts us fresh (has_text name ts) refl
      where
        only-first : (t : List ℕ) (ts us : List (List ℕ)) → has_text t us ≡ false → (b : Bool) → has_text t ts ≡ b → has_text t (ts ++ us) ≡ has_text t ts
        only-first t ts us f true e = has_left t ts us e ∙ sym e
        only-first t ts us f false e = has-second t ts us e ∙ f ∙ sym e

    -- THE LAW: the id that the name is given is its new one
    pub naming_id : id ≡ get_or (new_names b f ws slots) i 0
    naming_id =
        turn_id S first xs i inside sids (ids_of slots) (w / 65536) reads among known own so_far id gives
        ∙ ap (slot_id all S) (sym reads) ∙ sym (ids_at all S xs i inside)
        ∙ ap (λ (l : List (List ℕ)). get_or (slot_ids l S xs) i 0) (sym all_is)
        ∙ ap (λ (l : List ℕ). get_or l i 0) (sym (new-ids-slots (all_own S slots order) S order))

    pub naming-below : id ≤ 65935
    naming-below =
        omega (arith, turn_below S first xs i inside sids (ids_of slots) (w / 65536) reads among known own so_far id gives, bound.0, n.few)

    -- what the name adds to the own strings: itself where its id is the next, or nothing
    pub naming-slot : id ≡ slot_id (all_own S slots order) S (Some (w / 65536))
    naming-slot =
        turn_id S first xs i inside sids (ids_of slots) (w / 65536) reads among known own so_far id gives
        ∙ ap (λ (l : List (List ℕ)). slot_id l S (Some (w / 65536))) (sym all_is)

    pub naming-step : Step S (all_own S slots (take i order)) (w / 65536) (all_own S slots order)
    naming-step =
        step S (all_own S slots (take i order)) (slot_texts S (drop (i + 1) xs)) (w / 65536) (all_own S slots order)
        (all_is ∙ stage-rest S first xs i inside
        ∙ ap (λ (l : List (List ℕ)). own_strings_lem (used S l (get_or xs i None)) (slot_texts S (drop (i + 1) xs))) (sym (part_is i))
        ∙ ap (λ (x : Option ℕ). own_strings_lem (used S (all_own S slots (take i order)) x) (slot_texts S (drop (i + 1) xs))) reads)

    pub naming-used : all_own S slots (take (i + 1) order) ≡ used S (all_own S slots (take i order)) (Some (w / 65536))
    naming-used =
        part_is (i + 1) ∙ stage-more S first xs i inside ∙ ap (λ (l : List (List ℕ)). used S l (get_or xs i None)) (sym (part_is i))
        ∙ ap (used S (all_own S slots (take i order))) reads

    -- the own strings with this name
    pub naming-next : (after : Own) → after ≡ counted S own (w / 65536) id → Naming b f ws slots after (i + 1)
    naming-next after e =
        record {
          has = n.has;
          given = n.given;
          apart = n.apart;
          few = n.few;
          within = omega arith;
          counts =
              turn-own S first xs i inside sids (ids_of slots) (w / 65536) reads among known own so_far id gives after e ∙ ap own_of (sym (part_is (i + 1)));
        }

-- as many ids as kept glyphs
pub names_many : (b : List ℕ) (f : Font) (ws : List ℕ) (slots : List Slot) → length (new_names b f ws slots) ≡ length (order_in b f ws)
names_many b f ws slots =
    let s = items_of b f.strings in
    new-ids-length (all_own s slots (order_in b f ws)) (word_names s (order_in b f ws)) ∙ names-length s (order_in b f ws)
