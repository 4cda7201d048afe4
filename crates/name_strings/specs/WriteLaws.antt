-- Laws of the loops that write the String INDEX: a string is written where the id of what is used is the next.
use Rattle.std.specs.Prelude.{ℕ, ◌+◌, ◌/◌, ◌≤◌, ◌<◌, ◌≡◌, refl, List, [], ◌∷◌, ◌++◌, take, drop, get_or, Option, Some, None}
use Rattle.std.proofs.Common.{sym, ◌∙◌, arith, MutBor, take_all}
use Rattle.std.proofs.Math.Path.{ap}
use Rattle.std.proofs.Math.ListN.{length, length-append}
use Rattle.std.proofs.Math.Seq.{take-append_seam}
use Rattle.octets.specs.Octets.{put}
use Rattle.octets.specs.declared.out.Out.{Out}
use Rattle.octets.specs.Out.{Writes}
use Rattle.octets.specs.Lists.{joined}
use Rattle.index.specs.Index.{items_of}
use Rattle.index.specs.Write.{total, ends, table_bytes, index_bytes, index_for_lem, size_for, head_bytes}
use Rattle.index.specs.Begun.{Meant}
use Rattle.index.specs.BegunLaws.{for_meant}
use Rattle.index.specs.ItemOut.{Begins}
use Rattle.index.specs.ItemOutLaws.{begins_none, begins_whole}
use Rattle.index.specs.declared.Index.{Index}
use Rattle.strings.specs.Strings.{string_text}
use Rattle.cff.specs.declared.font.Font.{Font}
use Rattle.subset.specs.Texts.{own_strings_lem}
use Rattle.order.specs.Walks.{order_in}
use Rattle.own_strings.specs.declared.Own.{Own}
use Rattle.own_strings.specs.declared.slots.Slot.{Slot}
use Rattle.own_strings.specs.Slots.{sids_of, ids_of, no_slot, slot_texts, slot_id, word_names, own_of, slots_own, all_own, given_id, counted}
use Rattle.own_strings.specs.Ready.{SlotsGiven, IndexRoom}
use Rattle.own_strings.specs.OwnLaws.{own_grown, own-append}
use Rattle.own_strings.specs.TurnLaws.{sids-length}
use Rattle.own_strings.specs.SlotLaws.{used, used-empty, stage-more, stage-rest, Next, Stays, Step, next, stays, step}
use Rattle.name_strings.specs.SlotCountLaws.{slot-sid, slot-new}
use Rattle.name_strings.specs.declared.Started.{Started}
use Rattle.name_strings.specs.Names.{Naming}
use Rattle.name_strings.specs.NamingLaws.{naming_asks, naming-slot, naming-step, naming-used, naming-next}
use Rattle.name_strings.specs.Strings.{StringsRoom, StringsBegun, SlotWriting, NameWriting}

-- what is begun, under other names
pub begun_is : {mid new : Out} {ix : Index} {items : List (List ℕ)} {k : ℕ} (out : Out) (c : ℕ) → out ≡ new → c ≡ k → Begins mid ix items k new → Begins mid ix items c out
begun_is out c a e b = rw (a, e) b

-- ---- what is used, and its id

module _ (strings stage all : List (List ℕ)) (x c : ℕ) (counts : c ≡ length stage) (id : ℕ) (is : id ≡ slot_id all strings (Some x)) where
  is_next : id ≡ 391 + c → Step strings stage x all → Next strings stage x all
  is_next i (next s) = s
  is_next i (stays s) = absurd (omega (arith, s.id, is, counts))

  is_same : (id ≡ 391 + c → ⊥) → Step strings stage x all → Stays strings stage x all
  is_same i (next s) = absurd (i (omega (arith, s.id, is, counts)))
  is_same i (stays s) = s

  -- the string that is written
  use_string : id ≡ 391 + c → Step strings stage x all → (391 ≤ x) × (c < length all) × (string_text strings x ≡ get_or all c [])
  use_string i t =
      let s = is_next i t in
      (s.high, omega (arith, s.within, counts), sym s.is ∙ ap (λ (q : ℕ). get_or all q []) (sym counts))

  -- how many there are then
  use-more : id ≡ 391 + c → Step strings stage x all → c + 1 ≡ length (used strings stage (Some x))
  use-more i t = omega (arith, counts, ap length (is_next i t).more, length-append stage (string_text strings x ∷ []))

  use-same : (id ≡ 391 + c → ⊥) → Step strings stage x all → c ≡ length (used strings stage (Some x))
  use-same i t = counts ∙ ap length (sym (is_same i t).same)

-- ---- the strings of the slots

module _ (strings : List (List ℕ)) (slots : List Slot) (g : SlotsGiven strings slots) where
  abbrev l : List (Option ℕ)
  l = sids_of slots

  eight : length l ≡ 8
  eight = sids-length slots ∙ g.eight

  pub slot-meant : (n : ℕ) (ix : Index) (at : ℕ) (own : Own) (old : List ℕ) → (r : StringsRoom strings slots old at own) → ix ≡ index_for_lem at own.count own.total
      → n ≡ length old → Meant n ix (own_strings_lem (slots_own strings slots) r.others)
  slot-meant n ix at own old r is size =
      for_meant n at own.count own.total ix (own_strings_lem (slots_own strings slots) r.others) is (ap (λ (o : Own). o.count) r.room.is)
      (ap (λ (o : Own). o.total) r.room.is) (omega (arith, r.room.room, size))

  pub slot-start : (mid : Out) (ix : Index) (at : ℕ) (own : Own) (old : List ℕ) → (r : StringsRoom strings slots old at own) → ix ≡ index_for_lem at own.count own.total
      → length mid.bytes.now ≡ length old → mid.at ≡ ix.base + 1 → SlotWriting strings slots mid ix mid 0 0
  unfolding slot_texts own_strings_lem
  slot-start mid ix at own old r is size from =
      let all = own_strings_lem (slots_own strings slots) r.others in
      let n = ap (λ (o : Own). o.count) r.room.is in
      record {
        others = r.others;
        meant = slot-meant (length mid.bytes.now) ix at own old r is size;
        small = omega (arith, r.room.few, n);
        within = omega arith;
        counts = refl;
        few = omega arith;
        begun = begins_none mid ix all from;
      }

  module _ (mid : Out) (ix : Index) (out : Out) (c j : ℕ) (t : SlotWriting strings slots mid ix out c j) (h : j < 8) where
    abbrev all : List (List ℕ)
    all = own_strings_lem (slots_own strings slots) t.others

    abbrev stage : List (List ℕ)
    stage = own_strings_lem [] (slot_texts strings (take j l))

    inside : j < length l
    inside = omega (arith, eight)

    -- a slot of no string
    pub slot_none : (get_or slots j no_slot).sid ≡ None → (out' : Out) (c' : ℕ) → out' ≡ out → c' ≡ c → SlotWriting strings slots mid ix out' c' (j + 1)
    slot_none n out' c' a e =
        record {
          others = t.others;
          meant = t.meant;
          small = t.small;
          within = omega arith;
          counts = e ∙ t.counts ∙ ap length (sym (stage-more strings [] l j inside ∙ ap (used strings stage) (slot-sid slots j None n) ∙ used-empty strings stage));
          few = omega (arith, e, t.few);
          begun = begun_is out' c' a e t.begun;
        }

    module _ (x : ℕ) (there : (get_or slots j no_slot).sid ≡ Some x) where
      abbrev id : ℕ
      id = (get_or slots j no_slot).id

      reads : get_or l j None ≡ Some x
      reads = slot-sid slots j (Some x) there

      slot-id : id ≡ slot_id all strings (Some x)
      slot-id = slot-new strings slots g t.others j h (Some x) there

      slot_step : Step strings stage x all
      slot_step =
          let rest = slot_texts strings (drop (j + 1) l) in
          step strings stage (rest ++ t.others) x all
          (ap (λ (o : List (List ℕ)). own_strings_lem o t.others) (stage-rest strings [] l j inside)
          ∙ sym (own-append (used strings stage (get_or l j None)) rest t.others)
          ∙ ap (λ (o : Option ℕ). own_strings_lem (used strings stage o) (rest ++ t.others)) reads)

      slot-used : own_strings_lem [] (slot_texts strings (take (j + 1) l)) ≡ used strings stage (Some x)
      slot-used = stage-more strings [] l j inside ∙ ap (used strings stage) reads

      pub slot_string : id ≡ 391 + c
          → (391 ≤ x) × (c < length all) × (string_text strings x ≡ get_or all c [])
      slot_string i = use_string strings stage all x c t.counts id slot-id i slot_step

      pub slot_next : id ≡ 391 + c → {new : Out} (out' : Out) (c' : ℕ) → out' ≡ new → c' ≡ c + 1
          → Begins mid ix all (c + 1) new → SlotWriting strings slots mid ix out' c' (j + 1)
      slot_next i {new} out' c' a e s =
          record {
            others = t.others;
            meant = t.meant;
            small = t.small;
            within = omega arith;
            counts =
                e ∙ use-more strings stage all x c t.counts id slot-id i slot_step ∙ ap length (sym slot-used);
            few = omega (arith, e, (slot_string i).1);
            begun = begun_is out' c' a e s;
          }

      pub slot_same : (id ≡ 391 + c → ⊥) → (out' : Out) (c' : ℕ) → out' ≡ out → c' ≡ c → SlotWriting strings slots mid ix out' c' (j + 1)
      slot_same i out' c' a e =
          record {
            others = t.others;
            meant = t.meant;
            small = t.small;
            within = omega arith;
            counts =
                e ∙ use-same strings stage all x c t.counts id slot-id i slot_step ∙ ap length (sym slot-used);
            few = omega (arith, e, t.few);
            begun = begun_is out' c' a e t.begun;
          }

-- the first strings are what is begun
begun_as : {mid new : Out} {k : ℕ} (ix : Index) (xs ys : List (List ℕ)) → take k xs ≡ take k ys → Begins mid ix xs k new → Begins mid ix ys k new
begun_as {mid} {new} {k} ix xs ys e b =
    record {
      begun = record {
        is = b.begun.is ∙ ap (λ (l : List (List ℕ)). put (put mid.bytes.now (ix.table + ix.size) (table_bytes ix.size (ends 1 l))) (ix.base + 1) (joined l)) e;
        place = b.begun.place ∙ ap (λ (l : List (List ℕ)). ix.base + 1 + total l) e;
      };
      same = b.same;
      size = b.size;
    }

-- all own strings begin with those of the slots
first_part : (first others : List (List ℕ)) (k : ℕ) → k ≡ length first → take k (own_strings_lem first others) ≡ take k first
first_part first others k e =
    let g = own_grown first others in
    ap (λ (n : ℕ). take n (own_strings_lem first others)) e ∙ ap (take (length first)) g.is ∙ take-append_seam first g.rest
    ∙ sym (ap (λ (n : ℕ). take n first) e ∙ take_all (length first) first (omega arith))

pub slot_end : (strings : List (List ℕ)) (slots : List Slot) → SlotsGiven strings slots → (old : Out) (own : Own) (after mid : Out) (s : Started) (out : Out) (j : ℕ)
    → s.ix ≡ index_for_lem old.at own.count own.total → Writes old (head_bytes own.count (size_for (own.total + 1))) after → mid.bytes ≡ after.bytes
    → SlotWriting strings slots mid s.ix out s.count j → 8 ≤ j → StringsBegun old own (slots_own strings slots) out s
slot_end strings slots g old own after mid s out j is head from t h =
    let first = slots_own strings slots in
    let e : length (sids_of slots) ≡ 8 = sids-length slots ∙ g.eight in
    let n : s.count ≡ length first = t.counts ∙ ap (λ (l : List (Option ℕ)). length (own_strings_lem [] (slot_texts strings l))) (take_all j (sids_of slots) (omega (arith, e))) in
    record {
      after = after;
      mid = mid;
      is = is;
      head = head;
      from = from;
      many = n;
      begun = begun_as s.ix (own_strings_lem first t.others) first (first_part first t.others s.count n) t.begun;
    }

-- ---- an INDEX that was begun

pub slots-alone : (strings : List (List ℕ)) (slots : List Slot) (out : List ℕ) (at : ℕ) (own : Own) → IndexRoom out at (slots_own strings slots) own → StringsRoom strings slots out at own
unfolding own_strings_lem
slots-alone strings slots out at own r = record { others = []; room = r }

module _ (old : Out) (own : Own) (first : List (List ℕ)) (out : Out) (s : Started) (b : StringsBegun old own first out s) where
  -- those of the slots are all
  pub begun_slots : IndexRoom old.bytes.now old.at first own → Writes old (index_bytes first) out
  begun_slots r =
      begins_whole own.count own.total s.ix first s.count b.is (ap (λ (o : Own). o.count) r.is) (ap (λ (o : Own). o.total) r.is) r.room
      b.head b.from b.many b.begun

  -- others are to come behind them
  module _ (others : List (List ℕ)) (r : IndexRoom old.bytes.now old.at (own_strings_lem first others) own) where
    many : own.count ≡ length (own_strings_lem first others)
    many = ap (λ (o : Own). o.count) r.is

    sum : own.total ≡ total (own_strings_lem first others)
    sum = ap (λ (o : Own). o.total) r.is

    size : length b.mid.bytes.now ≡ length old.bytes.now
    size = ap (λ (m : MutBor (List ℕ)). length m.now) b.from ∙ b.head.size

    pub others-meant : Meant (length b.mid.bytes.now) s.ix (own_strings_lem first others)
    others-meant = for_meant (length b.mid.bytes.now) old.at own.count own.total s.ix (own_strings_lem first others) b.is many sum (omega (arith, r.room, size))

    pub others_begun : Begins b.mid s.ix (own_strings_lem first others) s.count out
    others_begun = begun_as s.ix first (own_strings_lem first others) (sym (first_part first others s.count b.many)) b.begun

    -- all strings are written
    pub others-whole : {new : Out} (c : ℕ) → c ≡ length (own_strings_lem first others) → Begins b.mid s.ix (own_strings_lem first others) c new
        → Writes old (index_bytes (own_strings_lem first others)) new
    others-whole c e w =
        begins_whole own.count own.total s.ix (own_strings_lem first others) c b.is many sum r.room b.head b.from e w

-- ---- the strings of the names

module _ (b : List ℕ) (f : Font) (ws : List ℕ) (slots : List Slot) where
  abbrev S : List (List ℕ)
  S = items_of b f.strings

  abbrev order : List ℕ
  order = order_in b f ws

  pub name-start : (c : ℕ) → Naming b f ws slots (own_of (slots_own S slots)) 0 → c ≡ length (slots_own S slots) → NameWriting b f ws slots c 0
  unfolding word_names own_strings_lem
  name-start c n e =
      let g = own_grown (slots_own S slots) (word_names S order) in
      record { naming = n; counts = e; few = omega (arith, e, ap length g.is, length-append (slots_own S slots) g.rest) }

  module _ (c i : ℕ) (t : NameWriting b f ws slots c i) where
    abbrev part : List (List ℕ)
    part = all_own S slots (take i order)

    -- what `given_id` asks
    pub name_asks : c < 4294967296
    name_asks = omega (arith, naming_asks b f ws slots (own_of part) i t.naming, t.counts)

    pub name_end : length order ≤ i → c ≡ length (all_own S slots order)
    name_end h = t.counts ∙ ap (λ (l : List ℕ). length (all_own S slots l)) (take_all i order h)

    module _ (h : i < length order) (w : ℕ) (is : w ≡ get_or order i 0) (id : ℕ) (gives : id ≡ given_id S (sids_of slots) (ids_of slots) c (Some (w / 65536))) where
      given : id ≡ given_id S (sids_of slots) (ids_of slots) (length part) (Some (w / 65536))
      given = gives ∙ ap (λ (n : ℕ). given_id S (sids_of slots) (ids_of slots) n (Some (w / 65536))) t.counts

      new-slot : id ≡ slot_id (all_own S slots order) S (Some (w / 65536))
      new-slot = naming-slot b f ws slots (own_of part) i t.naming h w is id given

      name-step : Step S part (w / 65536) (all_own S slots order)
      name-step = naming-step b f ws slots (own_of part) i t.naming h w is id given

      on : Naming b f ws slots (own_of (all_own S slots (take (i + 1) order))) (i + 1)
      on =
          let n = naming-next b f ws slots (own_of part) i t.naming h w is id given (counted S (own_of part) (w / 65536) id) refl in
          rw n.counts at n

      name-used : all_own S slots (take (i + 1) order) ≡ used S part (Some (w / 65536))
      name-used = naming-used b f ws slots (own_of part) i t.naming h w is id given

      pub name_string : id ≡ 391 + c → (391 ≤ w / 65536) × (c < length (all_own S slots order)) × (string_text S (w / 65536) ≡ get_or (all_own S slots order) c [])
      name_string k = use_string S part (all_own S slots order) (w / 65536) c t.counts id new-slot k name-step

      pub name-next : id ≡ 391 + c → (c' : ℕ) → c' ≡ c + 1 → NameWriting b f ws slots c' (i + 1)
      name-next k c' e =
          record {
            naming = on;
            counts = e ∙ use-more S part (all_own S slots order) (w / 65536) c t.counts id new-slot k name-step ∙ ap length (sym name-used);
            few = omega (arith, e, (name_string k).1);
          }

      pub name-same : (id ≡ 391 + c → ⊥) → (c' : ℕ) → c' ≡ c → NameWriting b f ws slots c' (i + 1)
      name-same k c' e =
          record {
            naming = on;
            counts = e ∙ use-same S part (all_own S slots order) (w / 65536) c t.counts id new-slot k name-step ∙ ap length (sym name-used);
            few = omega (arith, e, t.few);
          }
