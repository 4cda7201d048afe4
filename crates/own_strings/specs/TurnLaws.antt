-- Laws for one string id at a time: the text of an id, the slot that has a text, the id that a slot is given and what is counted.
use Rattle.std.specs.Prelude.{ℕ, zero, suc, ◌+◌, ◌-◌, ◌<◌, ◌≤◌, ◌≡◌, refl, Bool, true, false, cond, ltb, take, drop, get_or, set, position, None, Option, Some}
use Rattle.std.proofs.Math.Path.{sym, ap}
use Rattle.std.proofs.Common.{◌∙◌, arith, take_all}
use mathlib.Core.List.{List, [], ◌∷◌, ◌++◌}
use borrow.Author.Tests.{ltb-true, ltb-false, lt-ltb, le-ltb, eq-eqb, ne_eqb}
use Rattle.std.proofs.Math.ListN.{length, length-append, get_or-map}
use Rattle.std.proofs.Math.Seq.{get_or-append-add, length-take-le, map-set_same, take-set-lt}
use Rattle.std.proofs.lemmas.List.{drop-set-lt, length-map, length-set, map-set, take_more, take_more_set}
use Rattle.std.specs.List.{position_from}
use Rattle.std.proofs.lemmas.Iterator.Adapters.{position_from-zero}
use Rattle.index.specs.Index.{items_of}
use Rattle.index.specs.IndexLaws.{items-length, item-short}
use Rattle.index.specs.declared.Index.{Index}
use Rattle.dict.specs.Op.{copied_top_strings}
use Rattle.dict.specs.Dict.{Entry}
use Rattle.dict.specs.Lookup.{id_in, ros_in, a_ros}
use Rattle.dict.specs.declared.RosEntry.{RosEntry}
use Rattle.decimal.specs.declared.Signed.{Signed}
use Rattle.strings.specs.Strings.{string_text, sid_of}
use Rattle.strings.proofs.StringsLaws.{string_own, string_none}
use Rattle.own_strings.specs.declared.Own.{Own}
use Rattle.own_strings.specs.declared.slots.Slot.{Slot}
use Rattle.own_strings.specs.Slots.{sids_of, ids_of, no_slot, ros_slots, first_slots, entry_slots, slots_of, slot_has, slot_with, given_or, given_id, counted}
use Rattle.own_strings.specs.Ready.{HasStrings}

-- ---- the slots of a top DICT

ros-length : (r : Option RosEntry) → length (ros_slots r) ≡ 2
ros-length None = refl
ros-length (Some q) = refl

pub first-length : (cid : Bool) (es : List Entry) → length (first_slots cid es) ≡ 2
first-length true es = ros-length (ros_in es)
first-length false es = refl

pub slots_length : (es : List Entry) (ops : List ℕ) → length (entry_slots es ops) ≡ length ops
unfolding entry_slots
slots_length es [] = refl
slots_length es (op ∷ ops) = ap suc (slots_length es ops)

pub slots_at : (es : List Entry) (ops : List ℕ) (k : ℕ) → k < length ops → get_or (entry_slots es ops) k None ≡ id_in (get_or ops k 0) es
unfolding entry_slots
slots_at es [] k h = absurd (omega arith)
slots_at es (op ∷ ops) zero h = refl
slots_at es (op ∷ ops) (suc k) h = slots_at es ops k (omega arith)

pub slots_eight : (cid : Bool) (es : List Entry) → length (slots_of cid es) ≡ 8
unfolding slots_of
slots_eight cid es =
    length-append (first_slots cid es) (entry_slots es copied_top_strings) ∙ omega (arith, first-length cid es, slots_length es copied_top_strings)

-- the string entries stand behind the first two
pub entry_at : (cid : Bool) (es : List Entry) (k : ℕ) → k < 6 → get_or (slots_of cid es) (2 + k) None ≡ id_in (get_or copied_top_strings k 0) es
unfolding slots_of
entry_at cid es k h =
    let n : 2 + k ≡ length (first_slots cid es) + k = omega (arith, first-length cid es) in
    ap (λ (i : ℕ). get_or (first_slots cid es ++ entry_slots es copied_top_strings) i None) n
    ∙ get_or-append-add (first_slots cid es) (entry_slots es copied_top_strings) k None ∙ slots_at es copied_top_strings k h

module _ (cid : Bool) (es : List Entry) (j : ℕ) where
  pub named-entry : 2 ≤ j → j < 8 → (op : ℕ) → op ≡ get_or copied_top_strings (j - 2) 0 → (sid : Option ℕ) → sid ≡ id_in op es → sid ≡ get_or (slots_of cid es) j None
  named-entry l h op o sid e =
      let n : 2 + (j - 2) ≡ j = omega (arith, l) in
      e ∙ ap (λ (p : ℕ). id_in p es) o ∙ sym (entry_at cid es (j - 2) (omega (arith, l))) ∙ ap (λ (i : ℕ). get_or (slots_of cid es) i None) n

  -- of a name-keyed font none
  pub named-none : j < 2 → cid ≡ false → None ≡ get_or (slots_of cid es) j None
  unfolding slots_of
  named-none h c = rw c (two j h)
    where
      two : (i : ℕ) → i < 2 → None ≡ get_or (None ∷ None ∷ entry_slots es copied_top_strings) i None
      two zero k = refl
      two (suc zero) k = refl
      two (suc (suc i)) k = absurd (omega arith)

  module _ (h : j < 2) (c : cid ≡ true) (found : Option RosEntry) (r : found ≡ ros_in es) where
    first_is : slots_of cid es ≡ ros_slots found ++ entry_slots es copied_top_strings
    unfolding slots_of
    first_is = rw c (ap (λ (q : Option RosEntry). ros_slots q ++ entry_slots es copied_top_strings) (sym r))

    pub named-no_ros : found ≡ None → None ≡ get_or (slots_of cid es) j None
    named-no_ros e = two j h ∙ ap (λ (l : List (Option ℕ)). get_or l j None) (sym (first_is ∙ ap (λ (q : Option RosEntry). ros_slots q ++ entry_slots es copied_top_strings) e))
      where
        two : (i : ℕ) → i < 2 → None ≡ get_or (None ∷ None ∷ entry_slots es copied_top_strings) i None
        two zero k = refl
        two (suc zero) k = refl
        two (suc (suc i)) k = absurd (omega arith)

    module _ (registry ordering : ℕ) (s : Signed) (e : found ≡ a_ros registry ordering s) where
      there : slots_of cid es ≡ Some registry ∷ Some ordering ∷ entry_slots es copied_top_strings
      there = first_is ∙ ap (λ (q : Option RosEntry). ros_slots q ++ entry_slots es copied_top_strings) e

      pub named-registry : j ≡ 0 → Some registry ≡ get_or (slots_of cid es) j None
      named-registry z = rw z (ap (λ (l : List (Option ℕ)). get_or l 0 None) (sym there))

      pub named-ordering : (j ≡ 0 → ⊥) → Some ordering ≡ get_or (slots_of cid es) j None
      named-ordering n =
          let o : j ≡ 1 = omega (arith, n, h) in
          rw o (ap (λ (l : List (Option ℕ)). get_or l 1 None) (sym there))

-- a list that is made element by element
pub turn-set : {X : Type 0} (xs ys : List X) (j : ℕ) (y d : X) → j < length xs → j < length ys → take j xs ≡ take j ys → y ≡ get_or ys j d → take (j + 1) (set xs j y) ≡ take (j + 1) ys
turn-set {X} xs ys j y d h k e is =
    take_more_set xs j y h ∙ ap (λ (l : List X). l ++ (y ∷ [])) e ∙ ap (λ (z : X). take j ys ++ (z ∷ [])) is ∙ sym (take_more ys j d k)

pub sids-length : (slots : List Slot) → length (sids_of slots) ≡ length slots
sids-length slots = length-map slots (λ (s : Slot). s.sid)

pub ids_count : (slots : List Slot) → length (ids_of slots) ≡ length slots
ids_count slots = length-map slots (λ (s : Slot). s.id)

-- the slots so far
pub slots-next : (cid : Bool) (es : List Entry) (slots : List Slot) (j : ℕ) → j < length slots → j < 8 → take j (sids_of slots) ≡ take j (slots_of cid es)
    → (sid : Option ℕ) (id : ℕ) → sid ≡ get_or (slots_of cid es) j None → take (j + 1) (sids_of (set slots j (record { sid = sid; id = id }))) ≡ take (j + 1) (slots_of cid es)
slots-next cid es slots j h k e sid id is =
    ap (take (j + 1)) (map-set (λ (s : Slot). s.sid) slots j (record { sid = sid; id = id }))
    ∙ turn-set (sids_of slots) (slots_of cid es) j sid None (omega (arith, sids-length slots)) (omega (arith, slots_eight cid es)) e is

pub slots-all : (cid : Bool) (es : List Entry) (slots : List Slot) (j : ℕ) → length slots ≡ 8 → 8 ≤ j → take j (sids_of slots) ≡ take j (slots_of cid es) → sids_of slots ≡ slots_of cid es
slots-all cid es slots j n h e =
    sym (take_all j (sids_of slots) (omega (arith, sids-length slots))) ∙ e ∙ take_all j (slots_of cid es) (omega (arith, slots_eight cid es))

-- before slot j: those before it have their string ids; the new ids and what is behind the eighth slot are as they were
pub record SlotsPut (named : List (Option ℕ)) (old now : List Slot) (j : ℕ) : Type 0 where
  pub long : 8 ≤ length now
  pub front : take j (sids_of (take 8 now)) ≡ take j named
  pub ids : ids_of now ≡ ids_of old
  pub rest : drop 8 now ≡ drop 8 old

pub put-start : (named : List (Option ℕ)) (slots : List Slot) → 8 ≤ length slots → SlotsPut named slots slots 0
put-start named slots h = record { long = h; front = refl; ids = refl; rest = refl }

module _ (cid : Bool) (es : List Entry) (old now : List Slot) (j : ℕ) (p : SlotsPut (slots_of cid es) old now j) where
  pub put-next : j < 8 → (sid : Option ℕ) → sid ≡ get_or (slots_of cid es) j None
      → SlotsPut (slots_of cid es) old (set now j (record { sid = sid; id = (get_or now j no_slot).id })) (j + 1)
  put-next h sid is = put (record { sid = sid; id = (get_or now j no_slot).id }) refl refl
    where
      put : (s : Slot) → s.sid ≡ sid → s.id ≡ (get_or now j no_slot).id → SlotsPut (slots_of cid es) old (set now j s) (j + 1)
      put s e i =
          record {
            long = omega (arith, length-set now j s, p.long);
            front =
                ap (λ (l : List Slot). take (j + 1) (sids_of l)) (take-set-lt 8 now j s h)
                ∙ slots-next cid es (take 8 now) j (omega (arith, length-take-le 8 now p.long)) h p.front s.sid s.id (e ∙ is);
            ids = map-set_same (λ (x : Slot). x.id) now j s no_slot i ∙ p.ids;
            rest = drop-set-lt 8 now j s h ∙ p.rest;
          }

  pub put-all : 8 ≤ j → (sids_of (take 8 now) ≡ slots_of cid es) × (ids_of now ≡ ids_of old) × (drop 8 now ≡ drop 8 old)
  put-all h = (slots-all cid es (take 8 now) j (length-take-le 8 now p.long) h p.front, p.ids, p.rest)

-- ---- texts

pub text-none : (b : List ℕ) (ix : Index) (sid : ℕ) → 391 ≤ sid → ix.count ≤ sid - 391 → [] ≡ string_text (items_of b ix) sid
text-none b ix sid l h = sym (string_none (items_of b ix) sid (omega (arith, items-length b ix)))

-- a text of the font is no longer than it
pub text-short : (b : List ℕ) (ix : Index) → HasStrings b ix → (sid : ℕ) → 391 ≤ sid → length (string_text (items_of b ix) sid) ≤ 67108864
text-short b ix g sid h = short (ltb (sid - 391) ix.count) refl
  where
    short : (t : Bool) → ltb (sid - 391) ix.count ≡ t → length (string_text (items_of b ix) sid) ≤ 67108864
    short true e =
        let k : sid - 391 < ix.count = ltb-true (sid - 391) ix.count e in
        omega (arith, item-short b ix g.good (sid - 391) k, ap length (string_own (items_of b ix) sid h), g.small)
    short false e =
        let k : ix.count ≤ sid - 391 = ltb-false (sid - 391) ix.count e in
        omega (arith, ap length (text-none b ix sid h k))

-- ---- the slot that has a text

with_from : (strings : List (List ℕ)) (t : List ℕ) (k : ℕ) (slots : List Slot)
    → position_from (λ (s : Slot). slot_has strings t s.sid) k slots ≡ position_from (slot_has strings t) k (sids_of slots)
with_from strings t k [] = refl
with_from strings t k (s ∷ ss) = ap (cond (slot_has strings t s.sid) (Some k)) (with_from strings t (k + 1) ss)

pub with-sids : (strings : List (List ℕ)) (t : List ℕ) (slots : List Slot) → position (λ (s : Slot). slot_has strings t s.sid) slots ≡ slot_with strings t (sids_of slots)
with-sids strings t slots =
    position_from-zero (λ (s : Slot). slot_has strings t s.sid) slots ∙ with_from strings t 0 slots ∙ sym (position_from-zero (slot_has strings t) (sids_of slots))

-- ---- the id that a string id is given, after slots

module _ (strings : List (List ℕ)) (slots : List Slot) (count : ℕ) (o : Option ℕ) where
  abbrev given : ℕ
  given = given_id strings (sids_of slots) (ids_of slots) count o

  pub given-none : o ≡ None → 0 ≡ given
  unfolding given_id
  given-none h = rw h

  module _ (x : ℕ) (is : o ≡ Some x) where
    pub given-low : x < 391 → x ≡ given
    unfolding given_id
    given-low h = rw (is, lt-ltb x 391 h)

    module _ (high : 391 ≤ x) (text : List ℕ) (e : text ≡ string_text strings x) (sid : Option ℕ) (s : sid ≡ sid_of text) where
      pub given-standard : (k : ℕ) → sid ≡ Some k → k ≡ given
      unfolding given_id
      given-standard k f =
          let g : sid_of (string_text strings x) ≡ Some k = ap sid_of (sym e) ∙ sym s ∙ f in
          rw (is, le-ltb x 391 high, g)

      other : sid ≡ None → (r : Option ℕ) → r ≡ slot_with strings text (sids_of slots) → given_or (ids_of slots) count r ≡ given
      unfolding given_id
      other f r w =
          let g : sid_of (string_text strings x) ≡ None = ap sid_of (sym e) ∙ sym s ∙ f in
          ap (given_or (ids_of slots) count) w ∙ rw (is, le-ltb x 391 high, g, e)

      module _ (f : sid ≡ None) (r : Option ℕ) (w : r ≡ slot_with strings text (sids_of slots)) where
        pub given-slot : (j : ℕ) → r ≡ Some j → (get_or slots j no_slot).id ≡ given
        given-slot j q = sym (get_or-map (λ (s : Slot). s.id) slots j no_slot) ∙ sym (ap (given_or (ids_of slots) count) q) ∙ other f r w

        pub given-next : r ≡ None → 391 + count ≡ given
        given-next q = sym (ap (given_or (ids_of slots) count) q) ∙ other f r w

-- ---- what is counted

module _ (strings : List (List ℕ)) (own : Own) (x id : ℕ) where
  pub count_low : x < 391 → own ≡ counted strings own x id
  unfolding counted
  count_low h = rw (lt-ltb x 391 h)

  pub count_same : 391 ≤ x → (id ≡ 391 + own.count → ⊥) → own ≡ counted strings own x id
  unfolding counted
  count_same h n = rw (le-ltb x 391 h, ne_eqb id (391 + own.count) n)

  pub count_next : 391 ≤ x → id ≡ 391 + own.count → (text : List ℕ) → text ≡ string_text strings x
      → record { count = own.count + 1; total = own.total + length text } ≡ counted strings own x id
  unfolding counted
  count_next h n text e = rw (le-ltb x 391 h, eq-eqb id (391 + own.count) n, e)
