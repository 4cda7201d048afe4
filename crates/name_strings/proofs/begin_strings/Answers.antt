-- `begin_strings` meets its contract: of the slots those are written whose id is the next. The invariant: c strings stand behind the head.
use Rattle.std.proofs.Common.{List, ap, arith, length, refl, sym, take, ℕ, ◌∙◌, ◌≡◌}
use Rattle.index.specs.Items.{items}
use Rattle.index.specs.Write.{total}
use Rattle.index.specs.WriteLaws.{head-room}
use Rattle.index.specs.ItemOutLaws.{begins_room, begins_more}
use Rattle.subset.specs.Texts.{own_strings_lem}
use Rattle.own_strings.specs.declared.Own.{Own}
use Rattle.own_strings.specs.Slots.{slots_own}
use Rattle.own_strings.specs.IdsLaws.{given-long, sid_first, id_first}
use Rattle.name_strings.specs.WriteLaws.{slot-meant, slot-start, slot_none, slot_string, slot_next, slot_same, slot_end}
use Rattle.name_strings.proofs.begin_strings.Goals as goal
use Rattle.name_strings.proofs.begin_strings.Goals.{in-None, in-Some+then-slot-c, in-Some+else-slot-c, Start}

-- the own strings
abbrev all : Start → List (List ℕ)
all s = own_strings_lem (slots_own (items s.args.slots.now.strings) (take 8 s.args.slots.now.slots.now)) s.requires.others

many : (s : Start) → s.args.own.count ≡ length (all s)
many s = ap (λ (o : Own). o.count) s.requires.room.is

sum : (s : Start) → s.args.own.total ≡ total (all s)
sum s = ap (λ (o : Own). o.total) s.requires.room.is

pub put_head-requires : goal.put_head-requires
put_head-requires c =
    (c.requires.room.small, head-room _ c.args.out.now.at c.args.own.count c.args.own.total (all (goal.at.put_head-requires c).Start) (many (goal.at.put_head-requires c).Start) (sum (goal.at.put_head-requires c).Start) c.requires.room.room)

pub overflow_add-out : goal.overflow_add-out
overflow_add-out c =
    omega (arith, (slot-meant _ _ c.args.slots.now.given _ _ c.args.out.now.at c.args.own _ c.requires c.index_for-ix.ensures c.put_head.ensures.size).room)

pub loop-j-init : goal.loop-j-init
loop-j-init c = slot-start _ _ c.args.slots.now.given _ _ c.args.out.now.at c.args.own _ c.requires c.index_for-ix.ensures c.put_head.ensures.size refl

pub bounds-slots-j : goal.bounds-slots-j
bounds-slots-j c = omega (arith, c.loop-j-test.true, given-long _ c.args.slots.now.slots.now c.args.slots.now.given)

pub own_text-text-requires : goal.own_text-text-requires
own_text-text-requires c =
    (slot_string _ _ c.args.slots.now.given _ _ _ _ _ c.loop-j.invariant c.loop-j-test.true _ (sid_first _ _ c.loop-j-test.true _ c.in-Some.is) (id_first _ _ c.loop-j-test.true ∙ c.if-slot-c.true)).0

pub put_item-requires : goal.put_item-requires
put_item-requires c =
    let v = c.loop-j.invariant in
    let q = slot_string _ _ c.args.slots.now.given _ _ _ _ _ v c.loop-j-test.true _ (sid_first _ _ c.loop-j-test.true _ c.in-Some.is) (id_first _ _ c.loop-j-test.true ∙ c.if-slot-c.true) in
    begins_room v.meant _ q.1 (c.own_text-text.ensures ∙ q.2) v.begun

pub loop-j-preserved : goal.loop-j-preserved
loop-j-preserved c =
    let v = c.loop-j.invariant in
    let g = c.args.slots.now.given in
    elim c.match-slot.branch [
      | in-None h ↦ slot_none _ _ g _ _ _ _ _ v c.loop-j-test.true (sid_first _ _ c.loop-j-test.true _ h.in-None.is) _ _ h.out-is h.c-is
      | in-Some+then-slot-c h ↦ let q = slot_string _ _ g _ _ _ _ _ v c.loop-j-test.true _ (sid_first _ _ c.loop-j-test.true _ h.in-Some.is) (id_first _ _ c.loop-j-test.true ∙ h.if-slot-c.true) in
          slot_next _ _ g _ _ _ _ _ v c.loop-j-test.true _ (sid_first _ _ c.loop-j-test.true _ h.in-Some.is) (id_first _ _ c.loop-j-test.true ∙ h.if-slot-c.true) _ _ h.out-is h.c-is
          (begins_more v.meant _ q.1 (h.own_text-text.ensures ∙ q.2) v.begun h.put_item.ensures)
      | in-Some+else-slot-c h ↦ slot_same _ _ g _ _ _ _ _ v c.loop-j-test.true _ (sid_first _ _ c.loop-j-test.true _ h.in-Some.is) (λ e. h.if-slot-c.false (sym (id_first _ _ c.loop-j-test.true) ∙ e)) _ _ h.out-is h.c-is
    ]

pub returns : goal.returns
returns c =
    slot_end _ _ c.args.slots.now.given _ c.args.own _ _ _ _ _ c.index_for-ix.ensures c.put_head.ensures refl c.loop-j.invariant c.loop-j-test.false
