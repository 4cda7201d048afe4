-- `front::prepare_slots` meets its contract: the slots of the top DICT, and then their new ids.
use Rattle.std.proofs.Common.{ap, arith, length, length-take-le, sym, take, ◌≡◌, ◌∙◌}
use Rattle.std.proofs.lemmas.List.{take-map}
use Rattle.cff.specs.Loaded.{program}
use Rattle.own_strings.specs.declared.slots.Slot.{Slot}
use Rattle.own_strings.specs.Slots.{sids_of, own_of}
use Rattle.front.specs.SlotLaws.{slots_ready, slots_same}
use Rattle.front.proofs.prepare_slots.Goals as goal

pub returns : goal.returns
returns c =
    let p = program c.args.font.now in
    let mid = c.put_slots.new.slots in
    let new = c.put_slot_ids.new.slots in
    let first = c.put_slots.ensures.0 in
    let ids = rw (c.strings.ensures.0, c.strings.ensures.1) at c.put_slot_ids.ensures in
    let eight : length (take 8 mid) ≡ 8 = length-take-le 8 mid (omega (arith, c.put_slots.auto.slots, c.requires.1)) in
    let same : sids_of (take 8 new) ≡ sids_of (take 8 mid) = sym (take-map (λ (s : Slot). s.sid) 8 new) ∙ ap (take 8) ids.0 ∙ take-map (λ (s : Slot). s.sid) 8 mid in (
      slots_ready p c.args.cid _ _ eight first same ids.1,
      ids.3 ∙ ap own_of (slots_same p c.args.cid _ _ eight first same ids.1),
    )
