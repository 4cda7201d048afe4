-- `own_strings::slot_with` meets its contract: the place of the first slot that has the text.
use Rattle.std.proofs.Common.{rules, ◌∙◌}
use Rattle.std.proofs.lemmas.Iterator.{YieldsList-from_slice}
use Rattle.std.proofs.lemmas.Iterator.Search.{position_from_yields_List}
use Rattle.index.specs.Items.{items}
use Rattle.own_strings.specs.Slots.{slot_has}
use Rattle.own_strings.specs.declared.slots.Slot.{Slot}
use Rattle.own_strings.specs.TurnLaws.{with-sids}
use Rattle.own_strings.proofs.slot_with.Goals as goal

pub returns : goal.returns
returns c =
    let a = c.args in
    position_from_yields_List (λ (s : Slot). slot_has (items a.strings.now) a.text.now s.sid) c.position.new.self _ c.position.result c.position.ensures.ran (YieldsList-from_slice a.slots.now c.iter.ensures.rest) (λ x b q k. search rules)
    ∙ with-sids (items a.strings.now) a.text.now a.slots.now
