-- `own_strings::given_id` meets its contract: by the kind of string id, and by the first slot that has its text.
use Rattle.index.specs.Items.{items}
use Rattle.own_strings.specs.TurnLaws.{given-none, given-low, given-standard, given-slot, given-next}
use Rattle.own_strings.proofs.given_id.Goals as goal

pub returns-in_default : goal.returns-in_default
returns-in_default c = given-none (items c.args.strings.now) c.args.slots.now c.args.count c.args.sid c.in_default.is

pub returns-then-x-lt391 : goal.returns-then-x-lt391
returns-then-x-lt391 c = given-low (items c.args.strings.now) c.args.slots.now c.args.count c.args.sid _ c.in-Some.is c.if-x-lt391.true

pub returns-in-Some-sid_of : goal.returns-in-Some-sid_of
returns-in-Some-sid_of c =
    given-standard _ c.args.slots.now c.args.count c.args.sid _ c.in-Some.is c.if-x-lt391.false _ c.own_text-text.ensures _ c.sid_of.ensures _ c.in-Some-sid_of.is

pub returns-in-Some-slot_with : goal.returns-in-Some-slot_with
returns-in-Some-slot_with c =
    given-slot _ _ c.args.count c.args.sid _ c.in-Some.is c.if-x-lt391.false _ c.own_text-text.ensures _ c.sid_of.ensures c.in-None.is _ c.slot_with.ensures _ c.in-Some-slot_with.is

pub returns-in-None-slot_with : goal.returns-in-None-slot_with
returns-in-None-slot_with c =
    given-next _ _ c.args.count c.args.sid _ c.in-Some.is c.if-x-lt391.false _ c.own_text-text.ensures _ c.sid_of.ensures c.in-None.is _ c.slot_with.ensures c.in-None-slot_with.is
