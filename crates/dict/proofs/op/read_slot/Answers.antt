-- `dict::op::read_slot` meets its contract: each operator that reading asks for has its own slot.
use Rattle.std.proofs.Common.{ap, sym}
use Rattle.dict.specs.Noted.{asked_by_reading, slot_of}
use Rattle.dict.proofs.NotedLaws.{slot-none}
use Rattle.dict.proofs.op.read_slot.Goals as goal

pub returns-in-15 : goal.returns-in-15
unfolding slot_of
returns-in-15 c = sym (ap (slot_of asked_by_reading) c.in-15.is)

pub returns-in-16 : goal.returns-in-16
unfolding slot_of
returns-in-16 c = sym (ap (slot_of asked_by_reading) c.in-16.is)

pub returns-in-17 : goal.returns-in-17
unfolding slot_of
returns-in-17 c = sym (ap (slot_of asked_by_reading) c.in-17.is)

pub returns-in-18 : goal.returns-in-18
unfolding slot_of
returns-in-18 c = sym (ap (slot_of asked_by_reading) c.in-18.is)

pub returns-in-19 : goal.returns-in-19
unfolding slot_of
returns-in-19 c = sym (ap (slot_of asked_by_reading) c.in-19.is)

pub returns-in-3078 : goal.returns-in-3078
unfolding slot_of
returns-in-3078 c = sym (ap (slot_of asked_by_reading) c.in-3078.is)

pub returns-in-3102 : goal.returns-in-3102
unfolding slot_of
returns-in-3102 c = sym (ap (slot_of asked_by_reading) c.in-3102.is)

pub returns-in-3108 : goal.returns-in-3108
unfolding slot_of
returns-in-3108 c = sym (ap (slot_of asked_by_reading) c.in-3108.is)

pub returns-in-3109 : goal.returns-in-3109
unfolding slot_of
returns-in-3109 c = sym (ap (slot_of asked_by_reading) c.in-3109.is)

pub returns-in_default : goal.returns-in_default
returns-in_default c =
    let m = c.in_default.in_default-own.rest in
    slot-none asked_by_reading _ (m.0.0.0.0.0.0.0.0.1, (m.0.0.0.0.0.0.0.1, (m.0.0.0.0.0.0.1, (m.0.0.0.0.0.1, (m.0.0.0.0.1, (m.0.0.0.1, (m.0.0.1, (m.0.1, (m.1, tt)))))))))
