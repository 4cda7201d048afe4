-- `dict::op::subset_slot` meets its contract: each operator that subsetting asks for has its own slot.
use Rattle.std.proofs.Common.{ap, sym}
use Rattle.dict.specs.Noted.{asked_by_subsetting, slot_of}
use Rattle.dict.proofs.NotedLaws.{slot-none}
use Rattle.dict.proofs.op.subset_slot.Goals as goal

pub returns-in-5 : goal.returns-in-5
unfolding slot_of
returns-in-5 c = sym (ap (slot_of asked_by_subsetting) c.in-5.is)

pub returns-in-3073 : goal.returns-in-3073
unfolding slot_of
returns-in-3073 c = sym (ap (slot_of asked_by_subsetting) c.in-3073.is)

pub returns-in-3074 : goal.returns-in-3074
unfolding slot_of
returns-in-3074 c = sym (ap (slot_of asked_by_subsetting) c.in-3074.is)

pub returns-in-3075 : goal.returns-in-3075
unfolding slot_of
returns-in-3075 c = sym (ap (slot_of asked_by_subsetting) c.in-3075.is)

pub returns-in-3076 : goal.returns-in-3076
unfolding slot_of
returns-in-3076 c = sym (ap (slot_of asked_by_subsetting) c.in-3076.is)

pub returns-in-3079 : goal.returns-in-3079
unfolding slot_of
returns-in-3079 c = sym (ap (slot_of asked_by_subsetting) c.in-3079.is)

pub returns-in-0 : goal.returns-in-0
unfolding slot_of
returns-in-0 c = sym (ap (slot_of asked_by_subsetting) c.in-0.is)

pub returns-in-1 : goal.returns-in-1
unfolding slot_of
returns-in-1 c = sym (ap (slot_of asked_by_subsetting) c.in-1.is)

pub returns-in-3072 : goal.returns-in-3072
unfolding slot_of
returns-in-3072 c = sym (ap (slot_of asked_by_subsetting) c.in-3072.is)

pub returns-in-2 : goal.returns-in-2
unfolding slot_of
returns-in-2 c = sym (ap (slot_of asked_by_subsetting) c.in-2.is)

pub returns-in-3 : goal.returns-in-3
unfolding slot_of
returns-in-3 c = sym (ap (slot_of asked_by_subsetting) c.in-3.is)

pub returns-in-4 : goal.returns-in-4
unfolding slot_of
returns-in-4 c = sym (ap (slot_of asked_by_subsetting) c.in-4.is)

pub returns-in-3102 : goal.returns-in-3102
unfolding slot_of
returns-in-3102 c = sym (ap (slot_of asked_by_subsetting) c.in-3102.is)

pub returns-in-3106 : goal.returns-in-3106
unfolding slot_of
returns-in-3106 c = sym (ap (slot_of asked_by_subsetting) c.in-3106.is)

pub returns-in-3077 : goal.returns-in-3077
unfolding slot_of
returns-in-3077 c = sym (ap (slot_of asked_by_subsetting) c.in-3077.is)

pub returns-in_default : goal.returns-in_default
returns-in_default c =
    let m = c.in_default.in_default-own.rest in
    slot-none asked_by_subsetting _ (m.0.0.0.0.0.0.0.0.0.0.0.0.0.0.1, (m.0.0.0.0.0.0.0.0.0.0.0.0.0.1, (m.0.0.0.0.0.0.0.0.0.0.0.0.1, (m.0.0.0.0.0.0.0.0.0.0.0.1, (m.0.0.0.0.0.0.0.0.0.0.1, (m.0.0.0.0.0.0.0.0.0.1, (m.0.0.0.0.0.0.0.0.1, (m.0.0.0.0.0.0.0.1, (m.0.0.0.0.0.0.1, (m.0.0.0.0.0.1, (m.0.0.0.0.1, (m.0.0.0.1, (m.0.0.1, (m.0.1, (m.1, tt)))))))))))))))
