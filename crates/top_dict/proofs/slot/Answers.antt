-- `top_dict::slot` meets its contract: the slot tells whether there is an entry.
use Rattle.std.proofs.Common.{subst, sym, List, ℕ}
use Rattle.top_dict.specs.TopLaws.{slot_small, slot_there, slot-none}
use Rattle.top_dict.proofs.slot.Goals as goal

pub value-requires : goal.value-requires
value-requires g c = (c.requires.1, slot_small _ _ c.requires.3 c.requires.0, subst (λ (l : List ℕ). g.S.Sink.room c.args.to.now l) (sym (slot_there c.args.slots.now c.args.j c.args.op _ c.in-Some.is)) c.requires.2)

pub returns-in-None : goal.returns-in-None
returns-in-None g c = subst (λ (l : List ℕ). g.S.Sink.takes c.args.to.now l c.args.to.now) (slot-none c.args.slots.now c.args.j c.args.op c.in-None.is) (g.met.S.Sink.follows.none _)

pub returns-in-Some : goal.returns-in-Some
returns-in-Some g c = subst (λ (l : List ℕ). g.S.Sink.takes c.args.to.now l c.value.new.to) (slot_there c.args.slots.now c.args.j c.args.op _ c.in-Some.is) c.value.ensures
