-- `dict::note_entries` meets its contract: what was noted so far, and what is left of the DICT, give what the whole does.
use Rattle.std.proofs.Common.{ap, arith, refl, ◌∙◌}
use Rattle.refusal.specs.HandedOn.{handed_on}
use Rattle.dict.specs.Held.{ReadsDict}
use Rattle.dict.specs.Ahead.{entries_left}
use Rattle.dict.proofs.EntriesLaws.{left-next, left_done}
use Rattle.dict.proofs.NotedLaws.{slot-few, noting_start, noting_end, noting_placed, noting_refused, noting_turn}
use Rattle.dict.proofs.note_entries.Goals as goal

pub loop-entry-init : goal.loop-entry-init
loop-entry-init c = record { at = 0; rest = ap entries_left c.into_iter-entry-iterator.ensures.into_iter_gives ∙ c.new-entry-items.ensures; so = noting_start _ _ }

pub returns-in_err-entry : goal.returns-in_err-entry
returns-in_err-entry c =
    let n = left-next _ _ _ c.loop-entry.invariant _ _ c.in-Some.ensures.steps in
    handed_on _ _ (ReadsDict c.args.d.now) c.from_residual.ensures.1
    (noting_refused _ _ _ _ c.loop-entry.invariant.so n.inside _ n.first _ c.in_err-entry.was)

pub offset_bounds-last-j : goal.offset_bounds-last-j
offset_bounds-last-j c = omega (arith, slot-few _ _ _ c.slot-j.ensures)

pub bounds-last-j : goal.bounds-last-j
bounds-last-j c = slot-few _ _ _ c.slot-j.ensures

pub loop-entry-preserved : goal.loop-entry-preserved
loop-entry-preserved c =
    let n = left-next _ _ _ c.loop-entry.invariant _ _ c.in-Some.ensures.steps in
    record { at = c.in_ok-entry.entry.next; rest = n.on _ c.in_ok-entry.was; so = noting_turn _ _ _ _ c.loop-entry.invariant.so n.inside _ n.first _ c.in_ok-entry.was _ c.slot-j.ensures }

pub invariant_of-result : goal.invariant_of-result
invariant_of-result c = let i = c.loop-entry.invariant in record { placed = noting_placed _ _ _ _ i.so (left_done _ _ _ i c.in-None.ensures.steps.0) }

pub returns : goal.returns
returns c = let i = c.loop-entry.invariant in (noting_end _ _ _ _ i.so (left_done _ _ _ i c.in-None.ensures.steps.0), refl)
