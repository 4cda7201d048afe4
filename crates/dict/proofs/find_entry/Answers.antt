-- `dict::find_entry` meets its contract: what was found so far, and what is left of the DICT, give what the whole does; and what is left is refused as the whole is.
use Rattle.std.proofs.Common.{ap, ◌∙◌}
use Rattle.dict.specs.Ahead.{entries_left}
use Rattle.dict.proofs.EntriesLaws.{left-next, left_done}
use Rattle.dict.proofs.WalkLaws.{checking_start, checking_end, checking_refused, checking_turn, finding_start, finding_end, finding_stopped, finding_here, finding_on}
use Rattle.dict.proofs.find_entry.Goals as goal

pub loop-entry-init : goal.loop-entry-init
loop-entry-init c = record { at = 0; rest = ap entries_left c.into_iter-entry-iterator.ensures.into_iter_gives ∙ c.new-entry-items.ensures; so = (checking_start _, finding_start _ _) }

pub loop-entry-preserved-then-entry-op : goal.loop-entry-preserved-then-entry-op
loop-entry-preserved-then-entry-op c =
    let i = c.loop-entry.invariant in
    let n = left-next _ _ _ i _ _ c.in-Some.ensures.steps in
    record {
      at = c.in-Ok.entry.next;
      rest = n.on _ c.in-Ok.is;
      so = (checking_turn _ _ i.so.0 n.inside _ n.first _ c.in-Ok.is, finding_here _ _ _ _ i.so.1 n.inside _ n.first _ c.in-Ok.is c.if-entry-op.true);
    }

pub loop-entry-preserved : goal.loop-entry-preserved
loop-entry-preserved c =
    let i = c.loop-entry.invariant in
    let n = left-next _ _ _ i _ _ c.in-Some.ensures.steps in
    record {
      at = c.in-Ok.entry.next;
      rest = n.on _ c.in-Ok.is;
      so = (checking_turn _ _ i.so.0 n.inside _ n.first _ c.in-Ok.is, finding_on _ _ _ _ i.so.1 n.inside _ n.first _ c.in-Ok.is c.if-entry-op.false);
    }

pub returns-in-Err : goal.returns-in-Err
returns-in-Err c =
    let i = c.loop-entry.invariant in
    let n = left-next _ _ _ i _ _ c.in-Some.ensures.steps in
    (finding_stopped _ _ _ _ i.so.1 n.inside _ n.first _ c.in-Err.is, checking_refused _ _ i.so.0 n.inside _ n.first _ c.in-Err.is)

pub returns : goal.returns
returns c =
    let i = c.loop-entry.invariant in
    let h = left_done _ _ _ i c.in-None.ensures.steps.0 in
    (finding_end _ _ _ _ i.so.1 h, checking_end _ _ i.so.0 h)
