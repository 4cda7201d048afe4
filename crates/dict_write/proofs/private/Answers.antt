-- `dict_write::private` meets its contract: the entries done were taken, and those that are left follow.
use Rattle.std.proofs.Common.{ap, ◌∙◌}
use Rattle.dict.specs.Ahead.{entries_left}
use Rattle.dict.proofs.EntriesLaws.{left-next, left_done}
use Rattle.dict_write.specs.Sinks.{walking_start, walking_end, walking_on, walking_room, walking_turn}
use Rattle.dict_write.specs.PrivateLaws.{no_entry, entries-append, one-placed, copied_end, copied_stopped, copied-kept, copied-left_out, entry-operator}
use Rattle.dict_write.proofs.private.Goals as goal

pub loop-read-init : goal.loop-read-init
loop-read-init g c =
    record { at = 0; rest = ap entries_left c.into_iter-read-iterator.ensures.into_iter_gives ∙ c.new-read-items.ensures; so = walking_start _ _ g.met.S.Sink.follows _ _ _ no_entry }

pub entry-requires : goal.entry-requires
entry-requires g c =
    let n = left-next _ _ _ c.loop-read.invariant _ _ c.in-Some.ensures.steps in (
      g.met.S.Sink.operators _ (entry-operator _ _ n.inside _ n.first _ c.in-Ok.is (λ i. (c.type_inv.d i).fits)),
      walking_room _ _ g.met.S.Sink.follows _ _ _ _ _ c.loop-read.invariant.so entries-append _ _ (copied-kept _ _ n.inside _ n.first _ c.in-Ok.is c.if-read-ne-SUBRS.true) _ (one-placed _ _ n.inside _ n.first _ c.in-Ok.is) c.requires,
    )

pub loop-read-preserved-then-read-ne-SUBRS : goal.loop-read-preserved-then-read-ne-SUBRS
loop-read-preserved-then-read-ne-SUBRS g c =
    let n = left-next _ _ _ c.loop-read.invariant _ _ c.in-Some.ensures.steps in
    record {
      at = c.in-Ok.read.next;
      rest = n.on _ c.in-Ok.is;
      so = walking_turn _ _ g.met.S.Sink.follows _ _ _ _ _ c.loop-read.invariant.so entries-append _ _ (copied-kept _ _ n.inside _ n.first _ c.in-Ok.is c.if-read-ne-SUBRS.true) _ (one-placed _ _ n.inside _ n.first _ c.in-Ok.is) c.requires _ c.entry.ensures;
    }

pub loop-read-preserved : goal.loop-read-preserved
loop-read-preserved g c =
    let n = left-next _ _ _ c.loop-read.invariant _ _ c.in-Some.ensures.steps in
    record {
      at = c.in-Ok.read.next;
      rest = n.on _ c.in-Ok.is;
      so = walking_on _ _ g.met.S.Sink.follows _ _ _ _ _ c.loop-read.invariant.so _ (copied-left_out _ _ n.inside _ n.first _ c.in-Ok.is c.if-read-ne-SUBRS.false);
    }

pub returns-in-Err : goal.returns-in-Err
returns-in-Err g c =
    let n = left-next _ _ _ c.loop-read.invariant _ _ c.in-Some.ensures.steps in
    walking_end _ _ g.met.S.Sink.follows _ _ _ _ _ c.loop-read.invariant.so (copied_stopped _ _ n.inside _ n.first _ c.in-Err.is)

pub returns : goal.returns
returns g c = let i = c.loop-read.invariant in walking_end _ _ g.met.S.Sink.follows _ _ _ _ _ i.so (copied_end _ _ (left_done _ _ _ i c.in-None.ensures.steps.0))
