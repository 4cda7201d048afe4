-- `dicts::of_dict` meets its contract.
use Rattle.std.proofs.Common.{[], ap, arith, ℕ, ◌∙◌, ◌∷◌}
use Rattle.dict.specs.Ahead.{entries_left}
use Rattle.dict.proofs.EntriesLaws.{left-next, left_done}
use Rattle.format_cases.specs.DictsLaws.{listing_start, listing_end, listing_refused, listing-room, listing-turn}
use Rattle.format_cases.proofs.dicts.of_dict.Goals as goal

pub loop-entry-init : goal.loop-entry-init
loop-entry-init c =
    record { at = 0; rest = ap entries_left c.into_iter-entry-iterator.ensures.into_iter_gives ∙ c.new-entry-items.ensures; so = listing_start _ _ c.one-answer.ensures }

pub put_entry-requires : goal.put_entry-requires
put_entry-requires c =
    let n = left-next _ _ _ c.loop-entry.invariant _ _ c.in-Some.ensures.steps in
    omega (arith, listing-room _ _ _ c.loop-entry.invariant.so n.inside _ n.first _ c.in-Ok.is, c.requires)

pub loop-entry-preserved : goal.loop-entry-preserved
loop-entry-preserved c =
    let n = left-next _ _ _ c.loop-entry.invariant _ _ c.in-Some.ensures.steps in
    record { at = c.in-Ok.entry.next; rest = n.on _ c.in-Ok.is; so = listing-turn _ _ _ c.loop-entry.invariant.so n.inside _ n.first _ c.in-Ok.is _ c.put_entry.ensures }

pub returns-in-Err : goal.returns-in-Err
returns-in-Err c =
    let n = left-next _ _ _ c.loop-entry.invariant _ _ c.in-Some.ensures.steps in
    c.one.ensures ∙ ap (λ (n : ℕ). n ∷ []) c.number.ensures ∙ listing_refused _ _ _ c.loop-entry.invariant.so n.inside _ n.first _ c.in-Err.is

pub returns : goal.returns
returns c = let i = c.loop-entry.invariant in listing_end _ _ _ i.so (left_done _ _ _ i c.in-None.ensures.steps.0)
