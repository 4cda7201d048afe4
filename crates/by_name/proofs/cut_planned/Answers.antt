-- `by_name::cut_planned` meets its contract: the length that was measured is that of the subset, which is tested, and then written.
use Rattle.named_parts.specs.Subset.{ready_planned}
use Rattle.by_name.specs.NamedLaws.{planned_long, planned-room, planned-written}
use Rattle.by_name.proofs.cut_planned.Goals as goal

pub places_named-at-requires : goal.places_named-at-requires
places_named-at-requires c = ready_planned c.args.c.now

pub returns-then-end-gt-LONGEST : goal.returns-then-end-gt-LONGEST
returns-then-end-gt-LONGEST c =
    let h = c.args.c.now.ready in
    planned_long _ _ _ _ _ _ _ h.plan c.args.c.now.parts.name.now _ _ h.strings _ _ h.codes _ c.places_named-at.ensures c.args.out.now c.if-end-gt-LONGEST.true

pub returns-then-out-end : goal.returns-then-out-end
returns-then-out-end c =
    let h = c.args.c.now.ready in
    planned-room _ _ _ _ _ _ _ h.plan c.args.c.now.parts.name.now _ _ h.strings _ _ h.codes _ c.places_named-at.ensures c.args.out.now c.if-end-gt-LONGEST.false c.if-out-end.true

pub returns : goal.returns
returns c =
    let h = c.args.c.now.ready in
    planned-written _ _ _ _ _ _ _ h.plan c.args.c.now.parts.name.now _ _ h.strings _ _ h.codes _ c.places_named-at.ensures c.args.out.now c.if-end-gt-LONGEST.false c.if-out-end.false
    _ _ c.put_named.ensures.0
