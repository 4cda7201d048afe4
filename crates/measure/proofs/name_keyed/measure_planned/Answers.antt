-- `measure::name_keyed::measure_planned` meets its contract: the length that was measured is that of the subset, which is tested.
use Rattle.named_parts.specs.Subset.{ready_planned}
use Rattle.measure.specs.MeasureLaws.{named_long, named-fits}
use Rattle.measure.proofs.name_keyed.measure_planned.Goals as goal

pub places_named-at-requires : goal.places_named-at-requires
places_named-at-requires c = ready_planned c.args.c.now

pub returns-then-end-gt-LONGEST : goal.returns-then-end-gt-LONGEST
returns-then-end-gt-LONGEST c =
    let h = c.args.c.now.ready in
    named_long _ _ _ _ _ _ _ h.plan c.args.c.now.parts.name.now _ _ h.strings _ _ h.codes _ c.places_named-at.ensures c.if-end-gt-LONGEST.true

pub returns : goal.returns
returns c =
    let h = c.args.c.now.ready in
    named-fits _ _ _ _ _ _ _ h.plan c.args.c.now.parts.name.now _ _ h.strings _ _ h.codes _ c.places_named-at.ensures c.if-end-gt-LONGEST.false
