-- `measure::cid_keyed::measure_planned` meets its contract: the places that were measured are the subset's, and its end decides.
use Rattle.std.proofs.Common.{ap, length, sym, ◌∙◌, ◌≡◌}
use Rattle.record.specs.Record.{rows_of}
use Rattle.cid_parts.specs.Subset.{subset_in}
use Rattle.cid_parts.specs.CidPlacesLaws.{bytes_long}
use Rattle.front.specs.declared.CidPlaces.{CidPlaces}
use Rattle.measure.specs.MeasureLaws.{cid_long, cid_fits}
use Rattle.measure.proofs.cid_keyed.measure_planned.Goals as goal
use Rattle.measure.proofs.cid_keyed.measure_planned.Goals.{After-places_cid-at}

-- so long is the subset
long : (x : After-places_cid-at) → length (subset_in x.args.c.now) ≡ x.places_cid-at.result.end
long x =
    let a = x.args.c.now in
    bytes_long a.kept.font.now (rows_of a.parts.rows.now) a.parts.used.now a.kept.words.now a.parts.cut.plan a.parts.table.now a.ready.cid a.parts.totals.now a.ready.summed a.parts.name.now
    ∙ ap (λ (y : CidPlaces). y.end) (sym x.places_cid-at.ensures.0)

pub returns-then-end-gt-LONGEST : goal.returns-then-end-gt-LONGEST
returns-then-end-gt-LONGEST c =
    cid_long c.args.c.now.parts.cut.plan.how.way (subset_in c.args.c.now) _ (long (goal.at.returns-then-end-gt-LONGEST c).After-places_cid-at) c.if-end-gt-LONGEST.true

pub returns : goal.returns
returns c =
    cid_fits c.args.c.now.parts.cut.plan.how.way (subset_in c.args.c.now) _ (long (goal.at.returns c).After-places_cid-at) c.if-end-gt-LONGEST.false
