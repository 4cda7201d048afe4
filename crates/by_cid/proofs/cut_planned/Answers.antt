-- `by_cid::cut_planned` meets its contract: the places that were measured are the subset's, and its end decides.
use Rattle.std.proofs.Common.{ap, length, sym, ◌∙◌, ◌≡◌}
use Rattle.record.specs.Record.{rows_of}
use Rattle.cid_parts.specs.Subset.{subset_in, subset-remains, places-remain}
use Rattle.cid_parts.specs.CidPlacesLaws.{bytes_long, sized_long, sized-room, sized-written}
use Rattle.octets.specs.PutLaws.{wrote_as}
use Rattle.front.specs.declared.CidPlaces.{CidPlaces}
use Rattle.by_cid.proofs.cut_planned.Goals as goal
use Rattle.by_cid.proofs.cut_planned.Goals.{After-places_cid-at}

-- so long is the subset
long : (x : After-places_cid-at) → length (subset_in x.args.c.now) ≡ x.places_cid-at.result.end
long x =
    let a = x.args.c.now in
    bytes_long a.kept.font.now (rows_of a.parts.rows.now) a.parts.used.now a.kept.words.now a.parts.cut.plan a.parts.table.now a.ready.cid a.parts.totals.now a.ready.summed a.parts.name.now
    ∙ ap (λ (y : CidPlaces). y.end) (sym x.places_cid-at.ensures.0)

pub returns-then-end-gt-LONGEST : goal.returns-then-end-gt-LONGEST
returns-then-end-gt-LONGEST c =
    sized_long c.args.c.now.parts.cut.plan.how.way (subset_in c.args.c.now) c.args.out.now _ (long (goal.at.returns-then-end-gt-LONGEST c).After-places_cid-at) c.if-end-gt-LONGEST.true

pub returns-then-out-end : goal.returns-then-out-end
returns-then-out-end c =
    sized-room c.args.c.now.parts.cut.plan.how.way (subset_in c.args.c.now) c.args.out.now _ (long (goal.at.returns-then-out-end c).After-places_cid-at) c.if-end-gt-LONGEST.false c.if-out-end.true

pub put_parts-requires : goal.put_parts-requires
put_parts-requires c =
    let s = c.places_cid-at.ensures in
    (s.0 ∙ sym (places-remain _ _ s.1), c.if-end-gt-LONGEST.false, c.if-out-end.false)

pub returns : goal.returns
returns c =
    sized-written c.args.c.now.parts.cut.plan.how.way (subset_in c.args.c.now) c.args.out.now _ (long (goal.at.returns c).After-places_cid-at) c.if-end-gt-LONGEST.false c.if-out-end.false
    (wrote_as c.put_parts.ensures.0 (subset-remains _ _ c.places_cid-at.ensures.1))
