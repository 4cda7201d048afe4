-- `first_glyphs::find_leads` meets its contract: the ids of the glyphs are gathered and sorted, and the first with a text leads.
use Rattle.std.proofs.Common.{arith, drop, length, length-take-le, sym, take, ◌++◌, ◌∙◌, ◌≡◌, ◌≤◌}
use Rattle.index.specs.Items.{items}
use Rattle.charset.specs.Ids.{ids}
use Rattle.charset.specs.CharsetFound.{good_length}
use Rattle.name_order.specs.HalvesLaws.{first-put}
use Rattle.first_glyphs.specs.IdsLaws.{front_length, front-leads, some-ids}
use Rattle.first_glyphs.proofs.find_leads.Goals as goal
use Rattle.first_glyphs.proofs.find_leads.Lts.View as view
use Rattle.first_glyphs.proofs.find_leads.Goals.{After-put_ids-k, After-sort}

-- the ids are no more than the tables have places for
few : (q : After-put_ids-k) → q.put_ids-k.result ≤ 65536
few q = omega (arith, q.put_ids-k.ensures.0, q.args.glyphs.now.good.few)

fits : (q : After-put_ids-k) → q.put_ids-k.result ≤ length q.put_ids-k.new.out
fits q = omega (arith, few q, q.put_ids-k.auto.out, q.requires.2)

gathered : (q : After-put_ids-k) → length (take q.put_ids-k.result q.put_ids-k.new.out) ≡ q.put_ids-k.result
gathered q = length-take-le q.put_ids-k.result q.put_ids-k.new.out (fits q)

roomy : (q : After-put_ids-k) → length (take q.put_ids-k.result q.args.leads.now) ≡ q.put_ids-k.result
roomy q = length-take-le q.put_ids-k.result q.args.leads.now (omega (arith, few q, q.requires.3))

sorted_front : (m : After-sort)
    → length (take m.put_ids-k.result (m.sort.new.ids ++ drop m.put_ids-k.result m.put_ids-k.new.out)) ≡ m.put_ids-k.result
sorted_front m =
    let a = m.args in
    front_length (items a.strings.now) m.put_ids-k.new.out m.sort.new.ids m.put_ids-k.result (fits (view.up-After-put_ids-k _ _ _ m.before.before.before.before.before.before.before.before)) (few (view.up-After-put_ids-k _ _ _ m.before.before.before.before.before.before.before.before)) m.sort.ensures

leads-long : (m : After-sort) → length (m.sort.new.room ++ drop m.put_ids-k.result m.args.leads.now) ≡ 65536
leads-long m =
    first-put m.args.leads.now m.sort.new.room m.put_ids-k.result (omega (arith, few (view.up-After-put_ids-k _ _ _ m.before.before.before.before.before.before.before.before), m.requires.3))
    (m.sort.auto.room ∙ roomy (view.up-After-put_ids-k _ _ _ m.before.before.before.before.before.before.before.before)) ∙ m.requires.3

pub slice_bounds-sort-end-2 : goal.slice_bounds-sort-end-2
slice_bounds-sort-end-2 c = sym (gathered (goal.at.slice_bounds-sort-end-2 c).After-put_ids-k)

pub slice_bounds-sort-end-4 : goal.slice_bounds-sort-end-4
slice_bounds-sort-end-4 c = sym (roomy (goal.at.slice_bounds-sort-end-4 c).After-put_ids-k)

pub sort-requires : goal.sort-requires
sort-requires c =
    (omega (arith, few (goal.at.sort-requires c).After-put_ids-k, gathered (goal.at.sort-requires c).After-put_ids-k), roomy (goal.at.sort-requires c).After-put_ids-k ∙ sym (gathered (goal.at.sort-requires c).After-put_ids-k))

pub slice_bounds-put_leads-end-2 : goal.slice_bounds-put_leads-end-2
slice_bounds-put_leads-end-2 c = sym (sorted_front (goal.at.slice_bounds-put_leads-end-2 c).After-sort)

pub put_leads-requires : goal.put_leads-requires
put_leads-requires c =
    let some = some-ids (ids c.args.glyphs.now) _ c.args.glyphs.now.n c.requires.0 c.put_ids-k.ensures.1 in
    (omega (arith, sorted_front (goal.at.put_leads-requires c).After-sort, gathered (goal.at.put_leads-requires c).After-put_ids-k, some), leads-long (goal.at.put_leads-requires c).After-sort)

pub returns : goal.returns
returns c =
    let a = c.args in
    front-leads (items a.strings.now) c.put_ids-k.new.out c.sort.new.ids c.put_ids-k.result (fits (goal.at.returns c).After-put_ids-k) (few (goal.at.returns c).After-put_ids-k) c.sort.ensures
    (ids a.glyphs.now) _ _ a.glyphs.now.n (good_length _ _ _ c.args.glyphs.now.good) c.put_ids-k.ensures.1 c.put_leads.ensures.1 (leads-long (goal.at.returns c).After-sort) c.put_leads.ensures.0
