-- `begin` meets its contract: the first window has all words, or nothing is held.
use Rattle.std.proofs.Common.{arith, refl}
use Rattle.order.specs.Walks.{start_of, Stands}
use Rattle.order.specs.WalkLaws.{start_stands}
use Rattle.order_window.specs.GatheredLaws.{begin_asks, begun_whole, begun_none}
use Rattle.order_window.proofs.begin.Goals as goal
use Rattle.order_window.proofs.begin.Goals.{After-searches}

-- a walk can begin
stands : (q : After-searches) → Stands q.args.font.now.bytes.now q.args.font.now.f q.args.words.now (start_of q.args.font.now.f q.searches.result)
stands q =
    start_stands q.args.font.now.bytes.now q.args.font.now.f q.args.words.now q.requires.0.good q.requires.0.found
    q.octets_in.ensures q.searches.result q.searches.ensures

pub next-walk-requires : goal.next-walk-requires
next-walk-requires c =
    begin_asks c.args.font.now.bytes.now c.args.font.now.f c.args.words.now c.requires.0 c.count-count.result c.count-count.ensures c.start-first.result c.searches.result
    c.start-first.ensures (stands (goal.at.next-walk-requires c).After-searches) c.args.window.now c.requires.1

pub returns-then-walk-count : goal.returns-then-walk-count
returns-then-walk-count c =
    let g = begun_whole c.args.font.now.bytes.now c.args.font.now.f c.args.words.now c.requires.0 c.count-count.result c.count-count.ensures c.start-first.result c.searches.result
    c.start-first.ensures (stands (goal.at.returns-then-walk-count c).After-searches) _ (omega (arith, c.next-walk.auto.window, c.requires.1)) _ c.next-walk.ensures c.if-walk-count.true in
    (g.0, refl, g.1)

pub returns : goal.returns
returns c =
    let g = begun_none c.args.font.now.bytes.now c.args.font.now.f c.args.words.now c.requires.0 c.count-count.result c.count-count.ensures c.start-first.result c.searches.result
    c.start-first.ensures (stands (goal.at.returns c).After-searches) _ (omega (arith, c.next-walk.auto.window, c.requires.1)) in
    (g.0, refl, g.1)
