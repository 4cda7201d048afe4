-- `count_names` meets its contract: each name is given its new id, and counted where that is the next.
use Rattle.std.proofs.Common.{arith, get_or, length, ◌<◌, ◌≡◌}
use Rattle.std.proofs.lemmas.List.{length-take}
use Rattle.own_strings.specs.declared.slots.Slot.{Slot}
use Rattle.own_strings.specs.IdsLaws.{given-long}
use Rattle.order_window.specs.Stays.{order_of, stays-refl, stays-then, stays-word}
use Rattle.name_strings.specs.NamingLaws.{naming-start, naming_asks, naming_counts, naming-next, naming_end, naming-bound}
use Rattle.name_strings.proofs.count_names.Goals as goal
use Rattle.name_strings.proofs.count_names.Goals.{After-word-x, In-loop-i}

more : (t : In-loop-i) → t.loop-i.i < length (order_of t.args.kept.now)
more t = omega (arith, t.loop-i-test.true, t.args.kept.now.gathered.many)

word : (w : After-word-x) → w.word-x.result ≡ get_or (order_of w.args.kept.now) w.loop-i.i 0
word w = stays-word _ _ w.loop-i.invariant.0 _ (omega (arith, w.loop-i-test.true)) _ w.word-x.ensures.0

pub loop-i-init : goal.loop-i-init
loop-i-init c = (stays-refl _, naming-start _ _ _ c.requires.0 c.requires.1)

pub given_id-id-requires : goal.given_id-id-requires
given_id-id-requires c = naming_asks _ _ _ _ _ _ c.loop-i.invariant.1

pub count_one-all-requires : goal.count_one-all-requires
count_one-all-requires c = naming_counts _ _ _ _ _ _ c.loop-i.invariant.1

pub slice_bounds-given_id-end : goal.slice_bounds-given_id-end
slice_bounds-given_id-end c = omega (arith, given-long _ c.args.slots.now c.requires.0.given, length-take {A = Slot})

pub loop-i-preserved : goal.loop-i-preserved
loop-i-preserved c = (
  stays-then _ _ _ c.loop-i.invariant.0 c.word-x.ensures.2,
  naming-next _ _ _ _ _ _ c.loop-i.invariant.1 (more (goal.at.loop-i-preserved c).In-loop-i) _ (word (goal.at.loop-i-preserved c).After-word-x) _ c.given_id-id.ensures _ c.count_one-all.ensures,
)

pub returns : goal.returns
returns c =
    let n = c.loop-i.invariant.1 in
    let m = naming-bound _ _ _ _ _ _ n in
    (naming_end _ _ _ _ _ _ n (omega (arith, c.loop-i-test.false, c.args.kept.now.gathered.many)), m.0, m.1, c.loop-i.invariant.0)
