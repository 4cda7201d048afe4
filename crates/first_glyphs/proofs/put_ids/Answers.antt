-- `first_glyphs::put_ids` meets its contract.
use Rattle.std.proofs.Common.{arith, get_or, length, subst, sym, take, ◌+◌, ◌<◌, ◌∙◌, ◌≡◌}
use Rattle.charset.specs.AheadLaws.{passed-start, passed_all, passed_inside, passed_id, passed-next}
use Rattle.charset.specs.CharsetFound.{good_length}
use Rattle.charset.specs.Ids.{ids}
use Rattle.first_glyphs.specs.Lead.{HasIds}
use Rattle.first_glyphs.specs.IdsLaws.{has-none, has-seen, has_new}
use Rattle.first_glyphs.specs.FoundLaws.{seen_none, seen_next}
use Rattle.first_glyphs.proofs.put_ids.Goals as goal
use Rattle.first_glyphs.proofs.put_ids.Goals.{In-Some}

is : (t : In-Some) → t.in-Some.id ≡ get_or (ids t.args.glyphs.now) t.loop-id.invariant.0 0
is t = passed_id _ _ _ t.loop-id.invariant.1 _ _ t.in-Some.ensures.steps

room : (t : In-Some) → t.loop-id.k < length t.loop-id.out
room t =
    omega (arith, t.loop-id.auto.out, t.loop-id.invariant.3, t.requires.1, passed_inside _ _ _ t.loop-id.invariant.1 _ _ t.in-Some.ensures.steps, good_length _ _ _ t.args.glyphs.now.good)

pub loop-id-init : goal.loop-id-init
loop-id-init c = (0, passed-start _ _ (rw c.into_iter-id-iterator.ensures.into_iter_gives c.iter-id-items.ensures.all), seen_none _ _ c.requires.0.none, omega arith, has-none _ _)

pub see-requires : goal.see-requires
see-requires c =
    omega (arith, is (goal.at.see-requires c).In-Some, c.iter-id-items.ensures.small c.loop-id.invariant.0, c.loop-id.auto.seen, c.requires.0.size)

pub bounds-out-k : goal.bounds-out-k
bounds-out-k c = room (goal.at.bounds-out-k c).In-Some

pub offset_bounds-out-k : goal.offset_bounds-out-k
offset_bounds-out-k c =
    omega (arith, room (goal.at.offset_bounds-out-k c).In-Some, c.loop-id.invariant.3, passed_inside _ _ _ c.loop-id.invariant.1 _ _ c.in-Some.ensures.steps, good_length _ _ _ c.args.glyphs.now.good, c.args.glyphs.now.good.few)

pub overflow_add-k : goal.overflow_add-k
overflow_add-k c =
    omega (arith, c.loop-id.invariant.3, passed_inside _ _ _ c.loop-id.invariant.1 _ _ c.in-Some.ensures.steps, good_length _ _ _ c.args.glyphs.now.good, c.args.glyphs.now.good.few)

pub loop-id-preserved-then-not-see : goal.loop-id-preserved-then-not-see
loop-id-preserved-then-not-see c =
    let l = c.loop-id in
    let i = l.invariant in
    let t = (goal.at.loop-id-preserved-then-not-see c).In-Some in (
      i.0 + 1,
      passed-next _ _ _ i.1 _ _ c.in-Some.ensures.steps,
      seen_next _ i.0 _ i.2 _ (is t) _ c.see.ensures.bits,
      omega (arith, i.3),
      has_new _ l.out i.0 _ (is t) l.k (room t) i.4,
    )

pub loop-id-preserved : goal.loop-id-preserved
loop-id-preserved c =
    let l = c.loop-id in
    let i = l.invariant in
    let t = (goal.at.loop-id-preserved c).In-Some in (
      i.0 + 1,
      passed-next _ _ _ i.1 _ _ c.in-Some.ensures.steps,
      seen_next _ i.0 _ i.2 _ (is t) _ c.see.ensures.bits,
      omega (arith, i.3),
      has-seen _ (take l.k l.out) i.0 _ (is t) _ i.4 i.2 (sym c.see.ensures.was ∙ c.if-not-see.false),
    )

pub returns : goal.returns
returns c =
    let i = c.loop-id.invariant in
    let n = good_length _ _ _ c.args.glyphs.now.good in
    let e : i.0 ≡ c.args.glyphs.now.n = omega (arith, n, i.1.within, passed_all _ _ _ i.1 c.in-None.ensures.steps.0) in
    (omega (arith, i.3, e), subst (λ g. HasIds (ids c.args.glyphs.now) g (take c.loop-id.k c.loop-id.out)) e i.4)
