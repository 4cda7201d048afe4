-- `put_strings` meets its contract: behind the strings of the slots, of the names those are written whose id is the next. The invariant: the window comes
-- to place i, the own strings before it are counted, and all of them stand behind the head.
use Rattle.std.proofs.Common.{take, arith, get_or, length, refl, ◌<◌, ◌∙◌, ◌≡◌}
use Rattle.index.specs.Begun.{Meant}
use Rattle.index.specs.ItemOut.{Begins}
use Rattle.index.specs.ItemOutLaws.{begins_room, begins_more}
use Rattle.own_strings.specs.IdsLaws.{given-long}
use Rattle.order_window.specs.Stays.{order_of, stays-refl, stays-then, stays-word}
use Rattle.name_strings.specs.NamingLaws.{naming-start}
use Rattle.name_strings.specs.WriteLaws.{begun_is, others-meant, others_begun, others-whole, name-start, name_string, name-next, name-same, name_end}
use Rattle.name_strings.proofs.put_strings.Goals as goal
use Rattle.name_strings.proofs.put_strings.Goals.{then-id-c, else-id-c, After-word-sid, At-loop-i, In-loop-i}
use Rattle.name_strings.proofs.put_strings.Invariants.{own}

more : (t : In-loop-i) → t.loop-i.i < length (order_of t.args.kept.now)
more t = omega (arith, t.loop-i-test.true, t.args.kept.now.gathered.many)

word : (w : After-word-sid) → w.word-sid.result ≡ get_or (order_of w.args.kept.now) w.loop-i.i 0
word w = stays-word _ _ w.loop-i.invariant.0 _ (omega (arith, w.loop-i-test.true)) _ w.word-sid.ensures.0

-- the places are for all own strings
meant : (l : At-loop-i) → (let a = l.args in let b = l.begin_strings-begun in Meant (length b.ensures.mid.bytes.now) b.result.ix (own a.kept.now (take 8 a.slots.now)))
meant l = others-meant _ _ _ _ _ l.begin_strings-begun.ensures _ l.requires.1

-- what is written
written : (l : At-loop-i) → (let a = l.args in let b = l.begin_strings-begun in Begins b.ensures.mid b.result.ix (own a.kept.now (take 8 a.slots.now)) l.loop-i.c l.loop-i.out)
written l = l.loop-i.invariant.2 _ (meant l) (others_begun _ _ _ _ _ l.begin_strings-begun.ensures _ l.requires.1)

pub loop-i-init : goal.loop-i-init
loop-i-init c = (
  stays-refl _,
  name-start _ _ _ _ _ (naming-start _ _ _ c.requires.0 refl) c.begin_strings-begun.ensures.many,
  λ mid m g. g,
)

pub own_text-text-requires : goal.own_text-text-requires
own_text-text-requires c =
    (name_string _ _ _ _ _ _ c.loop-i.invariant.1 (more (goal.at.own_text-text-requires c).In-loop-i) _ (word (goal.at.own_text-text-requires c).After-word-sid) _ c.given_id-id.ensures c.if-id-c.true).0

pub put_item-requires : goal.put_item-requires
put_item-requires c =
    let q = name_string _ _ _ _ _ _ c.loop-i.invariant.1 (more (goal.at.put_item-requires c).In-loop-i) _ (word (goal.at.put_item-requires c).After-word-sid) _ c.given_id-id.ensures c.if-id-c.true in
    begins_room (meant (goal.at.put_item-requires c).At-loop-i) _ q.1 (c.own_text-text.ensures ∙ q.2) (written (goal.at.put_item-requires c).At-loop-i)

pub slice_bounds-given_id-end : goal.slice_bounds-given_id-end
slice_bounds-given_id-end c = omega (arith, given-long _ c.args.slots.now c.requires.0.given)

pub loop-i-preserved : goal.loop-i-preserved
loop-i-preserved c =
    let n = c.loop-i.invariant.1 in
    let e = c.given_id-id.ensures in
    let m = more (goal.at.loop-i-preserved c).In-loop-i in
    let w = word (goal.at.loop-i-preserved c).After-word-sid in (
      stays-then _ _ _ c.loop-i.invariant.0 c.word-sid.ensures.2,
      elim c.if-id-c.branch [
        | then-id-c q ↦ name-next _ _ _ _ _ _ n m _ w _ e q.if-id-c.true _ q.c-is
        | else-id-c q ↦ name-same _ _ _ _ _ _ n m _ w _ e q.if-id-c.false _ q.c-is
      ],
      λ mid meant g. elim c.if-id-c.branch [
        | then-id-c q ↦ let x = name_string _ _ _ _ _ _ n m _ w _ e q.if-id-c.true in
            begun_is _ _ q.out-is q.c-is (begins_more meant _ x.1 (q.own_text-text.ensures ∙ x.2) (c.loop-i.invariant.2 mid meant g) q.put_item.ensures)
        | else-id-c q ↦ begun_is _ _ q.out-is q.c-is (c.loop-i.invariant.2 mid meant g)
      ],
    )

pub returns : goal.returns
returns c = (
  others-whole _ _ _ _ _ c.begin_strings-begun.ensures _ c.requires.1 _ (name_end _ _ _ _ _ _ c.loop-i.invariant.1 (omega (arith, c.loop-i-test.false, c.args.kept.now.gathered.many))) (written (goal.at.returns c).At-loop-i),
  c.loop-i.invariant.0,
)
