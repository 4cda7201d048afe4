-- `rename` meets its contract.
use Rattle.std.proofs.Common.{arith, length, take, ◌<◌, ◌∙◌, ◌≡◌}
use Rattle.std.specs.Prelude.{get_or}
use Rattle.own_strings.specs.IdsLaws.{given-long}
use Rattle.order_window.specs.GatheredLaws.{glyphs_many}
use Rattle.order_window.specs.Stays.{order_of, stays-refl, stays-then, stays-word, stays-glyph}
use Rattle.name_strings.specs.NamesLaws.{order_id}
use Rattle.name_strings.specs.NamingLaws.{naming-start, naming_asks, naming_counts, naming_id, naming-below, naming-next}
use Rattle.encoding.specs.IdLaws.{past_empty, past_puts, renaming_start, renaming_next, renaming_done}
use Rattle.encoding.proofs.rename.Goals as goal
use Rattle.encoding.proofs.rename.Goals.{After-word-w, In-loop-i}

more : (t : In-loop-i) → t.loop-i.i < length (order_of t.args.kept.now)
more t = omega (arith, t.loop-i-test.true, t.args.kept.now.gathered.many)

word : (w : After-word-w) → w.word-w.result ≡ get_or (order_of w.args.kept.now) w.loop-i.i 0
word w = stays-word _ _ w.loop-i.invariant.0 _ w.loop-i-test.true _ w.word-w.ensures.0

pub loop-i-init : goal.loop-i-init
loop-i-init c =
    let p = c.requires in (
      stays-refl _,
      naming-start c.args.kept.now _ _ (record { small = p.has.small; given = p.given; apart = p.apart }) c.slots_own-own.ensures,
      renaming_start _ _ _ _,
      past_empty 4294967296,
    )

pub given_id-id-requires : goal.given_id-id-requires
given_id-id-requires c = naming_asks _ _ _ _ _ _ c.loop-i.invariant.1

pub count_one-own-requires : goal.count_one-own-requires
count_one-own-requires c = naming_counts _ _ _ _ _ _ c.loop-i.invariant.1

pub slice_bounds-given_id-end : goal.slice_bounds-given_id-end
slice_bounds-given_id-end c = omega (arith, given-long _ c.args.slots.now c.requires.given)

pub loop-i-preserved : goal.loop-i-preserved
loop-i-preserved c =
    let s = goal.at.loop-i-preserved c in
    let k = c.args.kept.now in
    let n = c.loop-i.invariant.1 in
    let m = more s.In-loop-i in
    let w = word s.After-word-w in
    let id = c.given_id-id.ensures in (
      stays-then _ _ _ c.loop-i.invariant.0 c.word-w.ensures.2,
      naming-next _ _ _ _ _ _ n m _ w _ id _ c.count_one-own.ensures,
      renaming_next _ _ _ _ _ _ c.loop-i.invariant.2 (omega (arith, m, glyphs_many k.font.now k.o.f k.words.now)) _ _
          (stays-glyph _ _ c.loop-i.invariant.0 _ c.loop-i-test.true _ c.word-w.ensures.0)
          (naming_id _ _ _ _ _ _ n m _ w _ id
          ∙ order_id k.font.now k.o.f k.words.now k.gathered.good.glyphs.held.few (take 8 c.args.slots.now) c.requires.front c.loop-i.i m) _ c.put_id.ensures,
      past_puts _ _ _ _ _ _ c.put_id.ensures (omega (arith, naming-below _ _ _ _ _ _ n m _ w _ id)) c.loop-i.invariant.3,
    )

pub returns : goal.returns
returns c =
    let k = c.args.kept.now in (
      renaming_done _ _ _ _ _ _ c.loop-i.invariant.2 (omega (arith, c.loop-i-test.false, k.gathered.many, glyphs_many k.font.now k.o.f k.words.now)),
      c.loop-i.invariant.0,
      c.loop-i.invariant.3,
    )
