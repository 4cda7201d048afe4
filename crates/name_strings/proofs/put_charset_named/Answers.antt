-- `put_charset_named` meets its contract: the id that a name is given is its new one. The invariant: the window comes to place i, the own strings before
-- it are counted, and the ids of i glyphs are written, of which the format was the beginning.
use Rattle.std.proofs.Common.{take, arith, get_or, length, ◌<◌, ◌≤◌, ◌≡◌}
use Rattle.own_strings.specs.IdsLaws.{given-long}
use Rattle.order_window.specs.Stays.{order_of, stays-refl, stays-then, stays-word}
use Rattle.name_strings.specs.Names.{names_for}
use Rattle.name_strings.specs.NamingLaws.{naming-start, naming_asks, naming_counts, naming_id, naming-next, names_many}
use Rattle.name_strings.specs.CharsetLaws.{CharsetPut, format-room, charset-start, charset-pass, charset-space, charset-next, charset_done}
use Rattle.name_strings.proofs.put_charset_named.Goals as goal
use Rattle.name_strings.proofs.put_charset_named.Goals.{then-i-gt0, else-i-gt0, After-word-x, At-loop-i, In-loop-i}

-- what is written
put : (l : At-loop-i) → (let a = l.args in CharsetPut a.out.now (names_for a.kept.now (take 8 a.slots.now)) l.loop-i.out l.loop-i.i)
put l = l.loop-i.invariant.2 _ l.byte.ensures l.requires.1

more : (t : In-loop-i) → t.loop-i.i < length (order_of t.args.kept.now)
more t = omega (arith, t.loop-i-test.true, t.args.kept.now.gathered.many)

some : (t : In-loop-i) → (let a = t.args in t.loop-i.i < length (names_for a.kept.now (take 8 a.slots.now)))
some t = let a = t.args in omega (arith, t.loop-i-test.true, a.kept.now.gathered.many, names_many a.kept.now.font.now a.kept.now.o.f a.kept.now.words.now (take 8 a.slots.now))

word : (w : After-word-x) → w.word-x.result ≡ get_or (order_of w.args.kept.now) w.loop-i.i 0
word w = stays-word _ _ w.loop-i.invariant.0 _ (omega (arith, w.loop-i-test.true)) _ w.word-x.ensures.0

pub byte-requires : goal.byte-requires
byte-requires c =
    let a = c.args in
    format-room a.out.now (names_for a.kept.now (take 8 a.slots.now)) c.requires.1

pub loop-i-init : goal.loop-i-init
loop-i-init c = (
  stays-refl _,
  naming-start _ _ _ c.requires.0 c.slots_own-own.ensures,
  λ old w room. charset-start _ _ room w,
)

pub given_id-id-requires : goal.given_id-id-requires
given_id-id-requires c = naming_asks _ _ _ _ _ _ c.loop-i.invariant.1

pub count_one-own-requires : goal.count_one-own-requires
count_one-own-requires c = naming_counts _ _ _ _ _ _ c.loop-i.invariant.1

pub num-requires : goal.num-requires
num-requires c =
    charset-space _ _ c.requires.1 (put (goal.at.num-requires c).At-loop-i) c.if-i-gt0.true (some (goal.at.num-requires c).In-loop-i)

pub slice_bounds-given_id-end : goal.slice_bounds-given_id-end
slice_bounds-given_id-end c = omega (arith, given-long _ c.args.slots.now c.requires.0.given)

pub loop-i-preserved : goal.loop-i-preserved
loop-i-preserved c =
    let n = c.loop-i.invariant.1 in (
      stays-then _ _ _ c.loop-i.invariant.0 c.word-x.ensures.2,
      naming-next _ _ _ _ _ _ n (more (goal.at.loop-i-preserved c).In-loop-i) _ (word (goal.at.loop-i-preserved c).After-word-x) _ c.given_id-id.ensures _ c.count_one-own.ensures,
      λ old v room. elim c.if-i-gt0.branch [
        | then-i-gt0 q ↦ charset-next old _ room (c.loop-i.invariant.2 old v room) q.if-i-gt0.true (some (goal.at.loop-i-preserved c).In-loop-i) (naming_id _ _ _ _ _ _ n (more (goal.at.loop-i-preserved c).In-loop-i) _ (word (goal.at.loop-i-preserved c).After-word-x) _ c.given_id-id.ensures) q.num.ensures _ q.out-is
        | else-i-gt0 q ↦ charset-pass old _ room (c.loop-i.invariant.2 old v room) q.if-i-gt0.false _ q.out-is
      ],
    )

pub returns : goal.returns
returns c =
    let a = c.args in
    let names = names_for a.kept.now (take 8 a.slots.now) in
    let none : length names ≤ c.loop-i.i = omega (arith, names_many a.kept.now.font.now a.kept.now.o.f a.kept.now.words.now (take 8 a.slots.now), a.kept.now.gathered.many, c.loop-i-test.false) in
    (charset_done _ _ c.requires.1 (put (goal.at.returns c).At-loop-i) none, c.loop-i.invariant.0)
