-- `by_glyph::next_glyphs` meets its contract.
use Rattle.std.proofs.Common.{List, arith, length, refl, subst, sym, ℕ, ◌+◌, ◌<◌, ◌∙◌}
use Rattle.bits.specs.Bits.{bit_in}
use Rattle.charset.specs.CharsetPlaces.{ids_of, charset_start}
use Rattle.find.specs.FindLaws.{ids_ahead, ids-ahead, Passing, passing_ready, passing_id, passing-next}
use Rattle.order.specs.Walks.{many_in}
use Rattle.order.specs.WalkLaws.{Taking, take-start, take-taken, take-passed, order-few, next_glyph, glyphs_fit, all_looked}
use Rattle.order.proofs.by_glyph.next_glyphs.Goals as goal
use Rattle.order.proofs.by_glyph.next_glyphs.Goals.{After-has_bit, At-loop-g, then-has_bit, else-has_bit}

-- where the loop stands
stood : (l : At-loop-g) → Passing l.args.font.now.bytes.now (charset_start l.args.font.now.f.charset) (many_in l.args.font.now.f) l.loop-g.u l.loop-g.g
    × Taking (ids_ahead l.args.font.now.bytes.now (charset_start l.args.font.now.f.charset) (many_in l.args.font.now.f)) (bit_in l.args.words.now 0) (many_in l.args.font.now.f) l.args.at
    l.args.window.now l.loop-g.window l.loop-g.k l.loop-g.g
stood l = l.loop-g.invariant.1 (charset_start l.args.font.now.f.charset) l.requires.2.ahead.passing

-- by the ids as the contract names them
taken_as : (l : At-loop-g)
    → Taking (ids_of l.args.font.now.bytes.now l.args.font.now.f.charset (many_in l.args.font.now.f)) (bit_in l.args.words.now 0) (many_in l.args.font.now.f) l.args.at
    l.args.window.now l.loop-g.window l.loop-g.k l.loop-g.g
taken_as l =
    subst (λ (ids : List ℕ). Taking ids (bit_in l.args.words.now 0) (many_in l.args.font.now.f) l.args.at l.args.window.now l.loop-g.window l.loop-g.k l.loop-g.g)
    (ids-ahead l.args.font.now.bytes.now l.args.font.now.f.charset (many_in l.args.font.now.f) (charset_start l.args.font.now.f.charset) refl) (stood l).1

sum_fits : (l : At-loop-g) → l.args.done + l.loop-g.k < 65536
sum_fits l =
    omega (
      arith,
      glyphs_fit l.args.font.now.bytes.now l.args.font.now.f l.args.words.now l.args.done l.args.at l.args.cursor l.requires.2 _ _ _ _ (taken_as l),
      order-few l.args.font.now.bytes.now l.args.font.now.f l.args.words.now,
      l.args.font.now.good.ids.few,
    )

more : (t : After-has_bit) → t.loop-g.g < many_in t.args.font.now.f
more t = t.loop-g-test.true

room : (t : After-has_bit) → t.loop-g.k < length t.args.window.now
room t = omega (arith, t.if-k-m.false, t.loop-g.invariant.0)

pub loop-g-init : goal.loop-g-init
loop-g-init c =
    (omega arith, λ v p. (p, take-start _ _ _ _ _))

pub overflow_add-result : goal.overflow_add-result
overflow_add-result c = omega (arith, sum_fits (goal.at.overflow_add-result c).At-loop-g)

pub returns-then-k-m : goal.returns-then-k-m
returns-then-k-m c =
    next_glyph c.args.font.now.bytes.now c.args.font.now.f c.args.words.now c.args.done c.args.at c.args.cursor c.requires.2 _ _ _ _ (taken_as (goal.at.returns-then-k-m c).At-loop-g)
    (omega (arith, c.requires.1, c.loop-g.invariant.0, c.if-k-m.true)) _ refl _ (stood (goal.at.returns-then-k-m c).At-loop-g).0

pub next_id-s-requires : goal.next_id-s-requires
next_id-s-requires c = passing_ready _ _ _ _ _ (stood (goal.at.next_id-s-requires c).At-loop-g).0 c.loop-g-test.true

pub overflow_add-result-2 : goal.overflow_add-result-2
overflow_add-result-2 c = omega (arith, sum_fits (goal.at.overflow_add-result-2 c).At-loop-g)

pub loop-g-preserved : goal.loop-g-preserved
loop-g-preserved c =
    let t = (goal.at.loop-g-preserved c).After-has_bit in
    elim c.if-has_bit.branch [
      | then-has_bit w ↦ rw (w.window-is, w.k-is) (
        omega (arith, room t),
        λ v p. let q = c.loop-g.invariant.1 v p in
            let e = passing_id _ v _ c.loop-g.u _ q.0 (more t) _ c.next_id-s.ensures.0 in (
              passing-next _ v _ c.loop-g.u _ q.0 (more t) _ c.next_id-s.ensures.0,
              take-taken _ _ _ _ _ _ _ _ q.1 (more t) (sym c.has_bit.ensures ∙ w.if-has_bit.true) (room t) _ e,
            ),
      )
      | else-has_bit w ↦ rw (w.window-is, w.k-is) (
        c.loop-g.invariant.0,
        λ v p. let q = c.loop-g.invariant.1 v p in (
          passing-next _ v _ c.loop-g.u _ q.0 (more t) _ c.next_id-s.ensures.0,
          take-passed _ _ _ _ _ _ _ _ q.1 (more t) (sym c.has_bit.ensures ∙ w.if-has_bit.false),
        ),
      )
    ]

pub returns : goal.returns
returns c =
    let s = stood (goal.at.returns c).At-loop-g in
    next_glyph c.args.font.now.bytes.now c.args.font.now.f c.args.words.now c.args.done c.args.at c.args.cursor c.requires.2 _ _ _ _ (taken_as (goal.at.returns c).At-loop-g)
    (all_looked c.args.font.now.bytes.now c.args.font.now.f c.args.words.now c.args.done c.args.at c.args.cursor c.requires.2 _ _ _ _ (taken_as (goal.at.returns c).At-loop-g) c.loop-g-test.false c.requires.3) _ (omega (arith, s.0.within)) _ s.0
