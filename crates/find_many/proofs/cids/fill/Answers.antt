-- `cids::fill` meets its contract.
use Rattle.std.proofs.Common.{List, arith, get_or, length, subst, ℕ, ◌<◌, ◌≡◌, ◌≤◌, ◌∙◌}
use Rattle.find.specs.FindLaws.{ids_ahead, ids-ahead, passing-start, passing-inside, passing_ready, passing_id, passing-next}
use Rattle.find.specs.Find.{glyph_with_id}
use Rattle.find_many.specs.Many.{number_for, Slots}
use Rattle.find_many.specs.ManyLaws.{settled-start, settled-new, settled-met, settled-all}
use Rattle.find_many.proofs.cids.fill.Goals as goal
use Rattle.find_many.proofs.cids.fill.Goals.{then-slots-id-eq65536, else-slots-id-eq65536}

pub loop-g-init : goal.loop-g-init
loop-g-init c =
    (passing-start _ c.args.glyphs.now.charset _ _ c.args.glyphs.now.good c.charset_start-u.ensures, c.requires.size, settled-start _ _ c.requires)

pub next_id-s-requires : goal.next_id-s-requires
next_id-s-requires c = passing_ready _ _ _ _ _ c.loop-g.invariant.0 c.loop-g-test.true

pub loop-g-preserved : goal.loop-g-preserved
loop-g-preserved c =
    let l = c.loop-g in
    let t = c.loop-g-test.true in
    let e = c.next_id-s.ensures.0 in
    let ids = ids_ahead c.args.glyphs.now.bytes.now c.charset_start-u.result c.args.glyphs.now.n in
    let is : c.next_id-s.result.id ≡ get_or ids l.g 0 = passing_id _ _ _ l.u _ l.invariant.0 t _ e in
    let inside : l.g < length ids = passing-inside _ _ _ l.u _ l.invariant.0 t in (
      passing-next _ _ _ _ _ l.invariant.0 t _ e,
      c.if-slots-id-eq65536.auto.slots ∙ l.invariant.1,
      elim c.if-slots-id-eq65536.branch [
        | then-slots-id-eq65536 w ↦ rw w.slots-is (settled-new ids l.slots l.g l.invariant.2 inside _ is (omega (arith, t, c.args.glyphs.now.good.few)) (omega (arith, c.next_id-s.ensures.1, l.invariant.1)) w.if-slots-id-eq65536.true)
        | else-slots-id-eq65536 w ↦ rw w.slots-is (settled-met ids l.slots l.g l.invariant.2 inside _ is w.if-slots-id-eq65536.false)
      ],
    )

pub returns : goal.returns
returns c =
    let u = c.charset_start-u.result in
    let h : length (ids_ahead c.args.glyphs.now.bytes.now u c.args.glyphs.now.n) ≤ c.loop-g.g = omega (arith, c.loop-g.invariant.0.all, c.loop-g-test.false) in
    subst (λ (x : List ℕ). Slots (λ id. number_for (glyph_with_id id 0 x)) c.loop-g.slots)
    (ids-ahead c.args.glyphs.now.bytes.now c.args.glyphs.now.charset c.args.glyphs.now.n u c.charset_start-u.ensures)
    (settled-all _ c.loop-g.slots c.loop-g.g h c.loop-g.invariant.2 c.loop-g.invariant.1)
