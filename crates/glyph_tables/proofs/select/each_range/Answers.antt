-- `select::each_range` meets its contract.
use Rattle.std.proofs.Common.{arith, length, refl, sym, Bool, false, true, not, eqb, ℕ, Option, Some, None, ◌<◌, ◌≡◌, ◌∙◌}
use Rattle.std.specs.Option.{option_eq}
use Rattle.charset.specs.FdSelectBytes.{is_last}
use Rattle.charset.specs.FdWriterLaws.{taken_none, taken_same, taken_room, taken_new, taken_all}
use Rattle.order_window.specs.Stays.{stays-refl, stays-then}
use Rattle.glyph_tables.specs.Tables.{fds_kept, new_fds_by}
use Rattle.glyph_tables.specs.ReadLaws.{kept_fds_many, read-numbered, read-new}
use Rattle.glyph_tables.specs.SelectLaws.{select-count}
use Rattle.glyph_tables.proofs.select.each_range.Goals as goal
use Rattle.glyph_tables.proofs.select.each_range.Goals.{then-ne, else-ne}

-- the test of the code
told : (last : Option ℕ) (fd : ℕ) (t : Bool) → not (option_eq eqb last (Some fd)) ≡ not t → is_last last fd ≡ t
told (Some last) fd t e = turned (eqb last fd) t e
  where
    turned : (a b : Bool) → not a ≡ not b → a ≡ b
    turned true true e = refl
    turned true false e = sym e
    turned false true e = sym e
    turned false false e = refl
told None fd true e = sym e
told None fd false e = refl

is_other : (last : Option ℕ) (fd : ℕ) → not (option_eq eqb last (Some fd)) ≡ true → is_last last fd ≡ false
is_other last fd e = told last fd false e

is_same : (last : Option ℕ) (fd : ℕ) → not (option_eq eqb last (Some fd)) ≡ false → is_last last fd ≡ true
is_same last fd e = told last fd true e

pub loop-i-init : goal.loop-i-init
loop-i-init g c = (stays-refl _, taken_none _ _ g.met.S.Sink.follows _ _)

pub new_fd-fd-requires : goal.new_fd-fd-requires
new_fd-fd-requires g c = (
  c.args.kept.now.gathered.good.parts.select,
  read-numbered _ _ c.loop-i.invariant.0 _ c.loop-i-test.true _ c.word-g.ensures.0 _ c.requires.0,
)

pub range-requires : goal.range-requires
range-requires g c =
    let k = c.args.kept.now in
    let table = c.args.table.now in
    let more : c.loop-i.i < length (new_fds_by table (fds_kept k)) = omega (arith, c.loop-i-test.true, kept_fds_many k, select-count table (fds_kept k)) in
    let new = read-new _ _ c.loop-i.invariant.0 _ c.loop-i-test.true _ c.word-g.ensures.0 table _ c.new_fd-fd.ensures in
    let other = is_other c.loop-i.last c.new_fd-fd.result (sym c.ne.ensures ∙ c.if-ne.true) in
    taken_room _ _ g.met.S.Sink.follows _ _ _ _ _ _ c.loop-i.invariant.1 more new other c.requires.1

pub loop-i-preserved : goal.loop-i-preserved
loop-i-preserved g c =
    let k = c.args.kept.now in
    let table = c.args.table.now in
    let more : c.loop-i.i < length (new_fds_by table (fds_kept k)) = omega (arith, c.loop-i-test.true, kept_fds_many k, select-count table (fds_kept k)) in
    let new = read-new _ _ c.loop-i.invariant.0 _ c.loop-i-test.true _ c.word-g.ensures.0 table _ c.new_fd-fd.ensures in (
      stays-then _ _ _ c.loop-i.invariant.0 c.word-g.ensures.2,
      elim c.if-ne.branch [
        | then-ne w ↦
            let other = is_other c.loop-i.last c.new_fd-fd.result (sym c.ne.ensures ∙ w.if-ne.true) in
            rw (w.to-is, w.last-is) (taken_new _ _ g.met.S.Sink.follows _ _ _ _ _ _ c.loop-i.invariant.1 more new other c.requires.1 _ w.range.ensures)
        | else-ne w ↦
            let same = is_same c.loop-i.last c.new_fd-fd.result (sym c.ne.ensures ∙ w.if-ne.false) in
            rw (w.to-is, w.last-is) (taken_same _ _ g.met.S.Sink.follows _ _ _ _ _ _ c.loop-i.invariant.1 more new same)
      ],
    )

pub returns : goal.returns
returns g c =
    let k = c.args.kept.now in (
      taken_all _ _ g.met.S.Sink.follows _ _ _ _ _ c.loop-i.invariant.1 (omega (arith, c.loop-i-test.false, kept_fds_many k, select-count c.args.table.now (fds_kept k))),
      c.loop-i.invariant.0,
    )
