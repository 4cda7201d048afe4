-- `bodies::subrs::windows_total` meets its contract.
use Rattle.std.proofs.Common.{subst, ◌∙◌, sym}
use Rattle.bodies.specs.Sizes.{Bounded}
use Rattle.bodies.specs.SizesLaws.{adding_start, adding_end, adding_failed, adding_on, adding_small}
use Rattle.bodies.specs.Written.{kept_of, subr_of}
use Rattle.bodies.specs.WrittenLaws.{written-measured}
use Rattle.bodies.proofs.subrs.windows_total.Goals as goal

pub loop-k-init : goal.loop-k-init
loop-k-init c = let a = c.args.all.now in (adding_start (subr_of a) (kept_of a) a.from.ix.count, tt)

pub loop-k-preserved : goal.loop-k-preserved
loop-k-preserved c =
    let a = c.args.all.now in
    let e = c.windowed_len.ensures in
    (adding_on (subr_of a) (kept_of a) a.from.ix.count c.loop-k.k c.loop-k.total c.loop-k.invariant.0 c.loop-k-test.true _ e.0 e.1 _ c.in_ok-len.was, e.2)

pub returns-in_err-len : goal.returns-in_err-len
returns-in_err-len c =
    let a = c.args.all.now in
    let none = c.from_residual.ensures in (
      none ∙ (adding_failed (subr_of a) (kept_of a) a.from.ix.count c.loop-k.k c.loop-k.total c.loop-k.invariant.0 c.loop-k-test.true _ c.windowed_len.ensures.0 c.in_err-len.was ∙ written-measured a),
      subst Bounded (sym none) tt,
    )

pub returns : goal.returns
returns c =
    let a = c.args.all.now in (
      adding_end (subr_of a) (kept_of a) a.from.ix.count c.loop-k.k c.loop-k.total c.loop-k.invariant.0 c.loop-k-test.false ∙ written-measured a,
      adding_small (subr_of a) (kept_of a) a.from.ix.count c.loop-k.k c.loop-k.total c.loop-k.invariant.0 a.sourced.few,
    )
