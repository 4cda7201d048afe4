-- `bodies::subrs::total_directly` meets its contract.
use Rattle.std.proofs.Common.{arith, refl, sym, ◌+◌, ◌∙◌, ◌≡◌, Some, subst}
use Rattle.bodies.specs.CodeLaws.{len_kept, len_left}
use Rattle.bodies.specs.SizesLaws.{adding_end, adding_failed, adding_on, adding_small}
use Rattle.bodies.specs.Sizes.{Bounded}
use Rattle.bodies.specs.Written.{kept_of, subr_of}
use Rattle.bodies.specs.WrittenLaws.{written-measured}
use Rattle.bodies.proofs.subrs.total_directly.Goals as goal
use Rattle.bodies.proofs.subrs.total_directly.Goals.{then-is_kept+in_ok-len, else-is_kept}

pub returns-in_err-len : goal.returns-in_err-len
returns-in_err-len c =
    let a = c.args.all.now in
    let q = len_kept (kept_of a) (subr_of a) c.loop-k.k 335544320 (sym c.is_kept.ensures ∙ c.if-is_kept.true) _ c.written_len.ensures in
    let none = c.from_residual.ensures in
    (none ∙ (adding_failed (subr_of a) (kept_of a) a.from.ix.count c.loop-k.k c.loop-k.total c.loop-k.invariant c.loop-k-test.true _ q.0 c.in_err-len.was ∙ written-measured a), subst Bounded (sym none) tt)

pub loop-k-preserved : goal.loop-k-preserved
loop-k-preserved c =
    let a = c.args.all.now in
    elim c.if-is_kept.branch [
      | then-is_kept+in_ok-len w ↦
          let q = len_kept (kept_of a) (subr_of a) c.loop-k.k 335544320 (sym c.is_kept.ensures ∙ w.if-is_kept.true) _ w.written_len.ensures in
          rw w.total-is (adding_on (subr_of a) (kept_of a) a.from.ix.count c.loop-k.k c.loop-k.total c.loop-k.invariant c.loop-k-test.true _ q.0 q.1 _ w.in_ok-len.was)
      | else-is_kept w ↦
          let q = len_left (kept_of a) (subr_of a) c.loop-k.k 335544320 (sym c.is_kept.ensures ∙ w.if-is_kept.false) in
          let e : c.if-is_kept.total ≡ c.loop-k.total + 0 = omega arith in
          rw e (adding_on (subr_of a) (kept_of a) a.from.ix.count c.loop-k.k c.loop-k.total c.loop-k.invariant c.loop-k-test.true (Some 0) q.0 q.1 0 refl)
    ]

pub returns : goal.returns
returns c =
    let a = c.args.all.now in (
      adding_end (subr_of a) (kept_of a) a.from.ix.count c.loop-k.k c.loop-k.total c.loop-k.invariant c.loop-k-test.false ∙ written-measured a,
      adding_small (subr_of a) (kept_of a) a.from.ix.count c.loop-k.k c.loop-k.total c.loop-k.invariant a.sourced.few,
    )
