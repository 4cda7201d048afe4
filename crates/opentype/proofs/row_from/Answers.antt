-- `opentype::row_from` meets its contract.
use Rattle.std.proofs.Common.{arith, ◌*◌, ◌+◌, ◌-◌, ◌∙◌, ◌≡◌}
use Rattle.opentype.specs.OpentypeLaws.{rows_end, row_here, row_next}
use Rattle.opentype.proofs.row_from.Goals as goal

pub returns-then-u32_at-eq-CFF_TAG : goal.returns-then-u32_at-eq-CFF_TAG
returns-then-u32_at-eq-CFF_TAG c =
    let a = c.args in
    let i = c.loop-i.i in
    c.table_of.ensures
    ∙ row_here _ (a.n - i) (a.from + 16 * i) _ c.loop-i.invariant (omega arith) _ c.u32_at.ensures.0 c.if-u32_at-eq-CFF_TAG.true _ _
    c.u32_at-then-u32_at-eq-CFF_TAG.ensures.0 c.u32_at-then-u32_at-eq-CFF_TAG-2.ensures.0

pub loop-i-preserved : goal.loop-i-preserved
loop-i-preserved c =
    let a = c.args in
    let i = c.loop-i.i in
    let left : a.n - (i + 1) ≡ a.n - i - 1 = omega arith in
    let next : a.from + 16 * (i + 1) ≡ a.from + 16 * i + 16 = omega arith in
    rw (left, next) (row_next _ (a.n - i) (a.from + 16 * i) _ c.loop-i.invariant (omega arith) _ c.u32_at.ensures.0 c.if-u32_at-eq-CFF_TAG.false)

pub returns : goal.returns
returns c =
    let a = c.args in
    let i = c.loop-i.i in
    rows_end _ (a.n - i) (a.from + 16 * i) _ c.loop-i.invariant (omega arith)
