-- `index::index_for` meets its contract: the test of the count picks the case of `index_for_lem`, and the offsets are few bytes.
use Rattle.std.proofs.Common.{arith, eq-eqb, sym, ◌*◌, ◌+◌, ◌≤◌}
use Rattle.index.specs.Write.{index_for_lem}
use Rattle.index.specs.WriteLaws.{ends-small, for_some}
use Rattle.index.proofs.index_for.Goals as goal
use Rattle.index.proofs.index_for.Goals.{After-offset_size-size}

-- the offsets are few bytes
small : (c : After-offset_size-size) → (c.args.count + 1) * c.offset_size-size.result ≤ 262144
small c = ends-small _ _ _ c.requires.1 c.offset_size-size.ensures

pub returns-then-count-eq0 : goal.returns-then-count-eq0
unfolding index_for_lem
returns-then-count-eq0 c = simp (eq-eqb _ 0 c.if-count-eq0.true, c.empty_at.ensures)

pub overflow_mul-past : goal.overflow_mul-past
overflow_mul-past c = omega (arith, small c)

pub overflow_add-past-2 : goal.overflow_add-past-2
overflow_add-past-2 c = omega (arith, small c)

pub overflow_add-result : goal.overflow_add-result
overflow_add-result c = omega (arith, small c)

pub returns : goal.returns
returns c =
    let a = c.args in
    rw c.offset_size-size.ensures (sym (for_some a.at a.count a.total c.if-count-eq0.false))
