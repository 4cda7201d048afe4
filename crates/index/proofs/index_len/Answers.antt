-- `index::index_len` meets its contract: the test of the count picks the case of `index_len_lem`, and the offsets are few bytes.
use Rattle.std.proofs.Common.{arith, eq-eqb, sym, ◌*◌, ◌+◌, ◌≤◌}
use Rattle.index.specs.Write.{index_len_lem}
use Rattle.index.specs.WriteLaws.{len_some, offsets-few}
use Rattle.index.proofs.index_len.Goals as goal
use Rattle.index.proofs.index_len.Goals.{After-offset_size}

-- the offsets are few bytes
small : (c : After-offset_size) → (c.args.count + 1) * c.offset_size.result ≤ 262180
small c = offsets-few _ _ _ c.requires.0 c.offset_size.ensures

pub returns-then-count-eq0 : goal.returns-then-count-eq0
unfolding index_len_lem
returns-then-count-eq0 c = (simp (eq-eqb _ 0 c.if-count-eq0.true), omega arith)

pub overflow_mul-result : goal.overflow_mul-result
overflow_mul-result c = omega (arith, small c)

pub overflow_add-result-2 : goal.overflow_add-result-2
overflow_add-result-2 c = omega (arith, small c, c.requires.1)

pub overflow_add-result-3 : goal.overflow_add-result-3
overflow_add-result-3 c = omega (arith, small c, c.requires.1)

pub returns : goal.returns
returns c =
    let a = c.args in
    (rw c.offset_size.ensures (sym (len_some a.count a.total c.if-count-eq0.false)), omega (arith, small c, c.requires.1))
