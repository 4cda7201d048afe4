-- `private_dicts::matrices_len` meets its contract: the length of the first k of them.
use Rattle.std.proofs.Common.{ap, arith, length}
use Rattle.dict.specs.Lookup.{Operands}
use Rattle.dict.specs.Op.{font_matrix}
use Rattle.dict_write.specs.Written.{copied_entry}
use Rattle.cff.specs.Loaded.{program}
use Rattle.private_dicts.specs.DictsLaws.{matrices_none, matrices_next, matrices_all}
use Rattle.private_dicts.proofs.matrices_len.Goals as goal

pub loop-k-init : goal.loop-k-init
loop-k-init c = let a = c.args.a.now in (omega arith, matrices_none (program a.font) a.fds.now)

pub loop-k-preserved : goal.loop-k-preserved
loop-k-preserved c =
    let a = c.args.a.now in
    let n = matrices_next (program a.font) a.fds.now c.loop-k.k c.loop-k-test.true in
    let e = ap (λ (m : Operands). length (copied_entry font_matrix m)) c.font_dict.ensures.0 in
    (omega (arith, c.loop-k.invariant.0, c.matrix_len-len.ensures.1), omega (arith, n, c.loop-k.invariant.1, c.matrix_len-len.ensures.0, e))

pub returns : goal.returns
returns c =
    let a = c.args.a.now in
    (matrices_all _ a.fds.now _ (omega (arith, c.loop-k.auto.k-end, c.loop-k-test.false)) _ c.loop-k.invariant.1, omega (arith, c.loop-k.auto.k-end, c.loop-k.invariant.0, a.few))
