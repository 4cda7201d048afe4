-- `Taking::take` meets its contract.
use Rattle.std.proofs.Common.{refl}
use Rattle.sheet.specs.TakingLaws.{took_start, took_more, took_next, took_all}
use Rattle.sheet.proofs.taking.Taking.take.Goals as goal

pub loop-b-init : goal.loop-b-init
loop-b-init c = λ text t. took_start text c.args.piece.now _ _ _ t

pub loop-b-preserved : goal.loop-b-preserved
loop-b-preserved c = let l = c.loop-b in
    λ text t. took_next text c.args.piece.now l.b-index _ _ _ c.loop-b-test.true (took_more _ _ _ _ _ _ _ _ (l.invariant text t) c.keep_byte-len.ensures c.next_mode-mode.ensures)

pub returns : goal.returns
returns c = let l = c.loop-b in
    record { grows = λ text t. took_all text c.args.piece.now l.b-index _ _ _ c.loop-b-test.false (l.invariant text t); same = refl }
