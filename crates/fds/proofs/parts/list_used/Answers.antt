-- `parts::list_used` meets its contract.
use Rattle.std.proofs.Common.{arith}
use Rattle.fds.specs.UsedLaws.{not_used, is_used}
use Rattle.fds.specs.ListLaws.{listing_start, listing-pass, listing-take}
use Rattle.fds.proofs.parts.list_used.Goals as goal
use Rattle.fds.proofs.parts.list_used.Goals.{then-used-fd-ne0, else-used-fd-ne0}

pub loop-fd-init : goal.loop-fd-init
loop-fd-init c = (omega arith, listing_start _ _)

pub loop-fd-preserved : goal.loop-fd-preserved
loop-fd-preserved c =
    let i = c.loop-fd.invariant in
    elim c.if-used-fd-ne0.branch [
      | then-used-fd-ne0 w ↦
          (omega (arith, i.0, w.j-is), rw (w.fds-is, w.j-is) (listing-take _ _ _ _ _ i.1 (is_used c.args.used.now c.loop-fd.fd w.if-used-fd-ne0.true) (omega (arith, i.0, c.requires.1, c.loop-fd-test.true))))
      | else-used-fd-ne0 w ↦
          (omega (arith, i.0, w.j-is), rw (w.fds-is, w.j-is) (listing-pass _ _ _ _ _ i.1 (not_used c.args.used.now c.loop-fd.fd w.if-used-fd-ne0.false)))
    ]
