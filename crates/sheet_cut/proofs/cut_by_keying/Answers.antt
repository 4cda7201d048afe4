-- `cut_by_keying` meets its contract: the first call where it is not refused with 3, else the second on what the first has left as found.
use Rattle.sheet_cut.specs.CuttingLaws.{three-tested, first_refused, first-subset, second-cuts}
use Rattle.sheet_cut.proofs.cut_by_keying.Goals as goal

pub returns-then-eq : goal.returns-then-eq
returns-then-eq c = second-cuts _ _ _ _ _ _ _ _ _ _ _ _ _ _ c.cut-first.ensures c.in-Err.is (three-tested _ _ c.if-eq.ensures) c.cut.ensures

pub returns-else-eq : goal.returns-else-eq
returns-else-eq c = first_refused _ _ _ _ _ _ _ _ _ _ _ c.cut-first.ensures c.in-Err.is (three-tested _ _ c.if-eq.ensures)

pub returns-in-Ok : goal.returns-in-Ok
returns-in-Ok c = first-subset _ _ _ _ _ _ _ _ _ _ _ c.cut-first.ensures c.in-Ok.is
