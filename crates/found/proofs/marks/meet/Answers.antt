-- `found::marks::meet` meets its contract: what both places held, before they were set.
use Rattle.std.proofs.Common.{Bool, ap, not, sym, true}
use Rattle.octets.specs.Pick.{pick}
use Rattle.found.specs.HashLaws.{marked-both}
use Rattle.found.proofs.marks.meet.Goals as goal

pub returns-then-low : goal.returns-then-low
returns-then-low c =
    marked-both _ _ _ _ _ _ c.see-low.ensures c.see-high.ensures _ (sym (ap (λ (x : Bool). pick x (not c.see-high.result) true) c.if-low.true))

pub returns : goal.returns
returns c =
    marked-both _ _ _ _ _ _ c.see-low.ensures c.see-high.ensures _ (sym (ap (λ (x : Bool). pick x (not c.see-high.result) true) c.if-low.false))
