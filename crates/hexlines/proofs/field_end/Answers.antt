-- `hexlines::field_end` meets its contract: the first blank in all that is left.
use Rattle.std.proofs.Common.{arith, ap, length-drop, ◌∙◌, ◌+◌}
use Rattle.hexlines.specs.HexlinesLaws.{field-place}
use Rattle.hexlines.proofs.field_end.Goals as goal

pub returns : goal.returns
returns c =
    let a = c.args in
    (ap (λ i. a.at + i) c.place_of.ensures.0 ∙ field-place a.s.now a.at, omega arith, omega (arith, c.place_of.ensures.1, length-drop a.at a.s.now))
