-- `reach::masks::rises` meets its contract.
use Rattle.std.proofs.Common.{ap, arith, ◌+◌, ◌∙◌}
use Rattle.reach.specs.Reach.{key_of_lem, rest_of}
use Rattle.reach.specs.Masks.{rises_from}
use Rattle.reach.specs.MaskLaws.{rises-start, rises_stops, rises-on, rises_end}
use Rattle.reach.proofs.masks.rises.Goals as goal

pub loop-i-init : goal.loop-i-init
loop-i-init c = rises-start _

pub returns-then-key-last : goal.returns-then-key-last
returns-then-key-last c =
    let l = c.loop-i in
    let b = c.args.rows.now in
    let e = c.key_of-key.ensures ∙ ap key_of_lem c.row_at.ensures in
    rises_stops b l.i (omega arith) l.last (omega (arith, e)) ∙ l.invariant

pub loop-i-preserved : goal.loop-i-preserved
loop-i-preserved c =
    let l = c.loop-i in
    let b = c.args.rows.now in
    let e = c.key_of-key.ensures ∙ ap key_of_lem c.row_at.ensures in
    ap (λ m. rises_from m (rest_of b (l.i + 1))) e ∙ rises-on b l.i (omega arith) l.last (omega (arith, e)) ∙ l.invariant

pub returns : goal.returns
returns c =
    let l = c.loop-i in
    rises_end c.args.rows.now l.i (omega arith) l.last ∙ l.invariant
