-- `codes::fill_supplements` meets its contract: the supplements that are left give what all give.
use Rattle.std.proofs.Common.{◌≡◌, ◌+◌, ◌*◌, ◌-◌, ◌<◌, ◌≤◌, arith}
use Rattle.codes.specs.FillLaws.{supplied-turn, supplied_done}
use Rattle.codes.proofs.fill_supplements.Goals as goal

pub loop-i-preserved : goal.loop-i-preserved
loop-i-preserved c =
    let i = c.loop-i.i in
    let q : c.args.at + 3 * (i + 1) ≡ c.args.at + 3 * i + 3 = omega arith in
    let left : c.args.count - (i + 1) ≡ c.args.count - i - 1 = omega arith in
    let some : 0 < c.args.count - i = omega (arith, c.loop-i-test.true) in
    rw (q, left) (supplied-turn _ _ _ _ _ _ _ _ c.loop-i.invariant some _ _ c.u8_at-code.ensures.0 c.u16_at-sid.ensures.0 _ c.name_string.ensures)

pub returns : goal.returns
returns c =
    let none : c.args.count - c.loop-i.i ≤ 0 = omega (arith, c.loop-i-test.false) in
    supplied_done _ _ _ _ _ _ _ _ c.loop-i.invariant none
