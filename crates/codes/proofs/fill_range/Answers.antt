-- `codes::fill_range` meets its contract: the codes of the range that are left give what all give.
use Rattle.std.proofs.Common.{◌≡◌, ◌+◌, ◌-◌, ◌<◌, ◌≤◌, arith}
use Rattle.codes.specs.FillLaws.{range-turn, range_done}
use Rattle.codes.proofs.fill_range.Goals as goal

pub loop-i-preserved : goal.loop-i-preserved
loop-i-preserved c =
    let i = c.loop-i.i in
    let code : c.args.first + (i + 1) ≡ c.args.first + i + 1 = omega arith in
    let glyph : c.args.from + (i + 1) ≡ c.args.from + i + 1 = omega arith in
    let left : c.args.count - (i + 1) ≡ c.args.count - i - 1 = omega arith in
    let some : 0 < c.args.count - i = omega (arith, c.loop-i-test.true) in
    rw (code, glyph, left) (range-turn _ _ _ _ _ _ _ _ _ c.loop-i.invariant some _ c.name_glyph.ensures)

pub returns : goal.returns
returns c =
    let none : c.args.count - c.loop-i.i ≤ 0 = omega (arith, c.loop-i-test.false) in
    range_done _ _ _ _ _ _ _ _ _ c.loop-i.invariant none
