-- `codes::fill_ranges` meets its contract: the ranges that are left, of the glyphs behind those that were counted, give what all give.
use Rattle.std.proofs.Common.{◌≡◌, ◌+◌, ◌*◌, ◌-◌, ◌<◌, ◌≤◌, arith}
use Rattle.codes.specs.FillLaws.{ranges-turn, ranges_done}
use Rattle.codes.proofs.fill_ranges.Goals as goal

pub loop-i-preserved : goal.loop-i-preserved
loop-i-preserved c =
    let i = c.loop-i.i in
    let q : c.args.at + 2 * (i + 1) ≡ c.args.at + 2 * i + 2 = omega arith in
    let left : c.args.count - (i + 1) ≡ c.args.count - i - 1 = omega arith in
    let some : 0 < c.args.count - i = omega (arith, c.loop-i-test.true) in
    rw (q, left) (ranges-turn _ _ _ _ _ _ _ _ _ c.loop-i.invariant some _ _ c.u8_at-first.ensures.0 c.u8_at-many.ensures.0 c.u8_at-many.ensures.1 _ c.fill_range.ensures)

pub returns : goal.returns
returns c =
    let none : c.args.count - c.loop-i.i ≤ 0 = omega (arith, c.loop-i-test.false) in
    ranges_done _ _ _ _ _ _ _ _ _ c.loop-i.invariant none
