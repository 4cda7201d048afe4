-- `codes::fill_codes` meets its contract: the codes that are left give what all give.
use Rattle.std.proofs.Common.{◌≡◌, ◌+◌, ◌-◌, ◌<◌, ◌≤◌, arith, rules, get_or, get_or-take, get_or-drop}
use Rattle.codes.specs.FillLaws.{codes-turn, codes_done}
use Rattle.codes.proofs.fill_codes.Goals as goal

pub loop-i-preserved : goal.loop-i-preserved
loop-i-preserved c =
    let i = c.loop-i.i in
    let q : c.args.at + (i + 1) ≡ c.args.at + i + 1 = omega arith in
    let left : c.args.count - (i + 1) ≡ c.args.count - i - 1 = omega arith in
    let some : 0 < c.args.count - i = omega (arith, c.loop-i-test.true) in
    let code : c.from.result ≡ get_or c.args.font.now (c.args.at + i) 0 = search (rules, get_or-take, get_or-drop) in
    rw (q, left) (codes-turn _ _ _ _ _ _ _ _ _ c.loop-i.invariant some _ code _ c.name_glyph.ensures)

pub returns : goal.returns
returns c =
    let none : c.args.count - c.loop-i.i ≤ 0 = omega (arith, c.loop-i-test.false) in
    codes_done _ _ _ _ _ _ _ _ _ c.loop-i.invariant none
