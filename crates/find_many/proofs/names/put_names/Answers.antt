-- `names::put_names` meets its contract.
use Rattle.std.proofs.Common.{ap, arith, drop, get_or, length, refl, rules, take, ℕ, ◌+◌, ◌-◌, ◌<◌, ◌∙◌, ◌≡◌, ◌≤◌}
use Rattle.cff.specs.Loaded.{program}
use Rattle.find_many.specs.Many.{of_name}
use Rattle.find_many.specs.ManyLaws.{sum-next, names-turn, names_end}
use Rattle.find_many.proofs.names.put_names.Goals as goal

pub slice_bounds-name_in-end : goal.slice_bounds-name_in-end
slice_bounds-name_in-end c =
    let l = c.loop-i in
    let h : l.at + get_or c.args.lens.now l.i 0 ≤ length c.args.names.now = omega (arith, sum-next c.args.lens.now l.i c.loop-i-test.true, l.invariant.0) in
    search rules

pub loop-i-preserved : goal.loop-i-preserved
loop-i-preserved c =
    let l = c.loop-i in
    let a = c.args in
    let n = get_or a.lens.now l.i 0 in
    let t = c.loop-i-test.true in
    let e : l.at + n - l.at ≡ n = omega arith in
    let x = c.name_in.ensures ∙ ap (λ (k : ℕ). of_name (program a.font.now) (take k (drop l.at a.names.now))) e in
    let room : l.i < length l.glyphs = omega (arith, c.requires.1) in (
      omega (arith, sum-next a.lens.now l.i t, l.invariant.0),
      names-turn (of_name (program a.font.now)) a.lens.now a.names.now l.i l.at n t refl l.glyphs room _ x ∙ l.invariant.1,
    )

pub returns : goal.returns
returns c =
    let a = c.args in
    names_end (of_name (program a.font.now)) a.lens.now a.names.now c.loop-i.i c.loop-i.at c.loop-i-test.false c.loop-i.glyphs
    ∙ c.loop-i.invariant.1
