-- `listed::see` meets its contract: the key stands at its place, or at none.
use Rattle.std.proofs.Common.{arith, sym, ◌∙◌}
use Rattle.listed.specs.ListedLaws.{stands_inside, see_none, see_one}
use Rattle.listed.proofs.see.Goals as goal

pub bounds-seen-i : goal.bounds-seen-i
bounds-seen-i c =
    omega (arith, stands_inside c.args.window.now.keys.now _ c.args.key (sym c.stands_at.ensures ∙ c.if-stands_at.true), c.requires)

pub returns-then-stands_at : goal.returns-then-stands_at
returns-then-stands_at c =
    see_one _ c.args.window.now.rises _ _ c.first_at-i.ensures _ c.requires (sym c.stands_at.ensures ∙ c.if-stands_at.true)

pub returns-else-stands_at : goal.returns-else-stands_at
returns-else-stands_at c =
    see_none _ c.args.window.now.rises _ _ c.first_at-i.ensures _ (sym c.stands_at.ensures ∙ c.if-stands_at.false)
