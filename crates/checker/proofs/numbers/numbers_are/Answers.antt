-- `numbers::numbers_are` meets its contract: the table has the counts of the FDs in use, and no limit for the others.
use Rattle.std.proofs.Common.{refl, ◌∙◌}
use Rattle.checker.specs.NumberLaws.{no_limits, numbers-same}
use Rattle.checker.proofs.numbers.numbers_are.Goals as goal

pub put_limits-requires : goal.put_limits-requires
put_limits-requires c = no_limits _ refl

pub returns : goal.returns
returns c =
    c.numbers_fit.ensures ∙ numbers-same c.args.glyphs.now _ c.put_limits.ensures _ refl c.args.rows.now (λ k. (c.type_inv.rows k).fits)
