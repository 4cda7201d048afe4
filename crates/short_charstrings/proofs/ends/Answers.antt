-- `short_charstrings::ends` meets its contract: the run answers by the unfolding with no subroutines.
use Rattle.std.proofs.Common.{refl}
use Rattle.short_charstrings.specs.CodeLaws.{none_ready, ends-none, ends-met}
use Rattle.short_charstrings.proofs.ends.Goals as goal

pub returns-then-code-lt1 : goal.returns-then-code-lt1
returns-then-code-lt1 c = ends-none _ c.if-code-lt1.true

pub invariant_of-from : goal.invariant_of-from
invariant_of-from c = record { ready = none_ready _ refl }

pub returns : goal.returns
returns c = ends-met _ _ _ _ _ _ c.if-code-lt1.false c.run_glyph.ensures
