-- `listed::see_rows` meets its contract.
use Rattle.std.proofs.Common.{ap, ◌∙◌}
use Rattle.listed.specs.Listed.{key_in}
use Rattle.listed.specs.ListedLaws.{see_start, see_next, see_done}
use Rattle.listed.proofs.see_rows.Goals as goal

pub loop-i-init : goal.loop-i-init
loop-i-init c = see_start _ _ _

pub loop-i-preserved : goal.loop-i-preserved
loop-i-preserved c =
    see_next _ _ _ _ _ c.loop-i.invariant c.loop-i-test.true _ (c.row_key-key.ensures ∙ ap key_in c.row_at.ensures) _ c.see.ensures

pub returns : goal.returns
returns c = see_done _ _ _ _ _ c.loop-i.invariant c.loop-i-test.false
