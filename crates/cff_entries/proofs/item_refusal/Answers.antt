-- `cff_entries::item_refusal` meets its contract: the count of the INDEX is the count of its items.
use Rattle.cff.specs.SetLaws.{found-font, refusal-none, refusal_six}
use Rattle.cff_entries.proofs.item_refusal.Goals as goal

pub returns-then-number-ix : goal.returns-then-number-ix
returns-then-number-ix c =
    refusal-none c.args.font.now _ _ (found-font c.args.font.now _ c.read_font.ensures _ c.in_ok-f.was) c.args.kind _ c.index_in-ix.ensures _ c.if-number-ix.true

pub returns : goal.returns
returns c =
    refusal_six c.args.font.now _ _ (found-font c.args.font.now _ c.read_font.ensures _ c.in_ok-f.was) c.args.kind _ c.index_in-ix.ensures _ c.if-number-ix.false
