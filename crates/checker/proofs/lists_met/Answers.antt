-- `checker::lists_met` meets its contract: one glyph is not plain, or the first window of their rows.
use Rattle.std.proofs.Common.{refl}
use Rattle.kept.specs.SlotLaws.{slots-empty}
use Rattle.checker.specs.CheckLaws.{met_broken, met_asks, met-listed}
use Rattle.checker.proofs.lists_met.Goals as goal

pub windows_listed-requires : goal.windows_listed-requires
windows_listed-requires c = met_asks c.args.glyphs.now _ _ _ c.fill.ensures _ c.in-Some.is (slots-empty _ refl).size

pub returns-in-None : goal.returns-in-None
returns-in-None c = met_broken c.args.glyphs.now _ _ _ c.fill.ensures c.in-None.is c.args.rows.now

pub returns-in-Some : goal.returns-in-Some
returns-in-Some c =
    met-listed c.args.glyphs.now _ _ _ c.fill.ensures _ c.in-Some.is c.args.rows.now (λ k. (c.type_inv.rows k).fits) _ c.windows_listed.ensures
