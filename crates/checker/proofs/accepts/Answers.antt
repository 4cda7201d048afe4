-- `checker::accepts` meets its contract: the marked glyphs are the kept ones.
use Rattle.std.proofs.Common.{refl, ◌∙◌}
use Rattle.kept.specs.SlotLaws.{flags_long, flags_marked}
use Rattle.checker.specs.CheckLaws.{accepts_not, accepts_as}
use Rattle.checker.proofs.accepts.Goals as goal

pub mark-requires : goal.mark-requires
mark-requires c =
    let good = c.args.font.now.held.font in
    (good.some, flags_long _ _ refl good.ids.few, c.requires)

pub invariant_of-glyphs : goal.invariant_of-glyphs
invariant_of-glyphs c = record { long = flags_marked _ _ _ _ refl c.args.font.now.held.font.ids.few c.mark.ensures }

pub returns-then-numbers_are : goal.returns-then-numbers_are
returns-then-numbers_are c =
    let t = c.args.font.now in
    accepts_as t.loaded.bytes.now t.loaded.f t.held.font c.args.keep.now _ _ c.mark.ensures c.args.rows.now _ c.numbers_are.ensures c.if-numbers_are.true _ c.lists_met.ensures

pub returns-else-numbers_are : goal.returns-else-numbers_are
returns-else-numbers_are c =
    let t = c.args.font.now in
    c.if-numbers_are.false ∙ accepts_not t.loaded.bytes.now t.loaded.f t.held.font c.args.keep.now _ _ c.mark.ensures c.args.rows.now _ c.numbers_are.ensures c.if-numbers_are.false
