-- `glyphs::put_ids` meets its contract.
use Rattle.std.proofs.Common.{ap, arith, length, subst, sym, ◌++◌, ◌∷◌, ◌≡◌, ◌∙◌}
use Rattle.index.specs.Write.{table_bytes}
use Rattle.charset.specs.CharsetFound.{good_length}
use Rattle.charset.specs.Ids.{ids}
use Rattle.charset.specs.Iter.{ids_left}
use Rattle.cases.specs.Adding.{Adding, adding_start, adding-turn, adding_end}
use Rattle.format_cases.specs.GlyphsLaws.{numbers-more, numbers_end}
use Rattle.format_cases.proofs.glyphs.put_ids.Goals as goal

pub loop-id-init : goal.loop-id-init
loop-id-init c =
    let a = c.args in
    let all = ap ids_left c.into_iter-id-iterator.ensures.into_iter_gives ∙ c.iter-id-items.ensures.all in
    let many = ap length all ∙ good_length _ _ _ a.glyphs.now.good in
    (omega (arith, c.requires, many), subst (λ l. Adding a.to.now (table_bytes 2 (ids a.glyphs.now)) a.to.now (table_bytes 2 l)) (sym all) (adding_start _ _))

pub loop-id-preserved : goal.loop-id-preserved
loop-id-preserved c =
    let i = c.loop-id.invariant in
    let w = c.num.ensures in
    let more = c.in-Some.ensures.steps in
    (omega (arith, w.1, i.0, ap length more), adding-turn i.1 _ _ (numbers-more 2 _ _ _ more) w.0)

pub returns : goal.returns
returns c = adding_end c.loop-id.invariant.1 (numbers_end 2 _ c.in-None.ensures.steps.0)
