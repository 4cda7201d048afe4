-- `find::find_id` meets its contract: the first place of the id.
use Rattle.std.proofs.Common.{eqb, rules, sym, ◌∙◌}
use Rattle.std.proofs.lemmas.Iterator.Adapters.{position_from-zero}
use Rattle.std.proofs.lemmas.Iterator.Consumers.{YieldsList-from_first}
use Rattle.std.proofs.lemmas.Iterator.Search.{position_from_yields_List}
use Rattle.charset.specs.Ids.{ids}
use Rattle.charset.specs.Iter.{ids_left}
use Rattle.find.specs.FindLaws.{id_place}
use Rattle.find.proofs.find_id.Goals as goal

pub returns : goal.returns
returns c =
    let a = c.args in
    let all = ids a.glyphs.now in
    position_from_yields_List (λ x. eqb x a.id) c.position.new.self _ c.position.result c.position.ensures.ran (YieldsList-from_first (λ x. x) ids_left all c.iter.ensures.all) (λ x b q k. search rules)
    ∙ position_from-zero _ all ∙ sym (id_place a.id 0 all)
