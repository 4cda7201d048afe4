-- `find::find_text` meets its contract: the first place of an id with the name.
use Rattle.std.proofs.Common.{rules, sym, ◌∙◌}
use Rattle.std.proofs.lemmas.Iterator.Adapters.{position_from-zero}
use Rattle.std.proofs.lemmas.Iterator.Consumers.{YieldsList-from_first}
use Rattle.std.proofs.lemmas.Iterator.Search.{position_from_yields_List}
use Rattle.index.specs.Items.{items}
use Rattle.strings.specs.Text.{same_text_lem}
use Rattle.strings.specs.Strings.{string_text}
use Rattle.charset.specs.Ids.{ids}
use Rattle.charset.specs.Iter.{ids_left}
use Rattle.find.specs.FindLaws.{text_place}
use Rattle.find.proofs.find_text.Goals as goal

pub returns : goal.returns
returns c =
    let a = c.args in
    let all = ids a.glyphs.now in
    position_from_yields_List (λ x. same_text_lem (string_text (items a.strings.now) x) a.name.now) c.position.new.self _ c.position.result c.position.ensures.ran (YieldsList-from_first (λ x. x) ids_left all c.iter.ensures.all) (λ x b q k. search rules)
    ∙ position_from-zero _ all ∙ sym (text_place (items a.strings.now) a.name.now 0 all)
