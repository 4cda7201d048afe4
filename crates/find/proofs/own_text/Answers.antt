-- `find::own_text` meets its contract: an item of the INDEX, or no text past them.
use Rattle.std.proofs.Common.{arith, sym, ◌∙◌}
use Rattle.index.specs.Items.{items}
use Rattle.index.specs.IndexLaws.{items-length}
use Rattle.strings.proofs.StringsLaws.{string_own, string_none}
use Rattle.find.proofs.own_text.Goals as goal

pub returns-then-k-strings : goal.returns-then-k-strings
returns-then-k-strings c = c.item.ensures.0 ∙ sym (string_own (items c.args.strings.now) c.args.id c.requires)

pub returns : goal.returns
returns c =
    let s = c.args.strings.now in
    sym (string_none (items s) c.args.id (omega (arith, items-length s.bytes.now s.ix, c.if-k-strings.false, c.requires)))
