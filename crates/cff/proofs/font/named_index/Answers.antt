-- `cff::font::named_index` meets its contract: each answer of `offset` is one case of `needed`.
use Rattle.std.proofs.Common.{ap, ◌∙◌, Ok}
use Rattle.dict.specs.Held.{entries}
use Rattle.cff.specs.FontLaws.{named-read}
use Rattle.cff.proofs.font.named_index.Goals as goal

pub returns-in-Some : goal.returns-in-Some
returns-in-Some c = named-read c.args.font.now (entries c.args.d.now) c.args.op _ c.offset.ensures _ (c.in_ok-offset.was ∙ ap Ok c.in-Some.is) c.items_at.result c.items_at.ensures.0 c.items_at.ensures.1
