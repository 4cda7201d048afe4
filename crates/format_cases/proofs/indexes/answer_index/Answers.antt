-- `indexes::answer_index` meets its contract: the font is what stands behind the position.
use Rattle.std.proofs.Common.{sym, ◌∙◌}
use Rattle.format_cases.specs.IndexesLaws.{rest-lent, index_short, index-whole}
use Rattle.format_cases.proofs.indexes.answer_index.Goals as goal

pub returns-then-input-lt2 : goal.returns-then-input-lt2
returns-then-input-lt2 c = sym (index_short c.args.input.now c.if-input-lt2.true)

pub returns : goal.returns
returns c = let s = c.args.input.now in c.index_in.ensures ∙ sym (index-whole s c.if-input-lt2.false _ (rest-lent s 2 c.if-input-lt2.false) _ c.u16_at.ensures.0)
