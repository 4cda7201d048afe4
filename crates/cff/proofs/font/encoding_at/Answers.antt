-- `cff::font::encoding_at` meets its contract: its tests are those of `encoding_got`, in order.
use Rattle.std.proofs.Common.{sym, ◌∙◌}
use Rattle.refusal.specs.HandedOn.{handed_on}
use Rattle.cff.specs.Font.{encoding_got}
use Rattle.cff.specs.Reads.{ReadsCoding}
use Rattle.cff.specs.FontLaws.{encoding-predefined, encoding_refused, encoding-checked}
use Rattle.cff.proofs.font.encoding_at.Goals as goal

pub returns-then-v-lt2 : goal.returns-then-v-lt2
returns-then-v-lt2 c = encoding-predefined c.args.font.now c.args.v c.if-v-lt2.true

pub returns-in_err-check_encoding : goal.returns-in_err-check_encoding
returns-in_err-check_encoding c =
    handed_on _ _ (ReadsCoding c.args.font.now (encoding_got c.args.font.now c.args.v)) c.from_residual.ensures.1
    (encoding_refused c.args.font.now c.args.v c.if-v-lt2.false _ (sym c.check_encoding.ensures ∙ c.in_err-check_encoding.was))

pub returns : goal.returns
returns c = encoding-checked c.args.font.now c.args.v c.if-v-lt2.false (sym c.check_encoding.ensures ∙ c.in_ok-check_encoding.was)
