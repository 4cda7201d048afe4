-- `cff::font::ids_at` meets its contract: its tests are those of `ids_at`, in order.
use Rattle.cff.specs.FontLaws.{ids-own, ids_expert, ids-read}
use Rattle.cff.proofs.font.ids_at.Goals as goal

pub returns-then-v-eq0 : goal.returns-then-v-eq0
returns-then-v-eq0 c = ids-own c.args.font.now c.args.n c.args.v c.requires.1 c.if-v-eq0.true _ c.predefined.ensures

pub returns-then-v-lt3 : goal.returns-then-v-lt3
returns-then-v-lt3 c = ids_expert c.args.font.now c.args.n c.args.v c.requires.1 c.if-v-eq0.false c.if-v-lt3.true

pub returns : goal.returns
returns c = ids-read c.args.font.now c.args.n c.args.v c.requires.1 c.if-v-eq0.false c.if-v-lt3.false c.read_charset.result c.read_charset.ensures
