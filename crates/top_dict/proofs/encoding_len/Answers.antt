-- `top_dict::encoding_len` meets its contract: both cases of `encoding_len`.
use Rattle.std.proofs.Common.{arith}
use Rattle.top_dict.specs.TopLaws.{encoding-none, encoding_there}
use Rattle.top_dict.proofs.encoding_len.Goals as goal

pub returns-then-v-eq0 : goal.returns-then-v-eq0
returns-then-v-eq0 c = ((encoding-none _ c.if-v-eq0.true).1, omega arith)

pub returns : goal.returns
returns c = ((encoding_there _ c.if-v-eq0.false).1, omega arith)
