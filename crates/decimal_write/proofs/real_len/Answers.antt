-- `decimal_write::real_len` meets its contract: half the nibbles, the end and the first byte.
use Rattle.std.proofs.Common.{arith, ap, length}
use Rattle.decimal.specs.Written.{real_text}
use Rattle.decimal_write.specs.TextLaws.{length-real}
use Rattle.decimal_write.proofs.real_len.Goals as goal

pub returns : goal.returns
returns c = omega (arith, length-real c.args.d, ap (λ d. length (real_text d)) c.text_of.ensures, c.text_len.ensures.0)
