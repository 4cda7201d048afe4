-- `first_glyphs::see` meets its contract: the bit as it was, before it was set.
use Rattle.std.proofs.Common.{arith}
use Rattle.first_glyphs.specs.BitsLaws.{sees}
use Rattle.first_glyphs.proofs.see.Goals as goal

pub returns : goal.returns
returns c =
    sees _ _ _ _ (omega (arith, c.before.requires)) c.has_bit-was.ensures c.set_bit.ensures
