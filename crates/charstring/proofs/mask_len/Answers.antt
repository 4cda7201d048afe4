-- `charstring::mask_len` meets its contract: a given length is itself, and stems are rounded up to bytes.
use Rattle.charstring.specs.TokenLaws.{own_even, own-more}
use Rattle.charstring.proofs.mask_len.Goals as goal

pub returns-then-stems-eq0 : goal.returns-then-stems-eq0
returns-then-stems-eq0 c = own_even _ _ c.in-Own.is c.if-stems-eq0.true

pub returns-else-stems-eq0 : goal.returns-else-stems-eq0
returns-else-stems-eq0 c = own-more _ _ c.in-Own.is c.if-stems-eq0.false
