-- `reading::read_taken` meets its contract: what is in the buffer is read, or there was too much.
use Rattle.std.proofs.Common.{refl}
use Rattle.sheet.specs.TakenLaws.{taken-reads, taken_other}
use Rattle.sheet.proofs.reading.read_taken.Goals as goal

pub returns-then-len-le48134 : goal.returns-then-len-le48134
returns-then-len-le48134 c = (λ text mode t. taken-reads text _ _ _ _ _ _ mode _ c.if-len-le48134.true c.read_sheet.ensures.0 t, c.read_sheet.ensures.1)

pub returns : goal.returns
returns c = (λ text mode t. taken_other text _ _ _ _ _ _ mode c.if-len-le48134.false t, record { font = refl; name = refl; keep = refl; rec = refl })
