-- `dict_write::copied_len` meets its contract: the place that was found holds the operands of the last entry.
use Rattle.std.proofs.Common.{ap, arith, length, ◌∙◌}
use Rattle.dict_write.specs.WriteLaws.{copied-absent, copied-found}
use Rattle.dict_write.proofs.copied_len.Goals as goal

pub returns-in-None : goal.returns-in-None
returns-in-None c = (ap length (copied-absent _ _ _ c.place.ensures c.in-None.is), omega arith)

pub returns-in-Some : goal.returns-in-Some
returns-in-Some c = (c.entry_len.ensures.0 ∙ ap length (copied-found _ _ _ c.place.ensures _ _ c.in-Some.is), c.entry_len.ensures.1)
