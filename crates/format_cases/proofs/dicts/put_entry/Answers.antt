-- `dicts::put_entry` meets its contract: one write after the other.
use Rattle.std.proofs.Common.{append_assoc}
use Rattle.format_cases.specs.Dicts.{entry_bytes}
use Rattle.format_cases.proofs.dicts.put_entry.Goals as goal

pub returns : goal.returns
unfolding entry_bytes
returns c = simp (c.put_operands.ensures, c.num-2.ensures.0, c.num.ensures.0, append_assoc)
