-- `entries::Entries::next` meets its contract: where an entry is left it is read, and the next one stands behind it.
use Rattle.std.proofs.Common.{ap, arith, length, rules}
use Rattle.dict.proofs.EntriesLaws.{told_end, told-entry, told-stopped}
use Rattle.dict.proofs.entries.EntriesIterator.next.Goals as goal

pub returns-then-self-clause-steps : goal.returns-then-self-clause-steps
returns-then-self-clause-steps c = let none = told_end _ _ c.if-self.true in (none, none)

pub returns-in-Ok-clause-steps : goal.returns-in-Ok-clause-steps
returns-in-Ok-clause-steps c = told-entry _ _ (omega (arith, c.if-self.false)) _ c.read_entry.ensures _ c.in-Ok.is

pub returns-in-Ok-clause-goes : goal.returns-in-Ok-clause-goes
returns-in-Ok-clause-goes c = let e = ap length (told-entry _ _ (omega (arith, c.if-self.false)) _ c.read_entry.ensures _ c.in-Ok.is) in search rules

pub returns-in-Err-clause-steps : goal.returns-in-Err-clause-steps
returns-in-Err-clause-steps c = told-stopped _ _ (omega (arith, c.if-self.false)) _ c.read_entry.ensures _ c.in-Err.is

pub returns-in-Err-clause-goes : goal.returns-in-Err-clause-goes
returns-in-Err-clause-goes c = let e = ap length (told-stopped _ _ (omega (arith, c.if-self.false)) _ c.read_entry.ensures _ c.in-Err.is) in search rules
