-- `cff_entries::kind_of` meets its contract: the kinds by their numbers.
use Rattle.cff_entries.specs.Kinds.{kind_charstring, kind_global, kind-text}
use Rattle.cff_entries.proofs.kind_of.Goals as goal

pub returns-in-0 : goal.returns-in-0
returns-in-0 c = kind_charstring _ c.in-0.is

pub returns-in-1 : goal.returns-in-1
returns-in-1 c = kind_global _ c.in-1.is

pub returns-in_default : goal.returns-in_default
returns-in_default c = let m = c.in_default.in_default-own.rest in kind-text _ m.0.1 m.1
