-- `cff::remembered::Remembered::note` meets its contract: one more that is known stands among them.
use Rattle.std.proofs.lemmas.List.Elements.{All-set}
use Rattle.cff.specs.Reads.{Known}
use Rattle.cff.proofs.remembered.Remembered.note.Goals as goal

pub invariant_of-self : goal.invariant_of-self
invariant_of-self c = record { known = All-set (Known _) _ _ _ c.requires.0 c.args.self.now.known; within = c.free_after-self.ensures.1 }
