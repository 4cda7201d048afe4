-- `cff::remembered::Remembered::locals_of` meets its contract: the words are for the local subroutines that were found.
use Rattle.cff.specs.ReadsLaws.{counted-found}
use Rattle.cff.proofs.remembered.Remembered.locals_of.Goals as goal

pub returns : goal.returns
returns c = counted-found _ _ _ _ c.in_ok-q.ensures _ c.words_for-words.ensures.0 _ c.args.self.now.within
