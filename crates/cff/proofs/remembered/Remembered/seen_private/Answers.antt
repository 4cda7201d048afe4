-- `cff::remembered::Remembered::seen_private` meets its contract: what is remembered of a size and an offset is what reading there gave.
use Rattle.std.proofs.Common.{◌∙◌, sym, rules}
use Rattle.cff.specs.ReadsLaws.{next-seen}
use Rattle.cff.proofs.remembered.Remembered.seen_private.Goals as goal

pub returns-in-Some : goal.returns-in-Some
returns-in-Some c = next-seen _ _ c.args.self.now.known _ _ _ (sym c.recall.ensures ∙ c.in-Some.is) (search rules)
