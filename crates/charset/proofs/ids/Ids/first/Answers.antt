-- `ids::Ids::first` meets its contract: the ids of the first glyphs are the first of the ids.
use Rattle.charset.specs.AheadLaws.{front-ids, front-good}
use Rattle.charset.proofs.ids.Ids.first.Goals as goal

pub invariant_of-result : goal.invariant_of-result
invariant_of-result c = record { good = front-good _ _ _ _ c.args.self.now.good c.requires }

pub returns : goal.returns
returns c = front-ids _ _ _ _ c.args.self.now.good c.requires
