-- `top_dict::carried` meets its contract: the string entries, and then the others.
use Rattle.top_dict.specs.Top.{carried}
use Rattle.top_dict.proofs.carried.Goals as goal

pub strings-requires : goal.strings-requires
unfolding carried
strings-requires g c = (g.met.S.Sink.follows.first _ _ _ c.requires, c.args.top.now.filled)

pub copied_entries-requires : goal.copied_entries-requires
unfolding carried
copied_entries-requires g c = g.met.S.Sink.follows.second _ _ _ _ c.requires c.strings.ensures

pub returns : goal.returns
unfolding carried
returns g c = g.met.S.Sink.follows.both _ _ _ _ _ c.requires c.strings.ensures c.copied_entries.ensures
