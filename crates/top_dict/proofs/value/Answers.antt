-- `top_dict::value` meets its contract: a number, and then the operator.
use Rattle.top_dict.specs.Sent.{first_fits, then_fits, both_sent}
use Rattle.top_dict.specs.TopParts.{value-parts}
use Rattle.top_dict.proofs.value.Goals as goal

pub integer-requires : goal.integer-requires
integer-requires g c = (c.requires.1, first_fits g.met.S.Sink.follows (value-parts c.args.op c.args.n) c.requires.2)

pub op-requires : goal.op-requires
op-requires g c = (c.requires.0, then_fits g.met.S.Sink.follows (value-parts c.args.op c.args.n) c.requires.2 c.integer.ensures)

pub returns : goal.returns
returns g c = both_sent g.met.S.Sink.follows (value-parts c.args.op c.args.n) c.requires.2 c.integer.ensures c.op.ensures
