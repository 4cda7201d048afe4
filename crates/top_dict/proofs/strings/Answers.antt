-- `top_dict::strings` meets its contract: the entries done were taken, and those that are left follow.
use Rattle.std.proofs.Common.{arith}
use Rattle.top_dict.specs.Sent.{sent_start, sent_room, sent_turn, sent_end}
use Rattle.top_dict.specs.TopLaws.{strings-next, strings-over, six_operator}
use Rattle.top_dict.proofs.strings.Goals as goal

pub loop-k-init : goal.loop-k-init
loop-k-init g c = sent_start g.met.S.Sink.follows _ _

pub slot-requires : goal.slot-requires
slot-requires g c = let e = c.copied_top_string.ensures in (omega (arith, c.loop-k-test.true), g.met.S.Sink.operators _ (six_operator _ _ c.loop-k-test.true e), sent_room g.met.S.Sink.follows c.requires.0 (strings-next _ _ c.loop-k-test.true _ e) c.loop-k.invariant, c.requires.1)

pub loop-k-preserved : goal.loop-k-preserved
loop-k-preserved g c = sent_turn g.met.S.Sink.follows c.requires.0 (strings-next _ _ c.loop-k-test.true _ c.copied_top_string.ensures) c.loop-k.invariant c.slot.ensures

pub returns : goal.returns
returns g c = sent_end c.loop-k.invariant (strings-over _ _ c.loop-k-test.false)
