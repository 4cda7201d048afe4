-- `top_dict::copied_entries` meets its contract: the entries done were taken, and those that are left follow.
use Rattle.top_dict.specs.Sent.{sent_start, sent_room, sent_turn, sent_end}
use Rattle.top_dict.specs.TopLaws.{copied_next, copied-over, copied-operator}
use Rattle.top_dict.proofs.copied_entries.Goals as goal

pub loop-k-init : goal.loop-k-init
loop-k-init g c = sent_start g.met.S.Sink.follows _ _

pub copied-requires : goal.copied-requires
copied-requires g c = let e = c.copied_top_entry.ensures in (g.met.S.Sink.operators _ (copied-operator _ _ c.loop-k-test.true e), sent_room g.met.S.Sink.follows c.requires (copied_next _ _ c.loop-k-test.true _ e) c.loop-k.invariant)

pub loop-k-preserved : goal.loop-k-preserved
loop-k-preserved g c = sent_turn g.met.S.Sink.follows c.requires (copied_next _ _ c.loop-k-test.true _ c.copied_top_entry.ensures) c.loop-k.invariant c.copied.ensures

pub returns : goal.returns
returns g c = sent_end c.loop-k.invariant (copied-over _ _ c.loop-k-test.false)
