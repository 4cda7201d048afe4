-- `dict_write::copied` meets its contract: the place that was found holds the operands of the last entry.
use Rattle.std.proofs.Common.{List, subst, sym, ℕ}
use Rattle.dict_write.specs.WriteLaws.{copied-absent, copied-found}
use Rattle.dict_write.proofs.copied.Goals as goal

pub entry-requires : goal.entry-requires
entry-requires g c = (c.requires.0, subst (λ (l : List ℕ). g.S.Sink.room c.args.to.now l) (sym (copied-found _ _ _ c.place.ensures _ _ c.in-Some.is)) c.requires.1)

pub returns-in-None : goal.returns-in-None
returns-in-None g c = subst (λ (l : List ℕ). g.S.Sink.takes c.args.to.now l c.args.to.now) (copied-absent _ _ _ c.place.ensures c.in-None.is) (g.met.S.Sink.follows.none _)

pub returns-in-Some : goal.returns-in-Some
returns-in-Some g c = subst (λ (l : List ℕ). g.S.Sink.takes c.args.to.now l c.entry.new.to) (copied-found _ _ _ c.place.ensures _ _ c.in-Some.is) c.entry.ensures
