use Rattle.charstring.specs.TokensLaws.{fuel_of}
use Rattle.renumber.specs.Walks.{Sizes}
use Rattle.mask_rows.specs.SameRoom.{SameRoom}
use Rattle.long_bodies.specs.Offsets.{GivesOrNone}
use Rattle.long_bodies.proofs.body_len.Given as goal

abbrev pub invariant-loop-body : goal.invariant-loop-body
invariant-loop-body l = Sizes l.one.body.now l.c l.h l.len × GivesOrNone l.one.body.now.rows.bytes.now l.lent.bytes.now l.one.body.now.site l.part
    × SameRoom l.initial.lent l.lent

abbrev pub decreases-loop-body : goal.decreases-loop-body
decreases-loop-body l = fuel_of l.one.body.now.code.now l.c
