use Rattle.std.proofs.Common.{length, ◌≡◌}
use Rattle.charstring.specs.TokensLaws.{fuel_of}
use Rattle.renumber.specs.Walks.{Puts}
use Rattle.mask_rows.specs.SameRoom.{SameRoom}
use Rattle.long_bodies.specs.Offsets.{GivesOrNone}
use Rattle.long_bodies.proofs.put_renumbered.Given as goal

abbrev pub invariant-loop-body : goal.invariant-loop-body
invariant-loop-body l = Puts l.one.body.now l.initial.out.bytes.now l.initial.out.at l.c l.h l.out.bytes.now l.out.at
    × GivesOrNone l.one.body.now.rows.bytes.now l.lent.bytes.now l.one.body.now.site l.part
    × (l.out.bytes.ghost_name ≡ l.initial.out.bytes.ghost_name) × (length l.out.bytes.now ≡ length l.initial.out.bytes.now) × SameRoom l.initial.lent l.lent

abbrev pub decreases-loop-body : goal.decreases-loop-body
decreases-loop-body l = fuel_of l.one.body.now.code.now l.c
