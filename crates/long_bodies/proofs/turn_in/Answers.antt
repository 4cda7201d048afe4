-- `long_bodies::turn_in` meets its contract: a token is read by a part of the rows as by all.
use Rattle.std.specs.Prelude.{ℕ, List}
use Rattle.std.proofs.Common.{ap, refl, ◌∙◌}
use Rattle.record.specs.Record.{rows_of}
use Rattle.reach.specs.Reach.{rises}
use Rattle.renumber.specs.Turn.{cursor}
use Rattle.renumber.specs.Bodies.{calls_of}
use Rattle.long_bodies.specs.WalkLaws.{turned-alike}
use Rattle.long_bodies.proofs.turn_in.Goals as goal

pub rows-requires : goal.rows-requires
rows-requires c = c.requires.2.fits

pub rows_known-rows-requires : goal.rows_known-rows-requires
rows_known-rows-requires c = λ z. ap (λ (l : List ℕ). rises (rows_of l)) c.rows.ensures ∙ c.requires.2.rising

pub invariant_of-shown : goal.invariant_of-shown
invariant_of-shown c = record { octets = c.args.body.now.octets; inputs = c.args.body.now.inputs }

pub returns : goal.returns
returns c =
    turned-alike c.requires.2 (c.rows_known-rows.ensures.0 ∙ c.rows.ensures) (calls_of c.args.body.now) c.args.h c.args.body.now.code.now (cursor c.args.at c.args.args c.args.stems c.args.due) _ refl c.requires.3 c.requires.4 _ c.turn_at.ensures
