-- `long_bodies::renumbered_len` meets its contract: two lengths at one offset fail, and then the body decides.
use Rattle.std.proofs.Common.{refl, sym, ◌∙◌}
use Rattle.mask_rows.specs.SameRoom.{room_then}
use Rattle.renumber.specs.BodyLaws.{two-fail, one-length}
use Rattle.long_bodies.proofs.renumbered_len.Goals as goal

pub returns-then-two_lengths_of : goal.returns-then-two_lengths_of
returns-then-two_lengths_of c = (two-fail _ _ _ _ (sym c.two_lengths_of.ensures ∙ c.if-two_lengths_of.true), record { keys = refl; bytes = refl; many = c.two_lengths_of.auto.keys; long = refl })

pub body_len-requires : goal.body_len-requires
body_len-requires c = sym c.two_lengths_of.ensures ∙ c.if-two_lengths_of.false

pub returns : goal.returns
returns c =
    let b = c.body_len.ensures in
    (b.0 ∙ one-length _ _ _ _ (sym c.two_lengths_of.ensures ∙ c.if-two_lengths_of.false), room_then (record { keys = refl; bytes = refl; many = c.two_lengths_of.auto.keys; long = refl }) b.1)
