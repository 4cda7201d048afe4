-- `long_bodies::any_site::any_of` meets its contract, site by site.
use Rattle.std.proofs.Common.{ap, sym}
use Rattle.long_bodies.specs.AnySites.{any_in}
use Rattle.long_bodies.proofs.any_site.any_of.Goals as goal

pub returns-in-Glyph : goal.returns-in-Glyph
returns-in-Glyph c = sym (ap any_in c.in-Glyph.is)

pub returns-in-Local : goal.returns-in-Local
returns-in-Local c = sym (ap any_in c.in-Local.is)

pub returns-in-Global : goal.returns-in-Global
returns-in-Global c = sym (ap any_in c.in-Global.is)
