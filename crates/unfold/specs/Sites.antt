-- The bodies that run, as the code names them, as the sites of the definitions.
use Rattle.unfold.specs.Unfold.{glyph, local, global}
use Rattle.unfold.specs.Unfold as body
use Rattle.unfold.specs.declared.Site.{Site}
use Rattle.unfold.specs.declared.Site.TheVariants.{Glyph, Local, Global}

-- a body of the code as the definitions name it
abbrev pub site_of : Site → body.Site
site_of (Glyph g) = glyph g
site_of (Local fd k) = local fd k
site_of (Global k) = global k
