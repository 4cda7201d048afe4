-- That charstrings are asked for rightly is one fact, so that a type may hold it.
use Rattle.std.specs.Prelude.{ℕ, List}
use Rattle.std.proofs.Props.{props}
use Rattle.index.specs.Alone.{good_prop}
use Rattle.unfold.specs.Unfold.{Row}
use Rattle.order_window.specs.declared.Order.{Order}
use Rattle.renumber.specs.declared.Ranks.{Ranks}
use Rattle.bodies.specs.declared.Manner.{Manner}
use Rattle.glyph_bodies.specs.Charstrings.{CharstringsIn}
use Rattle.glyph_bodies.specs.Glyphs.{GlyphIn}
use Rattle.glyph_bodies.specs.declared.glyphs.Glyph.{Glyph}
use Rattle.glyph_bodies.specs.declared.glyphs.Source.{Source}

pub glyph_in_prop : (b ws : List ℕ) (table : List Ranks) (from : Source) (g : Glyph) (rows : List Row) → IsProp (GlyphIn b ws table from g rows)
glyph_in_prop b ws table from g rows = Prim.hlevel (props, good_prop)

pub charstrings_in_prop : (b ws : List ℕ) (table : List Ranks) (o : Order) (how : Manner) (rows : List Row) → IsProp (CharstringsIn b ws table o how rows)
charstrings_in_prop b ws table o how rows = Prim.hlevel props
