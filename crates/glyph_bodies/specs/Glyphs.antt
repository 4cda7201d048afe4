-- The charstring of one glyph by the way (document 01, 'Corners in write.rs'), as the code takes it: the glyph and its FD by value.
use Rattle.std.specs.Prelude.{ℕ, ◌≤◌, ◌<◌, ◌≡◌, true, List, [], length, get_or, Option}
use Rattle.index.specs.Good.{Good}
use Rattle.index.specs.Index.{items_of}
use Rattle.charset.specs.FdPlaces.{fd_of}
use Rattle.charset.specs.declared.fd_select.FdSelect.{FdSelect}
use Rattle.unfold.specs.Unfold.{Row, glyph}
use Rattle.reach.specs.Reach.{rises}
use Rattle.renumber.specs.Ranks.{calls_by, Ranked}
use Rattle.renumber.specs.declared.Ranks.{Ranks}
use Rattle.bodies.specs.Ways.{body_by, ranks_in}
use Rattle.glyph_bodies.specs.declared.glyphs.Glyph.{Glyph}
use Rattle.glyph_bodies.specs.declared.glyphs.Source.{Source}

-- a glyph with its FD
abbrev pub glyph_of : List ℕ → FdSelect → ℕ → Glyph
glyph_of b select g = record { number = g; fd = fd_of b select g }

-- its charstring by the way, or that its renumbering fails
abbrev pub charstring_for : Source → Glyph → List Row → List ℕ → List Ranks → List ℕ → Option (List ℕ)
charstring_for from g rows ws table b =
    body_by from.how.way rows (calls_by ws (ranks_in table g.fd) from.how.globals) (glyph g.number) (get_or (items_of b from.ix) g.number [])

-- what it asks of the font, the words and the tables
pub record GlyphIn (b ws : List ℕ) (table : List Ranks) (from : Source) (g : Glyph) (rows : List Row) : Type 0 where
  pub good : Good b from.ix
  pub few : from.ix.count < 65536
  pub inside : g.number < from.ix.count
  pub size : length b ≤ 67108864
  pub fd_inside : g.fd < 256
  pub table_long : 256 ≤ length table
  pub local_ranks : Ranked ws (ranks_in table g.fd)
  pub global_ranks : Ranked ws from.how.globals
  pub order : from.how.rising ≡ true → rises rows ≡ true

-- the same charstrings by a record that rises
abbrev pub in_order : Source → Source
in_order from = record { how = record { way = from.how.way; globals = from.how.globals; rising = true }; ix = from.ix }
