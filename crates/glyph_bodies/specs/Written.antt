-- The charstring of a glyph as it is written, and those of the kept glyphs, as values that hold their bytes.
use Rattle.std.specs.Prelude.{ℕ, List, [], get_or, Option}
use Rattle.index.specs.Index.{items_of}
use Rattle.record.specs.Record.{rows_of}
use Rattle.unfold.specs.declared.Site.TheVariants.{Glyph as GlyphSite}
use Rattle.renumber.specs.Bodies.{Reads}
use Rattle.renumber.specs.declared.body.Body.{Body}
use Rattle.bodies.specs.Ways.{ranks_in}
use Rattle.order_window.specs.Stays.{kept_glyphs}
use Rattle.order_window.specs.declared.window.Kept.{Kept}
use Rattle.glyph_bodies.specs.Charstrings.{charstrings_from}
use Rattle.glyph_bodies.specs.Glyphs.{glyph_of, charstring_for}
use Rattle.glyph_bodies.specs.declared.charstrings.Charstring.{Charstring}
use Rattle.glyph_bodies.specs.declared.glyphs.Glyph.{Glyph}
use Rattle.glyph_bodies.specs.declared.kept_bodies.KeptBodies.{KeptBodies}

abbrev pub written : Charstring → Option (List ℕ)
written one = charstring_for one.from one.glyph (rows_of one.rows.now) one.words.now one.table.now one.font.now

-- it is put together with what its renumbering reads
abbrev pub Bodied : Charstring → Body → Type 0
Bodied one b =
    Reads b (get_or (items_of one.font.now one.from.ix) one.glyph.number []) one.words.now (ranks_in one.table.now one.glyph.fd) one.from.how.globals one.rows.now
    one.from.how.rising (GlyphSite one.glyph.number)

-- the i-th kept glyph, with its FD
abbrev pub glyph_in : Kept → ℕ → Glyph
glyph_in k i = glyph_of k.font.now k.o.f.select (get_or (kept_glyphs k) i 0)

-- the charstrings of the kept glyphs, or that their renumbering fails
abbrev pub all_written : KeptBodies → Option (List (List ℕ))
all_written all = charstrings_from all.how all.kept.now.o (rows_of all.rows.now) all.kept.now.words.now all.table.now all.kept.now.font.now
