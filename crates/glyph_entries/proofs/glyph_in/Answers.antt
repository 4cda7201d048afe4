-- `glyph_entries::glyph_in` meets its contract: the id and the FD are those of the definition, and the name is the text of the id.
use Rattle.std.proofs.Common.{refl}
use Rattle.glyph_entries.specs.GlyphLaws.{tells_refused, tells_as, glyph_none, glyph_by_cid, glyph_by-name}
use Rattle.glyph_entries.proofs.glyph_in.Goals as goal

pub returns-then-n-g : goal.returns-then-n-g
returns-then-n-g c = let font = c.args.font.now in tells_as (tells_refused _ _ _) (glyph_none font.bytes.now font.f font.good c.args.g c.if-n-g.true)

pub returns-then-font : goal.returns-then-font
returns-then-font c =
    let font = c.args.font.now in
    let i = c.ids.ensures in
    tells_as c.give.ensures (glyph_by_cid font.bytes.now font.f font.good c.args.g c.if-n-g.false _ _ (rw (i.0, i.1, i.2) at c.id_of-id.ensures.0) c.fd_of-fd.ensures c.if-font.true _ refl)

pub returns : goal.returns
returns c =
    let font = c.args.font.now in
    let i = c.ids.ensures in
    let e = c.strings.ensures in
    tells_as c.give-2.ensures (glyph_by-name font.bytes.now font.f font.good c.args.g c.if-n-g.false _ _ (rw (i.0, i.1, i.2) at c.id_of-id.ensures.0) c.fd_of-fd.ensures c.if-font.false _ (rw (e.0, e.1) at c.text_at-text.ensures))
