-- `failing::is_made` meets its contract: the bits by which its calls are renumbered are those of the rows.
use Rattle.std.proofs.Common.{refl, subst, sym, ◌∙◌}
use Rattle.octets.specs.Octets.{Octets}
use Rattle.record.specs.Record.{rows_of}
use Rattle.failing.specs.FailingLaws.{glyph_asks, glyph_holds}
use Rattle.failing.proofs.is_made.Goals as goal

pub invariant_of-body : goal.invariant_of-body
invariant_of-body c =
    let by = c.args.by.now in
    record {
      octets = subst Octets (sym c.item.ensures.0) (by.list.font.held.program.charstrings.octets c.args.g);
      inputs = glyph_asks by.list.font.loaded.bytes.now by.list.font.loaded.f (rows_of by.rows.bytes.now) by.used.now by.words.now by.globals by.table.now by.asks c.args.g c.requires.0 c.requires.1 _ c.fd_of-fd.ensures _ refl _ c.item.ensures.0;
    }

pub returns : goal.returns
returns c =
    let by = c.args.by.now in
    c.is_some.ensures ∙ glyph_holds by.list.font.loaded.bytes.now by.list.font.loaded.f (rows_of by.rows.bytes.now) by.used.now by.words.now by.globals by.table.now by.asks c.args.g c.requires.0 c.requires.1 _ c.fd_of-fd.ensures _ refl _ c.item.ensures.0 _ c.renumbered_len.ensures
