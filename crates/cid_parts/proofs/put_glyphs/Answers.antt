-- `cid_parts::put_glyphs` meets its contract: FDSelect, and the charstrings behind it.
use Rattle.std.proofs.Common.{refl, ap, List, ℕ, Option, ◌∙◌}
use Rattle.octets.specs.PutLaws.{wrote_as}
use Rattle.index.specs.Write.{index_bytes}
use Rattle.record.specs.Record.{rows_of}
use Rattle.bodies.specs.Ways.{many_of}
use Rattle.order_window.specs.Stays.{stays-then}
use Rattle.outcome.specs.Walked.{walked-stays, charstrings-stay, charstrings-stayed}
use Rattle.cid_parts.specs.CidPutLaws.{select-put, glyphs-put, glyphs-wrote}
use Rattle.cid_parts.proofs.put_glyphs.Goals as goal

pub put_select-requires : goal.put_select-requires
put_select-requires c =
    let a = c.args.c.now in
    select-put a.kept.font.now (rows_of a.parts.rows.now) a.parts.used.now a.kept.words.now a.parts.cut.plan a.parts.table.now a.ready.cid a.kept.o a.ready.walked c.args.out.now.at c.args.out.now.bytes.now c.requires.0 c.requires.1

pub put_charstrings-requires : goal.put_charstrings-requires
put_charstrings-requires c =
    let a = c.args.c.now in
    let s = c.put_select.ensures in
    charstrings-stay _ _ s.1 _ (rows_of a.parts.rows.now) a.parts.table.now _ _ _
    (glyphs-put a.kept.font.now (rows_of a.parts.rows.now) a.parts.used.now a.kept.words.now a.parts.cut.plan a.parts.table.now a.ready.cid a.kept.o a.ready.walked c.args.out.now.at c.args.out.now.bytes.now c.requires.0 c.requires.1 s.0.wrote _
    (walked-stays _ _ s.1 _ a.ready.walked))

pub returns : goal.returns
returns c =
    let a = c.args.c.now in
    let s = c.put_select.ensures in (
      record {
        wrote = glyphs-wrote a.kept.font.now (rows_of a.parts.rows.now) a.parts.used.now a.kept.words.now a.parts.cut.plan a.parts.table.now a.ready.cid a.kept.o a.ready.walked c.args.out.now.at c.args.out.now.bytes.now c.requires.0 c.requires.1 s.0.wrote _
            (walked-stays _ _ s.1 _ a.ready.walked)
            (wrote_as c.put_charstrings.ensures.0.wrote
            (ap (λ (l : Option (List (List ℕ))). index_bytes (many_of l)) (charstrings-stayed _ _ s.1 a.parts.cut.plan.how (rows_of a.parts.rows.now) a.parts.table.now)));
        same = c.put_charstrings.ensures.0.same ∙ s.0.same;
        size = c.put_charstrings.ensures.0.size ∙ s.0.size;
      },
      record { kept = stays-then _ _ _ s.1 c.put_charstrings.ensures.1; parts = refl },
    )
