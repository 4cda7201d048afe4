-- `cid_parts::places_cid` meets its contract: the places that were measured are the subset's.
use Rattle.std.proofs.Common.{arith, refl, sym, subst, take, replicate, ◌∙◌, ◌≡◌}
use Rattle.record.specs.Record.{rows_of}
use Rattle.cff.specs.declared.font.Font.{Font}
use Rattle.fds.specs.ListLaws.{listed-put}
use Rattle.glyph_tables.specs.Tables.{kept_fds, Numbered}
use Rattle.cid_parts.specs.Subset.{places_in}
use Rattle.cid_parts.specs.CidPlacesLaws.{table-room, places-asked, places_are, select-walked}
use Rattle.parts.specs.PrivateLaws.{array_few, array_there}
use Rattle.outcome.specs.BothLaws.{globals-measured, glyphs-measured, parts-measured}
use Rattle.cid_parts.proofs.places_cid.Goals as goal
use Rattle.cid_parts.proofs.places_cid.Goals.{After-place_parts}

-- the places are the subset's
placed : (x : After-place_parts) → x.place_parts.result ≡ places_in x.args.c.now
placed x =
    let a = x.args.c.now in
    let h = a.ready in
    x.place_parts.ensures
    ∙ places_are a.kept.font.now (rows_of a.parts.rows.now) a.parts.used.now a.kept.words.now a.parts.cut.plan a.parts.table.now h.cid a.parts.totals.now h.summed x.part_sizes-all.ensures (listed-put a.parts.used.now (replicate 256 0) _ x.list_used.ensures.0 (table-room (replicate 256 0) refl) a.parts.cut.count h.counted) a.parts.cut.count h.counted
    a.parts.name.now (take 8 a.parts.slots.now) a.parts.cut.own h.strings _ _ _ _ _
    x.front_len-front.ensures.0 x.globals_len-globals.ensures.0 (x.select_len-select.ensures.0 ∙ select-walked _ _ _ _ _ h.walked) x.glyphs_len-glyphs.ensures.0 x.matrices_len-matrices.ensures

pub part_sizes-all-requires : goal.part_sizes-all-requires
part_sizes-all-requires c =
    let a = c.args.c.now in
    let m = parts-measured a.kept.font.now (rows_of a.parts.rows.now) a.parts.used.now a.kept.words.now a.parts.table.now a.parts.cut.plan a.ready.cid.ready a.parts.totals.now a.ready.summed in
    (m.0, m.1, omega arith)

pub invariant_of-array : goal.invariant_of-array
invariant_of-array c =
    let a = c.args.c.now in
    let h = a.ready in
    let e = (listed-put a.parts.used.now (replicate 256 0) _ c.list_used.ensures.0 (table-room (replicate 256 0) refl) a.parts.cut.count h.counted) in
    record {
      short = h.cid.ready.read.size;
      keyed = h.cid.keyed;
      few = array_few a.kept.font.now (rows_of a.parts.rows.now) a.parts.used.now a.kept.words.now a.parts.table.now a.parts.cut.plan h.cid.ready a.parts.totals.now h.summed e;
      there = array_there a.kept.font.now (rows_of a.parts.rows.now) a.parts.used.now a.kept.words.now a.parts.table.now a.parts.cut.plan h.cid.ready a.parts.totals.now h.summed e;
    }

pub globals_len-globals-requires : goal.globals_len-globals-requires
globals_len-globals-requires c =
    let a = c.args.c.now in
    globals-measured a.kept.font.now (rows_of a.parts.rows.now) a.parts.used.now a.kept.words.now a.parts.table.now a.parts.cut.plan a.ready.cid.ready

pub select_len-select-requires : goal.select_len-select-requires
select_len-select-requires c =
    let a = c.args.c.now in
    subst (λ (f : Font). Numbered a.parts.used.now (kept_fds a.kept.font.now f a.kept.words.now)) (sym a.ready.walked.f) a.ready.cid.numbered

pub glyphs_len-glyphs-requires : goal.glyphs_len-glyphs-requires
glyphs_len-glyphs-requires c =
    let a = c.args.c.now in
    glyphs-measured a.kept.font.now (rows_of a.parts.rows.now) a.parts.used.now a.kept.words.now a.parts.table.now a.parts.cut.plan a.ready.cid.ready

pub place_parts-requires : goal.place_parts-requires
place_parts-requires c =
    let a = c.args.c.now in
    let h = a.ready in
    places-asked a.kept.font.now (rows_of a.parts.rows.now) a.parts.used.now a.kept.words.now a.parts.cut.plan a.parts.table.now h.cid a.parts.totals.now h.summed c.part_sizes-all.ensures (listed-put a.parts.used.now (replicate 256 0) _ c.list_used.ensures.0 (table-room (replicate 256 0) refl) a.parts.cut.count h.counted) a.parts.cut.count h.counted
    a.parts.name.now (take 8 a.parts.slots.now) a.parts.cut.own h.strings _ _ _ _ _
    c.front_len-front.ensures.0 c.globals_len-globals.ensures.0 (c.select_len-select.ensures.0 ∙ select-walked _ _ _ _ _ h.walked) c.glyphs_len-glyphs.ensures.0 c.matrices_len-matrices.ensures
    c.front_len-front.ensures.1 c.globals_len-globals.ensures.1 c.glyphs_len-glyphs.ensures.1

pub returns : goal.returns
returns c = (placed c, record { kept = c.select_len-select.ensures.1; parts = refl })
