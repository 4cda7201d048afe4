-- `cid_parts::put_tail` meets its contract: the Private DICTs are measured and the FDs in use listed for the Font DICTs, and the Private parts
-- stand behind these.
use Rattle.std.proofs.Common.{arith, refl, replicate, ◌∙◌}
use Rattle.record.specs.Record.{rows_of}
use Rattle.fds.specs.ListLaws.{listed-put}
use Rattle.parts.specs.PrivateLaws.{array_few, array_there}
use Rattle.outcome.specs.BothLaws.{parts-measured}
use Rattle.cid_parts.specs.CidPlacesLaws.{table-room, dicts_ready}
use Rattle.cid_parts.specs.CidPutLaws.{dicts-put, privates-put, privates-wrote}
use Rattle.cid_parts.proofs.put_tail.Goals as goal

pub invariant_of-font : goal.invariant_of-font
invariant_of-font c = record { good = c.args.c.now.ready.cid.ready.read.font }

pub invariant_of-fds : goal.invariant_of-fds
invariant_of-fds c = record { held = c.args.c.now.ready.cid.ready.asked.tables }

pub invariant_of-array : goal.invariant_of-array
invariant_of-array c =
    let a = c.args.c.now in
    let e = (listed-put a.parts.used.now (replicate 256 0) _ c.list_used.ensures.0 (table-room (replicate 256 0) refl) a.parts.cut.count a.ready.counted) in
    record {
      short = a.ready.cid.ready.read.size;
      keyed = a.ready.cid.keyed;
      few = array_few a.kept.font.now (rows_of a.parts.rows.now) a.parts.used.now a.kept.words.now a.parts.table.now a.parts.cut.plan a.ready.cid.ready a.parts.totals.now a.ready.summed e;
      there = array_there a.kept.font.now (rows_of a.parts.rows.now) a.parts.used.now a.kept.words.now a.parts.table.now a.parts.cut.plan a.ready.cid.ready a.parts.totals.now a.ready.summed e;
    }

pub part_sizes-requires : goal.part_sizes-requires
part_sizes-requires c =
    let a = c.args.c.now in
    let m = parts-measured a.kept.font.now (rows_of a.parts.rows.now) a.parts.used.now a.kept.words.now a.parts.table.now a.parts.cut.plan a.ready.cid.ready a.parts.totals.now a.ready.summed in
    (m.0, m.1, omega arith)

pub put_font_dicts-requires : goal.put_font_dicts-requires
put_font_dicts-requires c =
    let a = c.args.c.now in
    dicts-put a.kept.font.now (rows_of a.parts.rows.now) a.parts.used.now a.kept.words.now a.parts.cut.plan a.parts.table.now a.ready.cid.ready a.parts.totals.now a.ready.summed _ _ c.args.from (dicts_ready a.kept.font.now (rows_of a.parts.rows.now) a.parts.used.now a.kept.words.now a.parts.cut.plan a.parts.table.now a.ready.cid a.parts.totals.now a.ready.summed c.part_sizes.ensures (listed-put a.parts.used.now (replicate 256 0) _ c.list_used.ensures.0 (table-room (replicate 256 0) refl) a.parts.cut.count a.ready.counted) a.parts.cut.count a.ready.counted c.args.from c.requires.0 c.args.out.now.at c.requires.1) c.args.out.now.at c.args.out.now.bytes.now c.requires.1 c.requires.2

pub put_privates-requires : goal.put_privates-requires
put_privates-requires c =
    let a = c.args.c.now in
    privates-put a.kept.font.now (rows_of a.parts.rows.now) a.parts.used.now a.kept.words.now a.parts.cut.plan a.parts.table.now a.ready.cid.ready a.parts.totals.now a.ready.summed _ _ c.args.from (dicts_ready a.kept.font.now (rows_of a.parts.rows.now) a.parts.used.now a.kept.words.now a.parts.cut.plan a.parts.table.now a.ready.cid a.parts.totals.now a.ready.summed c.part_sizes.ensures (listed-put a.parts.used.now (replicate 256 0) _ c.list_used.ensures.0 (table-room (replicate 256 0) refl) a.parts.cut.count a.ready.counted) a.parts.cut.count a.ready.counted c.args.from c.requires.0 c.args.out.now.at c.requires.1) c.args.out.now.at c.args.out.now.bytes.now c.requires.1 c.requires.2 c.put_font_dicts.ensures.wrote

pub returns : goal.returns
returns c =
    let a = c.args.c.now in
    record {
      wrote = privates-wrote a.kept.font.now (rows_of a.parts.rows.now) a.parts.used.now a.kept.words.now a.parts.cut.plan a.parts.table.now a.ready.cid.ready a.parts.totals.now a.ready.summed _ _ c.args.from (dicts_ready a.kept.font.now (rows_of a.parts.rows.now) a.parts.used.now a.kept.words.now a.parts.cut.plan a.parts.table.now a.ready.cid a.parts.totals.now a.ready.summed c.part_sizes.ensures (listed-put a.parts.used.now (replicate 256 0) _ c.list_used.ensures.0 (table-room (replicate 256 0) refl) a.parts.cut.count a.ready.counted) a.parts.cut.count a.ready.counted c.args.from c.requires.0 c.args.out.now.at c.requires.1) c.args.out.now.at c.args.out.now.bytes.now c.requires.1 c.requires.2 c.put_font_dicts.ensures.wrote c.put_privates.ensures.wrote;
      same = c.put_privates.ensures.same ∙ c.put_font_dicts.ensures.same;
      size = c.put_privates.ensures.size ∙ c.put_font_dicts.ensures.size;
    }
