-- `select::put_select` meets its contract.
use Rattle.std.proofs.Common.{arith, sym, length, ◌∙◌, ◌≡◌, ◌≤◌, ◌+◌}
use Rattle.charset.specs.FdSelectBytes.{fd_ranges}
use Rattle.charset.specs.FdSelectBytesLaws.{select-length, entry_length}
use Rattle.charset.specs.FdWriterLaws.{ranges-count, around-room, around}
use Rattle.glyph_tables.specs.Tables.{fds_kept, new_fds_by}
use Rattle.glyph_tables.specs.ReadLaws.{kept_fds_many}
use Rattle.glyph_tables.specs.SelectLaws.{select-count}
use Rattle.glyph_tables.proofs.select.put_select.Goals as goal
use Rattle.glyph_tables.proofs.select.put_select.Goals.{After-each_range}

-- there is room for what stands around the ranges
room : (c : After-each_range) → (c.args.out.now.at + 3 ≤ length c.each_range.new.to.bytes.now) × (c.each_range.new.to.at + 2 ≤ length c.each_range.new.to.bytes.now)
room c =
    around-room c.args.out.now.at (new_fds_by c.args.table.now (fds_kept c.args.kept.now)) c.each_range.ensures.0.wrote c.requires.2

pub each_range-requires : goal.each_range-requires
each_range-requires c =
    let fds = new_fds_by c.args.table.now (fds_kept c.args.kept.now) in
    (c.requires.0, omega (arith, c.requires.2, select-length fds, entry_length (fd_ranges fds)))

pub byte-requires : goal.byte-requires
byte-requires c = omega (arith, (room (goal.at.byte-requires c).After-each_range).0)

pub num-requires : goal.num-requires
num-requires c = omega (arith, (room (goal.at.num-requires c).After-each_range).0, c.byte.ensures.wrote.behind, c.byte.ensures.size)

pub num-requires-2 : goal.num-requires-2
num-requires-2 c = omega (arith, (room (goal.at.num-requires-2 c).After-each_range).1, c.byte.ensures.size, c.num.ensures.size)

pub returns : goal.returns
returns c =
    let k = c.args.kept.now in
    let a = c.each_range.ensures.0 in
    let fds = new_fds_by c.args.table.now (fds_kept k) in
    let n = ranges-count c.args.out.now.at fds a.wrote c.requires.2 in
    let m : c.each_range.new.kept.o.count ≡ length fds = c.each_range.ensures.1.count ∙ sym (select-count c.args.table.now (fds_kept k) ∙ kept_fds_many k) in (
      record {
        wrote = around c.args.out.now.at fds a.wrote c.requires.2 c.byte.ensures.wrote (rw n at c.num.ensures.wrote) (rw m at c.num-2.ensures.wrote);
        same = c.num-2.ensures.same ∙ c.num.ensures.same ∙ c.byte.ensures.same ∙ a.same;
        size = c.num-2.ensures.size ∙ c.num.ensures.size ∙ c.byte.ensures.size ∙ a.size;
      },
      c.each_range.ensures.1,
    )
