-- `select::select_len` meets its contract.
use Rattle.std.proofs.Common.{arith, None}
use Rattle.charset.specs.FdSelectBytesLaws.{select-length, changes-few}
use Rattle.glyph_tables.specs.Tables.{fds_kept, new_fds_by}
use Rattle.glyph_tables.specs.ReadLaws.{kept_fds_many}
use Rattle.glyph_tables.specs.SelectLaws.{select-count}
use Rattle.glyph_tables.proofs.select.select_len.Goals as goal

pub each_range-requires : goal.each_range-requires
each_range-requires c =
    let k = c.args.kept.now in
    let table = c.args.table.now in
    (c.requires, omega (arith, changes-few None 0 (new_fds_by table (fds_kept k)), select-count table (fds_kept k), kept_fds_many k, k.gathered.few))

pub overflow_mul-result : goal.overflow_mul-result
overflow_mul-result c =
    let k = c.args.kept.now in
    let table = c.args.table.now in
    omega (arith, c.each_range.ensures.0.more, changes-few None 0 (new_fds_by table (fds_kept k)), select-count table (fds_kept k), kept_fds_many k, k.gathered.few)

pub overflow_add-result : goal.overflow_add-result
overflow_add-result c =
    let k = c.args.kept.now in
    let table = c.args.table.now in
    omega (arith, c.each_range.ensures.0.more, changes-few None 0 (new_fds_by table (fds_kept k)), select-count table (fds_kept k), kept_fds_many k, k.gathered.few)

pub returns : goal.returns
returns c =
    let k = c.args.kept.now in
    (omega (arith, c.each_range.ensures.0.more, select-length (new_fds_by c.args.table.now (fds_kept k))), c.each_range.ensures.1)
