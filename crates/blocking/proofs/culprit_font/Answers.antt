-- `blocking::culprit_font` meets its contract: a refusal leaves all as it was; else the words that were used and the slice end as zeros.
use Rattle.std.proofs.Common.{rules}
use Rattle.refusal.specs.HandedOn.{handed_on}
use Rattle.culprit.specs.Culprit.{Blocks}
use Rattle.blocking.specs.EntryLaws.{early_blocks, words_there, words-taken, words_can, late_blocks}
use Rattle.blocking.proofs.culprit_font.Goals as goal

pub returns-in_err-refusal : goal.returns-in_err-refusal
returns-in_err-refusal c =
    let a = c.args in
    let font = a.font.now in
    handed_on _ _ (Blocks font.file.now a.name.now a.keep.now a.work.now a.slice.now a.work.now a.slice.now) c.from_residual.ensures.1
    (early_blocks font.file.now a.name.now a.keep.now a.work.now a.slice.now font.octets font.loaded.f font.loaded.bytes.now font.in_file _ c.refusal.ensures _ c.in_err-refusal.was)

pub slice_bounds-words-end : goal.slice_bounds-words-end
slice_bounds-words-end c =
    let a = c.args in
    let font = a.font.now in
    words_there font.file.now a.name.now a.keep.now a.work.now a.slice.now font.octets font.loaded.f font.loaded.bytes.now font.in_file _ c.refusal.ensures c.in_ok-refusal.was _ c.work_size-w.ensures

pub slice_bounds-words-end-2 : goal.slice_bounds-words-end-2
slice_bounds-words-end-2 c =
    let a = c.args in
    let font = a.font.now in
    words-taken font.file.now a.name.now a.keep.now a.work.now a.slice.now font.octets font.loaded.f font.loaded.bytes.now font.in_file _ c.refusal.ensures c.in_ok-refusal.was _ c.work_size-w.ensures

pub invariant_of-search : goal.invariant_of-search
invariant_of-search c =
    let a = c.args in
    let font = a.font.now in
    record { can = words_can font.file.now a.name.now a.keep.now a.work.now a.slice.now font.octets font.loaded.f font.loaded.bytes.now font.in_file _ c.refusal.ensures c.in_ok-refusal.was _ c.work_size-w.ensures }

pub returns : goal.returns
returns c =
    let a = c.args in
    let font = a.font.now in
    late_blocks font.file.now a.name.now a.keep.now a.work.now a.slice.now font.octets font.loaded.f font.loaded.bytes.now font.in_file _ c.refusal.ensures c.in_ok-refusal.was _ c.work_size-w.ensures _ _ _ _ _ c.culprit_in-r.ensures.0
    (search rules) (c.fill.ensures.after (search rules)) (search rules) (c.fill-2.ensures.after (search rules))
