-- `write::cut_font` meets its contract: a refusal leaves all as it was; else the words that were cut with end as zeros, and the others stay.
use Rattle.std.proofs.Common.{rules}
use Rattle.outcome.specs.Call.{is_cid, asks}
use Rattle.outcome.specs.Entry.{size_of, CutsWith}
use Rattle.refusal.specs.HandedOn.{handed_on}
use Rattle.write.specs.EntryLaws.{early-read, words-room, words-taken, passed_words, late_read}
use Rattle.write.proofs.cut_font.Goals as goal

pub returns-in_err-refusal : goal.returns-in_err-refusal
returns-in_err-refusal c =
    let a = c.args in
    let font = a.font.now in
    let ask = a.ask.now in
    handed_on _ _ (CutsWith (size_of a.c.small) (is_cid a.c.keying) (asks a.c.keying) font.file.now ask.name.now ask.keep.now ask.rows.now ask.traced a.work.now a.out.now a.work.now a.out.now) c.from_residual.ensures.1
    (early-read a.c.small (is_cid a.c.keying) (asks a.c.keying) font.file.now _ _ ask.name.now ask.keep.now ask.rows.now ask.traced a.work.now a.out.now
    font.octets ask.octets c.of-held.ensures.0 _ (rw (c.is_cid.ensures, c.asks.ensures) at c.refusal.ensures) _ c.in_err-refusal.was)

pub slice_bounds-words-end : goal.slice_bounds-words-end
slice_bounds-words-end c =
    let a = c.args in
    let font = a.font.now in
    let ask = a.ask.now in
    words-room a.c.small (is_cid a.c.keying) (asks a.c.keying) font.file.now _ _ ask.name.now ask.keep.now ask.rows.now ask.traced a.work.now a.out.now font.octets ask.octets c.of-held.ensures.0 _ (rw (c.is_cid.ensures, c.asks.ensures) at c.refusal.ensures) c.in_ok-refusal.was _ c.size_of-w.ensures

pub slice_bounds-words-end-2 : goal.slice_bounds-words-end-2
slice_bounds-words-end-2 c =
    let a = c.args in
    let font = a.font.now in
    let ask = a.ask.now in
    words-taken a.c.small (is_cid a.c.keying) (asks a.c.keying) font.file.now _ _ ask.name.now ask.keep.now ask.rows.now ask.traced a.work.now a.out.now font.octets ask.octets c.of-held.ensures.0 _ (rw (c.is_cid.ensures, c.asks.ensures) at c.refusal.ensures) c.in_ok-refusal.was _ c.size_of-w.ensures

pub cut_glyphs-r-requires : goal.cut_glyphs-r-requires
cut_glyphs-r-requires c =
    let a = c.args in
    let font = a.font.now in
    let ask = a.ask.now in
    passed_words a.c.small (is_cid a.c.keying) (asks a.c.keying) font.file.now _ _ ask.name.now ask.keep.now ask.rows.now ask.traced a.work.now a.out.now font.octets ask.octets c.of-held.ensures.0 _ (rw (c.is_cid.ensures, c.asks.ensures) at c.refusal.ensures) c.in_ok-refusal.was _ c.size_of-w.ensures

pub returns : goal.returns
returns c =
    let a = c.args in
    let font = a.font.now in
    let ask = a.ask.now in
    late_read a.c.small (is_cid a.c.keying) (asks a.c.keying) font.file.now _ _ ask.name.now ask.keep.now ask.rows.now ask.traced a.work.now a.out.now font.octets ask.octets c.of-held.ensures.0 _ (rw (c.is_cid.ensures, c.asks.ensures) at c.refusal.ensures) c.in_ok-refusal.was _ c.size_of-w.ensures c.cut_glyphs-r.new.words _ _ _ c.cut_glyphs-r.ensures c.cut_glyphs-r.auto.words (c.fill.ensures.after (search rules))
