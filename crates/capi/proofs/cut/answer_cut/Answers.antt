-- `capi::cut::answer_cut` meets its contract: the subset is cut in the room that the answer's words leave, and its two words are written.
use Rattle.std.proofs.Common.{length, rules}
use Rattle.outcome.specs.Entry.{size_of}
use Rattle.outcome.specs.Call.{is_cid, asks}
use Rattle.capi.specs.SubsetLaws.{room_there, room-taken, cut_answers}
use Rattle.capi.proofs.cut.answer_cut.Goals as goal

pub slice_bounds-cut-end : goal.slice_bounds-cut-end
slice_bounds-cut-end c = room_there (length c.args.answer.now) c.args.out.now _ c.room_for-room.ensures

pub slice_bounds-cut-end-2 : goal.slice_bounds-cut-end-2
slice_bounds-cut-end-2 c = room-taken (length c.args.answer.now) c.args.out.now _ c.room_for-room.ensures

pub returns : goal.returns
returns c =
    let a = c.args in
    let ask = a.ask.now in
    cut_answers (size_of a.call.small) (is_cid a.call.keying) (asks a.call.keying) a.font.now ask.name.now ask.keep.now ask.rows.now ask.traced a.work.now a.out.now a.answer.now _ c.room_for-room.ensures _ _ _ _ _ c.cut-cut.ensures (search rules)
