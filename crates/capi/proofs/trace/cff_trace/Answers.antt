-- `capi::trace::cff_trace` meets its contract: the record is traced in the room that the answer's words leave, and its two words are written.
use Rattle.std.proofs.Common.{length, rules}
use Rattle.capi.specs.SubsetLaws.{room_there, room-taken}
use Rattle.capi.specs.TraceLaws.{trace_answers}
use Rattle.capi.proofs.trace.cff_trace.Goals as goal

pub slice_bounds-trace-end : goal.slice_bounds-trace-end
slice_bounds-trace-end c = room_there (length c.args.answer.now) c.args.out.now _ c.room_for-room.ensures

pub slice_bounds-trace-end-2 : goal.slice_bounds-trace-end-2
slice_bounds-trace-end-2 c = room-taken (length c.args.answer.now) c.args.out.now _ c.room_for-room.ensures

pub returns : goal.returns
returns c =
    trace_answers c.args.font.now c.args.keep.now c.args.out.now c.args.answer.now _ c.room_for-room.ensures _ _ _ _ c.trace-t.ensures
    (search rules)
