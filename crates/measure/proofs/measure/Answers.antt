-- `measure::measure` meets its contract: each keying is measured by its function, which asks and promises the same.
use Rattle.std.proofs.Common.{false, true}
use Rattle.measure.specs.RoomLaws.{passed-keyed}
use Rattle.measure.proofs.measure.Goals as goal

pub measure_cid-requires : goal.measure_cid-requires
measure_cid-requires c = passed-keyed _ false true _ _ _ _ _ _ c.requires c.if-cid.true

pub measure_named-requires : goal.measure_named-requires
measure_named-requires c = passed-keyed _ false false _ _ _ _ _ _ c.requires c.if-cid.false
