-- That there is room for a window is one fact, so that a type may hold it.
use Rattle.std.specs.Prelude.{ℕ, List}
use Rattle.std.proofs.Props.{props}
use Rattle.mask_rows.specs.MaskRows.{HasRoom}

pub has_room_prop : (keys bytes : List ℕ) → IsProp (HasRoom keys bytes)
has_room_prop keys bytes = Prim.hlevel props
