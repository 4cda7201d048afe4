-- What lent room for a window is at the end of a call, whatever was put into it.
use Rattle.std.specs.Prelude.{◌≡◌, refl, length}
use Rattle.std.proofs.Common.{◌∙◌}
use Rattle.mask_rows.specs.declared.lent.Lent.{Lent}

-- the same memory, as long as before
pub record SameRoom (old new : Lent) : Type 0 where
  pub keys : new.keys.ghost_name ≡ old.keys.ghost_name
  pub bytes : new.bytes.ghost_name ≡ old.bytes.ghost_name
  pub many : length new.keys.now ≡ length old.keys.now
  pub long : length new.bytes.now ≡ length old.bytes.now

pub room_stays : (l : Lent) → SameRoom l l
room_stays l = record { keys = refl; bytes = refl; many = refl; long = refl }

pub room_then : {a b c : Lent} → SameRoom a b → SameRoom b c → SameRoom a c
room_then v w = record { keys = w.keys ∙ v.keys; bytes = w.bytes ∙ v.bytes; many = w.many ∙ v.many; long = w.long ∙ v.long }
