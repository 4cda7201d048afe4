-- An INDEX that is written item by item at an output's place: what an item and the offset of its end leave.
use Rattle.std.specs.Prelude.{ℕ, ◌+◌, ◌-◌, ◌≡◌, List, length}
use Rattle.octets.specs.Octets.{bytes_of, Wrote}
use Rattle.octets.specs.declared.out.Out.{Out}
use Rattle.index.specs.Begun.{end_place, WroteItem, Begun}
use Rattle.index.specs.declared.Index.{Index}

-- the offset of item k's end was stored, for an item that ends at the output's place, where the output stays
pub record Ends (old : Out) (ix : Index) (k : ℕ) (new : Out) : Type 0 where
  pub wrote : Wrote old.bytes.now (end_place ix k) (bytes_of ix.size (old.at - ix.base)) new.bytes.now (end_place ix k + ix.size)
  pub stays : new.at ≡ old.at
  pub same : new.bytes.ghost_name ≡ old.bytes.ghost_name
  pub size : length new.bytes.now ≡ length old.bytes.now

-- item k was written at the output's place, and the offset of its end
pub record WritesItem (old : Out) (ix : Index) (k : ℕ) (item : List ℕ) (new : Out) : Type 0 where
  pub wrote : WroteItem old.bytes.now ix k old.at item new.bytes.now new.at
  pub same : new.bytes.ghost_name ≡ old.bytes.ghost_name
  pub size : length new.bytes.now ≡ length old.bytes.now

-- the first k items were written, and the offsets of their ends: the output old stood behind the place of the table
pub record Begins (old : Out) (ix : Index) (items : List (List ℕ)) (k : ℕ) (new : Out) : Type 0 where
  pub begun : Begun old.bytes.now ix items k new.bytes.now new.at
  pub same : new.bytes.ghost_name ≡ old.bytes.ghost_name
  pub size : length new.bytes.now ≡ length old.bytes.now
