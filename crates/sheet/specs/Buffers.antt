-- What reading a sheet does to the memory that is lent for its parts.
use Rattle.std.specs.Prelude.{◌≡◌, Option}
use Rattle.sheet.specs.Sheet.{Sheet}
use Rattle.sheet.specs.Reading.{Reads}
use Rattle.sheet.specs.declared.buffers.Buffers.{Buffers}
use Rattle.sheet.specs.declared.reading.Parts.{Parts}

-- it is the same memory
pub record Stay (old new : Buffers) : Type 0 where
  pub font : new.font.ghost_name ≡ old.font.ghost_name
  pub name : new.name.ghost_name ≡ old.name.ghost_name
  pub keep : new.keep.ghost_name ≡ old.keep.ghost_name
  pub rec : new.rec.ghost_name ≡ old.rec.ghost_name

-- what reading answers, with the memory as it is then
abbrev pub ReadsIn : Option Sheet → Buffers → Option Parts → Type 0
ReadsIn o b r = Reads o b.font.now b.name.now b.keep.now b.rec.now r
