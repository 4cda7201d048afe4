-- The ids of a font's glyphs, as a value that holds its bytes.
use Rattle.std.specs.Prelude.{ℕ, List}
use Rattle.charset.specs.CharsetPlaces.{ids_of}
use Rattle.charset.specs.declared.ids.Ids.{Ids}

abbrev pub ids : Ids → List ℕ
ids x = ids_of x.bytes.now x.charset x.n
