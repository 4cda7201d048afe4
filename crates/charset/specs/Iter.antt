-- The ids that an iterator has left.
use Rattle.std.specs.Prelude.{ℕ, List}
use Rattle.charset.specs.Ahead.{ids_ahead}
use Rattle.charset.specs.declared.iter.Iter.{Iter}

abbrev pub ids_left : Iter → List ℕ
ids_left x = ids_ahead x.bytes.now x.cursor x.left
