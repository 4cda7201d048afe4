-- The items of an INDEX, as a value that holds its bytes.
use Rattle.std.specs.Prelude.{ℕ, List}
use Rattle.index.specs.Index.{items_of}
use Rattle.index.specs.declared.items.Items.{Items}

abbrev pub items : Items → List (List ℕ)
items x = items_of x.bytes.now x.ix
