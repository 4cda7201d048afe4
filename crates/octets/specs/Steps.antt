-- Steps that may give nothing, by the library's `Option`: one, and then the next with what it gave.
use Rattle.std.specs.Prelude.{None, Option, Some}

abbrev pub and : {A B : Type 0} → Option A → (A → Option B) → Option B
and None f = None
and (Some a) f = f a
