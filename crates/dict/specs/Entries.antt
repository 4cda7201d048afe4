-- The entries of a DICT as they are read one after the other: where each stands, and a refusal as the last.
use Rattle.std.specs.Prelude.{ℕ, List, [], ◌∷◌, Result, Err}
use Rattle.dict.specs.Dict.{Reading, stopped, got, readings_at}
use Rattle.dict.specs.Places.{entry_told}
use Rattle.dict.specs.declared.EntryAt.{EntryAt}
use Rattle.refusal.specs.declared.Refusal.{Refusal}

-- the code's entries, the first of them at a position
unfoldable pub told_from : ℕ → List Reading → List (Result EntryAt Refusal)
told_from at [] = []
told_from at (stopped n ∷ rs) = Err n ∷ []
told_from at (got op ds end next ∷ rs) = entry_told at 0 (got op ds end next) ∷ told_from next rs

abbrev pub told_at : List ℕ → ℕ → List (Result EntryAt Refusal)
told_at b at = told_from at (readings_at b at)
