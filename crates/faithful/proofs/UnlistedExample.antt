-- With flag 0 nothing need be listed: an example of its own, which an edit of `Recorded` turns.
use Rattle.std.specs.Prelude.{ℕ, refl, List, [], ◌∷◌}
use Rattle.std.proofs.Common.{inl}
use Rattle.unfold.specs.Unfold.{Row, local, global, entered, masked}
use Rattle.faithful.specs.Faithful.{Recorded}

-- what glyph 3 of the CID-keyed font meets (Examples)
abbrev pub met_3 : List Row
met_3 = entered (local 0 1) ∷ entered (global 1) ∷ masked (global 1) 0 1 ∷ []

-- copied: with flag 0 nothing need be listed
pub unlisted_3 : Recorded [] 0 met_3
unlisted_3 = inl refl
