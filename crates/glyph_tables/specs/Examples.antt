-- A worked example: three glyphs whose FDs 0, 2, 0 are written as 0, 1, 0.
use Rattle.std.specs.Prelude.{◌≡◌, refl, [], ◌∷◌}
use Rattle.subset.specs.Kept.{is_in}
use Rattle.bits.specs.Bits.{count_below}
use Rattle.subset.specs.Pruned.{mapped}
use Rattle.reach.specs.Reach.{ranks_of}
use Rattle.glyph_tables.specs.Tables.{new_fds_by}

-- the words of three FDs, of which 0 and 2 are in use
ranks : ranks_of (λ f. is_in f (0 ∷ 2 ∷ 0 ∷ [])) 0 3 ≡ 1 ∷ 0 ∷ 2 ∷ []
unfolding ranks_of is_in count_below
ranks = refl

-- the FDs by their new numbers
fds : new_fds_by (1 ∷ 0 ∷ 2 ∷ []) (0 ∷ 2 ∷ 0 ∷ []) ≡ 0 ∷ 1 ∷ 0 ∷ []
unfolding mapped
fds = refl
