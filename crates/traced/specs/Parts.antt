-- A record in its three parts, as it is written (document 02, Wish 1): subroutines entered, kinds 0 and 1; the masks in glyphs, kind 2, glyph by
-- glyph; the masks in subroutines, kinds 3 and 4.
use Rattle.std.specs.Prelude.{ℕ, ◌+◌, List, [], ◌∷◌, ◌++◌, map, None, Option, Some}
use Rattle.unfold.specs.Unfold.{Row}
use Rattle.cff.specs.Font.{Program}
use Rattle.row_window.specs.Window.{gathered, within}
use Rattle.row_window.specs.Key.{key_of_lem}
use Rattle.faithful.specs.Faithful.{unfolded}
use Rattle.traced.specs.Traced.{met_by}

-- the key of a row
abbrev pub key_for : Row → ℕ
key_for r = key_of_lem r.kind r.fd r.number r.offset r.len

-- the first key of a mask in glyph g; behind those of the glyphs, where kind 3 begins, and behind all
abbrev pub mask_from : ℕ → ℕ
mask_from g = key_of_lem 2 0 g 0 0

abbrev pub subrs_from : ℕ
subrs_from = key_of_lem 3 0 0 0 0

abbrev pub keys_end : ℕ
keys_end = key_of_lem 5 0 0 0 0

-- the sorted keys of a range
abbrev pub keys_in : ℕ → ℕ → List Row → List ℕ
keys_in low high rows = gathered [] (within low high (map key_for rows))

-- the masks in a plain glyph itself
abbrev pub masks_in : ℕ → Option (List Row) → List ℕ
masks_in g None = []
masks_in g (Some met) = keys_in (mask_from g) (mask_from (g + 1)) met

-- those of glyphs, one after the other
unfoldable pub masks_of : Program → List ℕ → List ℕ
masks_of p [] = []
masks_of p (g ∷ gs) = masks_in g (met_by (unfolded p g)) ++ masks_of p gs
