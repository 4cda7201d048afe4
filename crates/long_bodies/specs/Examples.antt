-- Worked examples: two lengths of one mask, in windows of the rows of its body.
use Rattle.std.specs.Prelude.{◌≡◌, refl, true, false, [], ◌∷◌}
use Rattle.long_bodies.specs.Offsets.{two_in_lem}

-- the masks of glyph 0 at offset 7, of lengths 1 and 2: their keys are 7 * 65,536 + 1 and 7 * 65,536 + 2
pair : two_in_lem (458753 ∷ 458754 ∷ []) ≡ true
unfolding two_in_lem
pair = refl

-- windows that part them do not see them
parted : (two_in_lem (393217 ∷ 458753 ∷ []) ≡ false) × (two_in_lem (458754 ∷ 524289 ∷ []) ≡ false)
unfolding two_in_lem
parted = (refl, refl)

-- a window that begins with the last key of the one before it does
joined : two_in_lem (458753 ∷ 458754 ∷ 524289 ∷ []) ≡ true
unfolding two_in_lem
joined = refl

-- the same length at the next offset is no second one
next : two_in_lem (458753 ∷ 524289 ∷ []) ≡ false
unfolding two_in_lem
next = refl
