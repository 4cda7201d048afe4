-- An input that asks something of a font: the font's length in two bytes, the font, and what is asked of it (tools/compare/README.md, 'Stored cases').
use Rattle.std.specs.Prelude.{ℕ, ◌+◌, List, ltb, length, take, drop, None, Option, Some}
use Rattle.octets.specs.Pick.{pick}
use Rattle.octets.specs.Octets.{num_at}

-- the font and what is asked, if the input is not cut off
unfoldable pub font_input : List ℕ → Option (List ℕ × List ℕ)
font_input s =
    pick (ltb (length s) 2) None
    (pick (ltb (length s) (2 + num_at s 0 2)) None (Some (take (num_at s 0 2) (drop 2 s), drop (2 + num_at s 0 2) s)))

-- what a function of the two answers to an input
abbrev pub over : (List ℕ → List ℕ → Option (List ℕ)) → Option (List ℕ × List ℕ) → Option (List ℕ)
over f None = None
over f (Some parts) = f parts.0 parts.1
