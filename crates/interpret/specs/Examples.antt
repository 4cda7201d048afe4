-- Worked examples, computed: the bodies of unfold's Examples run turn by turn. The glyph is number 7 of FD 3; the operand byte `20` names subroutine 0.
use Rattle.std.specs.Prelude.{◌≡◌, refl, List, [], ◌∷◌, ℕ, ◌+◌, ◌*◌, pos}
use Rattle.type2_number.specs.Number.{keep24, rounded, number_at}
use Rattle.unfold.specs.Unfold.{Row, num, op, mask, glyph, leave, but, target_of, operator_at, step_at, walk, run_body, unfold_glyph}
use Rattle.prune.specs.Bodies.{All}
use Rattle.turns.specs.Turns.{clearing_turn_lem, operator_turn_lem, turn_by}
use Rattle.interpret.specs.Trace.{Trace, broken, ended, trace_walk, trace_body, fresh}
use Rattle.interpret.specs.Rows.{RowMet}
use Rattle.interpret.specs.GlyphLaws.{rows-met}
use Rattle.interpret.specs.Run.{key_for}

abbrev traced : List (List ℕ) → List (List ℕ) → List ℕ → Trace
traced globals locals code = trace_body globals locals 3 10 (glyph 7) code fresh

-- a local subroutine that calls a global one: both are met
nested : traced ((0x8c ∷ 0x8d ∷ 0x05 ∷ 0x0b ∷ []) ∷ []) ((0x20 ∷ 0x1d ∷ 0x0b ∷ []) ∷ []) (0x20 ∷ 0x0a ∷ 0x0e ∷ []) ≡ ended (record { kind = 0; fd = 3; number = 0; offset = 0; len = 0 } ∷ record { kind = 1; fd = 0; number = 0; offset = 0; len = 0 } ∷ [])
unfolding trace_body trace_walk turn_by operator_turn_lem clearing_turn_lem target_of number_at rounded keep24
nested = refl

-- a mask in a subroutine whose stem stands in the glyph, by its operator's offset there; and its key
abbrev inside : Row
inside = record { kind = 3; fd = 3; number = 0; offset = 0; len = 1 }

mask-inside : traced ([]) ((0x13 ∷ 0x80 ∷ 0x0b ∷ []) ∷ []) (0x8b ∷ 0x8b ∷ 0x12 ∷ 0x20 ∷ 0x0a ∷ 0x0e ∷ []) ≡ ended (record { kind = 0; fd = 3; number = 0; offset = 0; len = 0 } ∷ inside ∷ [])
unfolding trace_body trace_walk turn_by operator_turn_lem clearing_turn_lem target_of number_at rounded keep24
mask-inside = refl

inside-key : key_for inside ≡ (((3 * 256 + 3) * 65536 + 0) * 4294967296 + 0) * 16 + 1
inside-key = refl

-- its rows are some that the glyph can meet
inside-met : All (RowMet ([]) ((0x13 ∷ 0x80 ∷ 0x0b ∷ []) ∷ []) 3 7 (0x8b ∷ 0x8b ∷ 0x12 ∷ 0x20 ∷ 0x0a ∷ 0x0e ∷ [])) (record { kind = 0; fd = 3; number = 0; offset = 0; len = 0 } ∷ inside ∷ [])
unfolding unfold_glyph run_body walk step_at operator_at leave but target_of number_at rounded keep24
inside-met = rows-met ([]) ((0x13 ∷ 0x80 ∷ 0x0b ∷ []) ∷ []) 3 7 (0x8b ∷ 0x8b ∷ 0x12 ∷ 0x20 ∷ 0x0a ∷ 0x0e ∷ []) (num (pos 0) ∷ num (pos 0) ∷ op 18 ∷ mask 19 (0x80 ∷ []) ∷ op 14 ∷ []) (record { kind = 0; fd = 3; number = 0; offset = 0; len = 0 } ∷ inside ∷ []) refl

-- not plain: a return in the glyph itself, and calls one deeper than the depth
return_in_glyph : traced ([]) ([]) (0x0b ∷ []) ≡ broken
unfolding trace_body trace_walk turn_by operator_turn_lem clearing_turn_lem target_of number_at rounded keep24
return_in_glyph = refl

too_deep : trace_body ([]) ((0x0b ∷ []) ∷ []) 3 0 (glyph 7) (0x20 ∷ 0x0a ∷ 0x0e ∷ []) fresh ≡ broken
unfolding trace_body trace_walk turn_by operator_turn_lem clearing_turn_lem target_of number_at rounded keep24
too_deep = refl
