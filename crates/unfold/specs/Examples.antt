-- Worked examples, computed: what a plain glyph unfolds to, each limit at its edge and one past it, and each reason not to be plain.
-- The glyph is number 7 of FD 3. With fewer than 1240 subroutines the bias is 107, so that the operand byte `20`, -107, names subroutine 0.
use Rattle.std.specs.Prelude.{◌≡◌, refl, List, [], ◌∷◌, ◌++◌, ℕ, zero, suc, pos}
use Rattle.type2_number.specs.Number.{keep24, rounded, number_at}
use Rattle.unfold.specs.Unfold.{num, op, esc, mask, Glyph, not_plain_lem, plain, State, glyph, broken, ended, leave, but, target_of, operator_at, step_at, walk, run_body, unfold_glyph}

abbrev unfolded : List (List ℕ) → List (List ℕ) → List ℕ → Glyph
unfolded globals locals code = unfold_glyph globals locals 3 7 code

-- n times x
times : ℕ → ℕ → List ℕ
times zero x = []
times (suc n) x = x ∷ times n x

is_plain : Glyph → ℕ
is_plain not_plain_lem = 0
is_plain (plain ts rows) = 1

-- an empty charstring is plain and empty
empty : unfolded ([]) ([]) ([]) ≡ plain [] []
unfolding unfold_glyph run_body walk step_at operator_at leave but target_of number_at rounded keep24
empty = refl

-- endchar alone
end_alone : unfolded ([]) ([]) (0x0e ∷ []) ≡ plain (op 14 ∷ []) []
unfolding unfold_glyph run_body walk step_at operator_at leave but target_of number_at rounded keep24
end_alone = refl

-- a local subroutine that calls a global one: calls, their operands and returns leave no token
nested : unfolded ((0x8c ∷ 0x8d ∷ 0x05 ∷ 0x0b ∷ []) ∷ []) ((0x20 ∷ 0x1d ∷ 0x0b ∷ []) ∷ []) (0x20 ∷ 0x0a ∷ 0x0e ∷ []) ≡ plain (num (pos 65536) ∷ num (pos 131072) ∷ op 5 ∷ op 14 ∷ []) (record { kind = 0; fd = 3; number = 0; offset = 0; len = 0 } ∷ record { kind = 1; fd = 0; number = 0; offset = 0; len = 0 } ∷ [])
unfolding unfold_glyph run_body walk step_at operator_at leave but target_of number_at rounded keep24
nested = refl

-- a mask in a subroutine whose stem stands in the glyph
mask-inside : unfolded ([]) ((0x13 ∷ 0x80 ∷ 0x0b ∷ []) ∷ []) (0x8b ∷ 0x8b ∷ 0x12 ∷ 0x20 ∷ 0x0a ∷ 0x0e ∷ []) ≡ plain (num (pos 0) ∷ num (pos 0) ∷ op 18 ∷ mask 19 (0x80 ∷ []) ∷ op 14 ∷ []) (record { kind = 0; fd = 3; number = 0; offset = 0; len = 0 } ∷ record { kind = 3; fd = 3; number = 0; offset = 0; len = 1 } ∷ [])
unfolding unfold_glyph run_body walk step_at operator_at leave but target_of number_at rounded keep24
mask-inside = refl

-- numbers before a mask are an implicit vstem, also where they wait across a call
implicit_vstem : unfolded ((0x8b ∷ 0x8b ∷ 0x0b ∷ []) ∷ []) ([]) (0x20 ∷ 0x1d ∷ 0x14 ∷ 0x40 ∷ 0x0e ∷ []) ≡ plain (num (pos 0) ∷ num (pos 0) ∷ mask 20 (0x40 ∷ []) ∷ op 14 ∷ []) (record { kind = 1; fd = 0; number = 0; offset = 0; len = 0 } ∷ record { kind = 2; fd = 0; number = 7; offset = 2; len = 1 } ∷ [])
unfolding unfold_glyph run_body walk step_at operator_at leave but target_of number_at rounded keep24
implicit_vstem = refl

-- endchar in a subroutine ends all; what stands after it does not run
end_inside : unfolded ([]) ((0x8c ∷ 0x0e ∷ 0x00 ∷ []) ∷ []) (0x20 ∷ 0x0a ∷ 0x00 ∷ []) ≡ plain (num (pos 65536) ∷ op 14 ∷ []) (record { kind = 0; fd = 3; number = 0; offset = 0; len = 0 } ∷ [])
unfolding unfold_glyph run_body walk step_at operator_at leave but target_of number_at rounded keep24
end_inside = refl

-- an escape, flex
flex : unfolded ([]) ([]) (0x0c ∷ 0x23 ∷ 0x0e ∷ []) ≡ plain (esc 35 ∷ op 14 ∷ []) []
unfolding unfold_glyph run_body walk step_at operator_at leave but target_of number_at rounded keep24
flex = refl

-- not plain: an operator that is not allowed
operator_0 : unfolded ([]) ([]) (0x00 ∷ 0x0e ∷ []) ≡ not_plain_lem
unfolding unfold_glyph run_body walk step_at operator_at leave but target_of number_at rounded keep24
operator_0 = refl

-- an escape that is cut off
escape-cut : unfolded ([]) ([]) (0x0c ∷ []) ≡ not_plain_lem
unfolding unfold_glyph run_body walk step_at operator_at leave but target_of number_at rounded keep24
escape-cut = refl

-- an escape that is not allowed
escape_0 : unfolded ([]) ([]) (0x0c ∷ 0x00 ∷ 0x0e ∷ []) ≡ not_plain_lem
unfolding unfold_glyph run_body walk step_at operator_at leave but target_of number_at rounded keep24
escape_0 = refl

-- a return in the glyph itself
return_in_glyph : unfolded ([]) ([]) (0x0b ∷ []) ≡ not_plain_lem
unfolding unfold_glyph run_body walk step_at operator_at leave but target_of number_at rounded keep24
return_in_glyph = refl

-- running off the glyph
off_glyph : unfolded ([]) ([]) (0x8b ∷ []) ≡ not_plain_lem
unfolding unfold_glyph run_body walk step_at operator_at leave but target_of number_at rounded keep24
off_glyph = refl

-- running off a subroutine
off_subroutine : unfolded ([]) ((0x8b ∷ []) ∷ []) (0x20 ∷ 0x0a ∷ 0x0e ∷ []) ≡ not_plain_lem
unfolding unfold_glyph run_body walk step_at operator_at leave but target_of number_at rounded keep24
off_subroutine = refl

-- a call with no number before it in the same body
no_operand : unfolded ([]) ((0x20 ∷ 0x0b ∷ []) ∷ (0x0b ∷ []) ∷ []) (0x21 ∷ 0x0a ∷ 0x0a ∷ 0x0e ∷ []) ≡ not_plain_lem
unfolding unfold_glyph run_body walk step_at operator_at leave but target_of number_at rounded keep24
no_operand = refl

-- a call whose operand is not whole
half_operand : unfolded ([]) ((0x0b ∷ []) ∷ []) (0xff ∷ 0xff ∷ 0x95 ∷ 0x80 ∷ 0x00 ∷ 0x0a ∷ 0x0e ∷ []) ≡ not_plain_lem
unfolding unfold_glyph run_body walk step_at operator_at leave but target_of number_at rounded keep24
half_operand = refl

-- a call with no target
no_target : unfolded ([]) ((0x0b ∷ []) ∷ []) (0x21 ∷ 0x0a ∷ 0x0e ∷ []) ≡ not_plain_lem
unfolding unfold_glyph run_body walk step_at operator_at leave but target_of number_at rounded keep24
no_target = refl

-- a call below the first subroutine
below-first : unfolded ([]) ((0x0b ∷ []) ∷ []) (0x1c ∷ 0xff ∷ 0x94 ∷ 0x0a ∷ 0x0e ∷ []) ≡ not_plain_lem
unfolding unfold_glyph run_body walk step_at operator_at leave but target_of number_at rounded keep24
below-first = refl

-- a mask whose bytes are not there
mask-cut : unfolded ([]) ([]) (0x8b ∷ 0x8b ∷ 0x13 ∷ []) ≡ not_plain_lem
unfolding unfold_glyph run_body walk step_at operator_at leave but target_of number_at rounded keep24
mask-cut = refl

-- endchar with two operands waiting
two-waiting : unfolded ([]) ([]) (0x8b ∷ 0x8b ∷ 0x0e ∷ []) ≡ not_plain_lem
unfolding unfold_glyph run_body walk step_at operator_at leave but target_of number_at rounded keep24
two-waiting = refl

-- a number that is cut off
number_cut : unfolded ([]) ([]) (0x1c ∷ 0x00 ∷ []) ≡ not_plain_lem
unfolding unfold_glyph run_body walk step_at operator_at leave but target_of number_at rounded keep24
number_cut = refl

-- endchar with one operand waiting is fine
one-waiting : unfolded ([]) ([]) (0x8c ∷ 0x0e ∷ []) ≡ plain (num (pos 65536) ∷ op 14 ∷ []) []
unfolding unfold_glyph run_body walk step_at operator_at leave but target_of number_at rounded keep24
one-waiting = refl

-- ---- limits

-- 48 operands
operands_48 : is_plain (unfolded [] [] (times 48 0x8b ++ (0x15 ∷ 0x0e ∷ []))) ≡ 1
unfolding unfold_glyph run_body walk step_at operator_at leave but target_of number_at rounded keep24 times is_plain
operands_48 = refl

-- 49 operands
operands_49 : is_plain (unfolded [] [] (times 49 0x8b ++ (0x15 ∷ 0x0e ∷ []))) ≡ 0
unfolding unfold_glyph run_body walk step_at operator_at leave but target_of number_at rounded keep24 times is_plain
operands_49 = refl

-- a call's own operand counts: 47 and it
operands_47_call : is_plain (unfolded [] ((0x0b ∷ []) ∷ []) (times 47 0x8b ++ (0x20 ∷ 0x0a ∷ 0x15 ∷ 0x0e ∷ []))) ≡ 1
unfolding unfold_glyph run_body walk step_at operator_at leave but target_of number_at rounded keep24 times is_plain
operands_47_call = refl

-- 48 and it
operands_48_call : is_plain (unfolded [] ((0x0b ∷ []) ∷ []) (times 48 0x8b ++ (0x20 ∷ 0x0a ∷ 0x15 ∷ 0x0e ∷ []))) ≡ 0
unfolding unfold_glyph run_body walk step_at operator_at leave but target_of number_at rounded keep24 times is_plain
operands_48_call = refl

-- 96 stems
stems_96 : is_plain (unfolded [] [] ((times 48 0x8b ++ (0x12 ∷ [])) ++ ((times 48 0x8b ++ (0x12 ∷ [])) ++ ((times 48 0x8b ++ (0x12 ∷ [])) ++ ((times 48 0x8b ++ (0x12 ∷ [])) ++ (0x0e ∷ [])))))) ≡ 1
unfolding unfold_glyph run_body walk step_at operator_at leave but target_of number_at rounded keep24 times is_plain
stems_96 = refl

-- 97 stems
stems_97 : is_plain (unfolded [] [] ((times 48 0x8b ++ (0x12 ∷ [])) ++ ((times 48 0x8b ++ (0x12 ∷ [])) ++ ((times 48 0x8b ++ (0x12 ∷ [])) ++ ((times 48 0x8b ++ (0x12 ∷ [])) ++ (0x8b ∷ 0x8b ∷ 0x01 ∷ 0x0e ∷ [])))))) ≡ 0
unfolding unfold_glyph run_body walk step_at operator_at leave but target_of number_at rounded keep24 times is_plain
stems_97 = refl

-- 96 stems at a mask, its own 24 among them: 12 bytes
mask_96 : is_plain (unfolded [] [] ((times 48 0x8b ++ (0x12 ∷ [])) ++ ((times 48 0x8b ++ (0x12 ∷ [])) ++ ((times 48 0x8b ++ (0x12 ∷ [])) ++ (times 48 0x8b ++ (0x13 ∷ (times 12 0xff ++ (0x0e ∷ [])))))))) ≡ 1
unfolding unfold_glyph run_body walk step_at operator_at leave but target_of number_at rounded keep24 times is_plain
mask_96 = refl

-- 97 stems at a mask: 13 bytes
mask_97 : is_plain (unfolded [] [] ((times 48 0x8b ++ (0x12 ∷ [])) ++ ((times 48 0x8b ++ (0x12 ∷ [])) ++ ((times 48 0x8b ++ (0x12 ∷ [])) ++ ((times 48 0x8b ++ (0x12 ∷ [])) ++ (0x8b ∷ 0x8b ∷ 0x13 ∷ (times 13 0xff ++ (0x0e ∷ [])))))))) ≡ 0
unfolding unfold_glyph run_body walk step_at operator_at leave but target_of number_at rounded keep24 times is_plain
mask_97 = refl

-- calls 10 deep
deep_10 : is_plain (unfolded [] ((0x21 ∷ 0x0a ∷ 0x0b ∷ []) ∷ (0x22 ∷ 0x0a ∷ 0x0b ∷ []) ∷ (0x23 ∷ 0x0a ∷ 0x0b ∷ []) ∷ (0x24 ∷ 0x0a ∷ 0x0b ∷ []) ∷ (0x25 ∷ 0x0a ∷ 0x0b ∷ []) ∷ (0x26 ∷ 0x0a ∷ 0x0b ∷ []) ∷ (0x27 ∷ 0x0a ∷ 0x0b ∷ []) ∷ (0x28 ∷ 0x0a ∷ 0x0b ∷ []) ∷ (0x29 ∷ 0x0a ∷ 0x0b ∷ []) ∷ (0x0b ∷ []) ∷ []) (0x20 ∷ 0x0a ∷ 0x0e ∷ [])) ≡ 1
unfolding unfold_glyph run_body walk step_at operator_at leave but target_of number_at rounded keep24 times is_plain
deep_10 = refl

-- calls 11 deep
deep_11 : is_plain (unfolded [] ((0x21 ∷ 0x0a ∷ 0x0b ∷ []) ∷ (0x22 ∷ 0x0a ∷ 0x0b ∷ []) ∷ (0x23 ∷ 0x0a ∷ 0x0b ∷ []) ∷ (0x24 ∷ 0x0a ∷ 0x0b ∷ []) ∷ (0x25 ∷ 0x0a ∷ 0x0b ∷ []) ∷ (0x26 ∷ 0x0a ∷ 0x0b ∷ []) ∷ (0x27 ∷ 0x0a ∷ 0x0b ∷ []) ∷ (0x28 ∷ 0x0a ∷ 0x0b ∷ []) ∷ (0x29 ∷ 0x0a ∷ 0x0b ∷ []) ∷ (0x2a ∷ 0x0a ∷ 0x0b ∷ []) ∷ (0x0b ∷ []) ∷ []) (0x20 ∷ 0x0a ∷ 0x0e ∷ [])) ≡ 0
unfolding unfold_glyph run_body walk step_at operator_at leave but target_of number_at rounded keep24 times is_plain
deep_11 = refl

-- 65,536 tokens and calls together: the last one, and one more
abbrev spent : ℕ → State
spent n = record { args = 0; stems = 0; spent = n; out = []; met = [] }

tokens_65536 : leave (op 14) 0 0 (spent 65535) ended ≡ ended (record { args = 0; stems = 0; spent = 65536; out = op 14 ∷ []; met = [] })
unfolding leave
tokens_65536 = refl

tokens_65537 : leave (op 14) 0 0 (spent 65536) ended ≡ broken
unfolding leave
tokens_65537 = refl

-- a call and its operand are one of them: with 65,534 before it and endchar behind it they are 65,536
call_65536 : run_body [] ((0x0b ∷ []) ∷ []) 3 10 (glyph 7) (0x20 ∷ 0x0a ∷ 0x0e ∷ []) (spent 65534)
    ≡ ended (record { args = 0; stems = 0; spent = 65536; out = op 14 ∷ []; met = record { kind = 0; fd = 3; number = 0; offset = 0; len = 0 } ∷ [] })
unfolding run_body walk step_at operator_at leave but target_of number_at rounded keep24
call_65536 = refl

-- and with 65,535 one too many
call_65537 : run_body [] ((0x0b ∷ []) ∷ []) 3 10 (glyph 7) (0x20 ∷ 0x0a ∷ 0x0e ∷ []) (spent 65535) ≡ broken
unfolding run_body walk step_at operator_at leave but target_of number_at rounded keep24
call_65537 = refl
