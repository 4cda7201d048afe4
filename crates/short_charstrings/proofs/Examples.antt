-- Worked examples, computed: which charstrings are short, which one is next, and the theorem used.
use Rattle.std.specs.Prelude.{ℕ, ◌≡◌, refl, true, false, List, [], ◌∷◌, pos}
use Rattle.std.proofs.Common.{sym, ◌∙◌}
use Rattle.octets.specs.Lists.{all_below}
use Rattle.type2_number.specs.Number.{keep24, rounded, number_at}
use Rattle.unfold.specs.Unfold.{num, op, plain, leave, but, target_of, operator_at, step_at, walk, run_body, unfold_glyph}
use Rattle.short_charstrings.specs.Short.{alone, ends, is_short}
use Rattle.short_charstrings.specs.Next.{refused, next, candidate, place_of, first_from_lem, next_of}
use Rattle.short_charstrings.specs.NextLaws.{never}
use Rattle.short_charstrings.specs.AllShort.{Steps, Among, AllShort}
use Rattle.short_charstrings.specs.AllShortLaws.{all_short, steps_end}
use Rattle.short_charstrings.specs.Tokens.{EndsOnce, short-tokens}
use Rattle.refusal.specs.declared.Refusal.TheVariants.{Malformed}

-- endchar alone, behind one number, and behind an operator
end_alone : is_short (0x0e ∷ []) ≡ true
unfolding is_short ends all_below unfold_glyph run_body walk step_at operator_at leave but target_of number_at rounded keep24
end_alone = refl

one_operand : is_short (0x8b ∷ 0x0e ∷ []) ≡ true
unfolding is_short ends all_below unfold_glyph run_body walk step_at operator_at leave but target_of number_at rounded keep24
one_operand = refl

rmoveto : is_short (0x8b ∷ 0x8b ∷ 0x15 ∷ 0x0e ∷ []) ≡ true
unfolding is_short ends all_below unfold_glyph run_body walk step_at operator_at leave but target_of number_at rounded keep24
rmoveto = refl

-- two operands before endchar are too many
two_operands : is_short (0x8b ∷ 0x8b ∷ 0x0e ∷ []) ≡ false
unfolding is_short ends all_below unfold_glyph run_body walk step_at operator_at leave but target_of number_at rounded keep24
two_operands = refl

-- 'its only endchar' is said of operators: 122 and 3,598, each with a byte 14 or two, and then endchar
end_in_number : is_short (0xf7 ∷ 0x0e ∷ 0x0e ∷ []) ≡ true
unfolding is_short ends all_below unfold_glyph run_body walk step_at operator_at leave but target_of number_at rounded keep24
end_in_number = refl

ends_in_number : is_short (0x1c ∷ 0x0e ∷ 0x0e ∷ 0x0e ∷ []) ≡ true
unfolding is_short ends all_below unfold_glyph run_body walk step_at operator_at leave but target_of number_at rounded keep24
ends_in_number = refl

-- its tokens: the number, and one endchar
number-tokens : alone (0xf7 ∷ 0x0e ∷ 0x0e ∷ []) ≡ plain (num (pos 7995392) ∷ op 14 ∷ []) []
unfolding unfold_glyph run_body walk step_at operator_at leave but target_of number_at rounded keep24
number-tokens = refl

ends-once : EndsOnce (0xf7 ∷ 0x0e ∷ 0x0e ∷ [])
ends-once = short-tokens (0xf7 ∷ 0x0e ∷ 0x0e ∷ []) end_in_number

-- the number without endchar
number-alone : is_short (0xf7 ∷ 0x0e ∷ []) ≡ false
unfolding is_short ends all_below unfold_glyph run_body walk step_at operator_at leave but target_of number_at rounded keep24
number-alone = refl

-- something behind an endchar, another endchar too: plain, but the last byte is not its only one
end_twice : is_short (0x0e ∷ 0x0e ∷ []) ≡ false
unfolding is_short ends all_below unfold_glyph run_body walk step_at operator_at leave but target_of number_at rounded keep24
end_twice = refl

-- a mask with no stems has no bytes; with one stem it would make five
mask-of-none : is_short (0x13 ∷ 0x0e ∷ []) ≡ true
unfolding is_short ends all_below unfold_glyph run_body walk step_at operator_at leave but target_of number_at rounded keep24
mask-of-none = refl

five_bytes : is_short (0x8b ∷ 0x8b ∷ 0x13 ∷ 0x0e ∷ 0x0e ∷ []) ≡ false
unfolding is_short ends all_below unfold_glyph run_body walk step_at operator_at leave but target_of number_at rounded keep24
five_bytes = refl

-- calls, and nothing
call : is_short (0x20 ∷ 0x0a ∷ 0x0e ∷ []) ≡ false
unfolding is_short ends all_below unfold_glyph run_body walk step_at operator_at leave but target_of number_at rounded keep24
call = refl

nothing : is_short [] ≡ false
unfolding is_short ends all_below unfold_glyph run_body walk step_at operator_at leave but target_of number_at rounded keep24
nothing = refl

-- ---- the next

first : next_of [] ≡ next (0x0e ∷ [])
unfolding next_of first_from_lem candidate place_of is_short ends all_below unfold_glyph run_body walk step_at operator_at leave but target_of number_at rounded keep24
first = refl

second : next_of (0x0e ∷ []) ≡ next (0x01 ∷ 0x0e ∷ [])
unfolding next_of first_from_lem candidate place_of is_short ends all_below unfold_glyph run_body walk step_at operator_at leave but target_of number_at rounded keep24
second = refl

-- behind the last one of two bytes, an operand before endchar, come those of three
first-of-three : next_of (0xf6 ∷ 0x0e ∷ []) ≡ next (0x01 ∷ 0x01 ∷ 0x0e ∷ [])
unfolding next_of first_from_lem candidate place_of is_short ends all_below unfold_glyph run_body walk step_at operator_at leave but target_of number_at rounded keep24
first-of-three = refl

not_one : next_of (0x00 ∷ 0x0e ∷ []) ≡ refused Malformed
unfolding next_of first_from_lem candidate place_of is_short ends all_below unfold_glyph run_body walk step_at operator_at leave but target_of number_at rounded keep24
not_one = refl

-- ---- all of them

-- `f7 0e 0e` comes; two operands before endchar do not
module _ (us : List (List ℕ)) (steps : Steps [] us) where
  comes : Among (0xf7 ∷ 0x0e ∷ 0x0e ∷ []) us
  comes = (all_short us steps).each _ end_in_number

  does_not_come : Among (0x8b ∷ 0x8b ∷ 0x0e ∷ []) us → ⊥
  does_not_come a = never (sym ((all_short us steps).only _ a) ∙ two_operands)

-- there is such a list
all : AllShort steps_end.0
all = all_short steps_end.0 steps_end.1
