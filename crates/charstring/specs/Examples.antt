-- Worked examples, computed.
use Rattle.std.specs.Prelude.{◌≡◌, refl, List, [], ◌∷◌, ℕ, pos, None, Option, Some}
use Rattle.type2_number.specs.Number.{keep24, rounded, number_at}
use Rattle.charstring.specs.Token.{Tok, num, op, esc, mask, token_at, tokens_from, tokens_of, lookup}
use Rattle.charstring.specs.declared.MaskLen.TheVariants.{Own}

abbrev own : List ℕ → Option (List Tok)
own code = tokens_of (λ o. Own) code

-- one stem: a mask of one byte by the body's own count
own-mask : own (0x8c ∷ 0x8c ∷ 0x12 ∷ 0x13 ∷ 0x80 ∷ 0x0e ∷ []) ≡ Some (num (pos 65536) ∷ num (pos 65536) ∷ op 18 ∷ op 19 ∷ mask (0x80 ∷ []) ∷ op 14 ∷ [])
unfolding tokens_of tokens_from token_at number_at rounded keep24
own-mask = refl

-- two numbers before a mask are an implicit vstem
implicit : own (0x8b ∷ 0x8b ∷ 0x14 ∷ 0xff ∷ []) ≡ Some (num (pos 0) ∷ num (pos 0) ∷ op 20 ∷ mask (0xff ∷ []) ∷ [])
unfolding tokens_of tokens_from token_at number_at rounded keep24
implicit = refl

-- the length given for the operator's place wins: no byte at 0, two bytes at 1
given : tokens_of (lookup (0 ∷ 0 ∷ 1 ∷ 2 ∷ [])) (0x13 ∷ 0x13 ∷ 0x01 ∷ 0x02 ∷ []) ≡ Some (op 19 ∷ mask [] ∷ op 19 ∷ mask (1 ∷ 2 ∷ []) ∷ [])
unfolding tokens_of tokens_from token_at number_at rounded keep24 lookup
given = refl

-- a mask at the very end, of no bytes, is a token still
at_the_end : own (0x13 ∷ []) ≡ Some (op 19 ∷ mask [] ∷ [])
unfolding tokens_of tokens_from token_at number_at
at_the_end = refl

-- a call clears the numbers: the two before it are no stem of the mask
call_clears : own (0x8b ∷ 0x8b ∷ 0x0a ∷ 0x13 ∷ []) ≡ Some (num (pos 0) ∷ num (pos 0) ∷ op 10 ∷ op 19 ∷ mask [] ∷ [])
unfolding tokens_of tokens_from token_at number_at rounded keep24
call_clears = refl

-- bytes after endchar are tokens too; an escape
after_end : own (0x0e ∷ 0x0c ∷ 0x22 ∷ []) ≡ Some (op 14 ∷ esc 34 ∷ [])
unfolding tokens_of tokens_from token_at number_at
after_end = refl

-- cut off: an escape, a number, a mask
cut-escape : own (0x0c ∷ []) ≡ None
unfolding tokens_of tokens_from token_at number_at
cut-escape = refl

cut-number : own (0x0e ∷ 0x1c ∷ 0x00 ∷ []) ≡ None
unfolding tokens_of tokens_from token_at number_at rounded keep24
cut-number = refl

cut-mask : own (0x8b ∷ 0x8b ∷ 0x13 ∷ []) ≡ None
unfolding tokens_of tokens_from token_at number_at rounded keep24
cut-mask = refl
