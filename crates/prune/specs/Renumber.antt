-- One charstring or subroutine renumbered (the Rust's renumber_charstring; document 01, 'Corners in write.rs'): a call (10, 29) must follow
-- a number token directly, integral, whose old subroutine has a new number; the number becomes the new one less the new bias.
use Rattle.std.specs.Prelude.{ℕ, Bool, true, List, [], ◌∷◌, eqb, ℤ, None, Option, Some, option_map}
use Rattle.octets.specs.Pick.{pick}
use Rattle.octets.specs.Steps.{and}
use Rattle.type2_number.specs.Number.{whole}
use Rattle.charstring.specs.Bias.{numbered}
use Rattle.charstring.specs.Token.{Tok, num, op, esc, mask, tokens_of}
use Rattle.charstring.specs.Encode.{encode}
use Rattle.charstring.specs.declared.MaskLen.{MaskLen}

-- what becomes of the operand of a call, by the operator: none where the renumbering fails
abbrev pub Calls : Type 0
Calls = ℕ → ℤ → Option ℤ

-- the operand of a call of subroutines with these new numbers, none for one that was not reached; the bias before and after
abbrev pub operand_of : (ℕ → Option ℕ) → ℕ → ℕ → ℤ → Option ℤ
operand_of numbers oldBias newBias z = option_map (λ (n : ℕ). whole n newBias) (and (numbered oldBias z) numbers)

abbrev pub is_call : ℕ → Bool
is_call b = pick (eqb b 10) true (eqb b 29)

-- a token before others
abbrev pub before : Tok → Option (List Tok) → Option (List Tok)
before t r = option_map (λ (ts : List Tok). t ∷ ts) r

-- the number token just before, which no call takes
abbrev pub kept : Option ℤ → Option (List Tok) → Option (List Tok)
kept None r = r
kept (Some z) r = before (num z) r

-- a call with its new operand before it; the old one is the number token just before
abbrev pub called : ℕ → Option ℤ → Option (List Tok) → Option (List Tok)
called b z r = and z (λ (y : ℤ). before (num y) (before (op b) r))

abbrev pub called_after : Calls → ℕ → Option ℤ → Option (List Tok) → Option (List Tok)
called_after calls b w r = and w (λ (z : ℤ). called b (calls b z) r)

unfoldable pub renumber : Calls → Option ℤ → List Tok → Option (List Tok)
renumber calls w [] = kept w (Some [])
renumber calls w (num z ∷ ts) = kept w (renumber calls (Some z) ts)
renumber calls w (op b ∷ ts) = pick (is_call b) (called_after calls b w (renumber calls None ts)) (kept w (before (op b) (renumber calls None ts)))
renumber calls w (esc b ∷ ts) = kept w (before (esc b) (renumber calls None ts))
renumber calls w (mask bs ∷ ts) = kept w (before (mask bs) (renumber calls None ts))

-- a body renumbered: its tokens read with the lengths given for its masks, renumbered, and written
unfoldable pub renumber_charstring : Calls → (ℕ → MaskLen) → List ℕ → Option (List ℕ)
renumber_charstring calls given code = and (tokens_of given code) (λ (ts : List Tok). option_map encode (renumber calls None ts))
