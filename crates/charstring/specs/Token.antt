-- The tokens of a charstring or subroutine body (TN5177, sections 3 and 4.3), as the Rust's `tokens_with_masks` takes them: from the
-- first byte to the last, calls not entered, a mask's length as it is given for its operator's place or by the body's own stems.
use Rattle.std.specs.Prelude.{ℕ, zero, suc, ◌+◌, ◌-◌, ◌*◌, ◌/◌, Bool, true, false, List, [], ◌∷◌, ◌++◌, length, take, drop, get_or, ltb, eqb, ℤ, None, Option, Some}
use Rattle.octets.specs.Pick.{pick}
use Rattle.type2_number.specs.Number.{Read, cut, operator, number, number_at}
use Rattle.charstring.specs.declared.MaskLen.{MaskLen}
use Rattle.charstring.specs.declared.MaskLen.TheVariants.{Own, Given}
use Rattle.charstring.specs.declared.Cursor.{Cursor}

-- a token: a number by its reading in 65536ths, an operator, an escape, or a mask's bytes, which stand after its operator
pub data Tok : Type 0 where
  num : ℤ → Tok
  op : ℕ → Tok
  esc : ℕ → Tok
  mask : List ℕ → Tok

-- hintmask and cntrmask, which a mask follows
abbrev pub is_mask : ℕ → Bool
is_mask b = pick (eqb b 19) true (eqb b 20)

-- the operators at which the waiting numbers are stems: hstem, vstem, hstemhm, vstemhm, and the masks, an implicit vstem
abbrev pub is_stem : ℕ → Bool
is_stem b = pick (eqb b 1) true (pick (eqb b 3) true (pick (eqb b 18) true (pick (eqb b 23) true (is_mask b))))

-- two numbers are a stem
abbrev pub stems_after : ℕ → ℕ → ℕ → ℕ
stems_after b args stems = pick (is_stem b) (stems + args / 2) stems

-- a mask's length in bytes: as given, or one bit for each stem
abbrev pub mask_len : MaskLen → ℕ → ℕ
mask_len (Given n) stems = n
mask_len Own stems = (stems + 7) / 8

-- what stands in the body where a cursor is: cut off by the end, or a token with the cursor after it; a mask by start and length
pub data Lexeme : Type 0 where
  lost : Lexeme
  got_num : ℤ → Cursor → Lexeme
  got_op : ℕ → Cursor → Lexeme
  got_esc : ℕ → Cursor → Lexeme
  got_mask : ℕ → ℕ → Cursor → Lexeme

-- the mask of n bytes that is due
abbrev pub mask_at : List ℕ → Cursor → ℕ → Lexeme
mask_at s c n = pick (ltb (length s - c.at) n) lost (got_mask c.at n (record { at = c.at + n; args = 0; stems = c.stems; due = false }))

-- the operator b, or after 12 the escape behind it
abbrev pub operator_at : List ℕ → Cursor → ℕ → Lexeme
operator_at s c b =
    pick (eqb b 12)
    (pick (ltb (length s - c.at) 2) lost
    (got_esc (get_or s (c.at + 1) 0) (record { at = c.at + 2; args = 0; stems = c.stems; due = false })))
    (got_op b (record { at = c.at + 1; args = 0; stems = stems_after b c.args c.stems; due = is_mask b }))

abbrev pub plain_at : List ℕ → Cursor → Read → Lexeme
plain_at s c cut = lost
plain_at s c (number z n) = got_num z (record { at = n; args = c.args + 1; stems = c.stems; due = false })
plain_at s c operator = operator_at s c (get_or s c.at 0)

-- the token where a cursor is, `len` being what is given for the operator just before it
unfoldable pub token_at : List ℕ → MaskLen → Cursor → Lexeme
token_at s len c = pick c.due (mask_at s c (mask_len len c.stems)) (plain_at s c (number_at s c.at))

-- tokens before those of what follows, or none where it is cut off in one
abbrev pub join : List Tok → Option (List Tok) → Option (List Tok)
join ts None = None
join ts (Some us) = Some (ts ++ us)

-- a token and what follows it
abbrev pub onward : List ℕ → Lexeme → (Cursor → Option (List Tok)) → Option (List Tok)
onward s lost rest = None
onward s (got_num z c) rest = join (num z ∷ []) (rest c)
onward s (got_op b c) rest = join (op b ∷ []) (rest c)
onward s (got_esc b c) rest = join (esc b ∷ []) (rest c)
onward s (got_mask start n c) rest = join (mask (take n (drop start s)) ∷ []) (rest c)

-- whether a token is left
abbrev pub more : List ℕ → Cursor → Bool
more s c = pick c.due true (ltb c.at (length s))

-- the tokens from a cursor on, at most k of them; `given` answers a mask operator's offset
unfoldable pub tokens_from : ℕ → (ℕ → MaskLen) → List ℕ → Cursor → Option (List Tok)
tokens_from zero given s c = Some []
tokens_from (suc k) given s c = pick (more s c) (onward s (token_at s (given (c.at - 1)) c) (tokens_from k given s)) (Some [])

abbrev pub start : Cursor
start = record { at = 0; args = 0; stems = 0; due = false }

-- the tokens of a body: each but a mask has a byte of its own, and a mask its operator's, so that twice the length is enough
unfoldable pub tokens_of : (ℕ → MaskLen) → List ℕ → Option (List Tok)
tokens_of given s = tokens_from (2 * length s) given s start

-- the first of a list of pairs, offset and length, that has the offset
unfoldable pub lookup : List ℕ → ℕ → MaskLen
lookup [] at = Own
lookup (o ∷ []) at = Own
lookup (o ∷ n ∷ pairs) at = pick (eqb o at) (Given n) (lookup pairs at)
