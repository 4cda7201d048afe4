-- Stored cases of a body (tools/oracle/README.md, 'Lines'): the answer to the input of a kind t or e, how many pairs, the pairs and the
-- code. An input that is not of this form has none, and its line then counts as failed.
use Rattle.std.specs.Prelude.{ℕ, zero, suc, ◌+◌, ◌-◌, ◌*◌, Bool, List, [], ◌∷◌, ◌++◌, ltb, eqb, length, drop, get_or, None, Option, Some}
use Rattle.octets.specs.Pick.{pick}
use Rattle.octets.specs.Octets.{num_at, bytes_of}
use Rattle.type2_number.specs.Floats.{scaled_of}
use Rattle.charstring.specs.Token.{Tok, Lexeme, lost, got_num, got_op, got_esc, got_mask, token_at, more, start, tokens_of, lookup}
use Rattle.charstring.specs.Encode.{encode}
use Rattle.charstring.specs.declared.MaskLen.{MaskLen}
use Rattle.charstring.specs.declared.Cursor.{Cursor}
use Rattle.charstring.specs.declared.Token.{Token}
use Rattle.charstring.specs.declared.Token.TheVariants.{Num, Op, Esc, Mask}
use Rattle.charstring_cases.specs.Numbers.{count_bytes}

-- bytes in front of others, if there are others
abbrev pub ahead : List ℕ → Option (List ℕ) → Option (List ℕ)
ahead bs None = None
ahead bs (Some cs) = Some (bs ++ cs)

-- a token's bytes, and those of what follows it: 1 and a number; 2 and an operator; 3 and an escape; 4 and where a mask starts and its length
abbrev pub listed : Lexeme → (Cursor → Option (List ℕ)) → Option (List ℕ)
listed lost rest = None
listed (got_num z c) rest = ahead (1 ∷ count_bytes z) (rest c)
listed (got_op b c) rest = ahead (2 ∷ b ∷ []) (rest c)
listed (got_esc b c) rest = ahead (3 ∷ b ∷ []) (rest c)
listed (got_mask at n c) rest = ahead (4 ∷ (bytes_of 2 at ++ bytes_of 2 n)) (rest c)

-- the tokens from a cursor on, at most k of them; none where one is cut off
unfoldable pub list_from : ℕ → (ℕ → MaskLen) → List ℕ → Cursor → Option (List ℕ)
list_from zero given s c = Some []
list_from (suc k) given s c = pick (more s c) (listed (token_at s (given (c.at - 1)) c) (list_from k given s)) (Some [])

-- 0 where there is nothing, else 1 and the bytes
abbrev pub flagged : Option (List ℕ) → List ℕ
flagged None = 0 ∷ []
flagged (Some bs) = 1 ∷ bs

-- kind t: the tokens of a body, no more than twice its length (as in `tokens_of`)
unfoldable pub tokens_bytes : (ℕ → MaskLen) → List ℕ → List ℕ
tokens_bytes given s = flagged (list_from (2 * length s) given s start)

-- kind e: the tokens of a body, written back
abbrev pub recoded_bytes : Option (List Tok) → List ℕ
recoded_bytes None = 0 ∷ []
recoded_bytes (Some ts) = 1 ∷ encode ts

-- n numbers of two bytes from p on
unfoldable pub pairs_at : List ℕ → ℕ → ℕ → List ℕ
pairs_at s p zero = []
pairs_at s p (suc n) = num_at s p 2 ∷ pairs_at s (p + 2) n

abbrev pub stream_bytes : Bool → (ℕ → MaskLen) → List ℕ → List ℕ
stream_bytes t given s = pick t (tokens_bytes given s) (recoded_bytes (tokens_of given s))

-- kinds t and e: how many pairs, up to 16; the pairs, an offset and a length each; a body of up to 60 bytes
unfoldable pub stream_answer : Bool → List ℕ → Option (List ℕ)
stream_answer t s =
    let n = get_or s 0 0 in
    pick (eqb (length s) 0) None
    (pick (ltb 16 n) None
    (pick (ltb (length s) (1 + 4 * n)) None
    (pick (ltb 60 (length s - (1 + 4 * n))) None
    (Some (stream_bytes t (lookup (pairs_at s 1 (2 * n))) (drop (1 + 4 * n) s))))))

-- a token of the code, by the same rules as in `listed`
abbrev pub token_bytes : Token → List ℕ
token_bytes (Num v) = 1 ∷ count_bytes (scaled_of v)
token_bytes (Op b) = 2 ∷ b ∷ []
token_bytes (Esc b) = 3 ∷ b ∷ []
token_bytes (Mask at n) = 4 ∷ (bytes_of 2 at ++ bytes_of 2 n)
