-- Tokens written back (TN5177, section 3; the Rust's `encode`; document 01, 'Corners in charstring.rs'): numbers in the form of `encoded`, everything else as it was read.
use Rattle.std.specs.Prelude.{ℕ, Bool, true, false, List, [], ◌∷◌, ◌++◌, None, Option, Some}
use Rattle.type2_number.specs.Encoding.{encoded}
use Rattle.charstring.specs.Token.{Tok, num, op, esc, mask}

-- the bytes of a token
abbrev pub tok_bytes : Tok → List ℕ
tok_bytes (num z) = encoded z
tok_bytes (op b) = b ∷ []
tok_bytes (esc b) = 12 ∷ b ∷ []
tok_bytes (mask bs) = bs

unfoldable pub encode : List Tok → List ℕ
encode [] = []
encode (t ∷ ts) = tok_bytes t ++ encode ts

-- whether a body was read to its end
abbrev pub is_whole : Option (List Tok) → Bool
is_whole None = false
is_whole (Some ts) = true

-- a body written back
abbrev pub body_bytes : Option (List Tok) → List ℕ
body_bytes None = []
body_bytes (Some ts) = encode ts
