-- What a list of tokens must be like to be the tokens of a body, and the lengths of its masks by the places of their operators
-- once it is written: with these the theorem of TokensRound says that writing and reading fit together.
use Rattle.std.specs.Prelude.{ℕ, ◌+◌, ◌-◌, ◌<◌, ◌≡◌, Bool, true, false, List, [], ◌∷◌, length, eqb}
use Rattle.octets.specs.Pick.{pick}
use Rattle.type2_number.specs.Number.{Reading}
use Rattle.charstring.specs.Token.{Tok, num, op, esc, mask, is_mask}
use Rattle.charstring.specs.Encode.{tok_bytes}
use Rattle.charstring.specs.declared.MaskLen.{MaskLen}
use Rattle.charstring.specs.declared.MaskLen.TheVariants.{Own, Given}

-- a byte that is an operator by itself: no number begins with it, and it is not the escape
pub record OneByte (b : ℕ) : Type 0 where
  pub low : b < 32
  pub not_number : b ≡ 28 → ⊥
  pub not_escape : b ≡ 12 → ⊥

-- numbers are readings, operators are operators, and masks stand exactly behind their operators; `due` where one must come first
abbrev pub Proper : Bool → List Tok → Type 0
Proper false [] = Unit
Proper true [] = ⊥
Proper false (num z ∷ ts) = Reading z × Proper false ts
Proper true (num z ∷ ts) = ⊥
Proper false (op b ∷ ts) = OneByte b × Proper (is_mask b) ts
Proper true (op b ∷ ts) = ⊥
Proper false (esc b ∷ ts) = Proper false ts
Proper true (esc b ∷ ts) = ⊥
Proper false (mask bs ∷ ts) = ⊥
Proper true (mask bs ∷ ts) = Proper false ts

-- the lengths of the masks of tokens that are written from `at` on, by the offset of the operator before each
unfoldable pub lengths_of : ℕ → List Tok → ℕ → MaskLen
lengths_of at [] o = Own
lengths_of at (num z ∷ ts) o = lengths_of (at + length (tok_bytes (num z))) ts o
lengths_of at (op b ∷ ts) o = lengths_of (at + 1) ts o
lengths_of at (esc b ∷ ts) o = lengths_of (at + 2) ts o
lengths_of at (mask bs ∷ ts) o = pick (eqb (o + 1) at) (Given (length bs)) (lengths_of (at + length bs) ts o)

-- a lookup gives each of these masks its length
abbrev pub Gives : (ℕ → MaskLen) → ℕ → List Tok → Type 0
Gives given at [] = Unit
Gives given at (num z ∷ ts) = Gives given (at + length (tok_bytes (num z))) ts
Gives given at (op b ∷ ts) = Gives given (at + 1) ts
Gives given at (esc b ∷ ts) = Gives given (at + 2) ts
Gives given at (mask bs ∷ ts) = (given (at - 1) ≡ Given (length bs)) × Gives given (at + length bs) ts
