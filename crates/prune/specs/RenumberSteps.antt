-- The steps of renumbering under names of their own, for the laws.
use Rattle.std.specs.Prelude.{ℕ, List, ℤ, None, Option, option_map}
use Rattle.octets.specs.Steps.{and}
use Rattle.type2_number.specs.Number.{whole}
use Rattle.charstring.specs.Token.{Tok}
use Rattle.charstring.specs.Encode.{encode}
use Rattle.prune.specs.Renumber.{Calls, renumber}

-- the new number for an old one, and the operand for a new one
abbrev pub new_of : (ℕ → Option ℕ) → Option ℕ → Option ℕ
new_of numbers i = and i numbers

abbrev pub operand_for : ℕ → Option ℕ → Option ℤ
operand_for bias n = option_map (λ (k : ℕ). whole k bias) n

-- tokens written, and a body's tokens renumbered and written
abbrev pub written_back : Option (List Tok) → Option (List ℕ)
written_back ts = option_map encode ts

abbrev pub renumbered_tokens : Calls → Option (List Tok) → Option (List ℕ)
renumbered_tokens calls body = and body (λ ts. written_back (renumber calls None ts))
