-- The rules of the predefined encodings, computed over the tables: each has 256 codes; those that are assigned name, code by code, the strings 1 to 149 in
-- the Standard Encoding, and in the Expert Encoding the Expert charset (TN5176, appendix C). So no string has two codes.
use Rattle.std.specs.Prelude.{ℕ, zero, suc, ◌+◌, ◌≡◌, refl, List, [], ◌∷◌, ◌++◌, eqb, length}
use Rattle.octets.specs.Pick.{pick}
use Rattle.charset.specs.Predefined.{standard_encoding, expert_encoding}

-- the ids that are assigned, in the order of their codes
unfoldable pub assigned : List ℕ → List ℕ
assigned [] = []
assigned (sid ∷ sids) = pick (eqb sid 0) (assigned sids) (sid ∷ assigned sids)

-- n ids from k on
unfoldable pub ids : ℕ → ℕ → List ℕ
ids k zero = []
ids k (suc n) = k ∷ ids (k + 1) n

pub standard_long : length standard_encoding ≡ 256
unfolding standard_encoding
standard_long = refl

pub expert_long : length expert_encoding ≡ 256
unfolding expert_encoding
expert_long = refl

pub standard_rule : assigned standard_encoding ≡ ids 1 149
unfolding assigned ids standard_encoding
standard_rule = refl

pub expert_rule : assigned expert_encoding
    ≡ 1 ∷ ids 229 10 ++ (13 ∷ 14 ∷ 15 ∷ 99 ∷ ids 239 10 ++ (27 ∷ 28 ∷ ids 249 18 ++ (109 ∷ 110 ∷ ids 267 52
    ++ (158 ∷ 155 ∷ 163 ∷ ids 319 8 ++ (150 ∷ 164 ∷ 169 ∷ ids 327 52)))))
unfolding assigned ids expert_encoding
expert_rule = refl
