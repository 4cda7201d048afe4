-- The integers that a charstring holds in two bytes (TN5177, table 1), a case for each first byte: 247 to 250 for those above 0, 251 to 254
-- for those below it.
use Rattle.std.specs.Prelude.{ℕ, ◌≤◌, ◌≡◌, Bool, true, false, List, [], ◌∷◌, ℤ, get_or}
use Rattle.type2_number.specs.Number.{is_neg, mag}

-- a form: its first byte, and the integers of a sign and of sizes from least to most that it holds; the second byte is the size less the least
pub record Form : Type 0 where
  pub first : ℕ
  pub neg : Bool
  pub least : ℕ
  pub most : ℕ

abbrev pub two_bytes : List Form
two_bytes =
    record { first = 247; neg = false; least = 108; most = 363 }
    ∷ record { first = 248; neg = false; least = 364; most = 619 }
    ∷ record { first = 249; neg = false; least = 620; most = 875 }
    ∷ record { first = 250; neg = false; least = 876; most = 1131 }
    ∷ record { first = 251; neg = true; least = 108; most = 363 }
    ∷ record { first = 252; neg = true; least = 364; most = 619 }
    ∷ record { first = 253; neg = true; least = 620; most = 875 }
    ∷ record { first = 254; neg = true; least = 876; most = 1131 }
    ∷ []

-- the form at a place of the list; past its end one that holds nothing
abbrev pub form_at : ℕ → Form
form_at k = get_or two_bytes k (record { first = 0; neg = false; least = 1; most = 0 })

-- an integer is in the range of a form
pub record In (f : Form) (z : ℤ) : Type 0 where
  pub sign : is_neg z ≡ f.neg
  pub low : f.least ≤ mag z
  pub high : mag z ≤ f.most
