-- The strings of a subset (the Rust's Strings; document 01, 'Layout'): equal strings share one id, standard ones theirs; the others stand in
-- order of first use behind them.
use Rattle.std.specs.Prelude.{ℕ, ◌+◌, Bool, true, false, List, [], ◌∷◌, ◌++◌, get_or, None, Option, Some}
use Rattle.octets.specs.Pick.{pick}
use Rattle.strings.specs.Text.{same_text_lem}
use Rattle.strings.specs.Strings.{string_text, sid_of}
use Rattle.dict.specs.Lookup.{id_in}
use Rattle.cff.specs.Font.{Program}

-- a text is among some
unfoldable pub has_text : List ℕ → List (List ℕ) → Bool
has_text t [] = false
has_text t (x ∷ xs) = pick (same_text_lem x t) true (has_text t xs)

-- one text more: kept where it is neither standard nor there
abbrev pub with_text : Option ℕ → List ℕ → List (List ℕ) → List (List ℕ)
with_text (Some k) t own = own
with_text None t own = pick (has_text t own) own (own ++ (t ∷ []))

-- the own strings, texts being used in this order
unfoldable pub own_strings_lem : List (List ℕ) → List (List ℕ) → List (List ℕ)
own_strings_lem own [] = own
own_strings_lem own (t ∷ ts) = own_strings_lem (with_text (sid_of t) t own) ts

-- where a text stands among the own strings
unfoldable pub place_in : List ℕ → List (List ℕ) → ℕ
place_in t [] = 0
place_in t (x ∷ xs) = pick (same_text_lem x t) 0 (place_in t xs + 1)

abbrev pub id_after : Option ℕ → List ℕ → List (List ℕ) → ℕ
id_after (Some k) t own = k
id_after None t own = 391 + place_in t own

-- the id of a text in the subset
unfoldable pub new_id : List (List ℕ) → List ℕ → ℕ
new_id own t = id_after (sid_of t) t own

-- a string entry of the top DICT: its operator and its text
pub record Named : Type 0 where
  pub op : ℕ
  pub text : List ℕ

abbrev pub named_by : Program → ℕ → Option ℕ → List Named → List Named
named_by p op None rest = rest
named_by p op (Some sid) rest = record { op = op; text = string_text p.strings sid } ∷ rest

-- those of these operators that are there
unfoldable pub named_entries : Program → List ℕ → List Named
named_entries p [] = []
named_entries p (op ∷ ops) = named_by p op (id_in op p.top) (named_entries p ops)

unfoldable pub texts_of : List Named → List (List ℕ)
texts_of [] = []
texts_of (n ∷ ns) = n.text ∷ texts_of ns

-- a glyph's name
abbrev pub name_of : Program → ℕ → List ℕ
name_of p g = string_text p.strings (get_or p.ids g 0)

unfoldable pub names_of : Program → List ℕ → List (List ℕ)
names_of p [] = []
names_of p (g ∷ gs) = name_of p g ∷ names_of p gs

-- a string id as the work words hold it: 65536, which is no string id, where there is none
abbrev pub slot_of : Option ℕ → ℕ
slot_of None = 65536
slot_of (Some sid) = sid
