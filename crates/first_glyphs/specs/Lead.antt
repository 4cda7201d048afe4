-- The ids that lead (document 01, refusal 7): of all ids with one text one leads, so that names are the same where their leads are.
use Rattle.std.specs.Prelude.{ℕ, ◌<◌, ◌≡◌, true, List, [], ◌∷◌, eqb, length, get_or, set}
use Rattle.octets.specs.Pick.{pick}
use Rattle.strings.specs.Text.{same_text_lem}
use Rattle.strings.specs.Strings.{string_text}
use Rattle.subset.specs.Kept.{is_in}
use Rattle.subset.specs.Pruned.{mapped}

-- at the place of each of some ids, the first of those before it without another text between; the lead of the text under way is given
unfoldable pub leading : List (List ℕ) → ℕ → List ℕ → List ℕ → List ℕ
leading strings lead [] leads = leads
leading strings lead (x ∷ xs) leads =
    pick (same_text_lem (string_text strings lead) (string_text strings x)) (leading strings lead xs (set leads x lead)) (leading strings x xs (set leads x x))

-- what a closure may give of an id is the key of that id
abbrev pub Gives : (ℕ → ℕ → Type 0) → (ℕ → ℕ) → Type 0
Gives may key_of = (id k : ℕ) → id < 65536 → may id k → k ≡ key_of id

-- the leads of the ids of all glyphs
abbrev pub lead_ids : List ℕ → List ℕ → List ℕ
lead_ids leads ids = mapped (λ id. get_or leads id 0) ids

-- the ids of the first g glyphs are among some
pub record HasIds (ids : List ℕ) (g : ℕ) (l : List ℕ) : Type 0 where
  pub has : (h : ℕ) → h < g → is_in (get_or ids h 0) l ≡ true

-- ids of glyphs have one text exactly where they have one lead
pub record Leads (strings : List (List ℕ)) (ids leads : List ℕ) : Type 0 where
  pub same : (h k : ℕ) → h < length ids → k < length ids
      → same_text_lem (string_text strings (get_or ids h 0)) (string_text strings (get_or ids k 0)) ≡ eqb (get_or leads (get_or ids h 0) 0) (get_or leads (get_or ids k 0) 0)
