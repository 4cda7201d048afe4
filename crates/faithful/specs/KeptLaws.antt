-- The glyphs that a subset keeps and the order in which it writes them (document 01, 'Layout'): glyph 0 and the glyphs of the keep list, each
-- once; written are exactly the kept ones, each once.
use Rattle.std.specs.Prelude.{ℕ, zero, suc, ◌≤◌, ◌<◌, ◌≡◌, refl, true, List, ◌∷◌, eqb, length, get_or}
use Rattle.std.proofs.Common.{sym, ap, ◌∙◌, ⊎_elim, not-suc-le-zero, arith, eq-eqb}
use Rattle.octets.specs.Pick.{pick_ind}
use Rattle.dict.specs.Lookup.{cid_keyed}
use Rattle.cff.specs.Font.{Program}
use Rattle.subset.specs.Kept.{is_in, those, kept_of, sorted_by, written_order, keeps}
use Rattle.faithful.specs.Faithful.{IsKept}
use Rattle.subset.specs.KeptListLaws.{in_at, in_place, those-has, those_in, those-count, Distinct, those-distinct, sorted_in, sorted-count, sorted-distinct}

-- ---- kept

-- glyph 0 is kept
keeps-zero : (keep : List ℕ) (g : ℕ) → g ≡ 0 → keeps keep g ≡ true
keeps-zero keep g e = simp (eq-eqb g 0 e)

-- a glyph of the keep list is kept
keeps-asked : (keep : List ℕ) (g : ℕ) → is_in g keep ≡ true → keeps keep g ≡ true
keeps-asked keep g h = pick_ind (λ t. t ≡ true) (eqb g 0) true (is_in g keep) (λ t. refl) (λ t. h)

-- a glyph that the theorem speaks of is one of the kept
pub kept_is : (p : Program) (keep : List ℕ) (g : ℕ) → IsKept p keep g → is_in g (kept_of (length p.charstrings) keep) ≡ true
kept_is p keep g k =
    those-has (keeps keep) (length p.charstrings) 0 g (omega arith) (omega (arith, k.there))
    (⊎_elim (λ e. keeps-zero keep g e) (λ h. keeps-asked keep g h) k.asked)

-- a kept glyph is one of the n
pub kept-below : (n : ℕ) (keep : List ℕ) (g : ℕ) → is_in g (kept_of n keep) ≡ true → g < n
kept-below n keep g h = omega (arith, (those_in (keeps keep) n 0 g h).1)

-- so are those of a list of kept ones
pub all-below : (n : ℕ) (keep order : List ℕ) → ((i : ℕ) → i < length order → is_in (get_or order i 0) (kept_of n keep) ≡ true)
    → (i : ℕ) → i < length order → get_or order i 0 < n
all-below n keep order inside i h = kept-below n keep (get_or order i 0) (inside i h)

-- glyph 0 is the first, then come the others
pub kept-front : (n : ℕ) (keep : List ℕ) → kept_of (suc n) keep ≡ 0 ∷ those (keeps keep) n 1
unfolding those
kept-front n keep = refl

-- some are kept, at most all, and glyph 0 is the first
pub kept-some : (n : ℕ) (keep : List ℕ) → 0 < n → (0 < length (kept_of n keep)) × (length (kept_of n keep) ≤ n) × (get_or (kept_of n keep) 0 0 ≡ 0)
kept-some zero keep h = absurd (not-suc-le-zero h)
kept-some (suc n) keep h =
    (rw kept-front (omega arith), those-count (keeps keep) (suc n) 0, ap (λ (l : List ℕ). get_or l 0 0) (kept-front n keep))

-- no glyph is kept twice
pub kept-distinct : (n : ℕ) (keep : List ℕ) → Distinct (kept_of n keep)
kept-distinct n keep = those-distinct (keeps keep) n 0

-- ---- the order

module _ (p : Program) (kept : List ℕ) where
  -- as many are written as are kept
  pub order-count : length (written_order p kept) ≡ length kept
  order-count =
      pick_ind (λ (l : List ℕ). length l ≡ length kept) (cid_keyed p.top) (sorted_by (λ g. get_or p.ids g 0) kept) kept
      (λ t. sorted-count (λ g. get_or p.ids g 0) kept)
      (λ t. refl)

  -- they are the same glyphs
  pub order_same : (g : ℕ) → is_in g (written_order p kept) ≡ is_in g kept
  order_same g =
      pick_ind (λ (l : List ℕ). is_in g l ≡ is_in g kept) (cid_keyed p.top) (sorted_by (λ g. get_or p.ids g 0) kept) kept
      (λ t. sorted_in (λ g. get_or p.ids g 0) kept g)
      (λ t. refl)

  -- a kept glyph is written at a place
  pub order-has : (g : ℕ) → is_in g kept ≡ true → (i : ℕ) × (i < length (written_order p kept)) × (get_or (written_order p kept) i 0 ≡ g)
  order-has g h = in_place (written_order p kept) g (order_same g ∙ h)

  -- a glyph that is written is kept
  pub order_in : (i : ℕ) → i < length (written_order p kept) → is_in (get_or (written_order p kept) i 0) kept ≡ true
  order_in i h = sym (order_same (get_or (written_order p kept) i 0)) ∙ in_at (written_order p kept) i h

  -- none is written twice
  pub order-distinct : Distinct kept → Distinct (written_order p kept)
  order-distinct d =
      pick_ind (λ (l : List ℕ). Distinct l) (cid_keyed p.top) (sorted_by (λ g. get_or p.ids g 0) kept) kept
      (λ t. sorted-distinct (λ g. get_or p.ids g 0) kept d)
      (λ t. d)
