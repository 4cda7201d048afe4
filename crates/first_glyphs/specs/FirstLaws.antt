-- Laws of the first glyph of an id and of a name (document 01, refusal 7): it alone is found by its name.
use Rattle.std.specs.Prelude.{ℕ, zero, suc, ◌+◌, ◌≤◌, ◌<◌, ◌≡◌, refl, Bool, true, false, List, [], ◌∷◌, length, get_or, Option, Some}
use Rattle.std.proofs.Common.{ap, ◌∙◌, not-suc-le-zero, arith, ne_eqb}
use Rattle.octets.specs.Pick.{pick_ind}
use Rattle.strings.specs.Text.{same_text_lem}
use Rattle.strings.specs.TextLaws.{same_refl, same_not}
use Rattle.strings.specs.Strings.{string_text}
use Rattle.find.specs.Find.{glyph_with_text}
use Rattle.kept.specs.Packed.{name_found}
use Rattle.first_glyphs.specs.FoundLaws.{glyph_as, Seen}

-- one at place h or before it is found where the one at place h has the name
named-before : (strings : List (List ℕ)) (name : List ℕ) (s : ℕ) (l : List ℕ) (h : ℕ) → h < length l → string_text strings (get_or l h 0) ≡ name
    → (k : ℕ) × (k ≤ s + h) × (glyph_with_text strings name s l ≡ Some k)
unfolding glyph_with_text
named-before strings name s [] h m e = absurd (not-suc-le-zero m)
named-before strings name s (x ∷ l) zero m e =
    let t : same_text_lem (string_text strings x) name ≡ true = ap (λ (y : List ℕ). same_text_lem y name) e ∙ same_refl name in
    (s, omega arith, simp t)
named-before strings name s (x ∷ l) (suc h) m e =
    let r = named-before strings name (s + 1) l h (omega arith) e in
    pick_ind (λ (z : Option ℕ). (k : ℕ) × (k ≤ s + suc h) × (z ≡ Some k)) (same_text_lem (string_text strings x) name) (Some s) (glyph_with_text strings name (s + 1) l)
    (λ t. (s, omega arith, refl))
    (λ t. (r.0, omega (arith, r.1), r.2))

-- a glyph with the id of an earlier one is not found by its name
pub again_not : (strings : List (List ℕ)) (ids : List ℕ) (g h : ℕ) → h < g → g < length ids → get_or ids h 0 ≡ get_or ids g 0 → name_found strings ids g ≡ false
again_not strings ids g h l m e =
    let r = named-before strings (string_text strings (get_or ids g 0)) 0 ids h (omega arith) (ap (string_text strings) e) in
    glyph_as g _ _ r.2 ∙ ne_eqb r.0 g (λ q. omega (arith, r.1))

pub seen_not_named : (strings : List (List ℕ)) (ids : List ℕ) (g : ℕ) (seen : ℕ → Bool) → Seen ids g seen → (id : ℕ) → id ≡ get_or ids g 0 → g < length ids
    → seen id ≡ true → name_found strings ids g ≡ false
seen_not_named strings ids g seen s id is h m = let o = s.only id m in again_not strings ids g o.0 o.1 h (o.2 ∙ is)

-- the first glyph with a name is found
pub first-named : (strings : List (List ℕ)) (name : List ℕ) (s : ℕ) (l : List ℕ) (g : ℕ) → g < length l → string_text strings (get_or l g 0) ≡ name
    → ((k : ℕ) → k < g → string_text strings (get_or l k 0) ≡ name → ⊥) → glyph_with_text strings name s l ≡ Some (s + g)
unfolding glyph_with_text
first-named strings name s [] g h e f = absurd (not-suc-le-zero h)
first-named strings name s (x ∷ l) zero h e f =
    let z : s ≡ s + 0 = omega arith in
    let t : same_text_lem (string_text strings x) name ≡ true = ap (λ (y : List ℕ). same_text_lem y name) e ∙ same_refl name in
    simp t (ap Some z)
first-named strings name s (x ∷ l) (suc g) h e f =
    let z : s + 1 + g ≡ s + suc g = omega arith in
    simp (same_not (string_text strings x) name (f 0 (omega arith))) (first-named strings name (s + 1) l g (omega arith) e (λ k m. f (suc k) (omega arith)) ∙ ap Some z)
