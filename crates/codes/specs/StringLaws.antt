-- Laws of the glyph of a string id: the length of a standard text, that it is found by the id's text, and that one that is found is in the font.
use Rattle.std.specs.Prelude.{ℕ, zero, suc, ◌+◌, ◌≤◌, ◌<◌, ◌≡◌, refl, Bool, true, List, [], ◌∷◌, map, ltb, eqb, length, get_or, None, Option, Some}
use Rattle.std.proofs.Common.{sym, ap, ◌∙◌, arith, lt-ltb, ltb-true}
use Rattle.octets.specs.Pick.{pick, pick_ind}
use Rattle.octets.specs.PickLaws.{both_hold}
use Rattle.octets.specs.Lists.{all_below}
use Rattle.strings.specs.Table.{standard_names}
use Rattle.strings.specs.Text.{codes, same_text_lem}
use Rattle.strings.specs.Strings.{standard_strings, standard_string, string_text}
use Rattle.charset.specs.CharsetFound.{good_length}
use Rattle.find.specs.Find.{glyph_with_text}
use Rattle.cff.specs.Font.{Program}
use Rattle.cff.specs.Reads.{GoodFont, program_of}
use Rattle.cff.specs.declared.font.Font.{Font}
use Rattle.charset.specs.Codes.{Naming, by_number, by_string}
use Rattle.subset.specs.Codes.{code_of, glyph_by as glyph_named, string_glyph, or_else, last_named}
use Rattle.codes.specs.Filled.{stored, filled}
use Rattle.codes.specs.FilledLaws.{filled_at}

-- ---- the text of an id

-- no standard string has more than 32 bytes
short-at : (ss : List (List ℕ)) → all_below 33 (map length ss) ≡ true → (k : ℕ) → length (get_or ss k []) < 33
unfolding all_below
short-at [] e k = omega arith
short-at (s ∷ ss) e zero = ltb-true (length s) 33 (both_hold (ltb (length s) 33) (all_below 33 (map length ss)) e).0
short-at (s ∷ ss) e (suc k) = short-at ss (both_hold (ltb (length s) 33) (all_below 33 (map length ss)) e).1 k

pub standard-short : (k : ℕ) → length (standard_string k) < 33
unfolding standard_names codes standard_strings standard_string all_below
standard-short k = short-at standard_strings refl k

-- ---- by the text of an id

pub glyph_by : (p : Program) (sid : ℕ) (text : List ℕ) (r : Option ℕ) → r ≡ glyph_with_text p.strings text 0 p.ids → text ≡ string_text p.strings sid → r ≡ string_glyph p sid
glyph_by p sid text r found e = found ∙ ap (λ (t : List ℕ). glyph_with_text p.strings t 0 p.ids) e

-- ---- the glyph

found_below : (strings : List (List ℕ)) (name : List ℕ) (g : ℕ) (ids : List ℕ) (k : ℕ) → glyph_with_text strings name g ids ≡ Some k → k < g + length ids
unfolding glyph_with_text
found_below strings name g [] k e = let z : ◌≡◌ {A = ℕ} 0 1 = cc in absurd (omega arith)
found_below strings name g (x ∷ ids) k e =
    pick_ind (λ (o : Option ℕ). o ≡ Some k → k < g + length (x ∷ ids)) (same_text_lem (string_text strings x) name) (Some g) (glyph_with_text strings name (g + 1) ids)
    (λ t d. let h : g ≡ k = cc in omega arith)
    (λ t d. let h = found_below strings name (g + 1) ids k d in omega arith)
    e

-- one that is found is in the font, so storing it by its number stores it
pub string_stored : (b : List ℕ) (f : Font) → GoodFont b f → (sid g : ℕ) → Some g ≡ string_glyph (program_of b f) sid → (table : List (Option ℕ)) (code : ℕ)
    → stored table code (pick (ltb g f.charstrings.count) (Some g) None) ≡ stored table code (string_glyph (program_of b f) sid)
string_stored b f good sid g e table code =
    let p = program_of b f in
    let h = found_below p.strings (string_text p.strings sid) 0 p.ids g (sym e) in
    let n = good_length b f.charset f.charstrings.count good.ids in
    let l : ltb g f.charstrings.count ≡ true = lt-ltb g f.charstrings.count (omega arith) in
    ap (λ (t : Bool). stored table code (pick t (Some g) None)) l ∙ ap (stored table code) e

-- ---- all codes

-- the glyph that a code names in the end is below a number that is no less than those of glyphs and ids, if what was there before is
module _ (p : Program) (n : ℕ) (glyphs : length p.charstrings ≤ n) (ids : length p.ids ≤ n) where
  glyph-below : (m : Naming) (x : ℕ) → glyph_named p m ≡ Some x → x < n
  glyph-below (by_number code g) x e =
      pick_ind (λ (o : Option ℕ). o ≡ Some x → x < n) (ltb g (length p.charstrings)) (Some g) None
      (λ t d. let h : g ≡ x = cc in let l = ltb-true g (length p.charstrings) t in omega (arith, glyphs))
      (λ t d. let z : ◌≡◌ {A = ℕ} 0 1 = cc in absurd (omega arith))
      e
  glyph-below (by_string code sid) x e = let h = found_below p.strings (string_text p.strings sid) 0 p.ids x e in omega (arith, ids)

  last-below : (c : ℕ) (prev : Option ℕ) → ((x : ℕ) → prev ≡ Some x → x < n) → (ns : List Naming) (x : ℕ) → last_named p c prev ns ≡ Some x → x < n
  unfolding last_named
  last-below c prev b [] x e = b x e
  last-below c prev b (m ∷ ns) x e =
      last-below c (pick (eqb (code_of m) c) (or_else (glyph_named p m) prev) prev)
      (λ y. pick_ind (λ (o : Option ℕ). o ≡ Some y → y < n) (eqb (code_of m) c) (or_else (glyph_named p m) prev) prev (λ t. else-below (glyph_named p m) (glyph-below m) y) (λ t. b y))
      ns x e
    where
      else-below : (f : Option ℕ) → ((y : ℕ) → f ≡ Some y → y < n) → (y : ℕ) → or_else f prev ≡ Some y → y < n
      else-below None h y d = b y d
      else-below (Some g) h y d = h y d

  pub filled-below : (table : List (Option ℕ)) (ns : List Naming) → 256 ≤ length table → (c : ℕ) → c < 256 → ((x : ℕ) → get_or table c None ≡ Some x → x < n)
      → (x : ℕ) → get_or (filled p table ns) c None ≡ Some x → x < n
  filled-below table ns long c low b x e = last-below c (get_or table c None) b ns x (sym (filled_at p table ns c long low (get_or table c None) refl) ∙ e)
