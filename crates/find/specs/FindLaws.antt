-- Laws of finding: one glyph more, and a name against a string id.
use Rattle.std.specs.Prelude.{ℕ, ◌+◌, ◌-◌, ◌≤◌, ◌<◌, ◌≡◌, refl, Bool, true, false, List, [], ◌∷◌, eqb, length, drop, get_or, cond, None, Option, Some}
use Rattle.std.specs.List.{position_from}
use Rattle.std.proofs.Common.{sym, ◌∙◌, subst, add-one, arith, drop_of_length-le, drop-cons, eq-eqb, ne_eqb, eqb-true}
use Rattle.std.proofs.Math.Path.{ap}
use Rattle.std.proofs.lemmas.Bool.{eqb-false}
use Rattle.octets.specs.Pick.{pick}
use Rattle.strings.specs.Text.{same_text_lem}
use Rattle.strings.specs.TextLaws.{same_refl, same_not}
use Rattle.strings.specs.Strings.{standard_string, string_text, sid_of}
use Rattle.strings.proofs.StringsLaws.{string_standard, sid_text, sid_is, sid_other}
use Rattle.charset.specs.Listed.{numbers_of}
use Rattle.charset.specs.Charset.{ids_from}
use Rattle.charset.specs.CharsetPlaces.{ids_of, GoodCharset, charset_start, next_id, StandsId, ReadyId}
use Rattle.charset.specs.CharsetFound.{good_length, id_start, id_ready, id_step, id_next}
use Rattle.charset.specs.declared.Charset.{Charset}
use Rattle.charset.specs.declared.CharsetCursor.{CharsetCursor}
use Rattle.charset.specs.declared.IdStep.{IdStep}
use Rattle.find.specs.Find.{glyph_with_id, glyph_with_text, has_id}

-- ---- one glyph more

module _ (ids : List ℕ) (g : ℕ) (h : g < length ids) where
  split : drop g ids ≡ get_or ids g 0 ∷ drop (g + 1) ids
  split = drop-cons ids g 0 h ∙ ap (λ (k : ℕ). get_or ids g 0 ∷ drop k ids) (sym (add-one g))

  pub id_here : (id : ℕ) → get_or ids g 0 ≡ id → glyph_with_id id g (drop g ids) ≡ Some g
  unfolding glyph_with_id
  id_here id e = ap (glyph_with_id id g) split ∙ rw (eq-eqb (get_or ids g 0) id e)

  pub id_later : (id : ℕ) → (get_or ids g 0 ≡ id → ⊥) → glyph_with_id id g (drop g ids) ≡ glyph_with_id id (g + 1) (drop (g + 1) ids)
  unfolding glyph_with_id
  id_later id e = ap (glyph_with_id id g) split ∙ rw (ne_eqb (get_or ids g 0) id e)

pub id_nowhere : (id g : ℕ) (ids : List ℕ) → length ids ≤ g → glyph_with_id id g (drop g ids) ≡ None
unfolding glyph_with_id
id_nowhere id g ids h = ap (glyph_with_id id g) (drop_of_length-le ids h)

-- ---- the first place that passes

chosen : (t : Bool) (a b c : Option ℕ) → b ≡ c → pick t a b ≡ cond t a c
chosen true a b c e = refl
chosen false a b c e = e

pub id_place : (id g : ℕ) (ids : List ℕ) → glyph_with_id id g ids ≡ position_from (λ x. eqb x id) g ids
unfolding glyph_with_id
id_place id g [] = refl
id_place id g (x ∷ ids) = chosen (eqb x id) (Some g) _ _ (id_place id (g + 1) ids)

pub text_place : (strings : List (List ℕ)) (name : List ℕ) (g : ℕ) (ids : List ℕ)
    → glyph_with_text strings name g ids ≡ position_from (λ x. same_text_lem (string_text strings x) name) g ids
unfolding glyph_with_text
text_place strings name g [] = refl
text_place strings name g (x ∷ ids) = chosen (same_text_lem (string_text strings x) name) (Some g) _ _ (text_place strings name (g + 1) ids)

-- ---- a name against a string id

-- a standard string is the name exactly where it has the name's id
same_id : (id k : ℕ) (name : List ℕ) → id < 391 → sid_of name ≡ Some k → (t : Bool) → eqb k id ≡ t → t ≡ same_text_lem (standard_string id) name
same_id id k name h s true e =
    let f : k ≡ id = eqb-true k id e in
    sym (ap (λ (x : List ℕ). same_text_lem (standard_string id) x) (sym (sid_text name k s) ∙ ap standard_string f) ∙ same_refl (standard_string id))
same_id id k name h s false e =
    sym (same_not (standard_string id) name (λ f. eqb-false k id e (let g : Some k ≡ Some id = sym s ∙ sid_is name id h f in cc)))

has-id : (id : ℕ) (name : List ℕ) (sid : Option ℕ) → id < 391 → sid ≡ sid_of name → has_id id sid ≡ same_text_lem (standard_string id) name
has-id id name (Some k) h s = same_id id k name h (sym s) (eqb k id) refl
has-id id name None h s = sym (same_not (standard_string id) name (sid_other name (sym s) id h))

pub named-standard : (strings : List (List ℕ)) (id : ℕ) (name : List ℕ) (sid : Option ℕ) → id < 391 → sid ≡ sid_of name → (r : Bool) → r ≡ has_id id sid
    → r ≡ same_text_lem (string_text strings id) name
named-standard strings id name sid h s r e = e ∙ has-id id name sid h s ∙ ap (λ (x : List ℕ). same_text_lem x name) (sym (string_standard strings id h))

-- ---- a pass over the glyphs

-- the ids of n glyphs from a cursor on
abbrev pub ids_ahead : List ℕ → CharsetCursor → ℕ → List ℕ
ids_ahead b u n = numbers_of (ids_from u.width n u.id u.left (drop u.at b))

pub ids-ahead : (b : List ℕ) (c : Charset) (n : ℕ) (u : CharsetCursor) → u ≡ charset_start c → ids_ahead b u n ≡ ids_of b c n
unfolding ids_of
ids-ahead b c n u e = ap (λ (x : CharsetCursor). ids_ahead b x n) e

-- before glyph g of the n that stand before the cursor u₀
pub record Passing (b : List ℕ) (u₀ : CharsetCursor) (n : ℕ) (u : CharsetCursor) (g : ℕ) : Type 0 where
  pub within : g ≤ n
  pub all : length (ids_ahead b u₀ n) ≡ n
  pub stands : StandsId b u (drop g (ids_ahead b u₀ n))

pub passing-start : (b : List ℕ) (c : Charset) (n : ℕ) (u : CharsetCursor) → GoodCharset b c n → u ≡ charset_start c → Passing b u n u 0
passing-start b c n u g e =
    let i = ids-ahead b c n u e in
    record {
      within = omega arith;
      all = ap length i ∙ good_length b c n g;
      stands = subst (λ (x : CharsetCursor). StandsId b x (ids_ahead b u n)) (sym e) (subst (StandsId b (charset_start c)) (sym i) (id_start b c n g));
    }

module _ (b : List ℕ) (u₀ : CharsetCursor) (n : ℕ) (u : CharsetCursor) (g : ℕ) (p : Passing b u₀ n u g) (h : g < n) where
  pub passing-inside : g < length (ids_ahead b u₀ n)
  passing-inside = omega (arith, p.all)

  pub passing_ready : ReadyId b u
  passing_ready = id_ready b u (ids_ahead b u₀ n) g passing-inside p.stands

  -- the step's answer
  module _ (s : IdStep) (e : s ≡ next_id b u) where
    pub passing_id : s.id ≡ get_or (ids_ahead b u₀ n) g 0
    passing_id = ap (λ (x : IdStep). x.id) e ∙ id_step b u (ids_ahead b u₀ n) g passing-inside p.stands

    pub passing-next : Passing b u₀ n s.next (g + 1)
    passing-next =
        record {
          within = omega arith;
          all = p.all;
          stands = subst (λ (x : IdStep). StandsId b x.next (drop (g + 1) (ids_ahead b u₀ n))) (sym e) (id_next b u (ids_ahead b u₀ n) g passing-inside p.stands);
        }
