-- Laws of string ids: which text an id names, and that the id of a text is the one standard id that names it, or none does.
use Rattle.std.specs.Prelude.{ℕ, zero, suc, ◌+◌, ◌-◌, ◌≤◌, ◌<◌, ◌≡◌, refl, List, [], ◌∷◌, length, get_or, None, Option, Some}
use Rattle.std.proofs.Common.{ap, ◌∙◌, le_of_suc-le-suc, not-suc-le-zero, arith, lt-ltb, le-ltb}
use Rattle.std.proofs.Math.ListN.{get_or-eq_default}
use Rattle.octets.specs.Pick.{pick_ind}
use Rattle.strings.specs.Text.{same_text_lem}
use Rattle.strings.specs.TextLaws.{same_true, same_false}
use Rattle.strings.specs.Strings.{standard_strings, standard_string, string_text, sid_in, sid_of}
use Rattle.strings.proofs.TableLaws.{strings-length}
use Rattle.strings.proofs.NamesLaws.{names-differ}

-- ---- the text of an id

module _ (own : List (List ℕ)) (sid : ℕ) where
  pub string_standard : sid < 391 → string_text own sid ≡ standard_string sid
  unfolding string_text
  string_standard h = simp (lt-ltb sid 391 h)

  pub string_own : 391 ≤ sid → string_text own sid ≡ get_or own (sid - 391) []
  unfolding string_text
  string_own h = simp (le-ltb sid 391 h)

  -- above the font's strings
  pub string_none : 391 + length own ≤ sid → string_text own sid ≡ []
  string_none h = string_own (omega arith) ∙ get_or-eq_default own [] (omega arith)

-- ---- the id of a text

-- a text that is found stands at its place
record Found (k : ℕ) (ss : List (List ℕ)) (text : List ℕ) (j : ℕ) : Type 0 where
  place : ℕ
  counted : j ≡ k + place
  within : place < length ss
  is : get_or ss place [] ≡ text

sid_found : (k : ℕ) (ss : List (List ℕ)) (text : List ℕ) (j : ℕ) → sid_in k ss text ≡ Some j → Found k ss text j
unfolding sid_in
sid_found k [] text j e = let z : ◌≡◌ {A = ℕ} 0 1 = cc in absurd (omega arith)
sid_found k (s ∷ ss) text j e =
    pick_ind (λ o. o ≡ Some j → Found k (s ∷ ss) text j) (same_text_lem s text) (Some k) (sid_in (suc k) ss text)
    (λ t d. let h : k ≡ j = cc in record { place = 0; counted = omega arith; within = omega arith; is = same_true s text t })
    (λ t d. let f = sid_found (suc k) ss text j d in
    record { place = suc f.place; counted = omega arith; within = omega arith; is = f.is })
    e

sid_missed : (k : ℕ) (ss : List (List ℕ)) (text : List ℕ) → sid_in k ss text ≡ None → (i : ℕ) → i < length ss → get_or ss i [] ≡ text → ⊥
unfolding sid_in
sid_missed k [] text e i h = absurd (not-suc-le-zero h)
sid_missed k (s ∷ ss) text e zero h =
    pick_ind (λ o. o ≡ None → s ≡ text → ⊥) (same_text_lem s text) (Some k) (sid_in (suc k) ss text)
    (λ t d f. let z : ◌≡◌ {A = ℕ} 0 1 = cc in omega arith)
    (λ t d f. same_false s text t f)
    e
sid_missed k (s ∷ ss) text e (suc i) h =
    pick_ind (λ o. o ≡ None → get_or ss i [] ≡ text → ⊥) (same_text_lem s text) (Some k) (sid_in (suc k) ss text)
    (λ t d f. let z : ◌≡◌ {A = ℕ} 0 1 = cc in omega arith)
    (λ t d f. sid_missed (suc k) ss text d i (le_of_suc-le-suc h) f)
    e

pub sid_text : (text : List ℕ) (k : ℕ) → sid_of text ≡ Some k → standard_string k ≡ text
unfolding sid_of standard_string
sid_text text k e =
    let f = sid_found 0 standard_strings text k e in
    let g : k ≡ f.place = omega (arith, f.counted) in rw g f.is

pub sid_below : (text : List ℕ) (k : ℕ) → sid_of text ≡ Some k → k < 391
unfolding sid_of
sid_below text k e = let f = sid_found 0 standard_strings text k e in omega (arith, strings-length)

pub sid_other : (text : List ℕ) → sid_of text ≡ None → (k : ℕ) → k < 391 → standard_string k ≡ text → ⊥
unfolding sid_of standard_string
sid_other text e k h = sid_missed 0 standard_strings text e k (rw strings-length h)

-- by cases on the answer
found_as : (k : ℕ) → k < 391 → (o : Option ℕ) → sid_of (standard_string k) ≡ o → o ≡ Some k
found_as k h (Some j) e = ap Some (names-differ j k (sid_below _ j e) h (sid_text _ j e))
found_as k h None e = absurd (sid_other _ e k h refl)

none_as : (text : List ℕ) → ((k : ℕ) → k < 391 → standard_string k ≡ text → ⊥) → (o : Option ℕ) → sid_of text ≡ o → o ≡ None
none_as text f (Some k) e = absurd (f k (sid_below text k e) (sid_text text k e))
none_as text f None e = refl

pub sid_standard : (k : ℕ) → k < 391 → sid_of (standard_string k) ≡ Some k
sid_standard k h = found_as k h (sid_of (standard_string k)) refl

pub sid_is : (text : List ℕ) (k : ℕ) → k < 391 → standard_string k ≡ text → sid_of text ≡ Some k
sid_is text k h e = rw e at (sid_standard k h)

pub sid_none : (text : List ℕ) → ((k : ℕ) → k < 391 → standard_string k ≡ text → ⊥) → sid_of text ≡ None
sid_none text f = none_as text f (sid_of text) refl
