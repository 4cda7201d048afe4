-- Laws of slots that are used one after the other: what the use of one adds to the own strings, that its new id is the next one exactly
-- where it adds a string, and that the code gives it that id.
use Rattle.std.specs.Prelude.{ℕ, ◌+◌, ◌<◌, ◌≤◌, ◌≡◌, Bool, cond, drop, get_or, is_some, None, Option, Some}
use Rattle.std.proofs.Math.Path.{refl, ap}
use Rattle.std.proofs.Common.{sym, ◌∙◌, add-zero, add-one, arith}
use Rattle.std.proofs.Math.Bool.{true, false}
use mathlib.Core.List.{List, [], ◌∷◌, ◌++◌, append_assoc}
use borrow.Author.Tests.{ltb-true, ltb-false, le-ltb, eq-eqb, ne_eqb}
use Rattle.std.proofs.Math.Dec.{ltb, eqb}
use Rattle.std.proofs.Math.ListN.{length, take, length-append}
use Rattle.std.proofs.Math.Seq.{split_at, take-suc}
use Rattle.std.proofs.lemmas.List.{get_or_at}
use Rattle.std.specs.List.{position_from}
use Rattle.std.proofs.lemmas.Iterator.Adapters.{position_from-zero}
use Rattle.std.proofs.lemmas.List.Quantifiers.{position-Some}
use Rattle.octets.specs.Pick.{pick, pick_ind}
use Rattle.prune.specs.StepLaws.{zero_one}
use Rattle.index.specs.Write.{total}
use Rattle.index.specs.WriteLaws.{total-append}
use Rattle.strings.specs.Text.{same_text_lem}
use Rattle.strings.specs.TextLaws.{same_true}
use Rattle.strings.specs.Strings.{string_text, sid_of}
use Rattle.strings.proofs.StringsLaws.{string_standard, sid_standard, sid_below}
use Rattle.subset.specs.Texts.{has_text, with_text, own_strings_lem, place_in, new_id}
use Rattle.own_strings.specs.declared.Own.{Own}
use Rattle.own_strings.specs.Slots.{slot_texts, slot_id, own_of, slot_has, slot_with, given_or, given_id, counted}
use Rattle.own_strings.specs.OwnLaws.{own_grown, own-append, place-left, place-below, place-new, new-standard, new_other}

-- ---- slots one after the other

module _ (strings : List (List ℕ)) where
  -- the own strings once a slot was used
  unfoldable pub used : List (List ℕ) → Option ℕ → List (List ℕ)
  used own None = own
  used own (Some x) = with_text (sid_of (string_text strings x)) (string_text strings x) own

  pub texts-append : (xs ys : List (Option ℕ)) → slot_texts strings (xs ++ ys) ≡ slot_texts strings xs ++ slot_texts strings ys
  unfolding slot_texts
  texts-append [] ys = refl
  texts-append (None ∷ xs) ys = texts-append xs ys
  texts-append (Some x ∷ xs) ys = ap (λ (l : List (List ℕ)). string_text strings x ∷ l) (texts-append xs ys)

  -- the first of some slots, and then the others
  pub used-first : (own : List (List ℕ)) (o : Option ℕ) (xs : List (Option ℕ)) → own_strings_lem own (slot_texts strings (o ∷ xs)) ≡ own_strings_lem (used own o) (slot_texts strings xs)
  unfolding slot_texts own_strings_lem used
  used-first own None xs = refl
  used-first own (Some x) xs = refl

  -- one slot of some, own being there before them
  module _ (own : List (List ℕ)) (xs : List (Option ℕ)) (j : ℕ) (h : j < length xs) where
    pub stage-more : own_strings_lem own (slot_texts strings (take (j + 1) xs)) ≡ used (own_strings_lem own (slot_texts strings (take j xs))) (get_or xs j None)
    unfolding slot_texts own_strings_lem
    stage-more =
        let e : take (j + 1) xs ≡ take j xs ++ (get_or xs j None ∷ []) = rw (add-one, take-suc xs j None) in
        ap (λ (l : List (Option ℕ)). own_strings_lem own (slot_texts strings l)) e ∙ ap (own_strings_lem own) (texts-append (take j xs) (get_or xs j None ∷ []))
        ∙ own-append own (slot_texts strings (take j xs)) (slot_texts strings (get_or xs j None ∷ []))
        ∙ used-first (own_strings_lem own (slot_texts strings (take j xs))) (get_or xs j None) []

    pub stage-rest : own_strings_lem own (slot_texts strings xs)
        ≡ own_strings_lem (used (own_strings_lem own (slot_texts strings (take j xs))) (get_or xs j None)) (slot_texts strings (drop (j + 1) xs))
    stage-rest =
        let e : xs ≡ take j xs ++ (get_or xs j None ∷ drop (j + 1) xs) = split_at xs j None h ∙ ap (λ (k : ℕ). take j xs ++ (get_or xs j None ∷ drop k xs)) (sym (add-one j)) in
        ap (λ (l : List (Option ℕ)). own_strings_lem own (slot_texts strings l)) e ∙ ap (own_strings_lem own) (texts-append (take j xs) (get_or xs j None ∷ drop (j + 1) xs))
        ∙ own-append own (slot_texts strings (take j xs)) (slot_texts strings (get_or xs j None ∷ drop (j + 1) xs))
        ∙ used-first (own_strings_lem own (slot_texts strings (take j xs))) (get_or xs j None) (drop (j + 1) xs)

-- ---- the use of one string id

-- its text is standard, is there, or is new
pub data Using (strings own : List (List ℕ)) (x : ℕ) : Type 0 where
  standard : (k : ℕ) → sid_of (string_text strings x) ≡ Some k → Using strings own x
  there : sid_of (string_text strings x) ≡ None → has_text (string_text strings x) own ≡ true → Using strings own x
  new : sid_of (string_text strings x) ≡ None → has_text (string_text strings x) own ≡ false → Using strings own x

module _ (strings own : List (List ℕ)) (x : ℕ) where
  by-text : sid_of (string_text strings x) ≡ None → (h : Bool) → has_text (string_text strings x) own ≡ h → Using strings own x
  by-text o true e = there o e
  by-text o false e = new o e

  by_id : (s : Option ℕ) → sid_of (string_text strings x) ≡ s → Using strings own x
  by_id (Some k) e = standard k e
  by_id None e = by-text e (has_text (string_text strings x) own) refl

  pub use-cases : Using strings own x
  use-cases = by_id (sid_of (string_text strings x)) refl

  -- a string id whose text is not standard
  pub other_high : sid_of (string_text strings x) ≡ None → 391 ≤ x
  other_high o = high (ltb x 391) refl
    where
      high : (b : Bool) → ltb x 391 ≡ b → 391 ≤ x
      high true e =
          let h : x < 391 = ltb-true x 391 e in
          let f : sid_of (string_text strings x) ≡ Some x = ap sid_of (string_standard strings x h) ∙ sid_standard x h in
          absurd (zero_one cc)
      high false e = ltb-false x 391 e

  -- what the use adds
  pub used-standard : (k : ℕ) → sid_of (string_text strings x) ≡ Some k → used strings own (Some x) ≡ own
  unfolding used
  used-standard k e = rw e refl

  pub used_there : sid_of (string_text strings x) ≡ None → has_text (string_text strings x) own ≡ true → used strings own (Some x) ≡ own
  unfolding used
  used_there o h = rw (o, h)

  pub used-new : sid_of (string_text strings x) ≡ None → has_text (string_text strings x) own ≡ false → used strings own (Some x) ≡ own ++ (string_text strings x ∷ [])
  unfolding used
  used-new o h = rw (o, h)

  -- the new id of a slot that has a string
  pub slot-full : slot_id own strings (Some x) ≡ new_id own (string_text strings x)
  unfolding slot_id
  slot-full = refl

-- of one that has none
pub slot-empty : (strings own : List (List ℕ)) → slot_id own strings None ≡ 0
unfolding slot_id
slot-empty strings own = refl

pub used-empty : (strings own : List (List ℕ)) → used strings own None ≡ own
unfolding used
used-empty strings own = refl

-- ---- the next id

-- the use of a slot adds its text, which is the next own string
pub record Next (strings own : List (List ℕ)) (x : ℕ) (all : List (List ℕ)) : Type 0 where
  pub id : slot_id all strings (Some x) ≡ 391 + length own
  pub high : 391 ≤ x
  pub more : used strings own (Some x) ≡ own ++ (string_text strings x ∷ [])
  pub within : length own < length all
  pub is : get_or all (length own) [] ≡ string_text strings x

-- or adds none
pub record Stays (strings own : List (List ℕ)) (x : ℕ) (all : List (List ℕ)) : Type 0 where
  pub id : slot_id all strings (Some x) < 391 + length own
  pub same : used strings own (Some x) ≡ own

pub data Step (strings own : List (List ℕ)) (x : ℕ) (all : List (List ℕ)) : Type 0 where
  next : Next strings own x all → Step strings own x all
  stays : Stays strings own x all → Step strings own x all

-- a text that is there when all are used
there_below : (strings own ts : List (List ℕ)) (x : ℕ) → sid_of (string_text strings x) ≡ None → has_text (string_text strings x) own ≡ true
    → slot_id (own_strings_lem own ts) strings (Some x) < 391 + length own
there_below strings own ts x o h =
    let t = string_text strings x in
    let g = own_grown own ts in
    let e : slot_id (own_strings_lem own ts) strings (Some x) ≡ 391 + place_in t own =
    slot-full strings (own_strings_lem own ts) x ∙ new_other (own_strings_lem own ts) t o ∙ ap (λ (l : List (List ℕ)). 391 + place_in t l) g.is ∙ ap (λ (k : ℕ). 391 + k) (place-left t own g.rest h) in
    let b = place-below t own h in
    omega arith

-- own strings to which a text was added, and then others
new-next : (strings own ts : List (List ℕ)) (x : ℕ) → sid_of (string_text strings x) ≡ None → has_text (string_text strings x) own ≡ false
    → Next strings own x (own_strings_lem (own ++ (string_text strings x ∷ [])) ts)
new-next strings own ts x o h =
    let t = string_text strings x in
    let all = own_strings_lem (own ++ (t ∷ [])) ts in
    let g = own_grown (own ++ (t ∷ [])) ts in
    let e : all ≡ own ++ (t ∷ g.rest) = g.is ∙ append_assoc own (t ∷ []) g.rest in
    let m : length all ≡ length own + length (t ∷ g.rest) = ap length e ∙ length-append own (t ∷ g.rest) in
    record {
      id = slot-full strings all x ∙ new_other all t o ∙ ap (λ (l : List (List ℕ)). 391 + place_in t l) e ∙ ap (λ (k : ℕ). 391 + k) (place-new t own g.rest h);
      high = other_high strings own x o;
      more = used-new strings own x o h;
      within = omega arith;
      is = ap (λ (l : List (List ℕ)). get_or l (length own) []) e ∙ get_or_at own t g.rest [] (length own) refl;
    }

step_by : (strings own ts : List (List ℕ)) (x : ℕ) → Using strings own x → Step strings own x (own_strings_lem (used strings own (Some x)) ts)
step_by strings own ts x (standard k e) =
    let b = sid_below (string_text strings x) k e in
    let all = own_strings_lem (used strings own (Some x)) ts in
    stays (record { id = omega (arith, slot-full strings all x, new-standard all (string_text strings x) k e); same = used-standard strings own x k e })
step_by strings own ts x (there o h) =
    let u = used_there strings own x o h in
    stays (record { id = rw u (there_below strings own ts x o h); same = u })
step_by strings own ts x (new o h) =
    let u = used-new strings own x o h in
    next (rw u (new-next strings own ts x o h))

-- the use of a string id, all being the own strings in the end
pub step : (strings own ts : List (List ℕ)) (x : ℕ) (all : List (List ℕ)) → all ≡ own_strings_lem (used strings own (Some x)) ts → Step strings own x all
step strings own ts x all e = rw e (step_by strings own ts x (use-cases strings own x))

-- ---- the code's count

module _ (strings own : List (List ℕ)) (x : ℕ) (all : List (List ℕ)) where
  counted-by : Step strings own x all → counted strings (own_of own) x (slot_id all strings (Some x)) ≡ own_of (used strings own (Some x))
  unfolding counted total
  counted-by (next n) =
      let h : ltb x 391 ≡ false = le-ltb x 391 n.high in
      let e : eqb (slot_id all strings (Some x)) (391 + length own) ≡ true = eq-eqb (slot_id all strings (Some x)) (391 + length own) n.id in
      let l : length (own ++ (string_text strings x ∷ [])) ≡ length own + 1 = length-append own (string_text strings x ∷ []) in
      let m : total (own ++ (string_text strings x ∷ [])) ≡ total own + length (string_text strings x) =
      total-append own (string_text strings x ∷ []) ∙ ap (λ (k : ℕ). total own + k) (add-zero (length (string_text strings x))) in
      rw (h, e, n.more, l, m)
  counted-by (stays s) =
      let e : eqb (slot_id all strings (Some x)) (391 + length own) ≡ false = ne_eqb (slot_id all strings (Some x)) (391 + length own) (λ d. omega (arith, s.id)) in
      let f : own_of own ≡ own_of (used strings own (Some x)) = ap own_of (sym s.same) in
      pick_ind (λ (r : Own). r ≡ own_of (used strings own (Some x))) (ltb x 391) (own_of own)
      (pick (eqb (slot_id all strings (Some x)) (391 + length own)) (record { count = length own + 1; total = total own + length (string_text strings x) }) (own_of own))
      (λ t. f)
      (λ t. rw e f)

  pub counted_is : (ts : List (List ℕ)) → all ≡ own_strings_lem (used strings own (Some x)) ts → counted strings (own_of own) x (slot_id all strings (Some x)) ≡ own_of (used strings own (Some x))
  counted_is ts e = counted-by (step strings own ts x all e)

-- ---- the code's id

-- a slot that has a text is there, and its string is the text
pub slot-text : (strings : List (List ℕ)) (t : List ℕ) (x : ℕ) → slot_has strings t (Some x) ≡ true → string_text strings x ≡ t
slot-text strings t x e = same_true (string_text strings x) t e

pub slot-there : (strings : List (List ℕ)) (t : List ℕ) (o : Option ℕ) → slot_has strings t o ≡ true → o ≡ None → ⊥
slot-there strings t None e h = absurd (zero_one cc)
slot-there strings t (Some x) e h = absurd (zero_one cc)

-- and so its new id is the text's
pub has-slot : (strings : List (List ℕ)) (t : List ℕ) (own : List (List ℕ)) (o : Option ℕ) → slot_has strings t o ≡ true → slot_id own strings o ≡ new_id own t
unfolding slot_id
has-slot strings t own None e = absurd (zero_one cc)
has-slot strings t own (Some x) e = ap (new_id own) (slot-text strings t x e)

module _ (strings : List (List ℕ)) (t : List ℕ) where
  first-or : (b h : Bool) (k : ℕ) (r : Option ℕ) → h ≡ is_some r → pick b true h ≡ is_some (cond b (Some k) r)
  first-or true h k r e = refl
  first-or false h k r e = e

  from : (k : ℕ) (xs : List (Option ℕ)) → has_text t (slot_texts strings xs) ≡ is_some (position_from (slot_has strings t) k xs)
  unfolding slot_texts has_text
  from k [] = refl
  from k (None ∷ xs) = from (k + 1) xs
  from k (Some x ∷ xs) = first-or (same_text_lem (string_text strings x) t) _ k _ (from (k + 1) xs)

  -- a text is among those of the slots where a slot has it
  pub with-text : (xs : List (Option ℕ)) → has_text t (slot_texts strings xs) ≡ is_some (slot_with strings t xs)
  with-text xs = from 0 xs ∙ ap is_some (sym (position_from-zero (slot_has strings t) xs))

-- after slots whose ids are known, own being the own strings so far
module _ (strings own : List (List ℕ)) (slots : List (Option ℕ)) (ids : List ℕ) (x : ℕ) (ts all : List (List ℕ)) (grows : all ≡ own_strings_lem (used strings own (Some x)) ts)
    (among : sid_of (string_text strings x) ≡ None → has_text (string_text strings x) own ≡ has_text (string_text strings x) (slot_texts strings slots))
    (known : (j : ℕ) → j < length slots → get_or ids j 0 ≡ slot_id all strings (get_or slots j None)) where
  abbrev text : List ℕ
  text = string_text strings x

  abbrev given : ℕ
  given = given_id strings slots ids (length own) (Some x)

  given_other : sid_of text ≡ None → given ≡ given_or ids (length own) (slot_with strings text slots)
  unfolding given_id
  given_other o = rw (le-ltb x 391 (other_high strings own x o), o)

  given-standard : (k : ℕ) → sid_of text ≡ Some k → (b : Bool) → ltb x 391 ≡ b → given ≡ k
  unfolding given_id
  given-standard k e true h =
      let f : sid_of text ≡ Some x = ap sid_of (string_standard strings x (ltb-true x 391 h)) ∙ sid_standard x (ltb-true x 391 h) in
      let g : x ≡ k = cc in
      rw h g
  given-standard k e false h = rw (h, e)

  given_there : sid_of text ≡ None → has_text text own ≡ true → given ≡ slot_id all strings (Some x)
  given_there o h = by (slot_with strings text slots) refl
    where
      by : (r : Option ℕ) → slot_with strings text slots ≡ r → given ≡ slot_id all strings (Some x)
      by None e =
          let z : false ≡ true = sym (ap is_some e) ∙ sym (with-text strings text slots) ∙ sym (among o) ∙ h in absurd (zero_one cc)
      by (Some j) e =
          let f = position-Some (slot_has strings text) slots j None e in
          given_other o ∙ ap (given_or ids (length own)) e ∙ known j f.0 ∙ has-slot strings text all (get_or slots j None) f.1 ∙ sym (slot-full strings all x)

  given-new : sid_of text ≡ None → has_text text own ≡ false → given ≡ slot_id all strings (Some x)
  given-new o h = by (slot_with strings text slots) refl
    where
      by : (r : Option ℕ) → slot_with strings text slots ≡ r → given ≡ slot_id all strings (Some x)
      by None e =
          let q : all ≡ own_strings_lem (own ++ (text ∷ [])) ts = rw (used-new strings own x o h) at grows in
          let i : slot_id all strings (Some x) ≡ 391 + length own = rw q (new-next strings own ts x o h).id in
          given_other o ∙ ap (given_or ids (length own)) e ∙ sym i
      by (Some j) e =
          let z : true ≡ false = sym (ap is_some e) ∙ sym (with-text strings text slots) ∙ sym (among o) ∙ h in absurd (zero_one cc)

  given_by : Using strings own x → given ≡ slot_id all strings (Some x)
  given_by (standard k e) = given-standard k e (ltb x 391) refl ∙ sym (slot-full strings all x ∙ new-standard all text k e)
  given_by (there o h) = given_there o h
  given_by (new o h) = given-new o h

  pub given_is : given ≡ slot_id all strings (Some x)
  given_is = given_by (use-cases strings own x)
