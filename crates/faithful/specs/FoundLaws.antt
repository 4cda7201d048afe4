-- Finding in a subset (document 01, 'Entries and their refusals', refusal 7): where finding gives each kept glyph of the font for its own name or
-- CID, kept names and CIDs differ, and finding in the subset gives the glyph at the place where it was written; and a text whose glyph is not kept is
-- absent there.
use Rattle.std.specs.Prelude.{ℕ, zero, suc, ◌+◌, ◌<◌, ◌≡◌, refl, Bool, true, false, List, [], ◌∷◌, ◌++◌, length, get_or, None, Option, Some}
use Rattle.std.proofs.Common.{sym, ap, ◌∙◌, ⊎_elim, le_of_suc-le-suc, not-suc-le-zero, add-zero, arith, eqb-true, eq-eqb, ne_eqb}
use Rattle.octets.specs.Pick.{pick, pick_ind}
use Rattle.prune.specs.StepLaws.{zero_one}
use Rattle.strings.specs.Text.{same_text_lem}
use Rattle.strings.specs.TextLaws.{same_refl, same_true, same_not}
use Rattle.strings.specs.Strings.{string_text}
use Rattle.find.specs.Find.{glyph_with_id, glyph_with_text}
use Rattle.dict.specs.Lookup.{cid_keyed}
use Rattle.cff.specs.Font.{Program}
use Rattle.cff.specs.Find.{find_name, find_cid}
use Rattle.subset.specs.Kept.{is_in, kept_of, sorted_by}
use Rattle.subset.specs.Texts.{new_id, texts_of, name_of, names_of}
use Rattle.subset.specs.Subset.{named, own_by_name, new_ids, cids_of}
use Rattle.subset.specs.Cut.{is_glyph, is_found, all_found_lem}
use Rattle.subset.specs.KeptListLaws.{in_none, in_head, in_more, in_cases, in_at, in_place, Distinct, one, sorted_in, sorted-distinct}
use Rattle.faithful.specs.KeptLaws.{kept-distinct}
use Rattle.subset.proofs.TextsLaws.{has_right, new-text, names-has, ids-length, names-length}

-- ---- refusal 7 passed

-- what finding gives where it is glyph g
is-glyph : (g : ℕ) (r : Option ℕ) → is_glyph g r ≡ true → r ≡ Some g
is-glyph g None e = absurd (zero_one cc)
is-glyph g (Some h) e = ap Some (eqb-true h g e)

-- each kept glyph passes the test
all_found : (p : Program) (kept : List ℕ) (g : ℕ) → all_found_lem p kept ≡ true → is_in g kept ≡ true → is_found p g ≡ true
unfolding all_found_lem
all_found p [] g a h = absurd (in_none g h)
all_found p (x ∷ kept) g a h =
    pick_ind (λ t. t ≡ true → is_found p g ≡ true) (is_found p x) (all_found_lem p kept) false
    (λ t e. ⊎_elim (λ s. ap (is_found p) (sym s) ∙ t) (λ s. all_found p kept g e s) (in_cases x g kept h))
    (λ t e. absurd (zero_one cc))
    a

module _ (p : Program) (kept : List ℕ) (all : all_found_lem p kept ≡ true) where
  -- finding its own name in the font gives a kept glyph
  name-found : cid_keyed p.top ≡ false → (g : ℕ) → is_in g kept ≡ true → find_name p (name_of p g) ≡ Some g
  name-found k g h =
      is-glyph g (find_name p (name_of p g))
      (ap (λ t. pick t (is_glyph g (find_cid p (get_or p.ids g 0))) (is_glyph g (find_name p (name_of p g)))) (sym k) ∙ all_found p kept g all h)

  -- finding its own CID gives it
  cid-found : cid_keyed p.top ≡ true → (g : ℕ) → is_in g kept ≡ true → find_cid p (get_or p.ids g 0) ≡ Some g
  cid-found k g h =
      is-glyph g (find_cid p (get_or p.ids g 0))
      (ap (λ t. pick t (is_glyph g (find_cid p (get_or p.ids g 0))) (is_glyph g (find_name p (name_of p g)))) (sym k) ∙ all_found p kept g all h)

  -- kept glyphs of one name are one glyph
  pub names-differ : cid_keyed p.top ≡ false → (g h : ℕ) → is_in g kept ≡ true → is_in h kept ≡ true → name_of p g ≡ name_of p h → g ≡ h
  names-differ k g h a b e =
      let s : Some g ≡ Some h = sym (name-found k g a) ∙ ap (find_name p) e ∙ name-found k h b in cc

  -- kept glyphs of one CID are one glyph
  pub cids-differ : cid_keyed p.top ≡ true → (g h : ℕ) → is_in g kept ≡ true → is_in h kept ≡ true → get_or p.ids g 0 ≡ get_or p.ids h 0 → g ≡ h
  cids-differ k g h a b e =
      let s : Some g ≡ Some h = sym (cid-found k g a) ∙ ap (find_cid p) e ∙ cid-found k h b in cc

-- ---- the first glyph of a distinct list that has an id or a name

-- a glyph behind the first of a distinct list is another one
other : (x : ℕ) (xs : List ℕ) (i : ℕ) → (is_in x xs ≡ true → ⊥) → i < length xs → x ≡ get_or xs i 0 → ⊥
other x xs i f h e = f (ap (λ (k : ℕ). is_in k xs) e ∙ in_at xs i h)

-- by CID, where different glyphs of the order have different CIDs
with_id : (p : Program) (order : List ℕ) (k i : ℕ) → Distinct order
    → ((g h : ℕ) → is_in g order ≡ true → is_in h order ≡ true → get_or p.ids g 0 ≡ get_or p.ids h 0 → g ≡ h) → i < length order
    → glyph_with_id (get_or p.ids (get_or order i 0) 0) k (cids_of p order) ≡ Some (k + i)
unfolding glyph_with_id cids_of
with_id p [] k i d f h = absurd (not-suc-le-zero h)
with_id p (x ∷ xs) k zero d f h = simp (eq-eqb (get_or p.ids x 0) (get_or p.ids x 0) refl, add-zero)
with_id p (x ∷ xs) k (suc i) (one n d) f h =
    let y = get_or xs i 0 in
    let b : is_in y xs ≡ true = in_at xs i (le_of_suc-le-suc h) in
    let m : get_or p.ids x 0 ≡ get_or p.ids y 0 → ⊥ =
    λ e. other x xs i n (le_of_suc-le-suc h) (f x y (in_head x x xs refl) (in_more x y xs b) e) in
    let z : k + 1 + i ≡ k + suc i = omega arith in
    simp (ne_eqb (get_or p.ids x 0) (get_or p.ids y 0) m)
    (with_id p xs (k + 1) i d (λ g h a c e. f g h (in_more x g xs a) (in_more x h xs c) e) (le_of_suc-le-suc h) ∙ ap Some z)

-- by name, where they have different names, and their new ids name them
with-text : (p : Program) (own : List (List ℕ)) (order : List ℕ) (k i : ℕ) → Distinct order
    → ((g h : ℕ) → is_in g order ≡ true → is_in h order ≡ true → name_of p g ≡ name_of p h → g ≡ h)
    → ((g : ℕ) → is_in g order ≡ true → string_text own (new_id own (name_of p g)) ≡ name_of p g) → i < length order
    → glyph_with_text own (name_of p (get_or order i 0)) k (new_ids own (names_of p order)) ≡ Some (k + i)
unfolding glyph_with_text new_ids names_of
with-text p own [] k i d f t h = absurd (not-suc-le-zero h)
with-text p own (x ∷ xs) k zero d f t h =
    rw (t x (in_head x x xs refl)) (simp (same_refl (name_of p x), add-zero))
with-text p own (x ∷ xs) k (suc i) (one n d) f t h =
    let y = get_or xs i 0 in
    let b : is_in y xs ≡ true = in_at xs i (le_of_suc-le-suc h) in
    let m : name_of p x ≡ name_of p y → ⊥ = λ e. other x xs i n (le_of_suc-le-suc h) (f x y (in_head x x xs refl) (in_more x y xs b) e) in
    let z : k + 1 + i ≡ k + suc i = omega arith in
    rw (t x (in_head x x xs refl)) (simp (same_not (name_of p x) (name_of p y) m)
    (with-text p own xs (k + 1) i d (λ g h a c e. f g h (in_more x g xs a) (in_more x h xs c) e) (λ g a. t g (in_more x g xs a)) (le_of_suc-le-suc h)
    ∙ ap Some z))

-- ---- any text

-- a glyph that is found has the text
text_at : (strings : List (List ℕ)) (t : List ℕ) (k : ℕ) (ids : List ℕ) (g : ℕ) → glyph_with_text strings t k ids ≡ Some g
    → (i : ℕ) × (k + i ≡ g) × (i < length ids) × (string_text strings (get_or ids i 0) ≡ t)
unfolding glyph_with_text
text_at strings t k [] g e = absurd (zero_one cc)
text_at strings t k (x ∷ ids) g e =
    pick_ind (λ (f : Option ℕ). f ≡ Some g → (i : ℕ) × (k + i ≡ g) × (i < length (x ∷ ids)) × (string_text strings (get_or (x ∷ ids) i 0) ≡ t))
    (same_text_lem (string_text strings x) t) (Some k) (glyph_with_text strings t (k + 1) ids)
    (λ s h. let z : k ≡ g = cc in (0, omega arith, omega arith, same_true (string_text strings x) t s))
    (λ s h. let r = text_at strings t (k + 1) ids g h in (suc r.0, omega (arith, r.1), omega (arith, r.2), r.3))
    e

-- the new id at a place
new_id_at : (p : Program) (own : List (List ℕ)) (order : List ℕ) (i : ℕ) → i < length order
    → get_or (new_ids own (names_of p order)) i 0 ≡ new_id own (name_of p (get_or order i 0))
unfolding new_ids names_of
new_id_at p own [] i h = absurd (not-suc-le-zero h)
new_id_at p own (x ∷ xs) zero h = refl
new_id_at p own (x ∷ xs) (suc i) h = new_id_at p own xs i (le_of_suc-le-suc h)

module _ (p : Program) (n : ℕ) (keep : List ℕ) (keyed : cid_keyed p.top ≡ false) (all : all_found_lem p (kept_of n keep) ≡ true) where
  abbrev kept : List ℕ
  kept = kept_of n keep

  abbrev own : List (List ℕ)
  own = own_by_name p kept

  abbrev ids : List ℕ
  ids = new_ids own (names_of p kept)

  -- the new id of a kept glyph names it
  pub new-names : (g : ℕ) → is_in g kept ≡ true → string_text own (new_id own (name_of p g)) ≡ name_of p g
  new-names g a = new-text (texts_of (named p) ++ names_of p kept) (name_of p g) (has_right (name_of p g) (texts_of (named p)) (names_of p kept) (names-has p kept g a))

  -- so that the i-th glyph of the subset has the name of the i-th kept one
  pub new-name-at : (i : ℕ) → i < length kept → string_text own (get_or ids i 0) ≡ name_of p (get_or kept i 0)
  new-name-at i h = ap (string_text own) (new_id_at p own kept i h) ∙ new-names (get_or kept i 0) (in_at kept i h)

  -- finding its own name in the font gives a kept glyph
  pub text-found : (g : ℕ) → is_in g kept ≡ true → glyph_with_text p.strings (name_of p g) 0 p.ids ≡ Some g
  text-found g h = ap (λ (t : Bool). pick t None (glyph_with_text p.strings (name_of p g) 0 p.ids)) (sym keyed) ∙ name-found p kept all keyed g h

  -- the name of the i-th kept glyph gives glyph i in the subset
  pub found_name : (i : ℕ) → i < length kept → glyph_with_text own (name_of p (get_or kept i 0)) 0 ids ≡ Some i
  found_name i h =
      let z : 0 + i ≡ i = omega arith in
      with-text p own kept 0 i (kept-distinct n keep) (names-differ p kept all keyed) new-names h ∙ ap Some z

  -- a text whose glyph is kept is found in the subset
  pub kept_there : (t : List ℕ) (g : ℕ) → glyph_with_text p.strings t 0 p.ids ≡ Some g → is_in g kept ≡ true
      → (i : ℕ) × (glyph_with_text own t 0 ids ≡ Some i)
  kept_there t g e h =
      let r = text_at p.strings t 0 p.ids g e in
      let at = in_place kept g h in
      let z : r.0 ≡ get_or kept at.0 0 = omega (arith, r.1, at.2) in
      let name : name_of p (get_or kept at.0 0) ≡ t = ap (name_of p) (sym z) ∙ r.3 in
      (at.0, ap (λ (x : List ℕ). glyph_with_text own x 0 ids) (sym name) ∙ found_name at.0 at.1)

  -- and a text that is found there has a kept glyph, whose name is the new one's: a text whose glyph is not kept is no kept glyph's name
  pub there_kept : (t : List ℕ) (i : ℕ) → glyph_with_text own t 0 ids ≡ Some i
      → (i < length kept) × (glyph_with_text p.strings t 0 p.ids ≡ Some (get_or kept i 0))
  there_kept t i e =
      let r = text_at own t 0 ids i e in
      let z : r.0 ≡ i = omega (arith, r.1) in
      let count : length ids ≡ length kept = ids-length own (names_of p kept) ∙ names-length p kept in
      let l : i < length kept = omega (arith, r.2) in
      let name : name_of p (get_or kept i 0) ≡ t = sym (new-name-at i l) ∙ ap (λ (j : ℕ). string_text own (get_or ids j 0)) (sym z) ∙ r.3 in
      (l, ap (λ (x : List ℕ). glyph_with_text p.strings x 0 p.ids) (sym name) ∙ text-found (get_or kept i 0) (in_at kept i l))

-- the CID of the i-th glyph that is written gives glyph i
pub found_cid : (p : Program) (n : ℕ) (keep : List ℕ) → cid_keyed p.top ≡ true → all_found_lem p (kept_of n keep) ≡ true
    → (i : ℕ) → i < length (sorted_by (λ g. get_or p.ids g 0) (kept_of n keep))
    → glyph_with_id (get_or p.ids (get_or (sorted_by (λ g. get_or p.ids g 0) (kept_of n keep)) i 0) 0) 0
    (cids_of p (sorted_by (λ g. get_or p.ids g 0) (kept_of n keep))) ≡ Some i
found_cid p n keep k all i h =
    let kept = kept_of n keep in
    let key : ℕ → ℕ = λ g. get_or p.ids g 0 in
    let z : 0 + i ≡ i = omega arith in
    with_id p (sorted_by key kept) 0 i (sorted-distinct key kept (kept-distinct n keep))
    (λ g h a b e. cids-differ p kept all k g h (sym (sorted_in key kept g) ∙ a) (sym (sorted_in key kept h) ∙ b) e) h ∙ ap Some z
