-- The strings of a subset (document 01, 'Layout'): each text that is used has an id that names it, and the id of the first glyph stays 0.
use Rattle.std.specs.Prelude.{ℕ, suc, ◌+◌, ◌-◌, ◌≡◌, refl, true, List, [], ◌∷◌, ◌++◌, length, get_or, None, Option, Some}
use Rattle.std.proofs.Common.{ap, ◌∙◌, ⊎_elim, add-one, arith}
use Rattle.octets.specs.Pick.{pick, pick_ind}
use Rattle.prune.specs.StepLaws.{zero_one}
use Rattle.strings.specs.Text.{same_text_lem}
use Rattle.strings.specs.TextLaws.{same_refl, same_true}
use Rattle.strings.specs.Strings.{string_text, sid_of}
use Rattle.strings.proofs.StringsLaws.{string_standard, string_own, sid_text, sid_below}
use Rattle.cff.specs.Font.{Program}
use Rattle.subset.specs.Kept.{is_in}
use Rattle.subset.specs.Texts.{has_text, with_text, own_strings_lem, place_in, id_after, new_id, name_of, names_of}
use Rattle.subset.specs.Subset.{new_ids}
use Rattle.subset.specs.KeptListLaws.{in_none, in_cases}

-- ---- texts among others

-- the text at the front is there
pub has-head : (x t : List ℕ) (xs : List (List ℕ)) → x ≡ t → has_text t (x ∷ xs) ≡ true
unfolding has_text
has-head x t xs e = let s : same_text_lem x t ≡ true = rw e (same_refl t) in simp s

-- one that is in the rest is there
pub has_more : (x t : List ℕ) (xs : List (List ℕ)) → has_text t xs ≡ true → has_text t (x ∷ xs) ≡ true
unfolding has_text
has_more x t xs h = pick_ind (λ s. s ≡ true) (same_text_lem x t) true (has_text t xs) (λ s. refl) (λ s. h)

-- one that is in the first of two lists is in both together
pub has_left : (t : List ℕ) (xs ys : List (List ℕ)) → has_text t xs ≡ true → has_text t (xs ++ ys) ≡ true
unfolding has_text
has_left t [] ys h = absurd (zero_one cc)
has_left t (x ∷ xs) ys h =
    pick_ind (λ s. s ≡ true → has_text t (x ∷ (xs ++ ys)) ≡ true) (same_text_lem x t) true (has_text t xs)
    (λ s e. has-head x t (xs ++ ys) (same_true x t s))
    (λ s e. has_more x t (xs ++ ys) (has_left t xs ys e))
    h

-- and so is one that is in the second
pub has_right : (t : List ℕ) (xs ys : List (List ℕ)) → has_text t ys ≡ true → has_text t (xs ++ ys) ≡ true
has_right t [] ys h = h
has_right t (x ∷ xs) ys h = has_more x t (xs ++ ys) (has_right t xs ys h)

-- a text that is there stands at its place
pub place_is : (t : List ℕ) (own : List (List ℕ)) → has_text t own ≡ true → get_or own (place_in t own) [] ≡ t
unfolding has_text place_in
place_is t [] h = absurd (zero_one cc)
place_is t (x ∷ xs) h =
    pick_ind (λ (k : ℕ). pick (same_text_lem x t) true (has_text t xs) ≡ true → get_or (x ∷ xs) k [] ≡ t) (same_text_lem x t) 0 (place_in t xs + 1)
    (λ s e. same_true x t s)
    (λ s e. rw add-one (place_is t xs (rw s at e)))
    h

-- ---- the own strings

-- a text that is there stays when another is used
pub with-keeps : (t : List ℕ) (s : Option ℕ) (u : List ℕ) (own : List (List ℕ)) → has_text t own ≡ true → has_text t (with_text s u own) ≡ true
with-keeps t (Some k) u own h = h
with-keeps t None u own h =
    pick_ind (λ (l : List (List ℕ)). has_text t l ≡ true) (has_text u own) own (own ++ (u ∷ []))
    (λ s. h)
    (λ s. has_left t own (u ∷ []) h)

-- and when more are used
pub own-keeps : (t : List ℕ) (ts own : List (List ℕ)) → has_text t own ≡ true → has_text t (own_strings_lem own ts) ≡ true
unfolding own_strings_lem
own-keeps t [] own h = h
own-keeps t (u ∷ ts) own h = own-keeps t ts (with_text (sid_of u) u own) (with-keeps t (sid_of u) u own h)

-- a text that is not standard is there after its use
pub with-has : (t : List ℕ) (s : Option ℕ) (own : List (List ℕ)) → s ≡ None → has_text t (with_text s t own) ≡ true
with-has t (Some k) own e = absurd (zero_one cc)
with-has t None own e =
    pick_ind (λ (l : List (List ℕ)). has_text t l ≡ true) (has_text t own) own (own ++ (t ∷ []))
    (λ s. s)
    (λ s. has_right t own (t ∷ []) (has-head t t [] refl))

-- and after the use of all
pub own-has : (t : List ℕ) (ts own : List (List ℕ)) → sid_of t ≡ None → has_text t ts ≡ true → has_text t (own_strings_lem own ts) ≡ true
unfolding own_strings_lem has_text
own-has t [] own o h = absurd (zero_one cc)
own-has t (u ∷ ts) own o h =
    pick_ind (λ s. s ≡ true → has_text t (own_strings_lem (with_text (sid_of u) u own) ts) ≡ true) (same_text_lem u t) true (has_text t ts)
    (λ s e. own-keeps t ts (with_text (sid_of u) u own)
    (rw (same_true u t s) (with-has t (sid_of t) own o)))
    (λ s e. own-has t ts (with_text (sid_of u) u own) o e)
    h

-- ---- the id of a text

-- an id names its text where the text is standard or an own string
id_text : (own : List (List ℕ)) (t : List ℕ) (s : Option ℕ) → sid_of t ≡ s → (s ≡ None → has_text t own ≡ true) → string_text own (id_after s t own) ≡ t
id_text own t (Some k) e f = string_standard own k (sid_below t k e) ∙ sid_text t k e
id_text own t None e f =
    let z : 391 + place_in t own - 391 ≡ place_in t own = omega arith in
    string_own own (391 + place_in t own) (omega arith) ∙ ap (λ (k : ℕ). get_or own k []) z ∙ place_is t own (f refl)

-- the new id of a text that is used names it
pub new-text : (ts : List (List ℕ)) (t : List ℕ) → has_text t ts ≡ true → string_text (own_strings_lem [] ts) (new_id (own_strings_lem [] ts) t) ≡ t
unfolding new_id
new-text ts t h = id_text (own_strings_lem [] ts) t (sid_of t) refl (λ o. own-has t ts [] o h)

-- the name of a glyph of a list is among the names
pub names-has : (p : Program) (gs : List ℕ) (g : ℕ) → is_in g gs ≡ true → has_text (name_of p g) (names_of p gs) ≡ true
unfolding names_of
names-has p [] g h = absurd (in_none g h)
names-has p (x ∷ gs) g h =
    ⊎_elim
    (λ e. has-head (name_of p x) (name_of p g) (names_of p gs) (ap (name_of p) e))
    (λ e. has_more (name_of p x) (name_of p g) (names_of p gs) (names-has p gs g e))
    (in_cases x g gs h)

-- each text has an id
pub ids-length : (own ts : List (List ℕ)) → length (new_ids own ts) ≡ length ts
unfolding new_ids
ids-length own [] = refl
ids-length own (t ∷ ts) = ap suc (ids-length own ts)

-- each glyph has a name
pub names-length : (p : Program) (order : List ℕ) → length (names_of p order) ≡ length order
unfolding names_of
names-length p [] = refl
names-length p (g ∷ gs) = ap suc (names-length p gs)
