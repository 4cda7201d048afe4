-- Laws of the own strings of a subset: they only grow at the end, so that the place of a text that is there stays, and a text that is new
-- stands behind all others.
use Rattle.std.specs.Prelude.{ℕ, ◌+◌, ◌<◌, ◌≡◌, refl, Bool, true, false, List, [], ◌∷◌, ◌++◌, length, None, Option, Some}
use Rattle.std.proofs.Common.{sym, ap, ◌∙◌, append_assoc, append-nil, arith}
use Rattle.octets.specs.Pick.{pick, pick_ind}
use Rattle.prune.specs.StepLaws.{zero_one}
use Rattle.strings.specs.Text.{same_text_lem}
use Rattle.strings.specs.TextLaws.{same_refl}
use Rattle.strings.specs.Strings.{sid_of}
use Rattle.strings.proofs.StringsLaws.{sid_below}
use Rattle.subset.proofs.TextsLaws.{own-has}
use Rattle.subset.specs.Texts.{has_text, with_text, own_strings_lem, place_in, new_id}

-- ---- texts among others

-- one that is not in the first is in both together exactly where it is in the second
pub has-second : (t : List ℕ) (xs ys : List (List ℕ)) → has_text t xs ≡ false → has_text t (xs ++ ys) ≡ has_text t ys
unfolding has_text
has-second t [] ys h = refl
has-second t (x ∷ xs) ys h =
    pick_ind (λ s. pick (same_text_lem x t) true (has_text t xs) ≡ false → s ≡ has_text t ys) (same_text_lem x t) true (has_text t (xs ++ ys))
    (λ s e. absurd (zero_one (let f : pick true true (has_text t xs) ≡ false = rw s at e in cc)))
    (λ s e. has-second t xs ys (rw s at e))
    h

-- a text that is there keeps its place, which is inside
pub place-left : (t : List ℕ) (xs ys : List (List ℕ)) → has_text t xs ≡ true → place_in t (xs ++ ys) ≡ place_in t xs
unfolding has_text place_in
place-left t [] ys h = absurd (zero_one cc)
place-left t (x ∷ xs) ys h =
    pick_ind (λ (s : Bool). s ≡ true → pick (same_text_lem x t) 0 (place_in t (xs ++ ys) + 1) ≡ pick (same_text_lem x t) 0 (place_in t xs + 1)) (same_text_lem x t) true (has_text t xs)
    (λ s e. rw s)
    (λ s e. rw (s, place-left t xs ys e))
    h

pub place-below : (t : List ℕ) (xs : List (List ℕ)) → has_text t xs ≡ true → place_in t xs < length xs
unfolding has_text place_in
place-below t [] h = absurd (zero_one cc)
place-below t (x ∷ xs) h =
    pick_ind (λ (k : ℕ). pick (same_text_lem x t) true (has_text t xs) ≡ true → k < length (x ∷ xs)) (same_text_lem x t) 0 (place_in t xs + 1)
    (λ s e. omega arith)
    (λ s e. let f = place-below t xs (rw s at e) in omega arith)
    h

-- one that is not there stands behind all
pub place-new : (t : List ℕ) (xs ys : List (List ℕ)) → has_text t xs ≡ false → place_in t (xs ++ (t ∷ ys)) ≡ length xs
unfolding has_text place_in
place-new t [] ys h = let s = same_refl t in rw s
place-new t (x ∷ xs) ys h =
    pick_ind (λ (k : ℕ). pick (same_text_lem x t) true (has_text t xs) ≡ false → k ≡ length (x ∷ xs)) (same_text_lem x t) 0 (place_in t (xs ++ (t ∷ ys)) + 1)
    (λ s e. absurd (zero_one (let f : pick true true (has_text t xs) ≡ false = rw s at e in cc)))
    (λ s e. let f = place-new t xs ys (rw s at e) in omega arith)
    h

-- ---- the own strings

-- some texts and then others
pub own-append : (own ts us : List (List ℕ)) → own_strings_lem own (ts ++ us) ≡ own_strings_lem (own_strings_lem own ts) us
unfolding own_strings_lem
own-append own [] us = refl
own-append own (t ∷ ts) us = own-append (with_text (sid_of t) t own) ts us

-- what is behind the first own strings
pub record Grown (own all : List (List ℕ)) : Type 0 where
  pub rest : List (List ℕ)
  pub is : all ≡ own ++ rest

with_grown : (s : Option ℕ) (t : List ℕ) (own : List (List ℕ)) → Grown own (with_text s t own)
with_grown (Some k) t own = record { rest = []; is = sym (append-nil own) }
with_grown None t own =
    pick_ind (λ (l : List (List ℕ)). Grown own l) (has_text t own) own (own ++ (t ∷ []))
    (λ s. record { rest = []; is = sym (append-nil own) })
    (λ s. record { rest = t ∷ []; is = refl })

-- own strings grow at the end
pub own_grown : (own ts : List (List ℕ)) → Grown own (own_strings_lem own ts)
unfolding own_strings_lem
own_grown own [] = record { rest = []; is = sym (append-nil own) }
own_grown own (t ∷ ts) =
    let g = with_grown (sid_of t) t own in
    let f = own_grown (with_text (sid_of t) t own) ts in
    record {
      rest = g.rest ++ f.rest;
      is = f.is ∙ ap (λ (l : List (List ℕ)). l ++ f.rest) g.is ∙ append_assoc own g.rest f.rest;
    }

-- one that is not used is not new
with-lacks : (t : List ℕ) (s : Option ℕ) (u : List ℕ) (own : List (List ℕ)) → same_text_lem u t ≡ false → has_text t own ≡ false → has_text t (with_text s u own) ≡ false
unfolding has_text
with-lacks t (Some k) u own d h = h
with-lacks t None u own d h =
    pick_ind (λ (l : List (List ℕ)). has_text t l ≡ false) (has_text u own) own (own ++ (u ∷ []))
    (λ s. h)
    (λ s. has-second t own (u ∷ []) h ∙ rw d)

pub own-lacks : (t : List ℕ) (own ts : List (List ℕ)) → has_text t own ≡ false → has_text t ts ≡ false → has_text t (own_strings_lem own ts) ≡ false
unfolding own_strings_lem has_text
own-lacks t own [] h e = h
own-lacks t own (u ∷ ts) h e =
    pick_ind (λ s. s ≡ false → has_text t (own_strings_lem (with_text (sid_of u) u own) ts) ≡ false) (same_text_lem u t) true (has_text t ts)
    (λ s f. absurd (zero_one cc))
    (λ s f. own-lacks t (with_text (sid_of u) u own) ts (with-lacks t (sid_of u) u own s h) f)
    e

-- by cases on the texts
own-same_as : (t : List ℕ) (ts : List (List ℕ)) → sid_of t ≡ None → (h : Bool) → has_text t ts ≡ h → has_text t (own_strings_lem [] ts) ≡ h
unfolding has_text
own-same_as t ts o true e = own-has t ts [] o e
own-same_as t ts o false e = own-lacks t [] ts refl e

-- a text that is not standard is an own string exactly where it is used
pub own_same : (t : List ℕ) (ts : List (List ℕ)) → sid_of t ≡ None → has_text t (own_strings_lem [] ts) ≡ has_text t ts
own_same t ts o = own-same_as t ts o (has_text t ts) refl

-- ---- the new id of a text

-- of a standard one, and of another
pub new-standard : (own : List (List ℕ)) (t : List ℕ) (k : ℕ) → sid_of t ≡ Some k → new_id own t ≡ k
unfolding new_id
new-standard own t k e = rw e

pub new_other : (own : List (List ℕ)) (t : List ℕ) → sid_of t ≡ None → new_id own t ≡ 391 + place_in t own
unfolding new_id
new_other own t e = rw e

-- by cases on the text
new-keeps_as : (t : List ℕ) (own ts : List (List ℕ)) (s : Option ℕ) → sid_of t ≡ s → (sid_of t ≡ None → has_text t own ≡ true)
    → new_id (own_strings_lem own ts) t ≡ new_id own t
new-keeps_as t own ts (Some k) e f = new-standard (own_strings_lem own ts) t k e ∙ sym (new-standard own t k e)
new-keeps_as t own ts None e f =
    let g = own_grown own ts in
    new_other (own_strings_lem own ts) t e ∙ ap (λ (l : List (List ℕ)). 391 + place_in t l) g.is
    ∙ ap (λ (k : ℕ). 391 + k) (place-left t own g.rest (f e)) ∙ sym (new_other own t e)

-- it stays when more texts are used
pub new-keeps : (t : List ℕ) (own ts : List (List ℕ)) → (sid_of t ≡ None → has_text t own ≡ true) → new_id (own_strings_lem own ts) t ≡ new_id own t
new-keeps t own ts f = new-keeps_as t own ts (sid_of t) refl f

new-below_as : (t : List ℕ) (own : List (List ℕ)) (s : Option ℕ) → sid_of t ≡ s → (sid_of t ≡ None → has_text t own ≡ true) → new_id own t < 391 + length own
new-below_as t own (Some k) e f = let h = sid_below t k e in omega (arith, new-standard own t k e)
new-below_as t own None e f = omega (arith, new_other own t e, place-below t own (f e))

-- and is below the ids that are not given
pub new-below : (t : List ℕ) (own : List (List ℕ)) → (sid_of t ≡ None → has_text t own ≡ true) → new_id own t < 391 + length own
new-below t own f = new-below_as t own (sid_of t) refl f
