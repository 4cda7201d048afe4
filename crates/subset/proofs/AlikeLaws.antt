-- What the parts of a subset ask of a font (document 02, Wish 8): bodies that agree where a set has them are stubbed and renumbered to the same,
-- whatever the others are; the charset asks for the ids of the glyphs that are written alone.
use Prim.Native.Nat.{ℕ, suc, ◌+◌}
use Rattle.std.specs.Prelude.{◌≡◌, Bool, true, false, length, get_or, Option}
use Rattle.std.proofs.Math.Path.{refl, ap}
use Rattle.std.proofs.Common.{◌∙◌}
use mathlib.Core.List.{List, [], ◌∷◌}
use native.Mathlib.Omega.{arith}
use Rattle.octets.specs.Pick.{pick}
use Rattle.unfold.specs.Unfold.{Row, Site}
use Rattle.prune.specs.Renumber.{Calls}
use Rattle.prune.specs.StepLaws.{zero_one}
use Rattle.cff.specs.Font.{Program}
use Rattle.subset.specs.Kept.{is_in, those}
use Rattle.subset.specs.KeptListLaws.{in_head, in_more, those_in}
use Rattle.subset.specs.Pruned.{each, renumbered_body, renumbered_subrs, stubbed_from, mapped}
use Rattle.subset.specs.Texts.{names_of}
use Rattle.subset.specs.Subset.{cids_of}

-- a choice whose first value is asked only where the test holds
pub pick-alike : {A : Type 0} (t : Bool) (a b d : A) → (t ≡ true → a ≡ b) → pick t a d ≡ pick t b d
pick-alike true a b d same = same refl
pick-alike false a b d same = refl

-- ---- what is done with each of a list

pub each-alike : {A : Type 0} (f g : ℕ → Option A) (ks : List ℕ) → ((k : ℕ) → is_in k ks ≡ true → f k ≡ g k) → each f ks ≡ each g ks
unfolding each
each-alike f g [] same = refl
each-alike f g (k ∷ ks) same = rw (same k (in_head k k ks refl), each-alike f g ks (λ j h. same j (in_more k j ks h)))

pub mapped-alike : {A : Type 0} (f g : ℕ → A) (ks : List ℕ) → ((k : ℕ) → is_in k ks ≡ true → f k ≡ g k) → mapped f ks ≡ mapped g ks
unfolding mapped
mapped-alike f g [] same = refl
mapped-alike f g (k ∷ ks) same = rw (same k (in_head k k ks refl), mapped-alike f g ks (λ j h. same j (in_more k j ks h)))

-- ---- bodies

module _ (set : ℕ → Bool) where
  stubbed-from : (k : ℕ) (xs ys : List (List ℕ)) → length xs ≡ length ys → ((i : ℕ) → set (k + i) ≡ true → get_or xs i [] ≡ get_or ys i [])
      → stubbed_from set k xs ≡ stubbed_from set k ys
  unfolding stubbed_from
  stubbed-from k [] [] many same = refl
  stubbed-from k [] (y ∷ ys) many same = absurd (zero_one (omega arith))
  stubbed-from k (x ∷ xs) [] many same = absurd (zero_one (omega arith))
  stubbed-from k (x ∷ xs) (y ∷ ys) many same =
      let z : k + 0 ≡ k = omega arith in
      let first : pick (set k) x (11 ∷ []) ≡ pick (set k) y (11 ∷ []) = pick-alike (set k) x y (11 ∷ []) (λ t. same 0 (ap set z ∙ t)) in
      let next : (i : ℕ) → k + suc i ≡ k + 1 + i = λ i. omega arith in
      rw (first, stubbed-from (k + 1) xs ys (omega arith) (λ i t. same (suc i) (ap set (next i) ∙ t)))

  -- stubbed: a body that the set does not have leaves no trace
  pub stubbed-alike : (xs ys : List (List ℕ)) → length xs ≡ length ys → ((i : ℕ) → set i ≡ true → get_or xs i [] ≡ get_or ys i [])
      → stubbed_from set 0 xs ≡ stubbed_from set 0 ys
  stubbed-alike xs ys many same =
      let z : (i : ℕ) → i ≡ 0 + i = λ i. omega arith in
      stubbed-from 0 xs ys many (λ i t. same i (ap set (z i) ∙ t))

  -- renumbered: nor is it looked at
  pub renumbered-alike : (rows : List Row) (calls : Calls) (site : ℕ → Site) (xs ys : List (List ℕ)) → length xs ≡ length ys
      → ((i : ℕ) → set i ≡ true → get_or xs i [] ≡ get_or ys i []) → renumbered_subrs rows set calls site xs ≡ renumbered_subrs rows set calls site ys
  unfolding renumbered_subrs
  renumbered-alike rows calls site xs ys many same =
      let e =
      each-alike (λ k. renumbered_body rows calls (site k) (get_or xs k [])) (λ k. renumbered_body rows calls (site k) (get_or ys k [])) (those set (length ys) 0)
      (λ k h. ap (renumbered_body rows calls (site k)) (same k (those_in set (length ys) 0 k h).2))
      in
      rw (many, e)

-- ---- ids

module _ (p q : Program) where
  -- the CIDs of a charset
  pub cids-alike : (gs : List ℕ) → ((g : ℕ) → is_in g gs ≡ true → get_or p.ids g 0 ≡ get_or q.ids g 0) → cids_of p gs ≡ cids_of q gs
  unfolding cids_of
  cids-alike [] same = refl
  cids-alike (g ∷ gs) same = rw (same g (in_head g g gs refl), cids-alike gs (λ h i. same h (in_more g h gs i)))

  -- and the names
  pub names-alike : p.strings ≡ q.strings → (gs : List ℕ) → ((g : ℕ) → is_in g gs ≡ true → get_or p.ids g 0 ≡ get_or q.ids g 0) → names_of p gs ≡ names_of q gs
  unfolding names_of
  names-alike strings [] same = refl
  names-alike strings (g ∷ gs) same = rw (names-alike strings gs (λ h i. same h (in_more g h gs i)), same g (in_head g g gs refl), strings)
