-- What is done with each of a list (the Rust's loops over glyphs and subroutines): the length stays, and at each place stands what was done
-- with the element there.
use Prim.Native.Nat.{ℕ, zero, suc, ◌+◌, ◌<◌}
use Rattle.std.specs.Prelude.{◌≡◌, refl, Bool, true, get_or, None, Option, Some}
use Rattle.std.proofs.Common.{sym, ◌∙◌, arith}
use Rattle.std.proofs.Math.Path.{ap}
use mathlib.Core.List.{List, [], ◌∷◌}
use Rattle.std.proofs.Math.ListN.{length}
use Rattle.octets.specs.Steps.{and}
use Rattle.prune.specs.StepLaws.{zero_one}
use Rattle.subset.specs.Pruned.{each, stubbed_from, mapped}

-- ---- mapped

-- as many as there were
pub length-mapped : {A : Type 0} (f : ℕ → A) (l : List ℕ) → length (mapped f l) ≡ length l
unfolding mapped
length-mapped f [] = refl
length-mapped f (x ∷ l) = ap suc (length-mapped f l)

-- at a place stands what the element there is mapped to
pub mapped_at : {A : Type 0} (f : ℕ → A) (l : List ℕ) (i : ℕ) (d : A) → i < length l → get_or (mapped f l) i d ≡ f (get_or l i 0)
unfolding mapped
mapped_at f [] i d h = absurd (zero_one (omega arith))
mapped_at f (x ∷ l) zero d h = refl
mapped_at f (x ∷ l) (suc i) d h = mapped_at f l i d (omega arith)

-- ---- one step and the next

-- both were taken
pub and_yes : {A B : Type 0} (m : Option A) (f : A → Option B) (b : B) → and m f ≡ Some b → (a : A) × (m ≡ Some a) × (f a ≡ Some b)
and_yes None f b e = absurd (zero_one cc)
and_yes (Some a) f b e = (a, refl, e)

-- ---- each

module _ {A : Type 0} (f : ℕ → Option A) where
  -- the first, and the others
  each_more : (k : ℕ) (ks : List ℕ) (l : List A) → each f (k ∷ ks) ≡ Some l → (b : A) × (bs : List A) × (f k ≡ Some b) × (each f ks ≡ Some bs) × (l ≡ b ∷ bs)
  unfolding each
  each_more k ks l e =
      let p = and_yes (f k) _ l e in
      let q = and_yes (each f ks) _ l p.2 in
      (p.0, q.0, p.1, q.1, cc)

  -- as many as there were
  pub length-each : (ks : List ℕ) (l : List A) → each f ks ≡ Some l → length l ≡ length ks
  unfolding each
  length-each [] l e = let m : [] ≡ l = cc in ap length (sym m)
  length-each (k ∷ ks) l e =
      let p = each_more k ks l e in
      ap length p.4 ∙ ap suc (length-each ks p.1 p.3)

  -- at a place stands what became of the element there
  pub each_at : (ks : List ℕ) (l : List A) → each f ks ≡ Some l → (i : ℕ) (d : A) → i < length ks → f (get_or ks i 0) ≡ Some (get_or l i d)
  each_at [] l e i d h = absurd (zero_one (omega arith))
  each_at (k ∷ ks) l e zero d h = let p = each_more k ks l e in p.2 ∙ ap (λ (x : List A). Some (get_or x 0 d)) (sym p.4)
  each_at (k ∷ ks) l e (suc i) d h =
      let p = each_more k ks l e in
      each_at ks p.1 p.3 i d (omega arith) ∙ ap (λ (x : List A). Some (get_or x (suc i) d)) (sym p.4)

-- ---- stubbed

-- as many as there were
pub length-stubbed : (set : ℕ → Bool) (k : ℕ) (l : List (List ℕ)) → length (stubbed_from set k l) ≡ length l
unfolding stubbed_from
length-stubbed set k [] = refl
length-stubbed set k (s ∷ l) = ap suc (length-stubbed set (k + 1) l)

-- a subroutine that is reached stays as it is
pub stubbed-at : (set : ℕ → Bool) (k : ℕ) (l : List (List ℕ)) (i : ℕ) → set (k + i) ≡ true → get_or (stubbed_from set k l) i [] ≡ get_or l i []
unfolding stubbed_from
stubbed-at set k [] i e = refl
stubbed-at set k (s ∷ l) zero e = let z : k + 0 ≡ k = omega arith in let t : set k ≡ true = ap set (sym z) ∙ e in rw t
stubbed-at set k (s ∷ l) (suc i) e = let z : k + 1 + i ≡ k + suc i = omega arith in stubbed-at set (k + 1) l i (ap set z ∙ e)
