-- Laws of what is in a list: numbers that were put in their places are those that were put; a record lists a row that is among its rows.
use Prim.Native.Nat.{ℕ}
use Rattle.std.specs.Prelude.{◌≡◌, refl, Bool, true, false, ◌⊎◌, ltb, eqb}
use Rattle.std.proofs.Common.{sym, ap, ◌∙◌, subst, eqb-true, eq-eqb}
use mathlib.Core.List.{List, [], ◌∷◌, ◌++◌, map}
use Rattle.std.proofs.Math.Logic.{inl, inr, ⊎_elim}
use Rattle.octets.specs.Pick.{pick, pick_ind}
use Rattle.unfold.specs.Unfold.{Row}
use Rattle.prune.specs.Bodies.{All, empty, one}
use Rattle.prune.specs.StepLaws.{zero_one}
use Rattle.record.specs.Record.{same_row_lem, lists}
use Rattle.row_window.specs.Window.{placed, gathered}
use Rattle.faithful.specs.RecordLaws.{same_row}
use Rattle.traced.specs.Has.{Has, here, there}

-- ---- parts

module _ (A : Type 0) (x : A) where
  -- a list that has something is not empty
  abbrev Some : List A → Type 0
  Some [] = ⊥
  Some (y ∷ l) = Unit

  has_some : (l : List A) → Has A x l → Some l
  has_some [] x'' = elim x'' [ ]
  has_some (y ∷ l) (here e) = tt
  has_some (y ∷ l) (there h) = tt

  pub has-none : Has A x [] → ⊥
  has-none h = has_some [] h

  pub has_left : (l m : List A) → Has A x l → Has A x (l ++ m)
  has_left [] m x'' = elim x'' [ ]
  has_left (y ∷ l) m (here e) = here e
  has_left (y ∷ l) m (there h) = there (has_left l m h)

  pub has_right : (l m : List A) → Has A x m → Has A x (l ++ m)
  has_right [] m h = h
  has_right (y ∷ l) m h = there (has_right l m h)

  pub has_either : (l m : List A) → Has A x (l ++ m) → Has A x l ⊎ Has A x m
  has_either [] m h = inr h
  has_either (y ∷ l) m (here e) = inl (here e)
  has_either (y ∷ l) m (there h) = ⊎_elim (λ a. inl (there a)) (λ b. inr b) (has_either l m h)

-- ---- numbers in their places

module _ (x : ℕ) where
  placed-from : (k : ℕ) (l : List ℕ) → Has ℕ x (placed k l) → (k ≡ x) ⊎ Has ℕ x l
  unfolding placed
  placed-from k [] (there x5) = elim x5 [ ]
  placed-from k [] (here e) = inl e
  placed-from k (y ∷ l) h =
      pick_ind (λ (m : List ℕ). Has ℕ x m → (k ≡ x) ⊎ Has ℕ x (y ∷ l)) (ltb k y) (k ∷ y ∷ l) _ (λ t. front)
      (λ t. pick_ind (λ (m : List ℕ). Has ℕ x m → (k ≡ x) ⊎ Has ℕ x (y ∷ l)) (eqb k y) (y ∷ l) (y ∷ placed k l) (λ u h. inr h) (λ u. behind (placed-from k l))) h
    where
      front : Has ℕ x (k ∷ y ∷ l) → (k ≡ x) ⊎ Has ℕ x (y ∷ l)
      front (here e) = inl e
      front (there h) = inr h

      behind : (Has ℕ x (placed k l) → (k ≡ x) ⊎ Has ℕ x l) → Has ℕ x (y ∷ placed k l) → (k ≡ x) ⊎ Has ℕ x (y ∷ l)
      behind f (here e) = inr (here e)
      behind f (there h) = ⊎_elim (λ a. inl a) (λ b. inr (there b)) (f h)

  placed-new : (k : ℕ) (l : List ℕ) → k ≡ x → Has ℕ x (placed k l)
  unfolding placed
  placed-new k [] e = here e
  placed-new k (y ∷ l) e =
      pick_ind (Has ℕ x) (ltb k y) _ _ (λ t. here e)
      (λ t. pick_ind (Has ℕ x) (eqb k y) _ _ (λ u. here (sym (eqb-true k y u) ∙ e)) (λ u. there (placed-new k l e)))

  placed_old : (k : ℕ) (l : List ℕ) → Has ℕ x l → Has ℕ x (placed k l)
  unfolding placed
  placed_old k [] h = elim h [ ]
  placed_old k (y ∷ l) h =
      pick_ind (Has ℕ x) (ltb k y) _ _ (λ t. there h) (λ t. pick_ind (Has ℕ x) (eqb k y) _ _ (λ u. h) (λ u. behind (placed_old k l) h))
    where
      behind : (Has ℕ x l → Has ℕ x (placed k l)) → Has ℕ x (y ∷ l) → Has ℕ x (y ∷ placed k l)
      behind f (here e) = here e
      behind f (there g) = there (f g)

  pub gathered-from : (c ks : List ℕ) → Has ℕ x (gathered c ks) → Has ℕ x c ⊎ Has ℕ x ks
  unfolding gathered
  gathered-from c [] h = inl h
  gathered-from c (k ∷ ks) h =
      ⊎_elim (λ a. ⊎_elim (λ e. inr (here e)) (λ b. inl b) (placed-from k c a)) (λ b. inr (there b)) (gathered-from (placed k c) ks h)

  gathered_old : (c ks : List ℕ) → Has ℕ x c → Has ℕ x (gathered c ks)
  unfolding gathered
  gathered_old c [] h = h
  gathered_old c (k ∷ ks) h = gathered_old (placed k c) ks (placed_old k c h)

  pub gathered-new : (c ks : List ℕ) → Has ℕ x ks → Has ℕ x (gathered c ks)
  unfolding gathered
  gathered-new c [] x'' = elim x'' [ ]
  gathered-new c (k ∷ ks) (here e) = gathered_old (placed k c) ks (placed-new k c e)
  gathered-new c (k ∷ ks) (there h) = gathered-new (placed k c) ks h

-- ---- rows and their numbers

module _ (f : Row → ℕ) where
  pub map_has : (r : Row) (rows : List Row) → Has Row r rows → Has ℕ (f r) (map f rows)
  map_has r [] x' = elim x' [ ]
  map_has r (q ∷ rows) (here e) = here (ap f e)
  map_has r (q ∷ rows) (there h) = there (map_has r rows h)

  pub map_from : (k : ℕ) (rows : List Row) → Has ℕ k (map f rows) → (r : Row) × Has Row r rows × (f r ≡ k)
  map_from k [] x' = elim x' [ ]
  map_from k (q ∷ rows) (here e) = (q, here refl, e)
  map_from k (q ∷ rows) (there h) = let m = map_from k rows h in (m.0, there m.1, m.2)

-- ---- what holds of each row

module _ (P : Row → Type 0) where
  pub all-at : (r : Row) (rows : List Row) → All P rows → Has Row r rows → P r
  all-at r [] _ x3 = elim x3 [ ]
  all-at r (q ∷ rows) (one p a) (here e) = subst P e p
  all-at r (q ∷ rows) (one p a) (there h) = all-at r rows a h

  pub all_from : (rows : List Row) → ((r : Row) → Has Row r rows → P r) → All P rows
  all_from [] f = empty
  all_from (q ∷ rows) f = one (f q (here refl)) (all_from rows (λ r h. f r (there h)))

  pub all_more : (rows : List Row) (r : Row) → All P rows → P r → All P (rows ++ (r ∷ []))
  all_more [] r a p = one p empty
  all_more (q ∷ rows) r (one o a) p = one o (all_more rows r a p)

-- ---- what a record lists

same_self : (r : Row) → same_row_lem r r ≡ true
same_self r =
    rw (eq-eqb r.kind r.kind refl, eq-eqb r.fd r.fd refl, eq-eqb r.number r.number refl, eq-eqb r.offset r.offset refl, eq-eqb r.len r.len refl)

pub has_listed : (q : Row) (rows : List Row) → Has Row q rows → lists rows q ≡ true
unfolding lists
has_listed q [] x' = elim x' [ ]
has_listed q (r ∷ rows) (here e) = let s : same_row_lem r q ≡ true = ap (same_row_lem r) (sym e) ∙ same_self r in rw s
has_listed q (r ∷ rows) (there h) = pick_ind (λ (t : Bool). t ≡ true) (same_row_lem r q) true (lists rows q) (λ t. refl) (λ t. has_listed q rows h)

pub listed_has : (q : Row) (rows : List Row) → lists rows q ≡ true → Has Row q rows
unfolding lists
listed_has q [] e = absurd (zero_one cc)
listed_has q (r ∷ rows) e = by (same_row_lem r q) refl e (listed_has q rows)
  where
    by : (t : Bool) → same_row_lem r q ≡ t → pick t true (lists rows q) ≡ true → (lists rows q ≡ true → Has Row q rows) → Has Row q (r ∷ rows)
    by true s h f = here (same_row r q s)
    by false s h f = there (f h)
