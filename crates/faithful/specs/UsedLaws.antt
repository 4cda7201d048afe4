-- The FDs in use (document 01, 'Layout'): each kept glyph's FD is one, they are at most 256, a name-keyed font has the one FD 0, and new
-- numbers count those in use.
use Prim.Native.Nat.{ℕ, zero, suc, ◌+◌, ◌≤◌, ◌<◌}
use Rattle.std.specs.Prelude.{◌≡◌, Bool, true, false, eqb, length, get_or}
use Rattle.std.proofs.Math.Path.{refl}
use Rattle.std.proofs.Common.{sym, ap, ◌∙◌, ⊎_elim, le_of_suc-le-suc, not-suc-le-zero, add-one, eqb-true, lt-ltb}
use mathlib.Core.List.{List, [], ◌∷◌}
use native.Mathlib.Omega.{arith}
use Rattle.octets.specs.Pick.{pick, pick_ind}
use Rattle.octets.specs.Lists.{all_below}
use Rattle.octets.specs.ListLaws.{below_at}
use Rattle.octets.specs.Octets.{Octets}
use Rattle.dict.specs.Lookup.{absent, cid_keyed}
use Rattle.cff.specs.Font.{Program}
use Rattle.subset.specs.Kept.{is_in, those, fds_of, used_fds, new_fd}
use Rattle.subset.specs.Subset.{matrix_of, new_fds}
use Rattle.faithful.specs.Laid.{GoodProgram, matrices_of}
use Rattle.subset.specs.KeptListLaws.{in_none, in_head, in_more, in_cases, in_at, in_some, those-has, those_in, those-few, those-high}

-- ---- FDs of glyphs

-- the FD of a glyph of a list is among theirs
pub fds_has : (p : Program) (gs : List ℕ) (g : ℕ) → is_in g gs ≡ true → is_in (get_or p.fds g 0) (fds_of p gs) ≡ true
unfolding fds_of
fds_has p [] g h = absurd (in_none g h)
fds_has p (x ∷ gs) g h =
    ⊎_elim
    (λ e. in_head (get_or p.fds x 0) (get_or p.fds g 0) (fds_of p gs) (ap (λ (k : ℕ). get_or p.fds k 0) e))
    (λ e. in_more (get_or p.fds x 0) (get_or p.fds g 0) (fds_of p gs) (fds_has p gs g e))
    (in_cases x g gs h)

-- FDs are bytes
pub fds_fit : (p : Program) (gs : List ℕ) (f : ℕ) → Octets p.fds → is_in f (fds_of p gs) ≡ true → f < 256
unfolding fds_of
fds_fit p [] f b h = absurd (in_none f h)
fds_fit p (x ∷ gs) f b h =
    ⊎_elim (λ e. omega (arith, b x)) (λ e. fds_fit p gs f b e) (in_cases (get_or p.fds x 0) f (fds_of p gs) h)

-- ---- in use

-- the test of an FD in use
abbrev pub uses : Program → List ℕ → ℕ → Bool
uses p kept f = is_in f (fds_of p kept)

-- the FD of a glyph is one of the font's
pub fd_there : (p : Program) (g : ℕ) → GoodProgram p → g < length p.charstrings → get_or p.fds g 0 < length p.privates
fd_there p g good h = below_at (length p.privates) p.fds good.fds_there g (omega (arith, good.fds_count))

-- the FD of a kept glyph is in use
pub used-has : (p : Program) (kept : List ℕ) (g : ℕ) → GoodProgram p → is_in g kept ≡ true → g < length p.charstrings
    → is_in (get_or p.fds g 0) (used_fds p kept) ≡ true
used-has p kept g good h l =
    those-has (uses p kept) (length p.privates) 0 (get_or p.fds g 0) (omega arith) (omega (arith, fd_there p g good l)) (fds_has p kept g h)

-- some FD is in use where a glyph is kept
pub used-some : (p : Program) (kept : List ℕ) (g : ℕ) → GoodProgram p → is_in g kept ≡ true → g < length p.charstrings → 0 < length (used_fds p kept)
used-some p kept g good h l = in_some (used_fds p kept) (get_or p.fds g 0) (used-has p kept g good h l)

-- an FD in use is one of the font's
pub used_there : (p : Program) (kept : List ℕ) (f : ℕ) → is_in f (used_fds p kept) ≡ true → f < length p.privates
used_there p kept f h = omega (arith, (those_in (uses p kept) (length p.privates) 0 f h).1)

-- at most 256 are in use, few enough for an INDEX
pub used-count : (p : Program) (kept : List ℕ) → GoodProgram p → length (used_fds p kept) < 65536
used-count p kept good = omega (arith, those-few (uses p kept) 256 (λ f h. fds_fit p kept f good.fds h) (length p.privates) 0)

-- in a name-keyed font it is FD 0
pub used-one : (p : Program) (kept : List ℕ) → GoodProgram p → cid_keyed p.top ≡ false → 0 < length kept
    → ((i : ℕ) → i < length kept → get_or kept i 0 < length p.charstrings) → used_fds p kept ≡ 0 ∷ []
unfolding those
used-one p kept good k some below =
    let one = good.one_private k in
    let g = get_or kept 0 0 in
    let l : get_or p.fds g 0 < length p.privates = fd_there p g good (below 0 some) in
    let z : get_or p.fds g 0 ≡ 0 = omega arith in
    let h : is_in 0 (fds_of p kept) ≡ true = ap (λ (f : ℕ). is_in f (fds_of p kept)) (sym z) ∙ fds_has p kept g (in_at kept 0 some) in
    ap (λ (n : ℕ). those (uses p kept) n 0) one ∙ simp h

-- ---- new numbers

-- an FD of a list stands there at its new number
pub new-fd-at : (l : List ℕ) (f : ℕ) → is_in f l ≡ true → (new_fd l f < length l) × (get_or l (new_fd l f) 0 ≡ f)
unfolding new_fd is_in
new-fd-at [] f h = absurd (in_none f h)
new-fd-at (x ∷ xs) f h =
    pick_ind (λ (k : ℕ). pick (eqb x f) true (is_in f xs) ≡ true → (k < length (x ∷ xs)) × (get_or (x ∷ xs) k 0 ≡ f)) (eqb x f) 0 (new_fd xs f + 1)
    (λ t e. (omega arith, eqb-true x f t))
    (λ t e. let r = new-fd-at xs f (rw t at e) in (omega arith, rw add-one r.1))
    h

-- the matrix of the FD at a place of a list
pub matrices_at : (p : Program) (used : List ℕ) (k : ℕ) → k < length used → get_or (matrices_of p used) k absent ≡ matrix_of p (get_or used k 0)
unfolding matrices_of
matrices_at p [] k h = absurd (not-suc-le-zero h)
matrices_at p (f ∷ fs) zero h = refl
matrices_at p (f ∷ fs) (suc k) h = matrices_at p fs k (le_of_suc-le-suc h)

-- the new number of an FD in use is not above the old one
pub new-fd-low : (p : Program) (kept : List ℕ) (f : ℕ) → is_in f (used_fds p kept) ≡ true → new_fd (used_fds p kept) f ≤ f
new-fd-low p kept f h =
    let r = new-fd-at (used_fds p kept) f h in
    omega (arith, those-high (uses p kept) (length p.privates) 0 (new_fd (used_fds p kept) f) r.0)

-- the i-th glyph that is written has the new number of its FD
pub new_fds_at : (p : Program) (used order : List ℕ) (i : ℕ) → i < length order → get_or (new_fds p used order) i 0 ≡ new_fd used (get_or p.fds (get_or order i 0) 0)
unfolding new_fds
new_fds_at p used [] i h = absurd (not-suc-le-zero h)
new_fds_at p used (g ∷ gs) zero h = refl
new_fds_at p used (g ∷ gs) (suc i) h = new_fds_at p used gs i (le_of_suc-le-suc h)

module _ (p : Program) (kept : List ℕ) (good : GoodProgram p) where
  -- the new numbers of kept glyphs are below the count of FDs in use
  pub new_fds_there : (order : List ℕ) → ((i : ℕ) → i < length order → is_in (get_or order i 0) kept ≡ true)
      → ((i : ℕ) → i < length order → get_or order i 0 < length p.charstrings) → all_below (length (used_fds p kept)) (new_fds p (used_fds p kept) order) ≡ true
  unfolding new_fds all_below
  new_fds_there [] a b = refl
  new_fds_there (g ∷ gs) a b =
      let used = used_fds p kept in
      let r = new-fd-at used (get_or p.fds g 0) (used-has p kept g good (a 0 (omega arith)) (b 0 (omega arith))) in
      simp (lt-ltb (new_fd used (get_or p.fds g 0)) (length used) r.0)
      (new_fds_there gs (λ i h. a (suc i) (omega arith)) (λ i h. b (suc i) (omega arith)))

  -- they are bytes
  pub new_fds_fit : (order : List ℕ) → ((i : ℕ) → i < length order → is_in (get_or order i 0) kept ≡ true)
      → ((i : ℕ) → i < length order → get_or order i 0 < length p.charstrings) → Octets (new_fds p (used_fds p kept) order)
  unfolding new_fds
  new_fds_fit [] a b i = omega arith
  new_fds_fit (g ∷ gs) a b zero =
      omega (arith, good.fds g, new-fd-low p kept (get_or p.fds g 0) (used-has p kept g good (a 0 (omega arith)) (b 0 (omega arith))))
  new_fds_fit (g ∷ gs) a b (suc i) = new_fds_fit gs (λ i h. a (suc i) (omega arith)) (λ i h. b (suc i) (omega arith)) i
