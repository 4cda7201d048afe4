-- Laws of the list of the FDs in use: it is made FD by FD, and each of them is in use.
use Rattle.std.specs.Prelude.{ℕ, zero, suc, ◌+◌, ◌≤◌, ◌<◌, ◌≡◌, Bool, true, false, List, [], ◌∷◌, length, take, get_or, set}
use Rattle.std.proofs.Math.Path.{refl, sym}
use Rattle.std.proofs.Common.{ap, ◌∙◌, subst, arith, length-append}
use Rattle.octets.specs.Pick.{pick}
use Rattle.octets.specs.Octets.{put}
use Rattle.octets.specs.PutLaws.{put_nil, put_snoc, take_put}
use Rattle.subset.specs.Kept.{those}
use Rattle.fds.specs.Locals.{in_use_lem, used_below, fds_in, UsedOf}
use Rattle.fds.specs.UsedLaws.{used-next, unused_next}
use Rattle.fds.specs.PartsLaws.{used-count}

no : ◌≡◌ {A = ℕ} 0 1 → ⊥
no h = omega arith

-- ---- made

module _ (used old : List ℕ) where
  -- those below fd are listed
  pub record Listing (fds : List ℕ) (j fd : ℕ) : Type 0 where
    pub is : fds ≡ put old 0 (used_below used fd)
    pub number : j ≡ length (used_below used fd)

  pub listing_start : Listing old 0 0
  unfolding those
  listing_start = record { is = sym (put_nil old 0); number = refl }

  module _ (fds : List ℕ) (j fd : ℕ) (h : Listing fds j fd) where
    pub listing-number : j ≤ fd
    listing-number = omega (arith, h.number, used-count used fd)

    pub listing-pass : in_use_lem used fd ≡ false → Listing fds j (fd + 1)
    listing-pass e =
        let u = unused_next used fd e in
        record { is = h.is ∙ ap (put old 0) (sym u); number = h.number ∙ ap length (sym u) }

    pub listing-take : in_use_lem used fd ≡ true → j < length old → Listing (set fds j fd) (j + 1) (fd + 1)
    listing-take e r =
        let fs = used_below used fd in
        let u = used-next used fd e in
        let n : j ≡ 0 + length fs = omega (arith, h.number) in
        let k : 0 + length fs < length old = omega arith in
        record {
          is = ap (λ (l : List ℕ). set l j fd) h.is ∙ ap (λ (i : ℕ). set (put old 0 fs) i fd) n ∙ put_snoc old 0 fs fd k ∙ ap (put old 0) (sym u);
          number = omega (arith, h.number, ap length u, length-append fs (fd ∷ []));
        }

    pub listing_done : fd ≡ 256 → (fds ≡ put old 0 (fds_in used)) × (j ≡ length (fds_in used)) × (j ≤ 256)
    listing_done e =
        let g = subst (Listing fds j) e h in
        (g.is, g.number, omega (arith, listing-number))

-- ---- each of them

front_at : (test : ℕ → Bool) (g m : ℕ) (rest : List ℕ) (t : Bool) → test g ≡ t → g < m
    → ((k : ℕ) → k < length rest → (get_or rest k 0 < m) × (test (get_or rest k 0) ≡ true))
    → (k : ℕ) → k < length (pick t (g ∷ rest) rest)
    → (get_or (pick t (g ∷ rest) rest) k 0 < m) × (test (get_or (pick t (g ∷ rest) rest) k 0) ≡ true)
front_at test g m rest true e l h zero q = (l, e)
front_at test g m rest true e l h (suc k) q = h k (omega arith)
front_at test g m rest false e l h k q = h k q

those-at : (test : ℕ → Bool) (n g k : ℕ) → k < length (those test n g) → (get_or (those test n g) k 0 < g + n) × (test (get_or (those test n g) k 0) ≡ true)
unfolding those
those-at test zero g k h = absurd (no (omega arith))
those-at test (suc n) g k h =
    front_at test g (g + suc n) (those test n (g + 1)) (test g) refl (omega arith)
    (λ i q. let r = those-at test n (g + 1) i q in (omega (arith, r.0), r.1)) k h

-- those in use stand in front of the list that was made
pub listed-put : (used old fds : List ℕ) → fds ≡ put old 0 (fds_in used) → 256 ≤ length old → (count : ℕ) → count ≡ length (fds_in used) → take count fds ≡ fds_in used
listed-put used old fds is room count counted =
    let z : count ≡ 0 + length (fds_in used) = omega (arith, counted) in
    ap (take count) is ∙ ap (λ (n : ℕ). take n (put old 0 (fds_in used))) z ∙ take_put old 0 (fds_in used) (omega arith)

-- they are of the n that a font has
pub used_there : (used : List ℕ) (n : ℕ) → UsedOf n used → (k : ℕ) → k < length (fds_in used) → get_or (fds_in used) k 0 < n
used_there used n there k h =
    let r = those-at (in_use_lem used) 256 0 k h in
    there (get_or (fds_in used) k 0) r.0 r.1
