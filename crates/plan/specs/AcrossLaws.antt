-- Laws of the FDs in use, counted: the last one of them, which is the only one where there is one.
use Rattle.std.specs.Prelude.{ℕ, ◌+◌, ◌≤◌, ◌<◌, ◌≡◌, true, false, length}
use Rattle.std.proofs.Math.Path.{refl}
use Rattle.std.proofs.Common.{sym, ap, ◌∙◌, length-append}
use mathlib.Core.List.{List, [], ◌∷◌, ◌++◌}
use native.Mathlib.Omega.{arith}
use Rattle.subset.specs.Kept.{those}
use Rattle.renumber.specs.declared.Ranks.{Ranks}
use Rattle.bodies.specs.Ways.{no_ranks, ranks_in}
use Rattle.fds.specs.Locals.{in_use_lem, used_below, fds_in}
use Rattle.fds.specs.UsedLaws.{used-next, unused_next}
use Rattle.plan.specs.Sizes.{across_by, last_of}

-- one more is the last
last_more : (fs : List ℕ) (f : ℕ) → last_of (fs ++ (f ∷ [])) ≡ f
unfolding last_of
last_more [] f = refl
last_more (x ∷ []) f = refl
last_more (x ∷ y ∷ fs) f = last_more (y ∷ fs) f

-- the FDs in use below fd are counted
pub record Counting (used : List ℕ) (count last fd : ℕ) : Type 0 where
  pub among : fd ≤ 256
  pub many : count ≡ length (used_below used fd)
  pub few : count ≤ fd
  pub is : last ≡ last_of (used_below used fd)
  pub below : last < 256

pub counting-start : (used : List ℕ) → Counting used 0 0 0
unfolding those last_of
counting-start used = record { among = omega arith; many = refl; few = omega arith; is = refl; below = omega arith }

module _ (used : List ℕ) (count last fd : ℕ) (h : Counting used count last fd) (k : fd < 256) where
  pub counting-pass : in_use_lem used fd ≡ false → Counting used count last (fd + 1)
  counting-pass e =
      let u = unused_next used fd e in
      record {
        among = omega arith;
        many = h.many ∙ ap length (sym u);
        few = omega (arith, h.few);
        is = h.is ∙ ap last_of (sym u);
        below = h.below;
      }

  pub counting-take : in_use_lem used fd ≡ true → Counting used (count + 1) fd (fd + 1)
  counting-take e =
      let u = used-next used fd e in
      record {
        among = omega arith;
        many = omega (arith, h.many, ap length u, length-append (used_below used fd) (fd ∷ []));
        few = omega (arith, h.few);
        is = sym (ap last_of u ∙ last_more (used_below used fd) fd);
        below = k;
      }

-- ---- the ranks of the only one

module _ (table : List Ranks) where
  one-across : (fs : List ℕ) → length fs ≡ 1 → ranks_in table (last_of fs) ≡ across_by table fs
  unfolding last_of
  one-across [] e = absurd (let y : ⊥ = omega arith in y)
  one-across (f ∷ []) e = refl
  one-across (f ∷ g ∷ fs) e = absurd (let y : ⊥ = omega arith in y)

  none-across : (fs : List ℕ) → (length fs ≡ 1 → ⊥) → no_ranks ≡ across_by table fs
  none-across [] e = refl
  none-across (f ∷ []) e = absurd (e refl)
  none-across (f ∷ g ∷ fs) e = refl

  module _ (used : List ℕ) (count last fd : ℕ) (h : Counting used count last fd) (done : 256 ≤ fd) where
    whole : used_below used fd ≡ fds_in used
    whole = let e : fd ≡ 256 = omega (arith, h.among) in ap (used_below used) e

    pub counted-one : count ≡ 1 → (r : Ranks) → r ≡ ranks_in table last → r ≡ across_by table (fds_in used)
    counted-one e r q =
        q ∙ ap (ranks_in table) (h.is ∙ ap last_of whole)
        ∙ one-across (fds_in used) (ap length (sym whole) ∙ sym h.many ∙ e)

    pub counted_other : (count ≡ 1 → ⊥) → no_ranks ≡ across_by table (fds_in used)
    counted_other n = none-across (fds_in used) (λ e. n (h.many ∙ ap length whole ∙ e))
