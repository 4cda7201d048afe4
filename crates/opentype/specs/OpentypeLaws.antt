-- Laws of a table directory, one for each test of the code.
use Prim.Native.Nat.{ℕ, zero, suc, ◌+◌, ◌-◌, ◌*◌, ◌≤◌, ◌<◌}
use Rattle.std.specs.Prelude.{◌≡◌, refl, Bool, true, false, List, ltb, eqb, Result, Ok, Err}
use Rattle.std.proofs.Common.{sym, ◌∙◌, subst, not-suc-le-zero, sub-one}
use Rattle.std.proofs.Math.Path.{ap}
use native.Mathlib.Omega.{arith}
use borrow.Author.Tests.{lt-ltb, le-ltb, eq-eqb, ne_eqb, ltb-true, ltb-false}
use Rattle.std.proofs.Math.ListN.{length}
use Rattle.octets.specs.Pick.{pick, pick_ind}
use Rattle.octets.specs.Octets.{num_at}
use Rattle.opentype.specs.Opentype.{otto, cff_tag, table_lying, table_of, row_from_lem, directory, place_of}
use Rattle.opentype.specs.declared.TableAt.{TableAt}
use Rattle.refusal.specs.declared.Refusal.{Refusal}
use Rattle.refusal.specs.declared.Refusal.TheVariants.{Truncated, TooLong, NoTable}

-- ---- rows

rows_none : (b : List ℕ) (left at : ℕ) → left ≤ 0 → Err NoTable ≡ row_from_lem b left at
unfolding row_from_lem
rows_none b zero at h = refl
rows_none b (suc n) at h = absurd (not-suc-le-zero h)

row-tagged : (b : List ℕ) (left at : ℕ) → 0 < left → num_at b at 4 ≡ cff_tag → table_of b (num_at b (at + 8) 4) (num_at b (at + 12) 4) ≡ row_from_lem b left at
unfolding row_from_lem
row-tagged b zero at h e = absurd (not-suc-le-zero h)
row-tagged b (suc n) at h e = simp (eq-eqb (num_at b at 4) cff_tag e)

row_other : (b : List ℕ) (left at : ℕ) → 0 < left → (num_at b at 4 ≡ cff_tag → ⊥) → row_from_lem b (left - 1) (at + 16) ≡ row_from_lem b left at
unfolding row_from_lem
row_other b zero at h e = absurd (not-suc-le-zero h)
row_other b (suc n) at h e = simp (ne_eqb (num_at b at 4) cff_tag e, sub-one)

-- what the rows that are left give is what all of them gave, r
module _ (b : List ℕ) (left at : ℕ) (r : Result TableAt Refusal) (whole : row_from_lem b left at ≡ r) where
  pub rows_end : left ≤ 0 → Err NoTable ≡ r
  rows_end h = rows_none b left at h ∙ whole

  module _ (some : 0 < left) (tag : ℕ) (read : tag ≡ num_at b at 4) where
    pub row_here : tag ≡ cff_tag → (start len : ℕ) → start ≡ num_at b (at + 8) 4 → len ≡ num_at b (at + 12) 4 → table_of b start len ≡ r
    row_here e start len s l =
        ap (λ (x : ℕ). table_of b x len) s ∙ ap (table_of b (num_at b (at + 8) 4)) l ∙ row-tagged b left at some (sym read ∙ e) ∙ whole

    pub row_next : (tag ≡ cff_tag → ⊥) → row_from_lem b (left - 1) (at + 16) ≡ r
    row_next e = row_other b left at some (λ x. e (read ∙ x)) ∙ whole

-- ---- the file, test by test

module _ (b : List ℕ) where
  pub file_long : 67108864 < length b → Err TooLong ≡ place_of b
  unfolding place_of
  file_long h = simp (lt-ltb 67108864 (length b) h)

  module _ (short : length b ≤ 67108864) where
    pub file_tiny : length b < 4 → table_lying 0 (length b) ≡ place_of b
    unfolding place_of
    file_tiny h = simp (le-ltb 67108864 (length b) short, lt-ltb (length b) 4 h)

    module _ (four : 4 ≤ length b) (tag : ℕ) (read : tag ≡ num_at b 0 4) where
      pub file_bare : (tag ≡ otto → ⊥) → table_lying 0 (length b) ≡ place_of b
      unfolding place_of
      file_bare e = simp (le-ltb 67108864 (length b) short, le-ltb (length b) 4 four, ne_eqb (num_at b 0 4) otto (λ x. e (read ∙ x)))

      module _ (is : tag ≡ otto) where
        pub head_lost : length b < 12 → Err Truncated ≡ place_of b
        unfolding place_of
        head_lost h = simp (le-ltb 67108864 (length b) short, le-ltb (length b) 4 four, eq-eqb (num_at b 0 4) otto (sym read ∙ is), lt-ltb (length b) 12 h)

        module _ (twelve : 12 ≤ length b) (count : ℕ) (many : count ≡ num_at b 4 2) where
          pub rows_lost : length b < 12 + 16 * count → Err Truncated ≡ place_of b
          unfolding place_of
          rows_lost h =
              let k : length b < 12 + 16 * num_at b 4 2 = omega arith in
              simp (
                le-ltb 67108864 (length b) short,
                le-ltb (length b) 4 four,
                eq-eqb (num_at b 0 4) otto (sym read ∙ is),
                le-ltb (length b) 12 twelve,
                lt-ltb (length b) (12 + 16 * num_at b 4 2) k,
              )

          pub rows_there : 12 + 16 * count ≤ length b → row_from_lem b count 12 ≡ place_of b
          unfolding place_of
          rows_there h =
              let k : 12 + 16 * num_at b 4 2 ≤ length b = omega arith in
              ap (λ (n : ℕ). row_from_lem b n 12) many
              ∙ simp (
                le-ltb 67108864 (length b) short,
                le-ltb (length b) 4 four,
                eq-eqb (num_at b 0 4) otto (sym read ∙ is),
                le-ltb (length b) 12 twelve,
                le-ltb (length b) (12 + 16 * num_at b 4 2) k,
              )

-- ---- a table that was found lies in the file, which is not too long

-- what is known of a place, by what it is
abbrev pub Fits : List ℕ → Result TableAt Refusal → Type 0
Fits b (Err e) = Unit
Fits b (Ok t) = (t.start + t.len ≤ length b) × (length b ≤ 67108864)

module _ (b : List ℕ) (short : length b ≤ 67108864) where
  table_fits : (start len : ℕ) → Fits b (table_of b start len)
  table_fits start len =
      pick_ind (Fits b) (ltb (length b) (start + len)) (Err Truncated) (table_lying start len) (λ e. tt) (λ e. (ltb-false (length b) (start + len) e, short))

  rows_fit : (n at : ℕ) → Fits b (row_from_lem b n at)
  unfolding row_from_lem
  rows_fit zero at = tt
  rows_fit (suc n) at =
      pick_ind (Fits b) (eqb (num_at b at 4) cff_tag) (table_of b (num_at b (at + 8) 4) (num_at b (at + 12) 4)) (row_from_lem b n (at + 16))
      (λ e. table_fits (num_at b (at + 8) 4) (num_at b (at + 12) 4)) (λ e. rows_fit n (at + 16))

  directory-fits : Fits b (directory b)
  directory-fits =
      pick_ind (Fits b) (ltb (length b) 12) (Err Truncated) _ (λ e. tt)
      (λ e. pick_ind (Fits b) (ltb (length b) (12 + 16 * num_at b 4 2)) (Err Truncated) (row_from_lem b (num_at b 4 2) 12) (λ f. tt) (λ f. rows_fit (num_at b 4 2) 12))

  whole-fits : Fits b (table_lying 0 (length b))
  whole-fits = (omega arith, short)

  short-fits : Fits b (pick (ltb (length b) 4) (table_lying 0 (length b)) (pick (eqb (num_at b 0 4) otto) (directory b) (table_lying 0 (length b))))
  short-fits =
      pick_ind (Fits b) (ltb (length b) 4) (table_lying 0 (length b)) _ (λ e. whole-fits)
      (λ e. pick_ind (Fits b) (eqb (num_at b 0 4) otto) (directory b) (table_lying 0 (length b)) (λ f. directory-fits) (λ f. whole-fits))

pub place-fits : (b : List ℕ) → Fits b (place_of b)
unfolding place_of
place-fits b = pick_ind (Fits b) (ltb 67108864 (length b)) (Err TooLong) _ (λ e. tt) (λ e. short-fits b (ltb-false 67108864 (length b) e))

pub found-fits : (b : List ℕ) (start len : ℕ) → place_of b ≡ table_lying start len → (start + len ≤ length b) × (length b ≤ 67108864)
found-fits b start len e = subst (Fits b) e (place-fits b)

-- ---- the refusals of a place: truncated, too long and no table

abbrev pub Numbered : (Refusal → Type 0) → Result TableAt Refusal → Type 0
Numbered P (Err e) = P e
Numbered P (Ok t) = Unit

module _ (P : Refusal → Type 0) (truncated : P Truncated) (long : P TooLong) (none : P NoTable) (b : List ℕ) where
  rows-numbered : (n at : ℕ) → Numbered P (row_from_lem b n at)
  unfolding row_from_lem
  rows-numbered zero at = none
  rows-numbered (suc n) at =
      pick_ind (Numbered P) (eqb (num_at b at 4) cff_tag) (table_of b (num_at b (at + 8) 4) (num_at b (at + 12) 4)) (row_from_lem b n (at + 16))
      (λ e. pick_ind (Numbered P) (ltb (length b) (num_at b (at + 8) 4 + num_at b (at + 12) 4)) (Err Truncated) (table_lying (num_at b (at + 8) 4) (num_at b (at + 12) 4)) (λ f. truncated) (λ f. tt))
      (λ e. rows-numbered n (at + 16))

  directory-numbered : Numbered P (directory b)
  directory-numbered =
      pick_ind (Numbered P) (ltb (length b) 12) (Err Truncated) _ (λ e. truncated)
      (λ e. pick_ind (Numbered P) (ltb (length b) (12 + 16 * num_at b 4 2)) (Err Truncated) (row_from_lem b (num_at b 4 2) 12) (λ f. truncated) (λ f. rows-numbered (num_at b 4 2) 12))

  pub place-numbered : Numbered P (place_of b)
  unfolding place_of
  place-numbered =
      pick_ind (Numbered P) (ltb 67108864 (length b)) (Err TooLong) _ (λ e. long)
      (λ e. pick_ind (Numbered P) (ltb (length b) 4) (table_lying 0 (length b)) _ (λ f. tt)
      (λ f. pick_ind (Numbered P) (eqb (num_at b 0 4) otto) (directory b) (table_lying 0 (length b)) (λ g. directory-numbered) (λ g. tt)))

-- ---- a file that does not begin with `OTTO` is the font itself

pub bare : (b : List ℕ) → length b ≤ 67108864 → (num_at b 0 4 ≡ otto → ⊥) → place_of b ≡ table_lying 0 (length b)
bare b short other = go (ltb (length b) 4) refl
  where
    go : (t : Bool) → ltb (length b) 4 ≡ t → place_of b ≡ table_lying 0 (length b)
    go true e = sym (file_tiny b short (ltb-true (length b) 4 e))
    go false e = sym (file_bare b short (ltb-false (length b) 4 e) (num_at b 0 4) refl other)
