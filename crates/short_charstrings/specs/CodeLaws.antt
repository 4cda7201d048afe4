-- What the code of short charstrings meets: one law for each way out.
use Prim.Native.Nat.{ℕ, zero, suc, ◌+◌, ◌-◌, ◌*◌, ◌/◌, ◌%◌, ◌≤◌, ◌<◌}
use Rattle.std.specs.Prelude.{◌≡◌, Bool, List, [], ◌∷◌, ltb, length, take, get_or, set}
use Rattle.std.proofs.Math.Path.{refl, sym, ap}
use Rattle.std.proofs.Common.{◌∙◌, subst, lit≤, lit<}
use Rattle.std.proofs.Math.Bool.{true, false, not}
use native.Mathlib.Omega.{arith}
use borrow.Author.Tests.{lt-ltb, le-ltb, eq-eqb, ne_eqb}
use Rattle.octets.specs.Pick.{pick, pick_ind}
use Rattle.octets.specs.Lists.{all_below}
use Rattle.octets.specs.Octets.{Octets, put, Wrote}
use Rattle.octets.specs.PutLaws.{put_one, put_two, put_snoc, take_put}
use Rattle.index.specs.Index.{empty_at, offsets, first_of, run_of, pieces, items_of}
use Rattle.index.specs.Good.{Good}
use Rattle.unfold.specs.Unfold.{Glyph, not_plain_lem, plain, unfold_glyph}
use Rattle.row_window.specs.declared.filling.Filling.{Filling}
use Rattle.interpret.specs.Run.{Ready, Meeting, Meets}
use Rattle.interpret.specs.declared.Range.{Range}
use Rattle.short_charstrings.specs.Short.{alone, is_plain, ends, is_short}
use Rattle.short_charstrings.specs.Next.{candidates, candidate, place_of, nowhere, found, first_from_lem}

-- ---- whether an endchar runs

-- an INDEX of no item, in any two bytes
none-good : (font : List ℕ) → 2 ≤ length font → Good font (empty_at 0)
unfolding offsets run_of
none-good font h =
    record {
      lies = record { low = lit≤ tt; high = lit≤ tt; placed = omega arith; begins = omega arith; within = omega arith };
      last = first_of font 1 1;
      run = refl;
    }

pub none_ready : (font : List ℕ) → length font ≡ 2 → Ready font (record { globals = empty_at 0; locals = empty_at 0; fd = 0 })
none_ready font e =
    record {
      globals = none-good font (omega (arith, e));
      locals = none-good font (omega (arith, e));
      few_globals = lit< tt;
      few_locals = lit< tt;
      size = omega (arith, e);
    }

pub ends-none : (s : List ℕ) → length s < 1 → false ≡ ends s
unfolding ends
ends-none s h = rw (lt-ltb (length s) 1 h)

pub ends-met : (font s : List ℕ) (range : Range) (old new : Filling) (r : Bool) → 1 ≤ length s
    → Meets (unfold_glyph (items_of font (empty_at 0)) (items_of font (empty_at 0)) 0 0 s) range old new r → r ≡ ends s
unfolding ends items_of offsets pieces
ends-met font s range old new r h m = rw (le-ltb (length s) 1 h) (by (alone s) m.says)
  where
    by : (g : Glyph) → Meeting g range old new r → r ≡ is_plain g
    by not_plain_lem k = k
    by (plain ts rows) k = k.0

-- ---- whether a charstring is short

pub bytes_below : (s : List ℕ) → Octets s → all_below 256 s ≡ true
unfolding all_below
bytes_below [] o = refl
bytes_below (x ∷ xs) o = rw (lt-ltb x 256 (o 0)) (bytes_below xs (λ i. o (suc i)))

module _ (s : List ℕ) (o : Octets s) where
  pub short_none : length s < 1 → false ≡ is_short s
  unfolding is_short
  short_none h = rw (bytes_below s o, lt-ltb (length s) 1 h)

  module _ (a : 1 ≤ length s) where
    pub short_long : 4 < length s → false ≡ is_short s
    unfolding is_short
    short_long h = rw (bytes_below s o, le-ltb (length s) 1 a, lt-ltb 4 (length s) h)

    module _ (b : length s ≤ 4) where
      pub short_other : (get_or s (length s - 1) 0 ≡ 14 → ⊥) → false ≡ is_short s
      unfolding is_short
      short_other h = rw (bytes_below s o, le-ltb (length s) 1 a, le-ltb 4 (length s) b, ne_eqb (get_or s (length s - 1) 0) 14 h)

      module _ (c : get_or s (length s - 1) 0 ≡ 14) where
        pub short_runs_on : ends s ≡ false → false ≡ is_short s
        unfolding is_short
        short_runs_on h = rw (bytes_below s o, le-ltb (length s) 1 a, le-ltb 4 (length s) b, eq-eqb (get_or s (length s - 1) 0) 14 c, h)

        pub short-ends : ends s ≡ true → (r : Bool) → r ≡ ends (take (length s - 1) s) → not r ≡ is_short s
        unfolding is_short
        short-ends h r e = rw (bytes_below s o, le-ltb (length s) 1 a, le-ltb 4 (length s) b, eq-eqb (get_or s (length s - 1) 0) 14 c, h) (ap not e ∙ by (ends (take (length s - 1) s)))
          where
            by : (t : Bool) → not t ≡ pick t false true
            by true = refl
            by false = refl

-- ---- candidates

module _ (k : ℕ) where
  pub candidate_1 : k < 1 → candidate k ≡ 14 ∷ []
  unfolding candidate
  candidate_1 h = rw (lt-ltb k 1 h)

  module _ (a : 1 ≤ k) where
    pub candidate_2 : k < 257 → candidate k ≡ (k - 1) ∷ 14 ∷ []
    unfolding candidate
    candidate_2 h = rw (le-ltb k 1 a, lt-ltb k 257 h)

    module _ (b : 257 ≤ k) where
      pub candidate_3 : k < 65793 → candidate k ≡ ((k - 257) / 256) ∷ ((k - 257) % 256) ∷ 14 ∷ []
      unfolding candidate
      candidate_3 h = rw (le-ltb k 1 a, le-ltb k 257 b, lt-ltb k 65793 h)

      pub candidate_4 : 65793 ≤ k → candidate k ≡ ((k - 65793) / 65536) ∷ ((k - 65793) / 256 % 256) ∷ ((k - 65793) % 256) ∷ 14 ∷ []
      unfolding candidate
      candidate_4 h = rw (le-ltb k 1 a, le-ltb k 257 b, le-ltb k 65793 h)

-- its bytes stored one after the other
module _ (out : List ℕ) (k : ℕ) (h : length (candidate k) ≤ length out) where
  pub room_for : (bs : List ℕ) → candidate k ≡ bs → length bs ≤ length out
  room_for bs e = subst (λ (l : List ℕ). length l ≤ length out) e h

  wrote_by : (bs new : List ℕ) → candidate k ≡ bs → new ≡ put out 0 bs → Wrote out 0 (candidate k) new (length bs)
  wrote_by bs new e f = record { is = f ∙ ap (put out 0) (sym e); behind = ap length (sym e) ∙ omega arith }

  pub wrote_1 : candidate k ≡ 14 ∷ [] → Wrote out 0 (candidate k) (set out 0 14) 1
  wrote_1 e = let r = room_for _ e in wrote_by (14 ∷ []) _ e (put_one out 0 14 (omega arith))

  module _ (x : ℕ) where
    pub wrote_2 : candidate k ≡ x ∷ 14 ∷ [] → Wrote out 0 (candidate k) (set (set out 0 x) 1 14) 2
    wrote_2 e = let r = room_for _ e in wrote_by (x ∷ 14 ∷ []) _ e (put_two out x 14 (omega arith))

    module _ (y : ℕ) where
      three : (z : ℕ) → 3 ≤ length out → set (set (set out 0 x) 1 y) 2 z ≡ put out 0 (x ∷ y ∷ z ∷ [])
      three z r = ap (λ (l : List ℕ). set l 2 z) (put_two out x y (omega arith)) ∙ put_snoc out 0 (x ∷ y ∷ []) z (omega arith)

      pub wrote_3 : candidate k ≡ x ∷ y ∷ 14 ∷ [] → Wrote out 0 (candidate k) (set (set (set out 0 x) 1 y) 2 14) 3
      wrote_3 e = let r = room_for _ e in wrote_by (x ∷ y ∷ 14 ∷ []) _ e (three 14 (omega arith))

      pub wrote_4 : (z : ℕ) → candidate k ≡ x ∷ y ∷ z ∷ 14 ∷ [] → Wrote out 0 (candidate k) (set (set (set (set out 0 x) 1 y) 2 z) 3 14) 4
      wrote_4 z e =
          let r = room_for _ e in
          wrote_by (x ∷ y ∷ z ∷ 14 ∷ []) _ e (ap (λ (l : List ℕ). set l 3 14) (three z (omega arith)) ∙ put_snoc out 0 (x ∷ y ∷ z ∷ []) 14 (omega arith))

-- which of them a charstring is
module _ (s : List ℕ) where
  pub place_1 : length s < 2 → 0 ≡ place_of s
  unfolding place_of
  place_1 h = rw (lt-ltb (length s) 2 h)

  module _ (a : 2 ≤ length s) where
    pub place_2 : length s < 3 → 1 + get_or s 0 0 ≡ place_of s
    unfolding place_of
    place_2 h = rw (le-ltb (length s) 2 a, lt-ltb (length s) 3 h)

    module _ (b : 3 ≤ length s) where
      pub place_3 : length s < 4 → 257 + (get_or s 0 0 * 256 + get_or s 1 0) ≡ place_of s
      unfolding place_of
      place_3 h = rw (le-ltb (length s) 2 a, le-ltb (length s) 3 b, lt-ltb (length s) 4 h)

      pub place_4 : 4 ≤ length s → 65793 + ((get_or s 0 0 * 256 + get_or s 1 0) * 256 + get_or s 2 0) ≡ place_of s
      unfolding place_of
      place_4 h = rw (le-ltb (length s) 2 a, le-ltb (length s) 3 b, le-ltb (length s) 4 h)

-- ---- the first from a place on

pub candidate-least : (k : ℕ) → length (candidate k) ≤ 4
unfolding candidate
candidate-least k =
    let P : List ℕ → Type 0 = λ l. length l ≤ 4 in
    pick_ind P (ltb k 1) _ _ (λ e. lit≤ tt)
    (λ e. pick_ind P (ltb k 257) _ _ (λ f. lit≤ tt) (λ f. pick_ind P (ltb k 65793) _ _ (λ g. lit≤ tt) (λ g. lit≤ tt)))

-- what was written, taken
pub taken : (old bs new : List ℕ) (n : ℕ) → Wrote old 0 bs new n → take n new ≡ bs
taken old bs new n w = ap (λ (m : ℕ). take m new) w.behind ∙ ap (take (0 + length bs)) w.is ∙ take_put old 0 bs (omega arith)

module _ (k : ℕ) where
  pub first-behind : candidates ≤ k → nowhere ≡ first_from_lem (candidates - k) k
  unfolding first_from_lem
  first-behind h = let e : zero ≡ candidates - k = omega arith in ap (λ (n : ℕ). first_from_lem n k) e

  module _ (h : k < candidates) where
    one_more : candidates - k ≡ suc (candidates - (k + 1))
    one_more = omega arith

    pub first-here : is_short (candidate k) ≡ true → found k ≡ first_from_lem (candidates - k) k
    unfolding first_from_lem
    first-here e = sym (ap (λ (n : ℕ). first_from_lem n k) one_more ∙ ap (λ (t : Bool). pick t (found k) (first_from_lem (candidates - (k + 1)) (k + 1))) e)

    pub first_on : is_short (candidate k) ≡ false → first_from_lem (candidates - (k + 1)) (k + 1) ≡ first_from_lem (candidates - k) k
    unfolding first_from_lem
    first_on e = sym (ap (λ (n : ℕ). first_from_lem n k) one_more ∙ ap (λ (t : Bool). pick t (found k) (first_from_lem (candidates - (k + 1)) (k + 1))) e)
