-- Subroutines by the way, number by number: those that are written, and what each is.
use Prim.Native.Nat.{ℕ, suc, ◌+◌, ◌≤◌, ◌<◌}
use Rattle.std.specs.Prelude.{◌≡◌, refl, Bool, not, length, None, Option, Some}
use Rattle.std.proofs.Common.{sym, ◌∙◌}
use Rattle.std.proofs.Math.Path.{ap}
use Rattle.std.proofs.Math.Bool.{true, false}
use mathlib.Core.List.{List, [], ◌∷◌}
use native.Mathlib.Omega.{arith}
use borrow.Author.Tests.{le-ltb, eq-eqb}
use Rattle.std.proofs.Math.ListN.{get_or}
use Rattle.octets.specs.Pick.{pick}
use Rattle.octets.specs.Steps.{and}
use Rattle.index.specs.Index.{items_of}
use Rattle.index.specs.IndexLaws.{items-length}
use Rattle.index.specs.declared.Index.{Index}
use Rattle.unfold.specs.Unfold.{Row, Site}
use Rattle.prune.specs.Renumber.{Calls}
use Rattle.prune.specs.StepLaws.{zero_one}
use Rattle.subset.specs.Kept.{those}
use Rattle.bits.specs.Bits.{count_below}
use Rattle.subset.specs.Pruned.{each, mapped, reached, renumbered_body, renumbered_subrs, stubbed_from}
use Rattle.subset.specs.ReachedLaws.{count_past}
use Rattle.renumber.specs.Turn.{body_of_lem}
use Rattle.renumber.specs.declared.Ranks.{Ranks}
use Rattle.bodies.specs.Ways.{many_of, holds, new_body, body_by, new_subrs, subrs_by, subr_by, reached_in, is_kept, kept_count, every, SubrsIn}
use Rattle.bodies.specs.WritingLaws.{count-every, items_many}
use Rattle.reach.specs.declared.Subrs.{Subrs}
use Rattle.subset.specs.Way.{is_renumbered, is_stubbed, not_both}
use Rattle.subset.specs.declared.Way.{Way}
use Rattle.subset.specs.declared.Way.{Way}

-- ---- what is reached

-- no number from the count on is reached
pub reached-none : (ws : List ℕ) (own : Ranks) (i : ℕ) → own.count ≤ i → reached_in ws own i ≡ false
reached-none ws own i h = rw (le-ltb i own.count h)

-- the words have no number without a subroutine
pub reached-all : (ws : List ℕ) (own : Ranks) → own.count < 65536 → reached (reached_in ws own) ≡ count_below (reached_in ws own) own.count
reached-all ws own h = count_past (reached_in ws own) own.count 65536 (reached-none ws own) (omega arith)

-- ---- each by its number

-- where none fails
each-made : {A : Type 0} (f : ℕ → Option A) (g : ℕ → A) → ((k : ℕ) → f k ≡ Some (g k)) → (ks : List ℕ) → each f ks ≡ Some (mapped g ks)
unfolding each mapped
each-made f g h [] = refl
each-made {A} f g h (k ∷ ks) =
    ap (λ (x : Option A). and x (λ b. and (each f ks) (λ bs. Some (b ∷ bs)))) (h k)
    ∙ ap (λ (x : Option (List A)). and x (λ bs. Some (g k ∷ bs))) (each-made f g h ks)

-- what is made of each item of a list, by its number
module _ (make : ℕ → List ℕ → List ℕ) (all : ℕ → List (List ℕ) → List (List ℕ)) (empty : (k : ℕ) → [] ≡ all k [])
    (first : (k : ℕ) (s : List ℕ) (l : List (List ℕ)) → make k s ∷ all (k + 1) l ≡ all k (s ∷ l)) (subrs : List (List ℕ)) where
  numbered : (k : ℕ) (l : List (List ℕ)) → ((i : ℕ) → get_or subrs (k + i) [] ≡ get_or l i [])
      → mapped (λ j. make j (get_or subrs j [])) (those every (length l) k) ≡ all k l
  unfolding mapped those
  numbered k [] h = empty k
  numbered k (s ∷ l) h =
      let z : k ≡ k + 0 = omega arith in
      let e : get_or subrs k [] ≡ s = ap (λ (i : ℕ). get_or subrs i []) z ∙ h 0 in
      let on = numbered (k + 1) l (λ i. ap (λ (j : ℕ). get_or subrs j []) (let q : k + 1 + i ≡ k + suc i = omega arith in q) ∙ h (suc i)) in
      ap (λ (x : List ℕ). make k x ∷ mapped (λ j. make j (get_or subrs j [])) (those every (length l) (k + 1))) e
      ∙ ap (λ (x : List (List ℕ)). make k s ∷ x) on ∙ first k s l

  numbered-all : mapped (λ j. make j (get_or subrs j [])) (those every (length subrs) 0) ≡ all 0 subrs
  numbered-all = numbered 0 subrs (λ i. ap (λ (j : ℕ). get_or subrs j []) (let q : 0 + i ≡ i = omega arith in q))

-- a subroutine that is reached, or a return
stub_one : (t : Bool) (s : List ℕ) → pick (not t) (Some (11 ∷ [])) (Some s) ≡ Some (pick t s (11 ∷ []))
stub_one true s = refl
stub_one false s = refl

-- ---- by the way

module _ (way : Way) (rows : List Row) (set : ℕ → Bool) (calls : Calls) (site : ℕ → Site) (subrs : List (List ℕ)) where
  -- the subroutines are those that are written, each by its number
  pub subrs-each : reached set ≡ count_below set (length subrs)
      → subrs_by way rows set calls site subrs ≡ each (subr_by way rows set calls site subrs) (those (is_kept way set) (length subrs) 0)
  unfolding renumbered_subrs stubbed_from
  subrs-each e = go (is_renumbered way) (is_stubbed way) apart
    where
      apart : is_renumbered way ≡ true → is_stubbed way ≡ false
      apart = not_both way

      go : (t u : Bool) → (t ≡ true → u ≡ false)
          → pick t (renumbered_subrs rows set calls site subrs) (Some (pick u (stubbed_from set 0 subrs) subrs))
          ≡ each (λ k. pick (pick u (not (set k)) false) (Some (11 ∷ [])) (pick t (renumbered_body rows calls (site k) (get_or subrs k [])) (Some (get_or subrs k []))))
          (those (λ k. pick t (set k) true) (length subrs) 0)
      go true true h = let z : true ≡ false = h refl in absurd (zero_one cc)
      go true false h =
          ap (λ (b : Bool). pick b (each (λ k. renumbered_body rows calls (site k) (get_or subrs k [])) (those set (length subrs) 0)) None)
          (eq-eqb (reached set) (count_below set (length subrs)) e)
      go false true h =
          sym (each-made _ (λ k. pick (set k) (get_or subrs k []) (11 ∷ [])) (λ k. stub_one (set k) (get_or subrs k [])) (those every (length subrs) 0)
          ∙ ap Some (numbered-all (λ k s. pick (set k) s (11 ∷ [])) (stubbed_from set) (λ k. refl) (λ k s l. refl) subrs))
      go false false h =
          sym (each-made _ (λ k. get_or subrs k []) (λ k. refl) (those every (length subrs) 0)
          ∙ ap Some (numbered-all (λ k s. s) (λ k l. l) (λ k. refl) (λ k s l. refl) subrs))

  -- the subroutines, of which none fails
  pub new-subrs_is : new_subrs way rows set calls site subrs ≡ many_of (subrs_by way rows set calls site subrs)
  new-subrs_is = go (is_renumbered way)
    where
      go : (t : Bool) → pick t (many_of (renumbered_subrs rows set calls site subrs)) (pick (is_stubbed way) (stubbed_from set 0 subrs) subrs)
          ≡ many_of (pick t (renumbered_subrs rows set calls site subrs) (Some (pick (is_stubbed way) (stubbed_from set 0 subrs) subrs)))
      go true = refl
      go false = refl

-- a body, where it does not fail
pub new-body_is : (way : Way) (rows : List Row) (calls : Calls) (site : Site) (s : List ℕ) → new_body way rows calls site s ≡ body_of_lem (body_by way rows calls site s)
new-body_is way rows calls site s = go (is_renumbered way)
  where
    go : (t : Bool) → pick t (body_of_lem (renumbered_body rows calls site s)) s ≡ body_of_lem (pick t (renumbered_body rows calls site s) (Some s))
    go true = refl
    go false = refl

-- how many are written
pub kept_many : (way : Way) (set : ℕ → Bool) (n : ℕ) → kept_count way (count_below set n) n ≡ count_below (is_kept way set) n
kept_many way set n = go (is_renumbered way)
  where
    go : (t : Bool) → pick t (count_below set n) n ≡ count_below (λ k. pick t (set k) true) n
    go true = refl
    go false = sym (count-every n)

-- ---- of an INDEX

module _ (way : Way) (b ws : List ℕ) (ix : Index) (own locals globals : Ranks) (rows : List Row) (rising : Bool) (of : Subrs)
    (w : SubrsIn b ws ix own locals globals rows rising of) (calls : Calls) (site : ℕ → Site) where
  count_is : reached (reached_in ws own) ≡ count_below (reached_in ws own) (length (items_of b ix))
  count_is =
      let n : own.count ≡ length (items_of b ix) = w.many ∙ sym (items-length b ix) in
      reached-all ws own (omega (arith, w.many, w.few)) ∙ ap (count_below (reached_in ws own)) n

  pub index-each : subrs_by way rows (reached_in ws own) calls site (items_of b ix)
      ≡ each (subr_by way rows (reached_in ws own) calls site (items_of b ix)) (those (is_kept way (reached_in ws own)) ix.count 0)
  index-each =
      subrs-each way rows (reached_in ws own) calls site (items_of b ix) count_is
      ∙ ap (λ (n : ℕ). each (subr_by way rows (reached_in ws own) calls site (items_of b ix)) (those (is_kept way (reached_in ws own)) n 0)) (items-length b ix)

  -- the number of those written, where the number reached is told
  pub index_many : own.reached ≡ count_below (reached_in ws own) own.count → kept_count way own.reached ix.count ≡ count_below (is_kept way (reached_in ws own)) ix.count
  index_many e =
      ap (λ (r : ℕ). kept_count way r ix.count) (e ∙ ap (count_below (reached_in ws own)) w.many)
      ∙ kept_many way (reached_in ws own) ix.count

  -- way 0 writes those reached, any other all
  pub new-subrs_many : holds (subrs_by way rows (reached_in ws own) calls site (items_of b ix)) ≡ true
      → length (new_subrs way rows (reached_in ws own) calls site (items_of b ix)) ≡ kept_count way (count_below (reached_in ws own) ix.count) ix.count
  new-subrs_many h =
      ap length (new-subrs_is way rows (reached_in ws own) calls site (items_of b ix))
      ∙ items_many (subrs_by way rows (reached_in ws own) calls site (items_of b ix)) (subr_by way rows (reached_in ws own) calls site (items_of b ix))
      (is_kept way (reached_in ws own)) ix.count index-each h
      ∙ sym (kept_many way (reached_in ws own) ix.count)
