-- Laws of ids that rise with the glyph: glyph after glyph, and that glyphs whose CIDs rise are in the order of their CIDs.
use Rattle.std.specs.Prelude.{ℕ, ◌+◌, ◌-◌, ◌≤◌, ◌<◌, ◌≡◌, Bool, true, ltb}
use Rattle.std.proofs.Math.Path.{refl, sym, ap}
use Rattle.std.proofs.Common.{◌∙◌, arith}
use Rattle.std.proofs.Math.Bool.{false}
use mathlib.Core.List.{List, [], ◌∷◌}
use borrow.Author.Tests.{lt-ltb, le-ltb, ltb-false, le-leb}
use Rattle.std.proofs.Math.ListN.{get_or}
use Rattle.octets.specs.Pick.{pick}
use Rattle.octets.specs.PickLaws.{other_holds}
use Rattle.subset.specs.Kept.{those, placed, sorted_by}
use Rattle.subset.specs.Pruned.{mapped}
use Rattle.kept.specs.GatherLaws.{those-taken, those-passed, those_done, those-whole}
use Rattle.order.specs.Order.{rises_from, ids_for}

-- whether the ids of the glyphs from g on rise, from `low` on
abbrev rises_on : List ℕ → (ℕ → Bool) → ℕ → ℕ → ℕ → Bool
rises_on ids test n low g = rises_from low (ids_for ids (those test (n - g) g))

-- those of the glyphs before g rise and are below `low`: the others decide
pub record Rising (ids : List ℕ) (test : ℕ → Bool) (n low g : ℕ) : Type 0 where
  pub small : low ≤ 65536
  pub same : rises_on ids test n low g ≡ rises_from 0 (ids_for ids (those test n 0))

pub rise-start : (ids : List ℕ) (test : ℕ → Bool) (n : ℕ) → Rising ids test n 0 0
rise-start ids test n = record { small = omega arith; same = ap (λ (l : List ℕ). rises_from 0 (ids_for ids l)) (those-whole test n) }

module _ (ids : List ℕ) (test : ℕ → Bool) (n low g : ℕ) (r : Rising ids test n low g) where
  pub rise_done : n ≤ g → true ≡ rises_from 0 (ids_for ids (those test n 0))
  unfolding rises_from mapped
  rise_done h = sym (ap (λ (l : List ℕ). rises_from low (ids_for ids l)) (those_done test n g h)) ∙ r.same

  module _ (h : g < n) where
    pub rise-passed : test g ≡ false → Rising ids test n low (g + 1)
    rise-passed t = record { small = r.small; same = sym (ap (λ (l : List ℕ). rises_from low (ids_for ids l)) (those-passed test n g h t)) ∙ r.same }

    module _ (t : test g ≡ true) (id : ℕ) (is : id ≡ get_or ids g 0) where
      rise-here : rises_on ids test n low g ≡ pick (ltb id low) false (rises_on ids test n (id + 1) (g + 1))
      unfolding rises_from mapped
      rise-here =
          ap (λ (l : List ℕ). rises_from low (ids_for ids l)) (those-taken test n g h t)
          ∙ ap (λ (x : ℕ). pick (ltb x low) false (rises_on ids test n (x + 1) (g + 1))) (sym is)

      pub rise_stops : id < low → false ≡ rises_from 0 (ids_for ids (those test n 0))
      rise_stops l = sym (rise-here ∙ ap (λ (b : Bool). pick b false (rises_on ids test n (id + 1) (g + 1))) (lt-ltb id low l)) ∙ r.same

      pub rise-on : low ≤ id → id < 65536 → Rising ids test n (id + 1) (g + 1)
      rise-on l m =
          record {
            small = omega arith;
            same = sym (rise-here ∙ ap (λ (b : Bool). pick b false (rises_on ids test n (id + 1) (g + 1))) (le-ltb id low l)) ∙ r.same;
          }

-- ---- the order of their CIDs

module _ (ids : List ℕ) where
  placed-front : (g : ℕ) (gs : List ℕ) → rises_from (get_or ids g 0 + 1) (ids_for ids gs) ≡ true → placed (λ x. get_or ids x 0) g gs ≡ g ∷ gs
  unfolding placed rises_from mapped
  placed-front g [] h = refl
  placed-front g (x ∷ gs) h =
      let p = other_holds (ltb (get_or ids x 0) (get_or ids g 0 + 1)) (rises_from (get_or ids x 0 + 1) (ids_for ids gs)) h in
      let l = ltb-false (get_or ids x 0) (get_or ids g 0 + 1) p.0 in
      ap (λ (b : Bool). pick b (g ∷ x ∷ gs) (x ∷ placed (λ y. get_or ids y 0) g gs)) (le-leb (get_or ids g 0) (get_or ids x 0) (omega arith))

  pub rises_sorted : (low : ℕ) (gs : List ℕ) → rises_from low (ids_for ids gs) ≡ true → sorted_by (λ x. get_or ids x 0) gs ≡ gs
  unfolding sorted_by rises_from mapped
  rises_sorted low [] h = refl
  rises_sorted low (g ∷ gs) h =
      let p = other_holds (ltb (get_or ids g 0) low) (rises_from (get_or ids g 0 + 1) (ids_for ids gs)) h in
      ap (placed (λ x. get_or ids x 0) g) (rises_sorted (get_or ids g 0 + 1) gs p.1) ∙ placed-front g gs p.1
