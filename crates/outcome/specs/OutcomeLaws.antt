-- The outcome of a cut by the tests of the code: a string id, pairs, a subset too long and one longer than the output are refused in this order, or the
-- subset stands in the front of the output.
use Rattle.std.specs.Prelude.{ℕ, ◌≤◌, ◌<◌, ◌≡◌, refl, Bool, true, false, List, ltb, length, Result, Err}
use Rattle.std.proofs.Common.{sym, ap, ◌∙◌, subst, lt-ltb, le-ltb}
use Rattle.octets.specs.Pick.{pick}
use Rattle.octets.specs.Octets.{put}
use Rattle.cff.specs.Font.{Program}
use Rattle.subset.specs.Pruned.{Pruned}
use Rattle.subset.specs.Codes.{Coded, pair_count}
use Rattle.subset.specs.Subset.{subset_bytes}
use Rattle.subset.specs.Cut.{Outcome, refused, subset, own_of, written}
use Rattle.outcome.specs.Entry.{Cut, a_cut}
use Rattle.outcome.specs.declared.Subsetted.{Subsetted}
use Rattle.refusal.specs.declared.Refusal.{Refusal}
use Rattle.refusal.specs.declared.Refusal.TheVariants.{Subset, Output, StringId, Pairs}
use Rattle.subset.specs.declared.Way.{Way}

module _ (p : Program) (coded : Coded) (name kept order : List ℕ) (room : ℕ) (q : Pruned) (out : List ℕ) where
  abbrev bytes : List ℕ
  bytes = subset_bytes p coded name kept order q.bodies

  abbrev chosen : Bool → Bool → Bool → Bool → Outcome
  chosen a m b c = pick a (refused StringId) (pick m (refused Pairs) (pick b (refused Subset) (pick c (refused Output) (subset q.way bytes))))

  -- the outcome by what the tests say
  by_tests : (a m b c : Bool) → ltb 64609 (length (own_of p order)) ≡ a → ltb 255 (pair_count coded) ≡ m → ltb 67108864 (length bytes) ≡ b → ltb room (length bytes) ≡ c
      → written p coded name kept order room q ≡ chosen a m b c
  by_tests a m b c x n y z = rw (x, n, y, z)

  cut_as : (o : Outcome) → written p coded name kept order room q ≡ o → (out' : List ℕ) (r : Result Subsetted Refusal) → Cut o out out' r
      → Cut (written p coded name kept order room q) out out' r
  cut_as o e out' r k = subst (λ (x : Outcome). Cut x out out' r) (sym e) k

  -- too many own strings
  pub cut-strings : 64609 < length (own_of p order) → Cut (written p coded name kept order room q) out out (Err StringId)
  cut-strings h =
      cut_as (refused StringId) (by_tests true _ _ _ (lt-ltb 64609 (length (own_of p order)) h) refl refl refl) out (Err StringId)
      (record { answers = refl; output = refl })

  module _ (few : length (own_of p order) ≤ 64609) where
    strings : ltb 64609 (length (own_of p order)) ≡ false
    strings = le-ltb 64609 (length (own_of p order)) few

    -- too many pairs
    pub cut-pairs : 255 < pair_count coded → Cut (written p coded name kept order room q) out out (Err Pairs)
    cut-pairs h =
        cut_as (refused Pairs) (by_tests false true _ _ strings (lt-ltb 255 (pair_count coded) h) refl refl) out (Err Pairs)
        (record { answers = refl; output = refl })

    module _ (fit : pair_count coded ≤ 255) where
      codes : ltb 255 (pair_count coded) ≡ false
      codes = le-ltb 255 (pair_count coded) fit

      -- too long
      pub cut_long : 67108864 < length bytes → Cut (written p coded name kept order room q) out out (Err Subset)
      cut_long h =
          cut_as (refused Subset) (by_tests false false true _ strings codes (lt-ltb 67108864 (length bytes) h) refl) out (Err Subset)
          (record { answers = refl; output = refl })

      module _ (short : length bytes ≤ 67108864) where
        small : ltb 67108864 (length bytes) ≡ false
        small = le-ltb 67108864 (length bytes) short

        -- too little room
        pub cut-room : room < length bytes → Cut (written p coded name kept order room q) out out (Err Output)
        cut-room h =
            cut_as (refused Output) (by_tests false false false true strings codes small (lt-ltb room (length bytes) h)) out (Err Output)
            (record { answers = refl; output = refl })

        -- written
        pub cut-written : length bytes ≤ room → (way : Way) (n : ℕ) (out' : List ℕ) → way ≡ q.way → n ≡ length bytes → out' ≡ put out 0 bytes
            → Cut (written p coded name kept order room q) out out' (a_cut way n)
        cut-written h way n out' w l e =
            cut_as (subset q.way bytes) (by_tests false false false false strings codes small (le-ltb room (length bytes) h)) out' (a_cut way n)
            (record { answers = ap (λ (x : Way). a_cut x n) w ∙ ap (a_cut q.way) l; output = e })
