-- The flag of a record of the right form is 1 or 0, so that it is known by whether it is 1.
use Rattle.std.specs.Prelude.{ℕ, ◌≡◌, refl, Bool, true, false, ◌&&◌, ◌%◌, List, eqb, length}
use Rattle.std.proofs.Common.{ap, sym, ◌∙◌, eqb-true}
use Rattle.octets.specs.Pick.{pick}
use Rattle.prune.specs.StepLaws.{zero_one}
use Rattle.record.specs.Record.{rows_of, rows_fine_lem, record_fine}
use Rattle.subset.specs.Flag.{flag_of}

never : (t u : Bool) → pick t (u && false) false ≡ true → ⊥
never true true h = zero_one cc
never true false h = zero_one cc
never false u h = zero_one cc

pub flag_is : (cid : Bool) (rec : List ℕ) (flag : ℕ) → record_fine cid rec flag ≡ true → flag_of (eqb flag 1) ≡ flag
unfolding record_fine
flag_is cid rec flag h = go (eqb flag 0) (eqb flag 1) refl refl
  where
    go : (t u : Bool) → eqb flag 0 ≡ t → eqb flag 1 ≡ u → flag_of (eqb flag 1) ≡ flag
    go t true e f = ap flag_of f ∙ sym (eqb-true flag 1 f)
    go true false e f = ap flag_of f ∙ sym (eqb-true flag 0 e)
    go false false e f =
        let k : pick (eqb flag 0) (eqb (length rec) 0) (eqb flag 1) ≡ false = ap (λ (x : Bool). pick x (eqb (length rec) 0) (eqb flag 1)) e ∙ f in
        absurd (never (eqb (length rec % 10) 0) (rows_fine_lem cid (rows_of rec)) (sym (ap (λ (x : Bool). pick (eqb (length rec % 10) 0) (rows_fine_lem cid (rows_of rec) && x) false) k) ∙ h))
