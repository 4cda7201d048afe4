-- Laws of the FontMatrix of an FD: it is that of the Font DICT at the FD's place in the FD array.
use Rattle.std.specs.Prelude.{ℕ, zero, suc, ◌<◌, ◌≡◌, refl, Bool, true, List, [], ◌∷◌, length, get_or}
use Rattle.std.proofs.Common.{sym, ap, ◌∙◌, arith}
use Rattle.index.specs.Index.{items_of}
use Rattle.index.specs.IndexLaws.{items-length}
use Rattle.dict.specs.Op.{font_matrix}
use Rattle.dict.specs.Lookup.{last_of}
use Rattle.dict.specs.Places.{entries_of}
use Rattle.cff.specs.Font.{dicts_at}
use Rattle.cff.specs.Reads.{GoodFont, dicts_of, program_of}
use Rattle.cff.specs.declared.font.Font.{Font}
use Rattle.subset.specs.Subset.{matrix_of}
use Rattle.private_dicts.specs.PrivatesLaws.{fd-within}

no : ◌≡◌ {A = ℕ} 0 1 → ⊥
no h = omega arith

-- the entries of a Font DICT
dicts-entry : (items : List (List ℕ)) (k : ℕ) → k < length items → get_or (dicts_at items) k [] ≡ entries_of (get_or items k [])
unfolding dicts_at
dicts-entry [] k h = absurd (no (omega arith))
dicts-entry (d ∷ ds) zero h = refl
dicts-entry (d ∷ ds) (suc k) h = dicts-entry ds k (omega arith)

module _ (b : List ℕ) (f : Font) (g : GoodFont b f) (c : f.cid ≡ true) (fd : ℕ) (h : fd < length (program_of b f).privates) (d : List ℕ)
    (e : d ≡ get_or (items_of b f.dicts) fd []) where
  pub matrix_is : last_of font_matrix (entries_of d) ≡ matrix_of (program_of b f) fd
  matrix_is =
      let k : fd < length (items_of b f.dicts) = omega (arith, fd-within b f g fd h c, items-length b f.dicts) in
      ap (λ (x : List ℕ). last_of font_matrix (entries_of x)) e
      ∙ ap (last_of font_matrix) (sym (dicts-entry (items_of b f.dicts) fd k))
      ∙ ap (λ (t : Bool). last_of font_matrix (get_or (dicts_of b t f.dicts) fd [])) (sym c)
