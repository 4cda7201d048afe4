-- Worked example: in document 01's font both charstrings are the byte `0e`, at 27 and 28. A lookup of charstring 1 that answers the byte at 27
-- holds what it should, and is another part: no INDEX of these items puts its second item there, since its first would stand at 26.
use Rattle.std.specs.Prelude.{ℕ, ◌+◌, ◌-◌, ◌≡◌, List, [], ◌∷◌, length, take, drop, get_or}
use Rattle.std.proofs.Common.{sym, ap, ◌∙◌, arith}
use Rattle.std.specs.Borrow.{Bor}
use Rattle.index.specs.Index.{items_of}
use Rattle.index.specs.Good.{Good, offset_of}
use Rattle.index.specs.Place.{item_place}
use Rattle.index.specs.IndexLaws.{items-length, item-within, item_is, item_long}
use Rattle.index.specs.declared.Index.{Index}
use Rattle.cff.specs.Place.{ItemAt}
use Rattle.cff.specs.Examples.{sheet}

-- its charstrings
abbrev two : List (List ℕ)
two = (0x0e ∷ []) ∷ (0x0e ∷ []) ∷ []

module _ (ix : Index) (good : Good sheet ix) (holds : items_of sheet ix ≡ two) where
  many : ix.count ≡ 2
  many = sym (items-length sheet ix) ∙ ap length holds

  -- the first item has one byte
  apart : offset_of sheet ix 1 - offset_of sheet ix 0 ≡ 1
  apart =
      let l : length (get_or (items_of sheet ix) 0 []) ≡ 1 = ap (λ (items : List (List ℕ)). length (get_or items 0 [])) holds in
      sym (item_long sheet ix good 0 (omega (arith, many))) ∙ l

  -- if the second is at 27, the first is at 26, where another byte stands
  not_27 : item_place sheet ix 1 ≡ 27 → ⊥
  not_27 e =
      let at : ix.base + offset_of sheet ix 0 ≡ 26 = omega (arith, e, apart, (item-within sheet ix good 0 (omega (arith, many))).0) in
      let is : get_or (items_of sheet ix) 0 [] ≡ take 1 (drop 26 sheet) =
      item_is sheet ix good 0 (omega (arith, many))
      ∙ ap (λ (n : ℕ). take n (drop (ix.base + offset_of sheet ix 0) sheet)) apart ∙ ap (λ (n : ℕ). take 1 (drop n sheet)) at in
      let same : ◌≡◌ {A = ℕ} 14 3 = ap (λ (l : List ℕ). get_or l 0 0) (sym (ap (λ (items : List (List ℕ)). get_or items 0 []) holds) ∙ is) in
      absurd (omega (arith, same))

-- charstring 1 is not the part at 27
not_the_first : (r s : Bor (List ℕ)) → r.ref_ptr.1 ≡ s.ref_ptr.1 + 27 → ItemAt sheet 0 two 1 r s → ⊥
not_the_first r s e i = not_27 i.index i.good i.holds (omega (arith, e, i.starts.1))
