-- The first glyph of a subset: its string id, and its CID, is 0 as in the font (TN5176, section 13: glyph 0 is .notdef).
use Prim.Native.Nat.{ℕ, zero, suc, ◌<◌}
use Rattle.std.specs.Prelude.{◌≡◌, length, Some}
use Rattle.std.proofs.Math.Path.{refl, ap}
use Rattle.std.proofs.Common.{◌∙◌, not-suc-le-zero, arith}
use mathlib.Core.List.{List, [], ◌∷◌}
use Rattle.std.proofs.Math.ListN.{get_or}
use Rattle.strings.specs.Strings.{string_text, sid_of}
use Rattle.strings.proofs.StringsLaws.{string_standard, sid_standard}
use Rattle.cff.specs.Font.{Program}
use Rattle.subset.specs.Kept.{those, kept_of, sorted_by, keeps}
use Rattle.subset.specs.Texts.{new_id, name_of, names_of}
use Rattle.subset.specs.Subset.{new_ids, cids_of}
use Rattle.faithful.specs.Laid.{GoodProgram}
use Rattle.subset.specs.KeptListLaws.{sorted-first}
use Rattle.faithful.specs.KeptLaws.{kept-front}

-- its name has the id 0
notdef_id : (p : Program) (own : List (List ℕ)) → get_or p.ids 0 0 ≡ 0 → new_id own (name_of p 0) ≡ 0
unfolding new_id
notdef_id p own e =
    let s : sid_of (name_of p 0) ≡ Some 0 =
    ap (λ (k : ℕ). sid_of (string_text p.strings k)) e ∙ ap sid_of (string_standard p.strings 0 (omega arith)) ∙ sid_standard 0 (omega arith) in
    rw s

-- where the id of glyph 0 is 0
module _ (p : Program) (keep : List ℕ) (z : get_or p.ids 0 0 ≡ 0) where
  -- the first id of n glyphs kept by name
  first-name-of : (n : ℕ) (own : List (List ℕ)) → 0 < n → get_or (new_ids own (names_of p (kept_of n keep))) 0 0 ≡ 0
  unfolding names_of new_ids
  first-name-of zero own h = absurd (not-suc-le-zero h)
  first-name-of (suc n) own h = ap (λ (l : List ℕ). get_or (new_ids own (names_of p l)) 0 0) (kept-front n keep) ∙ notdef_id p own z

  -- the first CID where glyph 0 stands first
  cid_at : (l : List ℕ) → get_or l 0 0 ≡ 0 → get_or (cids_of p l) 0 0 ≡ 0
  unfolding cids_of
  cid_at [] e = refl
  cid_at (g ∷ gs) e = ap (λ (k : ℕ). get_or p.ids k 0) e ∙ z

  -- the first CID of n glyphs kept by CID
  first_cid_of : (n : ℕ) → 0 < n → get_or (cids_of p (sorted_by (λ g. get_or p.ids g 0) (kept_of n keep))) 0 0 ≡ 0
  first_cid_of zero h = absurd (not-suc-le-zero h)
  first_cid_of (suc n) h =
      ap (λ (l : List ℕ). get_or (cids_of p (sorted_by (λ g. get_or p.ids g 0) l)) 0 0) (kept-front n keep)
      ∙ cid_at (sorted_by (λ g. get_or p.ids g 0) (0 ∷ those (keeps keep) n 1)) (sorted-first (λ g. get_or p.ids g 0) 0 (those (keeps keep) n 1) z)

-- the first glyph's string id is 0 in the subset too
pub first-name : (p : Program) (keep : List ℕ) → GoodProgram p → (own : List (List ℕ))
    → get_or (new_ids own (names_of p (kept_of (length p.charstrings) keep))) 0 0 ≡ 0
first-name p keep good own = first-name-of p keep good.notdef (length p.charstrings) own good.some

-- and so is its CID
pub first_cid : (p : Program) (keep : List ℕ) → GoodProgram p
    → get_or (cids_of p (sorted_by (λ g. get_or p.ids g 0) (kept_of (length p.charstrings) keep))) 0 0 ≡ 0
first_cid p keep good = first_cid_of p keep good.notdef (length p.charstrings) good.some
