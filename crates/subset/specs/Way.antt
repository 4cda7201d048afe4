-- The way in which a subset has its bodies (document 01): renumbered, stubbed where that fails, copied where the glyphs could not be traced.
use Rattle.std.specs.Prelude.{ℕ, ◌≡◌, refl, Bool, true, false, eqb}
use Rattle.std.proofs.Common.{sym}
use denote.Enum.Bare.{sameb}
use Rattle.octets.specs.Pick.{pick}
use Rattle.subset.specs.contracts.Way.{the_type}
use Rattle.subset.specs.declared.Way.{Way}
use Rattle.subset.specs.declared.Way.TheVariants.{Renumbered, Stubbed, Copied}

abbrev pub is_renumbered : Way → Bool
is_renumbered w = sameb the_type w Renumbered

abbrev pub is_stubbed : Way → Bool
is_stubbed w = sameb the_type w Stubbed

-- what they say of each way
pub renumbered_told : (is_renumbered Renumbered ≡ true) × (is_renumbered Stubbed ≡ false) × (is_renumbered Copied ≡ false)
renumbered_told = (refl, refl, refl)

pub stubbed_told : (is_stubbed Renumbered ≡ false) × (is_stubbed Stubbed ≡ true) × (is_stubbed Copied ≡ false)
stubbed_told = (refl, refl, refl)

-- its number in an answer
abbrev pub way_number : Way → ℕ
way_number Renumbered = 0
way_number Stubbed = 1
way_number Copied = 2

-- the way that a number stands for, any number being one
abbrev pub way_of : ℕ → Way
way_of n = pick (eqb n 0) Renumbered (pick (eqb n 1) Stubbed Copied)

pub way_back : (w : Way) → way_of (way_number w) ≡ w
way_back Renumbered = refl
way_back Stubbed = refl
way_back Copied = refl

-- 0 is renumbered, 1 stubbed, and no other number is either
by_tests : (z o : Bool) → (is_renumbered (pick z Renumbered (pick o Stubbed Copied)) ≡ z) × (is_stubbed (pick z Renumbered (pick o Stubbed Copied)) ≡ pick z false o)
by_tests true o = (refl, refl)
by_tests false true = (refl, refl)
by_tests false false = (refl, refl)

pub renumbered_of : (n : ℕ) → is_renumbered (way_of n) ≡ eqb n 0
renumbered_of n = (by_tests (eqb n 0) (eqb n 1)).0

pub stubbed_of : (n : ℕ) → is_stubbed (way_of n) ≡ pick (eqb n 0) false (eqb n 1)
stubbed_of n = (by_tests (eqb n 0) (eqb n 1)).1

-- a renumbered one is not stubbed
pub not_both : (w : Way) → is_renumbered w ≡ true → is_stubbed w ≡ false
not_both Renumbered e = refl
not_both Stubbed e = sym e
not_both Copied e = refl
