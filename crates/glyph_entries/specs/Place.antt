-- Where an item of a font stands in its file (document 01, 'INDEX item': the part of the caller's bytes itself), as numbers: a place, and a length. The
-- refusals are the lookup's, then that of fewer than two words.
use Rattle.std.specs.Prelude.{ℕ, ◌+◌, ◌≤◌, ◌≡◌, List, [], ◌∷◌, ltb, length, Result, Ok, Err}
use Rattle.octets.specs.Pick.{pick}
use Rattle.octets.specs.Lists.{part_of}
use Rattle.octets.specs.Octets.{put}
use Rattle.refusal.specs.declared.Refusal.{Refusal}
use Rattle.refusal.specs.declared.Refusal.TheVariants.{Output}

-- the item is the part of the file from a place on
pub record Stands (file item : List ℕ) (place : ℕ) : Type 0 where
  pub inside : place + length item ≤ length file
  pub is : part_of file place (length item) ≡ item

-- the result that the call returns, by the lookup's and the words that are lent, and what is lent after it
abbrev pub result_of : Result Unit Refusal → ℕ → Result Unit Refusal
result_of (Err n) words = Err n
result_of (Ok u) words = pick (ltb words 2) (Err Output) (Ok tt)

abbrev pub leaves_words : Result Unit Refusal → ℕ → ℕ → List ℕ → List ℕ
leaves_words (Err n) place len old = old
leaves_words (Ok u) place len old = put old 0 (place ∷ len ∷ [])

-- a call's result, by the lookup's and its item; and the lent words before and after
pub record Shows (file : List ℕ) (lookup : Result Unit Refusal) (item answer answer' : List ℕ) (r : Result Unit Refusal) : Type 0 where
  pub result : r ≡ result_of lookup (length answer)
  pub place : ℕ
  pub stands : r ≡ Ok tt → Stands file item place
  pub words : answer' ≡ leaves_words r place (length item) answer
