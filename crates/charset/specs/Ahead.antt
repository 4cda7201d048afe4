-- The ids from a cursor on: what a pass over the glyphs has left.
use Rattle.std.specs.Prelude.{ℕ, ◌≤◌, ◌≡◌, List, length, drop, Ok}
use Rattle.charset.specs.Listed.{numbers_of}
use Rattle.charset.specs.Charset.{ids_from}
use Rattle.charset.specs.declared.CharsetCursor.{CharsetCursor}

-- the ids of n glyphs from a cursor on
unfoldable pub ids_ahead : List ℕ → CharsetCursor → ℕ → List ℕ
ids_ahead b u n = numbers_of (ids_from u.width n u.id u.left (drop u.at b))

-- a cursor before n glyphs whose ids are not refused
pub record Ahead (b : List ℕ) (u : CharsetCursor) (n : ℕ) : Type 0 where
  pub narrow : u.width ≤ 2
  pub sound : ids_from u.width n u.id u.left (drop u.at b) ≡ Ok (ids_ahead b u n)

-- g of the glyphs with these ids were passed, and so many are left
pub record Passed (ids left : List ℕ) (g : ℕ) : Type 0 where
  pub within : g ≤ length ids
  pub rest : left ≡ drop g ids
