-- Where a part of a lent slice lies (document 01: an item is the part of the caller's bytes itself): in the slice's own block of memory, so
-- many bytes behind the slice's first.
use Rattle.std.specs.Prelude.{ℕ, ◌+◌, ◌≡◌, List}
use Rattle.std.specs.Borrow.{Bor}
use Rattle.index.specs.Good.{offset_of}
use Rattle.index.specs.declared.Index.{Index}

-- the part r of the slice s begins at place at of it
abbrev pub StartsAt : Bor (List ℕ) → Bor (List ℕ) → ℕ → Type 0
StartsAt r s at = (r.ref_ptr.0 ≡ s.ref_ptr.0) × (r.ref_ptr.1 ≡ s.ref_ptr.1 + at)

-- where the k-th item of an INDEX begins
abbrev pub item_place : List ℕ → Index → ℕ → ℕ
item_place b ix k = ix.base + offset_of b ix k
