-- An INDEX that is written item by item: behind its head, item k's bytes go behind those of the items before it, and the offset of
-- its end into the table (TN5176, section 5).
use Rattle.std.specs.Prelude.{ℕ, ◌+◌, ◌-◌, ◌*◌, ◌≤◌, ◌≡◌, List, length, take}
use Rattle.octets.specs.Octets.{bytes_of, put}
use Rattle.octets.specs.Lists.{joined}
use Rattle.index.specs.Good.{Lies}
use Rattle.index.specs.Write.{total, ends, table_bytes}
use Rattle.index.specs.declared.Index.{Index}

-- the places of an INDEX in n bytes are for these items
pub record Meant (n : ℕ) (ix : Index) (items : List (List ℕ)) : Type 0 where
  pub lies : Lies n ix
  pub many : ix.count ≡ length items
  pub room : ix.base + 1 + total items ≤ n

-- the place of the offset of item k's end
abbrev pub end_place : Index → ℕ → ℕ
end_place ix k = ix.table + (k + 1) * ix.size

-- item k was written from p on, and the offset of its end, counted from the base, at its place; next is the place after the item
pub record WroteItem (old : List ℕ) (ix : Index) (k p : ℕ) (item new : List ℕ) (next : ℕ) : Type 0 where
  pub is : new ≡ put (put old p item) (end_place ix k) (bytes_of ix.size (p + length item - ix.base))
  pub behind : next ≡ p + length item

-- the first k items were written, and the offsets of their ends behind the first offset; next is the place of item k
pub record Begun (old : List ℕ) (ix : Index) (items : List (List ℕ)) (k : ℕ) (new : List ℕ) (next : ℕ) : Type 0 where
  pub is : new ≡ put (put old (ix.table + ix.size) (table_bytes ix.size (ends 1 (take k items)))) (ix.base + 1) (joined (take k items))
  pub place : next ≡ ix.base + 1 + total (take k items)
