-- An INDEX as it is written (TN5176, section 5; the Rust's `index`): the offsets start at 1 and have the smallest size that holds
-- the last of them, the length of the data and 1. An INDEX of no item is its count alone.
use Rattle.std.specs.Prelude.{ℕ, ◌+◌, ◌-◌, ◌*◌, List, [], ◌∷◌, ◌++◌, length, ltb, eqb}
use Rattle.octets.specs.Pick.{pick}
use Rattle.octets.specs.Octets.{bytes_of}
use Rattle.octets.specs.Lists.{joined}
use Rattle.index.specs.Index.{empty_at}
use Rattle.index.specs.declared.Index.{Index}

-- how many bytes the items have together
unfoldable pub total : List (List ℕ) → ℕ
total [] = 0
total (x ∷ xs) = length x + total xs

-- the smallest offset size that holds v
unfoldable pub size_for : ℕ → ℕ
size_for v = pick (ltb v 256) 1 (pick (ltb v 65536) 2 (pick (ltb v 16777216) 3 4))

-- where each item ends, if the first starts at s
unfoldable pub ends : ℕ → List (List ℕ) → List ℕ
ends s [] = []
ends s (x ∷ xs) = (s + length x) ∷ ends (s + length x) xs

-- numbers of size bytes each
unfoldable pub table_bytes : ℕ → List ℕ → List ℕ
table_bytes size [] = []
table_bytes size (v ∷ vs) = bytes_of size v ++ table_bytes size vs

-- what stands before the ends: the count and, where there are items, the offset size and the first offset
unfoldable pub head_bytes : ℕ → ℕ → List ℕ
head_bytes count size = bytes_of 2 count ++ pick (eqb count 0) [] (size ∷ bytes_of size 1)

-- what stands behind them: where each item ends, and the data
unfoldable pub items_bytes : ℕ → List (List ℕ) → List ℕ
items_bytes size items = table_bytes size (ends 1 items) ++ joined items

-- the offset size of an INDEX of some items
abbrev pub size_of : List (List ℕ) → ℕ
size_of items = size_for (total items + 1)

-- an INDEX of some items
unfoldable pub index_bytes : List (List ℕ) → List ℕ
index_bytes items = head_bytes (length items) (size_of items) ++ items_bytes (size_of items) items

-- how long an INDEX of count items is that have t bytes together
unfoldable pub index_len_lem : ℕ → ℕ → ℕ
index_len_lem count t = 2 + pick (eqb count 0) 0 (1 + ((count + 1) * size_for (t + 1) + t))

-- the parts of an INDEX of count items that have t bytes together, with offsets of a size that stand at table
abbrev pub parts_at : ℕ → ℕ → ℕ → ℕ → Index
parts_at table count size t =
    record {
      count = count;
      size = size;
      table = table;
      base = table + (count + 1) * size - 1;
      end = table + (count + 1) * size + t;
    }

-- where the parts of an INDEX go that is written at a place
unfoldable pub index_for_lem : ℕ → ℕ → ℕ → Index
index_for_lem at count t = pick (eqb count 0) (empty_at at) (parts_at (at + 3) count (size_for (t + 1)) t)

-- the same, of the items
abbrev pub layout : ℕ → List (List ℕ) → Index
layout at items = index_for_lem at (length items) (total items)
