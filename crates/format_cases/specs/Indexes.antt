-- Stored cases of an INDEX (tools/oracle/README.md, 'format', kind x): the answer to a position and a font, from the definition that
-- `index::read_index` meets.
use Rattle.std.specs.Prelude.{ℕ, zero, suc, ◌+◌, ◌-◌, List, [], ◌∷◌, ◌++◌, ltb, length, drop, None, Option, Some, Result, Ok, Err}
use Rattle.octets.specs.Pick.{pick}
use Rattle.octets.specs.Octets.{num_at, bytes_of}
use Rattle.index.specs.Index.{index_at}
use Rattle.index.specs.Good.{offset_of}
use Rattle.index.specs.declared.Index.{Index}
use Rattle.refusal.specs.declared.Refusal.{Refusal}
use Rattle.refusal.specs.Refusal.{number_of}

-- the k-th item: where it starts in the font, and its length
unfoldable pub item_bytes : List ℕ → Index → ℕ → List ℕ
item_bytes b ix k = bytes_of 4 (ix.base + offset_of b ix k) ++ bytes_of 2 (offset_of b ix (k + 1) - offset_of b ix k)

-- n items from the k-th on
unfoldable pub items_bytes : List ℕ → Index → ℕ → ℕ → List ℕ
items_bytes b ix k zero = []
items_bytes b ix k (suc n) = item_bytes b ix k ++ items_bytes b ix (k + 1) n

-- no refusal, the place after the INDEX, and its count
unfoldable pub head_bytes : Index → List ℕ
head_bytes ix = (0 ∷ bytes_of 4 ix.end) ++ bytes_of 2 ix.count

-- the refusal's number, or the INDEX; none where it has more than 600 items, whose answer has no room
abbrev pub index_found : List ℕ → Result Index Refusal → Option (List ℕ)
index_found b (Err e) = Some (number_of e ∷ [])
index_found b (Ok ix) = pick (ltb 600 ix.count) None (Some (head_bytes ix ++ items_bytes b ix 0 ix.count))

-- kind x: a position and a font
unfoldable pub index_answer : List ℕ → Option (List ℕ)
index_answer s = pick (ltb (length s) 2) None (index_found (drop 2 s) (index_at (drop 2 s) (num_at s 0 2)))
