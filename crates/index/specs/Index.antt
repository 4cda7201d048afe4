-- An INDEX of TN5176, section 5: a count of two bytes; where it is not 0, an offset size, count + 1 offsets and the data.
-- Offsets are counted from the byte before the data. Tests stand in the order of the Rust's read_index.
use Rattle.std.specs.Prelude.{ℕ, zero, suc, ◌+◌, ◌-◌, ◌*◌, List, [], ◌∷◌, Bool, not, length, take, drop, get_or, ltb, eqb, Result, Ok, Err}
use Rattle.octets.specs.Pick.{pick}
use Rattle.octets.specs.Octets.{be, num_at}
use Rattle.index.specs.declared.Index.{Index}
use Rattle.refusal.specs.declared.Refusal.{Refusal}
use Rattle.refusal.specs.declared.Refusal.TheVariants.{Truncated, Malformed}

-- the n numbers of size bytes each that stand at the front of the list
unfoldable pub offsets : ℕ → ℕ → List ℕ → List ℕ
offsets zero size bs = []
offsets (suc n) size bs = be 0 (take size bs) ∷ offsets n size (drop size bs)

-- the offsets of a table: the first, and the count others, where the items end
abbrev pub first_of : List ℕ → ℕ → ℕ → ℕ
first_of b table size = num_at b table size

abbrev pub ends_of : List ℕ → ℕ → ℕ → ℕ → List ℕ
ends_of b table size count = offsets count size (drop (table + size) b)

-- which first offset is malformed: any but 1 (TN5176, section 5; document 02, Wish 5)
abbrev pub first_bad : ℕ → Bool
first_bad first = not (eqb first 1)

-- a run of offsets, each the end of one item and the start of the next: the last of them, or the refusal of the first bad
-- pair: malformed where it falls, truncated where its end is past the room
unfoldable pub run_of : ℕ → ℕ → List ℕ → Result ℕ Refusal
run_of room start [] = Ok start
run_of room start (end ∷ ends) = pick (ltb end start) (Err Malformed) (pick (ltb room end) (Err Truncated) (run_of room end ends))

-- what is found once the run was judged
unfoldable pub judged : ℕ → ℕ → ℕ → ℕ → Result ℕ Refusal → Result Index Refusal
judged count size table base (Err e) = Err e
judged count size table base (Ok l) = Ok (record { count = count; size = size; table = table; base = base; end = base + l })

-- from the offset table on, of an INDEX whose data stands at past
unfoldable pub data_at : List ℕ → ℕ → ℕ → ℕ → ℕ → Result Index Refusal
data_at b table count size past =
    pick (ltb (length b) past) (Err Truncated)
    (pick (first_bad (first_of b table size)) (Err Malformed)
    (judged count size table (past - 1) (run_of (length b - (past - 1)) (first_of b table size) (ends_of b table size count))))

-- from the offset size on
unfoldable pub table_at : List ℕ → ℕ → ℕ → ℕ → Result Index Refusal
table_at b table count size =
    pick (ltb size 1) (Err Malformed)
    (pick (ltb 4 size) (Err Malformed)
    (data_at b table count size (table + (count + 1) * size)))

-- an INDEX of no item is its count alone; the data, of no byte, stands behind it
abbrev pub empty_at : ℕ → Index
empty_at at = record { count = 0; size = 1; table = at + 1; base = at + 1; end = at + 2 }

-- the INDEX at a place: where its parts are, or the refusal
unfoldable pub index_at : List ℕ → ℕ → Result Index Refusal
index_at b at =
    pick (ltb (length b) (at + 2)) (Err Truncated)
    (pick (eqb (num_at b at 2) 0) (Ok (empty_at at))
    (pick (ltb (length b) (at + 3)) (Err Truncated)
    (table_at b (at + 3) (num_at b at 2) (get_or b (at + 2) 0))))

-- the parts of d between one offset and the next
unfoldable pub pieces : List ℕ → ℕ → List ℕ → List (List ℕ)
pieces d start [] = []
pieces d start (end ∷ ends) = take (end - start) (drop start d) ∷ pieces d end ends

-- the items of an INDEX
unfoldable pub items_of : List ℕ → Index → List (List ℕ)
items_of b ix = pieces (drop ix.base b) (first_of b ix.table ix.size) (ends_of b ix.table ix.size ix.count)

-- what a reader of an INDEX gets: the refusal, or the items and the place after it
pub data Read : Type 0 where
  refused : Refusal → Read
  found : List (List ℕ) → ℕ → Read

-- the items for the places
unfoldable pub told : List ℕ → Result Index Refusal → Read
told b (Err e) = refused e
told b (Ok ix) = found (items_of b ix) ix.end

-- an INDEX as a reader gets it
unfoldable pub read_index : List ℕ → ℕ → Read
read_index b at = told b (index_at b at)
