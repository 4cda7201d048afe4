-- An INDEX that was written reads back, wherever it stands: where its parts are, its items, and the place after it.
use Rattle.std.specs.Prelude.{ℕ, suc, ◌+◌, ◌-◌, ◌*◌, ◌^◌, ◌≤◌, ◌<◌, ◌≡◌, take, get_or, Ok}
use Rattle.std.proofs.Math.Path.{refl, sym, ap}
use Rattle.std.proofs.Common.{◌∙◌, add-mul, add-zero, le-ltb, length-append, length-drop, take_at, drop_at, drop-drop, get_or-drop}
use mathlib.Core.List.{List, [], ◌∷◌, ◌++◌, append_assoc}
use native.Mathlib.Omega.{arith}
use Rattle.std.proofs.Math.ListN.{length, drop}
use Rattle.std.proofs.Math.Seq.{drop-append_seam}
use Rattle.std.proofs.lemmas.List.{get_or_at}
use Rattle.octets.specs.Octets.{be, num_at, bytes_of, Wrote}
use Rattle.octets.specs.OctetsLaws.{length-bytes, be-front, drop-front, num-written}
use Rattle.octets.specs.PutLaws.{drop-put-at}
use Rattle.octets.specs.Lists.{joined}
use Rattle.index.specs.Index.{offsets, first_of, ends_of, run_of, judged, table_at, index_at, pieces, items_of, found, read_index}
use Rattle.index.specs.Good.{Good}
use Rattle.index.specs.IndexLaws.{run_none, run_on, table-judged, index-table}
use Rattle.index.proofs.FoundLaws.{found-good, read_found}
use Rattle.index.specs.Write.{total, ends, table_bytes, items_bytes, size_of, index_bytes, parts_at, index_for_lem, layout}
use Rattle.index.specs.WriteLaws.{size_low, size-high, size_holds, length-ends, length-join, length-table, head-some, index-none, length-index, for_some, for_end}

-- ---- the offsets

-- the ends of the items read back
offsets-ends : (size s : ℕ) (items : List (List ℕ)) (rest : List ℕ) → s + total items < 256 ^ size
    → offsets (length items) size (table_bytes size (ends s items) ++ rest) ≡ ends s items
unfolding offsets table_bytes ends total
offsets-ends size s [] rest h = refl
offsets-ends size s (x ∷ xs) rest h =
    let k : s + length x < 256 ^ size = omega arith in
    let m : s + length x + total xs < 256 ^ size = omega arith in
    rw (append_assoc, be-front size (s + length x) (table_bytes size (ends (s + length x) xs) ++ rest) k, drop-front)
    (ap (λ (l : List ℕ). (s + length x) ∷ l) (offsets-ends size (s + length x) xs rest m))

-- they are a run that passes
run_ends : (room s : ℕ) (items : List (List ℕ)) → s + total items ≤ room → run_of room s (ends s items) ≡ Ok (s + total items)
unfolding ends total
run_ends room s [] h = run_none room s ∙ ap Ok (sym (add-zero s))
run_ends room s (x ∷ xs) h =
    let i : s ≤ s + length x = omega arith in
    let k : s + length x ≤ room = omega arith in
    let m : s + length x + total xs ≡ s + (length x + total xs) = omega arith in
    run_on room s (s + length x) (ends (s + length x) xs) i k ∙ run_ends room (s + length x) xs (omega arith) ∙ ap Ok m

-- and the items are what lies between them
pieces-ends : (d post : List ℕ) (s : ℕ) (items : List (List ℕ)) → drop s d ≡ joined items ++ post → pieces d s (ends s items) ≡ items
unfolding ends pieces joined
pieces-ends d post s [] h = refl
pieces-ends d post s (x ∷ xs) h =
    let n : s + length x - s ≡ length x = omega arith in
    let e : drop s d ≡ x ++ (joined xs ++ post) = h ∙ append_assoc x (joined xs) post in
    let f : take (length x) (drop s d) ≡ x = rw e (take_at x (joined xs ++ post) (length x) refl) in
    let g : drop (s + length x) d ≡ joined xs ++ post = sym (drop-drop (length x) s d) ∙ rw e (drop_at x (joined xs ++ post) (length x) refl) in
    rw (n, f, pieces-ends d post (s + length x) xs g)

-- ---- the table

-- a table of offsets and the items after it, at a place of b
module _ (b : List ℕ) (table size : ℕ) (items : List (List ℕ)) (post : List ℕ)
    (low : 1 ≤ size) (high : size ≤ 4) (holds : 1 + total items < 256 ^ size)
    (lies : drop table b ≡ bytes_of size 1 ++ (table_bytes size (ends 1 items) ++ (joined items ++ post))) where
  -- the first offset is 1
  first_lies : first_of b table size ≡ 1
  first_lies = num-written b table size 1 _ (omega arith) lies

  -- the ends stand behind it
  ends_lie : drop (table + size) b ≡ table_bytes size (ends 1 items) ++ (joined items ++ post)
  ends_lie = sym (drop-drop size table b) ∙ rw lies (drop-front size 1 _)

  ends_read : ends_of b table size (length items) ≡ ends 1 items
  ends_read = rw ends_lie (offsets-ends size 1 items (joined items ++ post) holds)

  -- and the data behind them
  data_lies : drop (table + (length items + 1) * size) b ≡ joined items ++ post
  data_lies =
      let e : table + size + length items * size ≡ table + (length items + 1) * size = omega (arith, add-mul (length items) 1 size) in
      ap (λ (n : ℕ). drop n b) (sym e) ∙ sym (drop-drop (length items * size) (table + size) b)
      ∙ rw ends_lie (drop_at (table_bytes size (ends 1 items)) (joined items ++ post) (length items * size) (length-table size (ends 1 items) ∙ rw length-ends))

  -- b holds the table and the data
  fits : table + (length items + 1) * size ≤ length b
  fits =
      let far : length b - table ≡ size + (length items * size + (total items + length post))
      = sym (length-drop table b) ∙ ap length lies ∙ rw (length-append, length-append, length-append, length-bytes, length-table, length-ends, length-join) in
      omega (arith, add-mul (length items) 1 size)

  long : length b - (table + (length items + 1) * size) ≡ total items + length post
  long = sym (length-drop (table + (length items + 1) * size) b) ∙ ap length data_lies ∙ rw (length-append, length-join)

  some : 1 ≤ (length items + 1) * size
  some = omega (arith, add-mul (length items) 1 size)

  table-found : table_at b table (length items) size ≡ Ok (parts_at table (length items) size (total items))
  unfolding judged
  table-found =
      let base = table + (length items + 1) * size - 1 in
      let room : 1 + total items ≤ length b - base = omega (arith, long, some, fits) in
      let e : base + (1 + total items) ≡ table + (length items + 1) * size + total items = omega (arith, some) in
      let r : Ok (1 + total items) ≡ run_of (length b - base) 1 (ends_of b table size (length items))
      = sym (run_ends (length b - base) 1 items room) ∙ ap (run_of (length b - base) 1) (sym ends_read) in
      table-judged b table (length items) size 1 (Ok (1 + total items)) low high fits (sym first_lies) refl r
      ∙ ap (λ (n : ℕ). Ok (record { count = length items; size = size; table = table; base = base; end = n })) e

  table-items : items_of b (parts_at table (length items) size (total items)) ≡ items
  unfolding items_of
  table-items =
      let base = table + (length items + 1) * size - 1 in
      let e : base + 1 ≡ table + (length items + 1) * size = omega (arith, some) in
      rw (first_lies, ends_read)
      (pieces-ends (drop base b) post 1 items (drop-drop 1 base b ∙ ap (λ (k : ℕ). drop k b) e ∙ data_lies))

-- ---- the whole

-- an INDEX of some items at a place of b
module _ (b : List ℕ) (at : ℕ) (x : List ℕ) (xs : List (List ℕ)) (post : List ℕ)
    (few : length (x ∷ xs) < 65536) (small : total (x ∷ xs) < 4294967295)
    (lies : drop at b ≡ index_bytes (x ∷ xs) ++ post) where
  abbrev items : List (List ℕ)
  items = x ∷ xs

  abbrev size : ℕ
  size = size_of (x ∷ xs)

  abbrev behind : List ℕ
  behind = bytes_of size 1 ++ (table_bytes size (ends 1 items) ++ (joined items ++ post))

  none : suc (length xs) ≡ 0 → ⊥
  none e = omega arith

  parts : drop at b ≡ bytes_of 2 (length items) ++ (size ∷ behind)
  unfolding index_bytes items_bytes
  parts = lies ∙ rw (head-some (length items) size none) (simp append_assoc)

  count_lies : num_at b at 2 ≡ length items
  count_lies = num-written b at 2 (length items) (size ∷ behind) few parts

  size_lies : get_or b (at + 2) 0 ≡ size
  size_lies = sym (get_or-drop at b 2 0) ∙ rw parts (get_or_at (bytes_of 2 (length items)) size behind 0 2 (length-bytes 2 (length items)))

  table_lies : drop (at + 3) b ≡ behind
  unfolding bytes_of
  table_lies = sym (drop-drop 3 at b) ∙ rw parts

  far : length b - at ≡ 3 + length behind
  far = sym (length-drop at b) ∙ ap length parts ∙ rw (length-append, length-bytes) (omega arith)

  holds : 1 + total items < 256 ^ size
  holds = let h = size_holds (total items + 1) (omega arith) in omega (arith, h)

  index-some : index_at b at ≡ Ok (layout at items)
  index-some =
      let three : at + 3 ≤ length b = omega (arith, far) in
      sym (index-table b at (length items) size three (sym count_lies) none (sym size_lies))
      ∙ table-found b (at + 3) size items post (size_low (total items + 1)) (size-high (total items + 1)) holds table_lies
      ∙ ap Ok (sym (for_some at (length items) (total items) none))

  items-some : items_of b (layout at items) ≡ items
  items-some =
      ap (items_of b) (for_some at (length items) (total items) none)
      ∙ table-items b (at + 3) size items post (size_low (total items + 1)) (size-high (total items + 1)) holds table_lies

-- an INDEX of no item at a place of b
module _ (b : List ℕ) (at : ℕ) (post : List ℕ) (lies : drop at b ≡ index_bytes [] ++ post) where
  index-empty : index_at b at ≡ Ok (layout at [])
  unfolding index_at index_for_lem num_at be bytes_of
  index-empty =
      let e : drop at b ≡ bytes_of 2 0 ++ post = lies ∙ ap (λ (l : List ℕ). l ++ post) index-none in
      let far : length b - at ≡ 2 + length post = sym (length-drop at b) ∙ ap length e ∙ omega arith in
      let two : at + 2 ≤ length b = omega arith in
      simp (le-ltb (length b) (at + 2) two, e)

  items-empty : items_of b (layout at []) ≡ []
  unfolding index_for_lem items_of offsets pieces
  items-empty = refl

-- an INDEX that stands at a place is found there, its parts where the layout has them
pub index-written : (b : List ℕ) (at : ℕ) (items : List (List ℕ)) (post : List ℕ) → length items < 65536 → total items < 4294967295
    → drop at b ≡ index_bytes items ++ post → index_at b at ≡ Ok (layout at items)
index-written b at [] post few small lies = index-empty b at post lies
index-written b at (x ∷ xs) post few small lies = index-some b at x xs post few small lies

-- and its items are those that were written
pub items-written : (b : List ℕ) (at : ℕ) (items : List (List ℕ)) (post : List ℕ) → length items < 65536 → total items < 4294967295
    → drop at b ≡ index_bytes items ++ post → items_of b (layout at items) ≡ items
items-written b at [] post few small lies = items-empty b at post lies
items-written b at (x ∷ xs) post few small lies = items-some b at x xs post few small lies

-- they can be had
pub good-written : (b : List ℕ) (at : ℕ) (items : List (List ℕ)) (post : List ℕ) → length items < 65536 → total items < 4294967295
    → drop at b ≡ index_bytes items ++ post → Good b (layout at items)
good-written b at items post few small lies = found-good b at (layout at items) (index-written b at items post few small lies)

-- an INDEX that stands at a place reads back, with the place after it
pub read-written : (b : List ℕ) (at : ℕ) (items : List (List ℕ)) (post : List ℕ) → length items < 65536 → total items < 4294967295
    → drop at b ≡ index_bytes items ++ post → read_index b at ≡ found items (at + length (index_bytes items))
read-written b at items post few small lies =
    let e : (layout at items).end ≡ at + length (index_bytes items) = rw length-index (for_end at (length items) (total items)) in
    read_found b at (layout at items) (index-written b at items post few small lies)
    ∙ rw (items-written b at items post few small lies, e)

pub round_trip : (pre post : List ℕ) (items : List (List ℕ)) → length items < 65536 → total items < 4294967295
    → read_index (pre ++ (index_bytes items ++ post)) (length pre) ≡ found items (length pre + length (index_bytes items))
round_trip pre post items few small =
    read-written (pre ++ (index_bytes items ++ post)) (length pre) items post few small (drop-append_seam pre (index_bytes items ++ post))

-- what a writer of an INDEX left in a slice stands there
pub written_lies : {old new : List ℕ} {at q : ℕ} (items : List (List ℕ)) → at + length (index_bytes items) ≤ length old
    → Wrote old at (index_bytes items) new q → drop at new ≡ index_bytes items ++ drop (at + length (index_bytes items)) old
written_lies {old} {new} {at} {q} items room w = ap (drop at) w.is ∙ drop-put-at old at (index_bytes items) (omega arith)

-- and reads back there, up to the place that it returned
pub written-reads : {old new : List ℕ} {at q : ℕ} (items : List (List ℕ)) → length items < 65536 → total items < 4294967295
    → at + length (index_bytes items) ≤ length old → Wrote old at (index_bytes items) new q → read_index new at ≡ found items q
written-reads {old} {new} {at} {q} items few small room w =
    rw w.behind (read-written new at items (drop (at + length (index_bytes items)) old) few small (written_lies items room w))
