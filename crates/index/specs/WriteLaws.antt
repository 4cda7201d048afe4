-- Laws of writing an INDEX: sizes, lengths, the parts over `++`, and what the written offsets give.
use Rattle.std.specs.Prelude.{ℕ, zero, suc, ◌+◌, ◌*◌, ◌%◌, ◌^◌, ◌≤◌, ◌<◌, ◌≡◌, refl, ltb, length, take, drop, get_or}
use Rattle.std.proofs.Common.{sym, ap, ◌∙◌, suc-mul, zero-mul, add-zero, zero-add, add_assoc, add-mul, mul-le-mul, add-one, arith, ltb-true, ne_eqb, lit≤, length-append, take-append-drop, take-suc}
use mathlib.Core.List.{List, [], ◌∷◌, ◌++◌, append_assoc, append-nil}
use Rattle.octets.specs.Pick.{pick_ind}
use Rattle.octets.specs.Octets.{bytes_of}
use Rattle.octets.specs.OctetsLaws.{length-bytes}
use Rattle.octets.specs.Lists.{joined}
use Rattle.index.specs.Good.{Lies}
use Rattle.index.specs.IndexLaws.{table-size}
use Rattle.index.specs.Write.{total, size_for, ends, table_bytes, head_bytes, items_bytes, size_of, index_bytes, index_len_lem, parts_at, index_for_lem}

-- ---- an offset size

pub size_low : (v : ℕ) → 1 ≤ size_for v
unfolding size_for
size_low v =
    pick_ind (λ (n : ℕ). 1 ≤ n) (ltb v 256) _ _ (λ e. lit≤ tt)
    (λ e. pick_ind (λ (n : ℕ). 1 ≤ n) (ltb v 65536) _ _ (λ e. lit≤ tt)
    (λ e. pick_ind (λ (n : ℕ). 1 ≤ n) (ltb v 16777216) _ _ (λ e. lit≤ tt) (λ e. lit≤ tt)))

pub size-high : (v : ℕ) → size_for v ≤ 4
unfolding size_for
size-high v =
    pick_ind (λ (n : ℕ). n ≤ 4) (ltb v 256) _ _ (λ e. lit≤ tt)
    (λ e. pick_ind (λ (n : ℕ). n ≤ 4) (ltb v 65536) _ _ (λ e. lit≤ tt)
    (λ e. pick_ind (λ (n : ℕ). n ≤ 4) (ltb v 16777216) _ _ (λ e. lit≤ tt) (λ e. lit≤ tt)))

pub size_holds : (v : ℕ) → v < 4294967296 → v < 256 ^ size_for v
unfolding size_for
size_holds v h =
    pick_ind (λ (n : ℕ). v < 256 ^ n) (ltb v 256) _ _ (ltb-true v 256)
    (λ e. pick_ind (λ (n : ℕ). v < 256 ^ n) (ltb v 65536) _ _ (ltb-true v 65536)
    (λ e. pick_ind (λ (n : ℕ). v < 256 ^ n) (ltb v 16777216) _ _ (ltb-true v 16777216) (λ e. h)))

-- an offset size as a byte
pub size-byte : (v : ℕ) → bytes_of 1 (size_for v) ≡ size_for v ∷ []
unfolding bytes_of
size-byte v = let e : size_for v % 256 ≡ size_for v = omega (arith, size-high v) in rw e

-- ---- lengths

pub length-ends : (s : ℕ) (items : List (List ℕ)) → length (ends s items) ≡ length items
unfolding ends
length-ends s [] = refl
length-ends s (x ∷ xs) = ap suc (length-ends (s + length x) xs)

pub length-join : (items : List (List ℕ)) → length (joined items) ≡ total items
unfolding joined total
length-join [] = refl
length-join (x ∷ xs) = rw (length-append, length-join xs)

pub length-table : (size : ℕ) (vs : List ℕ) → length (table_bytes size vs) ≡ length vs * size
unfolding table_bytes
length-table size [] = sym (zero-mul size)
length-table size (v ∷ vs) = rw (length-append, length-bytes, length-table size vs, suc-mul) (omega arith)

-- ---- the parts over `++`

pub join-append : (xs ys : List (List ℕ)) → joined (xs ++ ys) ≡ joined xs ++ joined ys
unfolding joined
join-append [] ys = refl
join-append (x ∷ xs) ys = rw (join-append xs ys, append_assoc)

pub total-append : (xs ys : List (List ℕ)) → total (xs ++ ys) ≡ total xs + total ys
unfolding total
total-append [] ys = sym (zero-add _)
total-append (x ∷ xs) ys = rw (total-append xs ys, add_assoc)

pub table-append : (size : ℕ) (xs ys : List ℕ) → table_bytes size (xs ++ ys) ≡ table_bytes size xs ++ table_bytes size ys
unfolding table_bytes
table-append size [] ys = refl
table-append size (x ∷ xs) ys = rw (table-append size xs ys, append_assoc)

pub ends-append : (s : ℕ) (xs ys : List (List ℕ)) → ends s (xs ++ ys) ≡ ends s xs ++ ends (s + total xs) ys
unfolding ends total
ends-append s [] ys = rw add-zero
ends-append s (x ∷ xs) ys = rw (ends-append (s + length x) xs ys, add_assoc)

-- ---- one item more

module _ (items : List (List ℕ)) (k : ℕ) (h : k < length items) where
  pub take_more : take (k + 1) items ≡ take k items ++ (get_or items k [] ∷ [])
  take_more = rw (add-one, take-suc items k [])

  pub join_more : joined (take (k + 1) items) ≡ joined (take k items) ++ get_or items k []
  unfolding joined
  join_more = rw (take_more, join-append, append-nil)

  pub total-more : total (take (k + 1) items) ≡ total (take k items) + length (get_or items k [])
  unfolding total
  total-more = rw (take_more, total-append, add-zero)

  pub table_more : (size s : ℕ) → table_bytes size (ends s (take (k + 1) items))
      ≡ table_bytes size (ends s (take k items)) ++ bytes_of size (s + total (take (k + 1) items))
  unfolding table_bytes ends
  table_more size s = rw (total-more, take_more, ends-append, table-append, append-nil, add_assoc)

-- some of the items are no longer than all
pub total-part : (items : List (List ℕ)) (k : ℕ) → total (take k items) ≤ total items
total-part items k =
    let e : total items ≡ total (take k items) + total (drop k items)
    = sym (ap total (take-append-drop k items)) ∙ total-append (take k items) (drop k items) in
    omega arith

-- ---- the head, and the whole

pub head-none : (count size : ℕ) → count ≡ 0 → bytes_of 2 0 ≡ head_bytes count size
unfolding head_bytes bytes_of
head-none count size e = rw e

pub head-some : (count size : ℕ) → (count ≡ 0 → ⊥) → head_bytes count size ≡ bytes_of 2 count ++ (size ∷ bytes_of size 1)
unfolding head_bytes
head-some count size n = simp (ne_eqb count 0 n)

-- as it is written, part by part
pub head-parts : (count v : ℕ) → (count ≡ 0 → ⊥) → (bytes_of 2 count ++ bytes_of 1 (size_for v)) ++ bytes_of (size_for v) 1 ≡ head_bytes count (size_for v)
head-parts count v n = rw (head-some count (size_for v) n, size-byte, append_assoc)

pub head-length : (count size : ℕ) → (count ≡ 0 → ⊥) → length (head_bytes count size) ≡ 3 + size
head-length count size n = rw (head-some count size n, length-append, length-bytes, length-bytes) (omega arith)

pub len_some : (count t : ℕ) → (count ≡ 0 → ⊥) → index_len_lem count t ≡ 3 + ((count + 1) * size_for (t + 1) + t)
unfolding index_len_lem
len_some count t n = simp (ne_eqb count 0 n) (omega arith)

pub for_some : (at count t : ℕ) → (count ≡ 0 → ⊥) → index_for_lem at count t ≡ parts_at (at + 3) count (size_for (t + 1)) t
unfolding index_for_lem
for_some at count t n = simp (ne_eqb count 0 n)

-- what stands behind the head
pub length-items : (size : ℕ) (items : List (List ℕ)) → length (items_bytes size items) ≡ length items * size + total items
unfolding items_bytes
length-items size items = rw (length-append, length-table, length-ends, length-join)

-- an INDEX's length is known from its count and the length of its data
length_some : (items : List (List ℕ)) → (length items ≡ 0 → ⊥) → length (index_bytes items) ≡ index_len_lem (length items) (total items)
unfolding index_bytes
length_some items n =
    rw (length-append, head-length (length items) (size_of items) n, length-items, len_some (length items) (total items) n)
    (omega (arith, add-mul (length items) 1 (size_of items)))

pub length-index : (items : List (List ℕ)) → length (index_bytes items) ≡ index_len_lem (length items) (total items)
unfolding index_bytes head_bytes items_bytes table_bytes ends joined index_len_lem bytes_of
length-index [] = refl
length-index (x ∷ xs) = length_some (x ∷ xs) (λ e. omega arith)

-- items are no longer than their INDEX
pub total-within : (items : List (List ℕ)) → total items ≤ length (index_bytes items)
unfolding index_bytes
total-within items =
    omega (arith, length-append (head_bytes (length items) (size_of items)) (items_bytes (size_of items) items), length-items (size_of items) items)

-- where an INDEX has room, its head has
pub head-room : (n at count t : ℕ) (items : List (List ℕ)) → count ≡ length items → t ≡ total items → at + length (index_bytes items) ≤ n
    → at + length (head_bytes count (size_for (t + 1))) ≤ n
unfolding index_bytes
head-room n at count t items many sum h = rw (many, sum) (omega (arith, length-append (head_bytes (length items) (size_of items)) (items_bytes (size_of items) items)))

-- the offsets of an INDEX that is written are few bytes
pub ends-small : (count size v : ℕ) → count < 65536 → size ≡ size_for v → (count + 1) * size ≤ 262144
ends-small count size v h e = table-size count size h (omega (arith, size-high v))

-- those of an INDEX of more items than one can have, as far as they are measured
pub offsets-few : (count size v : ℕ) → count ≤ 65544 → size ≡ size_for v → (count + 1) * size ≤ 262180
offsets-few count size v h e = mul-le-mul {n₁ = count + 1} {m₁ = size} {n₂ = 65545} {m₂ = 4} (omega arith) (omega (arith, size-high v))

-- an INDEX of no item
pub index-none : index_bytes [] ≡ bytes_of 2 0
unfolding index_bytes head_bytes items_bytes table_bytes ends joined bytes_of
index-none = refl

-- an INDEX of one item, part by part
pub index-single : (x : List ℕ) (size : ℕ) → size ≡ size_for (length x + 1)
    → (head_bytes 1 (size_for (length x + 1)) ++ bytes_of size (length x + 1)) ++ x ≡ index_bytes (x ∷ [])
unfolding index_bytes items_bytes table_bytes ends joined total
index-single x size e =
    let o : 1 + length x ≡ length x + 1 = omega arith in
    rw (add-zero, ← e, o) (simp (append_assoc, append-nil))

pub length-single : (x : List ℕ) (size : ℕ) → size ≡ size_for (length x + 1) → length (index_bytes (x ∷ [])) ≡ 3 + (size + size + length x)
length-single x size e =
    ap length (sym (index-single x size e))
    ∙ rw (length-append, length-append, length-bytes, head-length 1 (size_for (length x + 1)) (λ z. omega arith)) (omega arith)

-- ---- where the parts go

some-suc : (m : ℕ) → suc m ≡ 0 → ⊥
some-suc m e = omega arith

parts_lie : (n table count size t : ℕ) → 1 ≤ size → size ≤ 4 → table + (count + 1) * size + t ≤ n → Lies n (parts_at table count size t)
parts_lie n table count size t low high h =
    record { low = low; high = high; placed = omega (arith, add-mul count 1 size); begins = omega (arith, add-mul count 1 size); within = h }

-- they lie one behind the other, up to the length
pub for_lies : (n at count t : ℕ) → at + index_len_lem count t ≤ n → Lies n (index_for_lem at count t)
unfolding index_len_lem index_for_lem
for_lies n at zero t h = record { low = lit≤ tt; high = lit≤ tt; placed = omega arith; begins = omega arith; within = omega arith }
for_lies n at (suc m) t h =
    rw (for_some at (suc m) t (some-suc m))
    (parts_lie n (at + 3) (suc m) (size_for (t + 1)) t (size_low (t + 1)) (size-high (t + 1)) (omega (arith, len_some (suc m) t (some-suc m))))

pub for_end : (at count t : ℕ) → (index_for_lem at count t).end ≡ at + index_len_lem count t
unfolding index_len_lem index_for_lem
for_end at zero t = refl
for_end at (suc m) t = rw (for_some at (suc m) t (some-suc m)) (omega (arith, len_some (suc m) t (some-suc m)))

-- the ends behind the head, and the data up to the end
pub for_head : (at count t : ℕ) → (index_for_lem at count t).table + (index_for_lem at count t).size ≡ at + length (head_bytes count (size_for (t + 1)))
unfolding index_for_lem head_bytes bytes_of
for_head at zero t = omega arith
for_head at (suc m) t = rw (for_some at (suc m) t (some-suc m)) (omega (arith, head-length (suc m) (size_for (t + 1)) (some-suc m)))

pub for_data : (at : ℕ) (items : List (List ℕ)) → (index_for_lem at (length items) (total items)).base + 1 + total items ≡ at + length (index_bytes items)
unfolding index_for_lem total
for_data at [] = rw index-none (omega (arith, length-bytes 2 0))
for_data at (x ∷ xs) =
    let n = some-suc (length xs) in
    let size = size_of (x ∷ xs) in
    rw (length-index (x ∷ xs), len_some (length (x ∷ xs)) (total (x ∷ xs)) n, for_some at (length (x ∷ xs)) (total (x ∷ xs)) n)
    (omega (arith, size_low (total (x ∷ xs) + 1), add-mul (suc (length xs)) 1 size))

pub for_count : (at count t : ℕ) → (index_for_lem at count t).count ≡ count
unfolding index_for_lem
for_count at zero t = refl
for_count at (suc m) t = rw (for_some at (suc m) t (some-suc m))

pub for_size : (at : ℕ) (items : List (List ℕ)) → (index_for_lem at (length items) (total items)).size ≡ size_of items
unfolding index_for_lem total size_for
for_size at [] = refl
for_size at (x ∷ xs) = rw (for_some at (length (x ∷ xs)) (total (x ∷ xs)) (some-suc (length xs)))
