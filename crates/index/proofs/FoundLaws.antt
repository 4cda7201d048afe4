-- What holds of an INDEX that was read: its items can be had, and lie one behind the other within the bytes.
use Rattle.std.specs.Prelude.{ℕ, suc, ◌+◌, ◌-◌, ◌*◌, ◌≤◌, ◌<◌, ◌≡◌, refl, List, [], ◌∷◌, Bool, true, false, eqb, ltb, length, take, drop, get_or, Result, Ok, Err}
use Rattle.std.proofs.Common.{sym, ap, ◌∙◌, subst, add-mul, add-zero, zero-mul, arith, ltb-true, ltb-false, lit<, lit≤, length-take, length-drop, get_or-take, get_or-drop, length-take-le}
use Rattle.std.proofs.lemmas.Bool.{eqb-false}
use Rattle.std.proofs.Math.ListN.{get_or-eq_default}
use Rattle.octets.specs.Pick.{pick}
use Rattle.octets.specs.Octets.{Octets, num_at}
use Rattle.octets.specs.OctetsLaws.{num-two}
use Rattle.index.specs.Index.{offsets, first_of, ends_of, first_bad, run_of, judged, data_at, table_at, empty_at, index_at, pieces, items_of, refused, found, told, read_index}
use Rattle.index.specs.Good.{Good, offset_of}
use Rattle.index.specs.IndexLaws.{first_good, run-passes, run-rises, run-last, last_within, offsets-length, offsets-first, offsets-at, items-length, item_is}
use Rattle.index.specs.Write.{total}
use Rattle.index.specs.declared.Index.{Index}
use Rattle.refusal.specs.declared.Refusal.{Refusal}

-- a part of bytes has bytes
pub part_octets : (b : List ℕ) (n p : ℕ) → Octets b → Octets (take n (drop p b))
part_octets b n p o i = by-test (ltb i n) refl
  where
    by-test : (t : Bool) → ltb i n ≡ t → get_or (take n (drop p b)) i 0 < 256
    by-test true e = rw (get_or-take n (drop p b) i 0 (ltb-true i n e), get_or-drop) (o (p + i))
    by-test false e =
        let h = ltb-false i n e in
        let k : length (take n (drop p b)) ≤ i = omega (arith, length-take n (drop p b)) in
        rw (get_or-eq_default (take n (drop p b)) 0 k) (lit< tt)

-- ---- the two levels

-- what a reader gets, by what the code found
pub read_found : (b : List ℕ) (at : ℕ) (ix : Index) → index_at b at ≡ Ok ix → read_index b at ≡ found (items_of b ix) ix.end
unfolding read_index told
read_found b at ix h = rw h

pub read_refused : (b : List ℕ) (at : ℕ) (e : Refusal) → index_at b at ≡ Err e → read_index b at ≡ refused e
unfolding read_index told
read_refused b at e h = rw h

-- ---- past the tests

refused_found : (x : Refusal) (ix : Index) → Err x ≡ Ok ix → ⊥
refused_found x ix h = let z : ◌≡◌ {A = ℕ} 0 1 = cc in omega arith

-- past a test that refuses
past : (t : Bool) (x : Refusal) (ix : Index) (r : Result Index Refusal) → pick t (Err x) r ≡ Ok ix → (t ≡ false) × (r ≡ Ok ix)
past true x ix r h = absurd (refused_found x ix h)
past false x ix r h = (refl, h)

judged-found : (count size table base : ℕ) (run : Result ℕ Refusal) (ix : Index) → judged count size table base run ≡ Ok ix
    → (l : ℕ) × (run ≡ Ok l) × (◌≡◌ {A = Index} (record { count = count; size = size; table = table; base = base; end = base + l }) ix)
unfolding judged
judged-found count size table base (Err e) ix h = absurd (refused_found e ix h)
judged-found count size table base (Ok l) ix h = (l, refl, cc)

-- what the tests of an INDEX with items leave
record Table (b : List ℕ) (table count size : ℕ) (ix : Index) : Type 0 where
  low : 1 ≤ size
  high : size ≤ 4
  fits : table + (count + 1) * size ≤ length b
  starts : first_bad (first_of b table size) ≡ false
  last : ℕ
  run : run_of (length b - (table + (count + 1) * size - 1)) (first_of b table size) (ends_of b table size count) ≡ Ok last
  is : ◌≡◌ {A = Index} (record { count = count; size = size; table = table; base = table + (count + 1) * size - 1; end = table + (count + 1) * size - 1 + last }) ix

table_tests : (b : List ℕ) (table count size : ℕ) (ix : Index) → table_at b table count size ≡ Ok ix → Table b table count size ix
unfolding table_at data_at
table_tests b table count size ix h =
    let p = past (ltb size 1) _ ix _ h in
    let q = past (ltb 4 size) _ ix _ p.1 in
    let r = past (ltb (length b) (table + (count + 1) * size)) _ ix _ q.1 in
    let s = past (first_bad (first_of b table size)) _ ix _ r.1 in
    let j = judged-found count size table _ _ ix s.1 in
    record {
      low = ltb-false size 1 p.0;
      high = ltb-false 4 size q.0;
      fits = ltb-false (length b) (table + (count + 1) * size) r.0;
      starts = s.0;
      last = j.0;
      run = j.1;
      is = j.2;
    }

-- an INDEX of no item, or one with a table
data Either (b : List ℕ) (at : ℕ) (ix : Index) : Type 0 where
  none : at + 2 ≤ length b → empty_at at ≡ ix → Either b at ix
  some : 0 < num_at b at 2 → Table b (at + 3) (num_at b at 2) (get_or b (at + 2) 0) ix → Either b at ix

choice : (b : List ℕ) (at : ℕ) (t : Bool) (r : Result Index Refusal) (ix : Index) → at + 2 ≤ length b → pick t (Ok (empty_at at)) r ≡ Ok ix
    → (t ≡ false → r ≡ Ok ix → Either b at ix) → Either b at ix
choice b at true r ix n h k = none n (cc)
choice b at false r ix n h k = k refl h

index_tests : (b : List ℕ) (at : ℕ) (ix : Index) → index_at b at ≡ Ok ix → Either b at ix
unfolding index_at
index_tests b at ix h =
    let p = past (ltb (length b) (at + 2)) _ ix _ h in
    choice b at (eqb (num_at b at 2) 0) _ ix (ltb-false (length b) (at + 2) p.0) p.1
    (λ e k. some (let n = eqb-false (num_at b at 2) 0 e in omega arith)
    (table_tests b (at + 3) (num_at b at 2) (get_or b (at + 2) 0) ix (past (ltb (length b) (at + 3)) _ ix _ k).1))

-- ---- good

empty-good : (b : List ℕ) (at : ℕ) → at + 2 ≤ length b → Good b (empty_at at)
unfolding offsets run_of
empty-good b at h =
    record {
      lies = record { low = lit≤ tt; high = lit≤ tt; placed = omega arith; begins = omega arith; within = omega arith };
      last = first_of b (at + 1) 1;
      run = refl;
    }

table-good : (b : List ℕ) (table count size : ℕ) (ix : Index) → 0 < count → Table b table count size ix → Good b ix
table-good b table count size ix n t =
    let w = last_within _ _ count size _ t.last n t.run in
    let u = run-rises _ _ _ t.last t.run in
    let z = first_good (first_of b table size) t.starts in
    subst (λ (i : Index). Good b i) t.is
    (record {
      lies =
          record {
            low = t.low;
            high = t.high;
            placed = omega (arith, t.low, add-mul count 1 size);
            begins = omega arith;
            within = omega (arith, t.fits, t.low, add-mul count 1 size);
          };
      last = t.last;
      run = t.run;
    })

-- the items of an INDEX that was found can be had
pub found-good : (b : List ℕ) (at : ℕ) (ix : Index) → index_at b at ≡ Ok ix → Good b ix
found-good b at ix h = good (index_tests b at ix h)
  where
    good : Either b at ix → Good b ix
    good (none n e) = subst (λ (i : Index). Good b i) e (empty-good b at n)
    good (some n t) = table-good b (at + 3) (num_at b at 2) (get_or b (at + 2) 0) ix n t

-- its end is past its count, and within the bytes
pub found_end : (b : List ℕ) (at : ℕ) (ix : Index) → index_at b at ≡ Ok ix → (at + 2 ≤ ix.end) × (ix.end ≤ length b)
found_end b at ix h = (after (index_tests b at ix h), (found-good b at ix h).lies.within)
  where
    after : Either b at ix → at + 2 ≤ ix.end
    after (none n e) = subst (λ (i : Index). at + 2 ≤ i.end) e (omega arith)
    after (some n t) = subst (λ (i : Index). at + 2 ≤ i.end) t.is (omega arith)

-- its count has two bytes
pub found-count : (b : List ℕ) (at : ℕ) (ix : Index) → Octets b → index_at b at ≡ Ok ix → ix.count < 65536
found-count b at ix o h = small (index_tests b at ix h)
  where
    small : Either b at ix → ix.count < 65536
    small (none n e) = subst (λ (i : Index). i.count < 65536) e (omega arith)
    small (some n t) =
        let f = t.fits in
        subst (λ (i : Index). i.count < 65536) t.is (omega (arith, num-two b at (omega arith), o at, o (at + 1)))

-- ---- items

-- the pieces of a run that passes have no more bytes together than the room behind the first offset
pieces-total : (d : List ℕ) (room s : ℕ) (es : List ℕ) (l : ℕ) → run_of room s es ≡ Ok l → total (pieces d s es) ≤ room - s
unfolding pieces total
pieces-total d room s [] l h = omega arith
pieces-total d room s (e ∷ es) l h =
    let p = run-passes room s e es l h in
    let i = pieces-total d room e es l p.rest in
    omega (arith, length-take (e - s) (drop s d))

-- nor all items of a good INDEX more than the bytes have
pub items-total : (b : List ℕ) (ix : Index) → Good b ix → total (items_of b ix) ≤ length b
unfolding items_of
items-total b ix g = omega (arith, pieces-total (drop ix.base b) _ _ _ g.last g.run)

-- they have as many bytes together as the last offset is behind the first
pieces_long : (d : List ℕ) (s : ℕ) (es : List ℕ) (l : ℕ) → run_of (length d) s es ≡ Ok l → total (pieces d s es) ≡ get_or (s ∷ es) (length es) 0 - s
unfolding pieces total
pieces_long d s [] l h = omega arith
pieces_long d s (e ∷ es) l h =
    let p = run-passes (length d) s e es l h in
    let n : length (take (e - s) (drop s d)) ≡ e - s = length-take-le (e - s) (drop s d) (rw length-drop (omega arith)) in
    let r = run-last (length d) e es l p.rest in
    let u = run-rises (length d) e es l p.rest in
    omega (arith, pieces_long d e es l p.rest)

-- the first offset, and the last
first_is : (b : List ℕ) (ix : Index) → first_of b ix.table ix.size ≡ offset_of b ix 0
first_is b ix = rw (zero-mul, add-zero)

last_is : (b : List ℕ) (ix : Index) → get_or (first_of b ix.table ix.size ∷ ends_of b ix.table ix.size ix.count) ix.count 0 ≡ offset_of b ix ix.count
last_is b ix = rw offsets-first (offsets-at (suc ix.count) ix.size ix.table b ix.count (omega arith))

pub items_long : (b : List ℕ) (ix : Index) → Good b ix → total (items_of b ix) ≡ offset_of b ix ix.count - offset_of b ix 0
unfolding items_of
items_long b ix g =
    let r = subst (λ (n : ℕ). run_of n (first_of b ix.table ix.size) (ends_of b ix.table ix.size ix.count) ≡ Ok g.last) (sym (length-drop ix.base b)) g.run in
    pieces_long (drop ix.base b) _ (ends_of b ix.table ix.size ix.count) g.last r
    ∙ rw (offsets-length, last_is b ix) (ap (λ (n : ℕ). offset_of b ix ix.count - n) (first_is b ix))

-- which it is never before
pub offsets-rise : (b : List ℕ) (ix : Index) → Good b ix → offset_of b ix 0 ≤ offset_of b ix ix.count
offsets-rise b ix g =
    let l = run-last _ _ _ g.last g.run in
    let e : get_or (first_of b ix.table ix.size ∷ ends_of b ix.table ix.size ix.count) ix.count 0 ≡ g.last = rw offsets-length at l in
    omega (arith, run-rises _ _ _ g.last g.run, first_is b ix, last_is b ix)

-- an item has bytes
pub item_octets : (b : List ℕ) (ix : Index) → Good b ix → (k : ℕ) → k < ix.count → Octets b → Octets (get_or (items_of b ix) k [])
item_octets b ix g k h o i =
    rw (item_is b ix g k h) (part_octets b (offset_of b ix (k + 1) - offset_of b ix k) (ix.base + offset_of b ix k) o i)

-- ---- what a reader gets

-- it is what the code found
told-found : (b : List ℕ) (r : Result Index Refusal) (items : List (List ℕ)) (end : ℕ) → told b r ≡ found items end
    → (ix : Index) × (r ≡ Ok ix) × (items_of b ix ≡ items) × (ix.end ≡ end)
unfolding told
told-found b (Err e) items end h = absurd (let z : ◌≡◌ {A = ℕ} 0 1 = cc in omega arith)
told-found b (Ok ix) items end h = (ix, refl, cc, cc)

pub found-read : (b : List ℕ) (at : ℕ) (items : List (List ℕ)) (end : ℕ) → read_index b at ≡ found items end
    → (ix : Index) × (index_at b at ≡ Ok ix) × (items_of b ix ≡ items) × (ix.end ≡ end)
unfolding read_index
found-read b at items end h = told-found b (index_at b at) items end h

-- it can be written: few items, few bytes, and an end within the bytes
pub read-bounds : (b : List ℕ) (at : ℕ) (items : List (List ℕ)) (end : ℕ) → Octets b → read_index b at ≡ found items end
    → (length items < 65536) × (total items ≤ length b) × (end ≤ length b)
read-bounds b at items end o h =
    let f = found-read b at items end h in
    let ix = f.0 in
    let g = found-good b at ix f.1 in (
      omega (arith, found-count b at ix o f.1, items-length b ix, ap length f.2),
      omega (arith, items-total b ix g, ap total f.2),
      omega (arith, found_end b at ix f.1, f.3),
    )
