-- Laws of an INDEX that is written item by item: it is begun where its head stands, goes on by one item, and is whole after the last.
-- A caller's loop has the invariant `Begun old ix items k out p`, where old is what the slice held once the head was written.
use Rattle.std.specs.Prelude.{ℕ, ◌+◌, ◌-◌, ◌*◌, ◌≤◌, ◌<◌, ◌≡◌, get_or}
use Rattle.std.proofs.Common.{sym, ◌∙◌, subst, add-mul, mul-le-mul_right, arith, length-take-le}
use Rattle.std.proofs.Math.Path.{ap}
use mathlib.Core.List.{List, [], ◌++◌}
use Rattle.std.proofs.Math.ListN.{length, take}
use Rattle.std.proofs.Math.Seq.{take_all}
use Rattle.octets.specs.Octets.{bytes_of, put, Wrote}
use Rattle.octets.specs.OctetsLaws.{length-bytes}
use Rattle.octets.specs.PutLaws.{put_nil, put-put, put-length, wrote_then, wrote-length}
use Rattle.octets.specs.Lists.{joined}
use Rattle.index.specs.PutApart.{put-apart}
use Rattle.index.specs.Good.{Lies}
use Rattle.index.specs.IndexLaws.{place_in}
use Rattle.index.specs.Write.{total, size_for, ends, table_bytes, head_bytes, items_bytes, size_of, index_bytes, index_for_lem}
use Rattle.index.specs.WriteLaws.{length-table, length-ends, length-join, length-items, join_more, total-more, table_more, total-part, length-index, for_lies, for_head, for_data, for_count, for_size, head-room}
use Rattle.index.specs.Begun.{Meant, end_place, WroteItem, Begun}
use Rattle.index.specs.declared.Index.{Index}

-- where `index_for` puts the parts of an INDEX is meant for its items
pub for_meant : (n at count t : ℕ) (ix : Index) (items : List (List ℕ)) → ix ≡ index_for_lem at count t → count ≡ length items → t ≡ total items
    → at + length (index_bytes items) ≤ n → Meant n ix items
for_meant n at count t ix items is many sum h =
    rw (is, many, sum)
    (record {
      lies = for_lies n at (length items) (total items) (rw length-index at h);
      many = for_count at (length items) (total items);
      room = omega (arith, for_data at items);
    })

-- an item written by its own writer, and then the offset of its end
pub wrote-item : {old mid new item : List ℕ} {p next q : ℕ} (ix : Index) (k : ℕ)
    → Wrote old p item mid next → Wrote mid (end_place ix k) (bytes_of ix.size (next - ix.base)) new q → WroteItem old ix k p item new next
wrote-item {old} {mid} {new} {item} {p} {next} {q} ix k v w =
    record {
      is =
          w.is ∙ ap (λ (m : List ℕ). put m (end_place ix k) (bytes_of ix.size (next - ix.base))) v.is
          ∙ ap (λ (n : ℕ). put (put old p item) (end_place ix k) (bytes_of ix.size (n - ix.base))) v.behind;
      behind = v.behind;
    }

-- no item yet
pub begun_none : (old : List ℕ) (ix : Index) (items : List (List ℕ)) → Begun old ix items 0 old (ix.base + 1)
unfolding table_bytes ends joined total
begun_none old ix items = record { is = sym (rw (put_nil, put_nil)); place = omega arith }

module _ (old : List ℕ) (ix : Index) (items : List (List ℕ)) (meant : Meant (length old) ix items) where
  -- the ends of the first k items
  abbrev ends_to : ℕ → List ℕ
  ends_to k = table_bytes ix.size (ends 1 (take k items))

  abbrev place : ℕ
  place = ix.base + 1

  ends-length : (k : ℕ) → k ≤ length items → length (ends_to k) ≡ k * ix.size
  ends-length k h = length-table ix.size (ends 1 (take k items)) ∙ ap (λ (n : ℕ). n * ix.size) (length-ends 1 (take k items) ∙ length-take-le k items h)

  -- the data stands behind the ends of all items
  place_is : place ≡ ix.table + ix.size + length items * ix.size
  place_is =
      let e : (ix.count + 1) * ix.size ≡ (length items + 1) * ix.size = ap (λ (n : ℕ). (n + 1) * ix.size) meant.many in
      omega (arith, meant.lies.placed, add-mul (length items) 1 ix.size)

  -- the ends of the first k items are before it
  before : (k : ℕ) → k ≤ length items → ix.table + ix.size + length (ends_to k) ≤ place
  before k h = omega (arith, place_is, ends-length k h, mul-le-mul_right {m = k} {n = length items} ix.size h)

  kept : (k : ℕ) → k ≤ length items → length (put old (ix.table + ix.size) (ends_to k)) ≡ length old
  kept k h = put-length old (ix.table + ix.size) (ends_to k) (omega (arith, before k h, meant.room))

  -- nothing but bytes is changed
  pub begun_length : (k : ℕ) {new : List ℕ} {p : ℕ} → k ≤ length items → Begun old ix items k new p → length new ≡ length old
  begun_length k {new} {p} h g =
      let n : place + length (joined (take k items)) ≤ length (put old (ix.table + ix.size) (ends_to k))
      = omega (arith, kept k h, length-join (take k items), total-part items k, meant.room) in
      ap length g.is ∙ put-length (put old (ix.table + ix.size) (ends_to k)) place (joined (take k items)) n ∙ kept k h

  -- all items: what stands behind the head
  pub begun_all : (k : ℕ) {new : List ℕ} {p : ℕ} → k ≡ length items → Begun old ix items k new p
      → Wrote old (ix.table + ix.size) (items_bytes ix.size items) new p
  unfolding items_bytes
  begun_all k {new} {p} h g =
      let e : take k items ≡ items = take_all k items (omega arith) in
      let d : place ≡ ix.table + ix.size + length (table_bytes ix.size (ends 1 items)) = omega (arith, place_is, length-table ix.size (ends 1 items), ap (λ (n : ℕ). n * ix.size) (length-ends 1 items)) in
      record {
        is =
            g.is ∙ ap (λ (xs : List (List ℕ)). put (put old (ix.table + ix.size) (table_bytes ix.size (ends 1 xs))) place (joined xs)) e
            ∙ ap (λ (j : ℕ). put (put old (ix.table + ix.size) (table_bytes ix.size (ends 1 items))) j (joined items)) d
            ∙ put-put old (ix.table + ix.size) (table_bytes ix.size (ends 1 items)) (joined items) (omega (arith, place_is, meant.room));
        behind = omega (arith, g.place, ap total e, place_is, length-items ix.size items);
      }

  module _ (k : ℕ) (more : k < length items) where
    -- the bytes of the first k items, and of one more, are within the room
    part_room : (total (take (k + 1) items) ≡ total (take k items) + length (get_or items k [])) × (total (take (k + 1) items) ≤ total items)
    part_room = (total-more items k more, total-part items (k + 1))

    -- what `put_item` requires
    pub begun_room : {mid : List ℕ} {p : ℕ} (item : List ℕ) → item ≡ get_or items k [] → Begun old ix items k mid p
        → (Lies (length mid) ix) × (k < ix.count) × (ix.base ≤ p) × (p + length item ≤ length mid)
    begun_room {mid} {p} item e g =
        let n = begun_length k (omega arith) g in
        let m = ap length e in (
          subst (λ (j : ℕ). Lies j ix) (sym n) meant.lies,
          omega (arith, meant.many),
          omega (arith, g.place),
          omega (arith, g.place, part_room, meant.room),
        )

    -- what `put_end` requires, where the item has a writer of its own
    pub begun_end : {mid after item : List ℕ} {p next : ℕ} → item ≡ get_or items k [] → Begun old ix items k mid p → Wrote mid p item after next
        → (Lies (length after) ix) × (k < ix.count) × (ix.base ≤ next)
    begun_end {mid} {after} {item} {p} {next} e g w =
        let r = begun_room item e g in
        let n : length after ≡ length mid = wrote-length w r.3 in
        (subst (λ (j : ℕ). Lies j ix) (sym n) r.0, r.1, omega (arith, w.behind))

    -- the next offset, and where it goes
    abbrev offset : List ℕ
    offset = bytes_of ix.size (1 + total (take (k + 1) items))

    end-place : end_place ix k ≡ ix.table + ix.size + length (ends_to k)
    end-place = omega (arith, ends-length k (omega arith), add-mul k 1 ix.size)

    end_more : ends_to k ++ offset ≡ ends_to (k + 1)
    end_more = sym (table_more items k more ix.size 1)

    -- it is before the data
    end_before : ix.table + ix.size + length (ends_to k) + length offset ≤ place
    end_before = omega (arith, place_is, ends-length k (omega arith), length-bytes ix.size (1 + total (take (k + 1) items)), place_in k (length items) ix.size more)

    -- the item's bytes behind those before it
    item_on : {mid : List ℕ} {p : ℕ} → Begun old ix items k mid p
        → put mid p (get_or items k []) ≡ put (put old (ix.table + ix.size) (ends_to k)) place (joined (take (k + 1) items))
    item_on {mid} {p} g =
        let base = put old (ix.table + ix.size) (ends_to k) in
        let q : p ≡ place + length (joined (take k items)) = omega (arith, g.place, length-join (take k items)) in
        ap (λ (o : List ℕ). put o p (get_or items k [])) g.is
        ∙ ap (λ (j : ℕ). put (put base place (joined (take k items))) j (get_or items k [])) q
        ∙ put-put base place (joined (take k items)) (get_or items k []) (omega (arith, kept k (omega arith), meant.room))
        ∙ ap (put base place) (sym (join_more items k more))

    -- the offset behind those before it
    end_on : put (put (put old (ix.table + ix.size) (ends_to k)) place (joined (take (k + 1) items))) (ix.table + ix.size + length (ends_to k)) offset
        ≡ put (put old (ix.table + ix.size) (ends_to (k + 1))) place (joined (take (k + 1) items))
    end_on =
        sym (put-apart (put old (ix.table + ix.size) (ends_to k)) (ix.table + ix.size + length (ends_to k)) offset place (joined (take (k + 1) items))
        end_before (omega (arith, kept k (omega arith), meant.room)))
        ∙ ap (λ (o : List ℕ). put o place (joined (take (k + 1) items)))
        (put-put old (ix.table + ix.size) (ends_to k) offset (omega (arith, end_before, meant.room)) ∙ ap (put old (ix.table + ix.size)) end_more)

    -- one item more
    pub begun_more : {mid new : List ℕ} {p next : ℕ} (item : List ℕ) → item ≡ get_or items k [] → Begun old ix items k mid p
        → WroteItem mid ix k p item new next → Begun old ix items (k + 1) new next
    begun_more {mid} {new} {p} {next} item e g w =
        let u = subst (λ (x : List ℕ). WroteItem mid ix k p x new next) e w in
        let v : p + length (get_or items k []) - ix.base ≡ 1 + total (take (k + 1) items) = omega (arith, g.place, part_room) in
        record {
          is =
              u.is ∙ ap (λ (j : ℕ). put (put mid p (get_or items k [])) (end_place ix k) (bytes_of ix.size j)) v
              ∙ ap (λ (j : ℕ). put (put mid p (get_or items k [])) j offset) end-place
              ∙ ap (λ (o : List ℕ). put o (ix.table + ix.size + length (ends_to k)) offset) (item_on g) ∙ end_on;
          place = omega (arith, u.behind, g.place, part_room);
        }

-- the head, and then all items: the INDEX
whole : {old mid new : List ℕ} {q p : ℕ} (at : ℕ) (items : List (List ℕ)) (ix : Index) → ix ≡ index_for_lem at (length items) (total items)
    → at + length (index_bytes items) ≤ length old → Wrote old at (head_bytes (length items) (size_of items)) mid q
    → Wrote mid (ix.table + ix.size) (items_bytes ix.size items) new p → Wrote old at (index_bytes items) new p
unfolding index_bytes
whole {old} {mid} {new} {q} {p} at items ix is room v w =
    let d : ix.table + ix.size ≡ q = rw is (for_head at (length items) (total items)) ∙ sym v.behind in
    let z : ix.size ≡ size_of items = rw is (for_size at items) in
    let u : Wrote mid q (items_bytes (size_of items) items) new p = rw (d, z) at w in
    wrote_then (omega arith) v u

pub begun_whole : {old mid new : List ℕ} {q p : ℕ} (at count t : ℕ) (ix : Index) (items : List (List ℕ)) (k : ℕ)
    → ix ≡ index_for_lem at count t → count ≡ length items → t ≡ total items → at + length (index_bytes items) ≤ length old
    → Wrote old at (head_bytes count (size_for (t + 1))) mid q → k ≡ length items → Begun mid ix items k new p → Wrote old at (index_bytes items) new p
begun_whole {old} {mid} {new} {q} {p} at count t ix items k is many sum room v h g =
    let n : length mid ≡ length old = wrote-length v (head-room (length old) at count t items many sum room) in
    let m : Meant (length mid) ix items = for_meant (length mid) at count t ix items is many sum (omega arith) in
    whole at items ix (rw (many, sum) at is) room (rw (many, sum) at v) (begun_all mid ix items m k h g)
