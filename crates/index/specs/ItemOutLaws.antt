-- Laws of an INDEX that is written item by item at an output's place: it is begun where its head stands, goes on by one item, and is whole after the last.
use Rattle.std.specs.Prelude.{ℕ, ◌+◌, ◌-◌, ◌≤◌, ◌<◌, ◌≡◌, refl, List, [], length, get_or}
use Rattle.std.proofs.Common.{sym, ap, ◌∙◌, subst, MutBor}
use Rattle.octets.specs.Octets.{bytes_of, Wrote}
use Rattle.octets.specs.declared.out.Out.{Out}
use Rattle.octets.specs.Out.{Writes}
use Rattle.index.specs.Good.{Lies}
use Rattle.index.specs.Write.{total, size_for, head_bytes, index_bytes, index_for_lem}
use Rattle.index.specs.Begun.{Meant, WroteItem, Begun}
use Rattle.index.specs.BegunLaws.{wrote-item, begun_none, begun_room, begun_end, begun_more, begun_whole}
use Rattle.index.specs.ItemOut.{Ends, WritesItem, Begins}
use Rattle.index.specs.declared.Index.{Index}

-- an item written by its own writer, and then the offset of its end
pub writes-item : {old mid new : Out} {item : List ℕ} {ix : Index} {k : ℕ} → Writes old item mid → Ends mid ix k new → WritesItem old ix k item new
writes-item {old} {mid} {new} {item} {ix} {k} v w =
    record {
      wrote = subst (λ (p : ℕ). WroteItem old.bytes.now ix k old.at item new.bytes.now p) (sym w.stays) (wrote-item ix k v.wrote w.wrote);
      same = w.same ∙ v.same;
      size = w.size ∙ v.size;
    }

-- no item yet
pub begins_none : (old : Out) (ix : Index) (items : List (List ℕ)) → old.at ≡ ix.base + 1 → Begins old ix items 0 old
begins_none old ix items at =
    record { begun = subst (λ (p : ℕ). Begun old.bytes.now ix items 0 old.bytes.now p) (sym at) (begun_none old.bytes.now ix items); same = refl; size = refl }

module _ {old mid : Out} {ix : Index} {items : List (List ℕ)} (meant : Meant (length old.bytes.now) ix items) (k : ℕ) (more : k < length items)
    {item : List ℕ} (is : item ≡ get_or items k []) (g : Begins old ix items k mid) where
  -- what `put_item` requires
  pub begins_room : (Lies (length mid.bytes.now) ix) × (k < ix.count) × (ix.base ≤ mid.at) × (mid.at + length item ≤ length mid.bytes.now)
  begins_room = begun_room old.bytes.now ix items meant k more item is g.begun

  -- what `put_end` requires, where the item has a writer of its own
  pub begins_end : {after : Out} → Writes mid item after → (Lies (length after.bytes.now) ix) × (k < ix.count) × (ix.base ≤ after.at)
  begins_end w = begun_end old.bytes.now ix items meant k more is g.begun w.wrote

  -- one item more
  pub begins_more : {new : Out} → WritesItem mid ix k item new → Begins old ix items (k + 1) new
  begins_more w =
      record { begun = begun_more old.bytes.now ix items meant k more item is g.begun w.wrote; same = w.same ∙ g.same; size = w.size ∙ g.size }

-- the head, and then all items: the INDEX
pub begins_whole : {old mid start new : Out} (count t : ℕ) (ix : Index) (items : List (List ℕ)) (k : ℕ) → ix ≡ index_for_lem old.at count t
    → count ≡ length items → t ≡ total items → old.at + length (index_bytes items) ≤ length old.bytes.now → Writes old (head_bytes count (size_for (t + 1))) mid
    → start.bytes ≡ mid.bytes → k ≡ length items → Begins start ix items k new → Writes old (index_bytes items) new
begins_whole {old} {mid} {start} {new} count t ix items k is many sum room v e h g =
    let b : Begun mid.bytes.now ix items k new.bytes.now new.at = subst (λ (m : MutBor (List ℕ)). Begun m.now ix items k new.bytes.now new.at) e g.begun in
    record {
      wrote = begun_whole old.at count t ix items k is many sum room v.wrote h b;
      same = g.same ∙ (ap (λ (m : MutBor (List ℕ)). m.ghost_name) e ∙ v.same);
      size = g.size ∙ (ap (λ (m : MutBor (List ℕ)). length m.now) e ∙ v.size);
    }
