-- Bodies of numbers that pass a test, written one after the other as the items of an INDEX at an output's place.
use Rattle.std.specs.Prelude.{ℕ, ◌+◌, ◌≤◌, ◌<◌, ◌≡◌, refl, Bool, true, false, List, length, Option}
use Rattle.std.proofs.Common.{sym, ap, ◌∙◌, subst, MutBor}
use Rattle.octets.specs.declared.out.Out.{Out}
use Rattle.octets.specs.Out.{Writes}
use Rattle.index.specs.Good.{Lies}
use Rattle.index.specs.Write.{head_bytes, size_for, index_bytes, index_for_lem}
use Rattle.index.specs.Begun.{Meant}
use Rattle.index.specs.ItemOut.{Ends}
use Rattle.index.specs.declared.Index.{Index}
use Rattle.bits.specs.Bits.{count_below}
use Rattle.subset.specs.Kept.{those}
use Rattle.subset.specs.Pruned.{each}
use Rattle.renumber.specs.Turn.{body_of_lem}
use Rattle.bodies.specs.Ways.{many_of, holds, Room}
use Rattle.bodies.specs.WritingLaws.{Writing, writing_start, writing-skip, writing-room, writing_end, writing-on, writing-whole}

-- the bodies of the numbers below k were written, j of them: the output old stood behind the place of the table
pub record WritesOn (old : Out) (ix : Index) (items : List (List ℕ)) (test : ℕ → Bool) (n k j : ℕ) (new : Out) : Type 0 where
  pub writing : Writing old.bytes.now ix items test n k j new.bytes.now new.at
  pub same : new.bytes.ghost_name ≡ old.bytes.ghost_name
  pub size : length new.bytes.now ≡ length old.bytes.now

pub writes_start : (old : Out) (ix : Index) (items : List (List ℕ)) (test : ℕ → Bool) (n : ℕ) → old.at ≡ ix.base + 1 → WritesOn old ix items test n 0 0 old
writes_start old ix items test n at =
    record {
      writing = subst (λ (p : ℕ). Writing old.bytes.now ix items test n 0 0 old.bytes.now p) (sym at) (writing_start old.bytes.now ix items test n);
      same = refl;
      size = refl;
    }

-- the bodies as they are asked for: of the numbers below n that pass
module _ (bodies : Option (List (List ℕ))) (f : ℕ → Option (List ℕ)) (test : ℕ → Bool) (n : ℕ)
    (are : bodies ≡ each f (those test n 0)) (done : holds bodies ≡ true) where
  module _ {old : Out} {ix : Index} (meant : Meant (length old.bytes.now) ix (many_of bodies)) (k j : ℕ) {new : Out}
      (w : WritesOn old ix (many_of bodies) test n k j new) where
    -- a number that does not pass
    pub writes-skip : k < n → test k ≡ false → WritesOn old ix (many_of bodies) test n (k + 1) j new
    writes-skip h e =
        record { writing = writing-skip bodies f test n are done old.bytes.now ix meant k j w.writing h e; same = w.same; size = w.size }

    module _ (h : k < n) (e : test k ≡ true) where
      -- the body of number k does not fail, and has room
      pub writes-fit : (holds (f k) ≡ true) × (new.at + length (body_of_lem (f k)) ≤ length new.bytes.now)
      writes-fit = writing-room bodies f test n are done old.bytes.now ix meant k j w.writing h e

      module _ {mid : Out} (v : Writes new (body_of_lem (f k)) mid) where
        -- the offset of its end has room
        pub writes_end : (Lies (length mid.bytes.now) ix) × (j < ix.count) × (ix.base ≤ mid.at)
        writes_end = writing_end bodies f test n are done old.bytes.now ix meant k j w.writing h e v.wrote

        -- it is written, with the offset of its end
        pub writes-on : {last : Out} → Ends mid ix j last → WritesOn old ix (many_of bodies) test n (k + 1) (j + 1) last
        writes-on {last} u =
            record {
              writing = subst (λ (p : ℕ). Writing old.bytes.now ix (many_of bodies) test n (k + 1) (j + 1) last.bytes.now p) (sym u.stays)
                  (writing-on bodies f test n are done old.bytes.now ix meant k j w.writing h e v.wrote u.wrote);
              same = u.same ∙ (v.same ∙ w.same);
              size = u.size ∙ (v.size ∙ w.size);
            }

  -- the INDEX: head, and all bodies
  pub writes-whole : {old : Out} (count sum : ℕ) (ix : Index) → Room bodies sum old.at (length old.bytes.now) → ix ≡ index_for_lem old.at count sum → count ≡ count_below test n
      → {mid start new : Out} → Writes old (head_bytes count (size_for (sum + 1))) mid → start.bytes ≡ mid.bytes → {k j : ℕ} → n ≤ k
      → WritesOn start ix (many_of bodies) test n k j new → Writes old (index_bytes (many_of bodies)) new
  writes-whole {old} count sum ix room is many {mid} {start} {new} v b {k} {j} h w =
      let g : Writing mid.bytes.now ix (many_of bodies) test n k j new.bytes.now new.at
      = subst (λ (m : MutBor (List ℕ)). Writing m.now ix (many_of bodies) test n k j new.bytes.now new.at) b w.writing in
      record {
        wrote = writing-whole bodies f test n are done old.bytes.now old.at count sum ix room is many v.wrote h g;
        same = w.same ∙ (ap (λ (m : MutBor (List ℕ)). m.ghost_name) b ∙ v.same);
        size = w.size ∙ (ap (λ (m : MutBor (List ℕ)). length m.now) b ∙ v.size);
      }
