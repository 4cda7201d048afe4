-- Bodies of numbers that pass a test, written one after the other as the items of an INDEX.
use Rattle.std.specs.Prelude.{ℕ, zero, suc, ◌+◌, ◌-◌, ◌≤◌, ◌<◌, ◌≡◌, refl, Bool, true, false, List, [], length, get_or, None, Option, Some}
use Rattle.std.proofs.Common.{sym, ap, ◌∙◌, arith}
use Rattle.octets.specs.Octets.{bytes_of, Wrote}
use Rattle.index.specs.Good.{Lies}
use Rattle.index.specs.Write.{total, head_bytes, size_for, index_bytes, index_for_lem}
use Rattle.index.specs.WriteLaws.{head-room}
use Rattle.index.specs.Begun.{Meant, Begun, end_place}
use Rattle.index.specs.BegunLaws.{for_meant, wrote-item, begun_none, begun_length, begun_room, begun_end, begun_more, begun_whole}
use Rattle.index.specs.declared.Index.{Index}
use Rattle.prune.specs.StepLaws.{zero_one}
use Rattle.subset.specs.Kept.{those}
use Rattle.bits.specs.Bits.{count_below}
use Rattle.subset.specs.Pruned.{each}
use Rattle.subset.specs.EachLaws.{length-each, each_at}
use Rattle.subset.specs.RankLaws.{count-few, count-rises, count-below, count_next, length-those, those-at}
use Rattle.renumber.specs.Turn.{body_of_lem}
use Rattle.bodies.specs.Ways.{many_of, holds, measured_of, every, Room}

-- some that do not fail
pub holds_many : (m : Option (List (List ℕ))) → holds m ≡ true → m ≡ Some (many_of m)
holds_many None e = absurd (zero_one cc)
holds_many (Some l) e = refl

-- what measuring says: that they fail, or how long they are together
pub measured_failed : (m : Option (List (List ℕ))) → measured_of m ≡ None → holds m ≡ false
measured_failed None e = refl
measured_failed (Some l) e = absurd (zero_one cc)

pub measured-total : (m : Option (List (List ℕ))) (t : ℕ) → measured_of m ≡ Some t → (holds m ≡ true) × (t ≡ total (many_of m))
measured-total None t e = absurd (zero_one cc)
measured-total (Some l) t e = let q : total l ≡ t = cc in (refl, sym q)

-- all numbers below n are counted
pub count-every : (n : ℕ) → count_below every n ≡ n
unfolding count_below
count-every zero = refl
count-every (suc n) = omega (arith, count-every n)

-- those below n are as many as are counted
pub those_many : (test : ℕ → Bool) (n : ℕ) → length (those test n 0) ≡ count_below test n
those_many test n =
    let q : 0 + n ≡ n = omega arith in
    let c : count_below test (0 + n) ≡ count_below test n = ap (count_below test) q in
    omega (arith, length-those test n 0, count-few test 0)

-- the bodies of the numbers below k were written, j of them
pub record Writing (old : List ℕ) (to : Index) (items : List (List ℕ)) (test : ℕ → Bool) (n k j : ℕ) (new : List ℕ) (p : ℕ) : Type 0 where
  pub among : k ≤ n
  pub counted : j ≡ count_below test k
  pub begun : Begun old to items j new p

pub writing_start : (old : List ℕ) (to : Index) (items : List (List ℕ)) (test : ℕ → Bool) (n : ℕ) → Writing old to items test n 0 0 old (to.base + 1)
writing_start old to items test n = record { among = omega arith; counted = omega (arith, count-few test 0); begun = begun_none old to items }

-- the bodies as they are asked for: of the numbers below n that pass
module _ (bodies : Option (List (List ℕ))) (f : ℕ → Option (List ℕ)) (test : ℕ → Bool) (n : ℕ)
    (same : bodies ≡ each f (those test n 0)) (done : holds bodies ≡ true) where
  each-items : each f (those test n 0) ≡ Some (many_of bodies)
  each-items = sym same ∙ holds_many bodies done

  pub items_many : length (many_of bodies) ≡ count_below test n
  items_many = length-each f (those test n 0) (many_of bodies) each-items ∙ those_many test n

  module _ (k : ℕ) (h : k < n) (e : test k ≡ true) where
    pub item-more : count_below test k < length (many_of bodies)
    item-more = omega (arith, items_many, count-below test k n e h)

    pub item_is : f k ≡ Some (get_or (many_of bodies) (count_below test k) [])
    item_is =
        let b = each_at f (those test n 0) (many_of bodies) each-items (count_below test k) [] (omega (arith, item-more, items_many, those_many test n)) in
        ap f (sym (those-at test n k h e)) ∙ b

  module _ (old : List ℕ) (to : Index) (meant : Meant (length old) to (many_of bodies)) (k j : ℕ) {new : List ℕ} {p : ℕ}
      (w : Writing old to (many_of bodies) test n k j new p) where
    few : j ≤ length (many_of bodies)
    few = omega (arith, w.counted, items_many, count-rises test k n w.among)

    pub writing-length : length new ≡ length old
    writing-length = begun_length old to (many_of bodies) meant j few w.begun

    -- a number that does not pass
    pub writing-skip : k < n → test k ≡ false → Writing old to (many_of bodies) test n (k + 1) j new p
    writing-skip h e =
        let c : count_below test (k + 1) ≡ count_below test k + 0 = count_next test k ∙ rw e in
        record { among = omega arith; counted = omega (arith, w.counted); begun = w.begun }

    module _ (h : k < n) (e : test k ≡ true) where
      item-now : body_of_lem (f k) ≡ get_or (many_of bodies) j []
      item-now = ap body_of_lem (item_is k h e) ∙ ap (λ (i : ℕ). get_or (many_of bodies) i []) (sym w.counted)

      now-more : j < length (many_of bodies)
      now-more = omega (arith, w.counted, item-more k h e)

      -- the body of number k does not fail, and has room
      pub writing-room : (holds (f k) ≡ true) × (p + length (body_of_lem (f k)) ≤ length new)
      writing-room = (ap holds (item_is k h e), (begun_room old to (many_of bodies) meant j now-more (body_of_lem (f k)) item-now w.begun).3)

      module _ {mid : List ℕ} {q : ℕ} (v : Wrote new p (body_of_lem (f k)) mid q) where
        -- the offset of its end has room
        pub writing_end : (Lies (length mid) to) × (j < to.count) × (to.base ≤ q)
        writing_end = begun_end old to (many_of bodies) meant j now-more item-now w.begun v

        -- it is written, with the offset of its end
        pub writing-on : {last : List ℕ} {o : ℕ} → Wrote mid (end_place to j) (bytes_of to.size (q - to.base)) last o
            → Writing old to (many_of bodies) test n (k + 1) (j + 1) last q
        writing-on {last} {o} u =
            let c : count_below test (k + 1) ≡ count_below test k + 1 = count_next test k ∙ rw e in
            record {
              among = omega arith;
              counted = omega (arith, w.counted);
              begun = begun_more old to (many_of bodies) meant j now-more (body_of_lem (f k)) item-now w.begun (wrote-item to j v u);
            }

  -- the INDEX: head, and all bodies
  module _ (old : List ℕ) (at count sum : ℕ) (to : Index) (room : Room bodies sum at (length old)) (is : to ≡ index_for_lem at count sum) (many : count ≡ count_below test n) where
    count_is : count ≡ length (many_of bodies)
    count_is = many ∙ sym items_many

    -- the head has room
    pub head-fits : at + length (head_bytes count (size_for (sum + 1))) ≤ length old
    head-fits = head-room (length old) at count sum (many_of bodies) count_is room.is room.fits

    -- the places are for the bodies
    pub places-meant : (l : ℕ) → l ≡ length old → Meant l to (many_of bodies)
    places-meant l e = for_meant l at count sum to (many_of bodies) is count_is room.is (omega (arith, room.fits))

    -- all are written
    pub writing-whole : {mid new : List ℕ} {q p k j : ℕ} → Wrote old at (head_bytes count (size_for (sum + 1))) mid q → n ≤ k
        → Writing mid to (many_of bodies) test n k j new p → Wrote old at (index_bytes (many_of bodies)) new p
    writing-whole {mid} {new} {q} {p} {k} {j} v h w =
        let z : k ≡ n = omega (arith, w.among) in
        let c : j ≡ length (many_of bodies) = w.counted ∙ ap (count_below test) z ∙ sym items_many in
        begun_whole at count sum to (many_of bodies) j is count_is room.is room.fits v c w.begun
