-- The words that ranking leaves say what the record has reached (document 01, 'Reach record'): the subroutines by the words are the subroutines
-- by the record, of the globals and of the locals of an FD.
use Rattle.std.specs.Prelude.{ℕ, suc, ◌+◌, ◌≤◌, ◌<◌, ◌≡◌, refl, Bool, true, false, List, [], ◌∷◌, eqb, ℤ, length, take, drop, get_or, None, Some}
use Rattle.std.proofs.Common.{sym, ap, ◌∙◌, arith, lt-ltb}
use Rattle.std.proofs.Math.Decide.{dec_le}
use Rattle.octets.specs.Pick.{pick}
use Rattle.unfold.specs.Unfold.{Row, Site}
use Rattle.prune.specs.Renumber.{Calls}
use Rattle.subset.specs.Kept.{those}
use Rattle.bits.specs.Bits.{count_below, words_for, bits_of}
use Rattle.bits.specs.BitsLaws.{count-alike}
use Rattle.bits.specs.WordsLaws.{bit-told}
use Rattle.subset.specs.Pruned.{each, reached, renumbered_body, renumbered_subrs, stubbed_from}
use Rattle.renumber.specs.RanksLaws.{HoldsRanks, past_unreached}
use Rattle.renumber.specs.declared.Ranks.{Ranks}
use Rattle.bodies.specs.Ways.{subrs_by, reached_in}
use Rattle.bodies.specs.SubrsLaws.{reached-none}
use Rattle.bodies.specs.WaysLaws.{subrs-by-alike}
use Rattle.subset.specs.Way.{is_renumbered, is_stubbed}
use Rattle.subset.specs.declared.Way.{Way}

-- ---- what is reached

-- below the count the words say what the set has
pub reached-below : (ws : List ℕ) (own : Ranks) (set : ℕ → Bool) → take (words_for own.count) (drop own.at ws) ≡ bits_of set own.count
    → (k : ℕ) → k < own.count → reached_in ws own k ≡ set k
reached-below ws own set e k h = rw (lt-ltb k own.count h) (bit-told ws own.at own.count set e k h)

-- where the set has no other number, they say it for every number
pub reached-same : (ws : List ℕ) (own : Ranks) (set : ℕ → Bool) → HoldsRanks ws own set → (k : ℕ) → reached_in ws own k ≡ set k
reached-same ws own set h k = go (dec_le (k + 1) own.count)
  where
    go : Dec (k + 1 ≤ own.count) → reached_in ws own k ≡ set k
    go (yes l) = reached-below ws own set h.words k (omega arith)
    go (no l) = let m : own.count ≤ k = omega arith in reached-none ws own k m ∙ sym (past_unreached ws own set h k m)

-- the number reached, as writing asks for it
pub reached-told : (ws : List ℕ) (own : Ranks) (set : ℕ → Bool) → ((k : ℕ) → k < own.count → reached_in ws own k ≡ set k)
    → own.reached ≡ count_below set own.count → own.reached ≡ count_below (reached_in ws own) own.count
reached-told ws own set same r = r ∙ sym (count-alike (reached_in ws own) set own.count same)

-- ---- subroutines

-- a number without a subroutine fails
pub past-fails : (rows : List Row) (set : ℕ → Bool) (calls : Calls) (site : ℕ → Site) (subrs : List (List ℕ))
    → eqb (reached set) (count_below set (length subrs)) ≡ false → renumbered_subrs rows set calls site subrs ≡ None
unfolding renumbered_subrs
past-fails rows set calls site subrs e =
    ap (λ (t : Bool). pick t (each (λ k. renumbered_body rows calls (site k) (get_or subrs k [])) (those set (length subrs) 0)) None) e

-- stubbed alike, where the sets are the same at each of the subroutines
pub stubbed-alike : (set set' : ℕ → Bool) (k : ℕ) (l : List (List ℕ)) → ((i : ℕ) → i < length l → set (k + i) ≡ set' (k + i)) → stubbed_from set k l ≡ stubbed_from set' k l
unfolding stubbed_from
stubbed-alike set set' k [] same = refl
stubbed-alike set set' k (s ∷ l) same =
    let z : k + 0 ≡ k = omega arith in
    let e : set k ≡ set' k = ap set (sym z) ∙ same 0 (omega arith) ∙ ap set' z in
    ap (λ (t : Bool). pick t s (11 ∷ []) ∷ stubbed_from set (k + 1) l) e
    ∙ ap (λ (r : List (List ℕ)). pick (set' k) s (11 ∷ []) ∷ r)
    (stubbed-alike set set' (k + 1) l (λ i h. let q : k + 1 + i ≡ k + suc i = omega arith in ap set q ∙ same (suc i) (omega arith) ∙ ap set' (sym q)))

-- by the way: renumbering asks that sets and calls are the same for every number, the other ways only below the count
pub subrs-record : (way : Way) (rows : List Row) (set set' : ℕ → Bool) (calls calls' : Calls) (site : ℕ → Site) (subrs : List (List ℕ))
    → ((k : ℕ) → k < length subrs → set k ≡ set' k) → (is_renumbered way ≡ true → ((k : ℕ) → set k ≡ set' k) × ((b : ℕ) (z : ℤ) → calls b z ≡ calls' b z))
    → subrs_by way rows set calls site subrs ≡ subrs_by way rows set' calls' site subrs
subrs-record way rows set set' calls calls' site subrs below all = go (is_renumbered way) refl
  where
    go : (t : Bool) → is_renumbered way ≡ t → subrs_by way rows set calls site subrs ≡ subrs_by way rows set' calls' site subrs
    go true e = let q = all e in subrs-by-alike way rows set set' calls calls' site subrs q.0 q.1
    go false e =
        let f : stubbed_from set 0 subrs ≡ stubbed_from set' 0 subrs
        = stubbed-alike set set' 0 subrs (λ i h. let z : 0 + i ≡ i = omega arith in ap set z ∙ below i h ∙ ap set' (sym z)) in
        rw e (ap (λ (l : List (List ℕ)). Some (pick (is_stubbed way) l subrs)) f)
