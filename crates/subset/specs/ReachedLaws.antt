-- Counting what a record lists (document 01, 'Reach record'): `reached` counts over all numbers that a row can have. Where the numbers of a
-- record are below n, counting below n gives the same.
use Rattle.std.specs.Prelude.{ℕ, zero, suc, ◌+◌, ◌≤◌, ◌<◌, ◌≡◌, refl, Bool, true, false, ◌&&◌, List, [], ◌∷◌, ltb, eqb}
use Rattle.std.proofs.Math.Decide.{dec_le}
use Rattle.std.proofs.Common.{arith, ne_eqb, ltb-true}
use Rattle.octets.specs.Pick.{pick}
use Rattle.unfold.specs.Unfold.{Row}
use Rattle.record.specs.Record.{same_row_lem, lists}
use Rattle.prune.specs.StepLaws.{zero_one}
use Rattle.bits.specs.Bits.{count_below}

-- the numbers of a record are below n
unfoldable pub numbers_below : ℕ → List Row → Bool
numbers_below n [] = true
numbers_below n (r ∷ rs) = pick (ltb r.number n) (numbers_below n rs) false

-- three tests that fail at the third
pub third_false : (a b c d e : Bool) → c ≡ false → a && b && c && d && e ≡ false
third_false true true c d e h = rw h
third_false true false c d e h = refl
third_false false b c d e h = refl

-- it lists nothing from n on
pub lists-past : (n : ℕ) (rows : List Row) (q : Row) → numbers_below n rows ≡ true → n ≤ q.number → lists rows q ≡ false
unfolding numbers_below lists
lists-past n [] q e h = refl
lists-past n (r ∷ rs) q e h = go (ltb r.number n) refl e (lists-past n rs q)
  where
    other : r.number < n → same_row_lem r q ≡ false
    other l =
        third_false (eqb r.kind q.kind) (eqb r.fd q.fd) (eqb r.number q.number) (eqb r.offset q.offset) (eqb r.len q.len)
        (ne_eqb r.number q.number (λ (k : r.number ≡ q.number). omega arith))

    go : (t : Bool) → ltb r.number n ≡ t → pick t (numbers_below n rs) false ≡ true → (numbers_below n rs ≡ true → n ≤ q.number → lists rs q ≡ false)
        → pick (same_row_lem r q) true (lists rs q) ≡ false
    go true l k f = rw (other (ltb-true r.number n l)) (f k h)
    go false l k f = absurd (zero_one cc)

-- nothing of a set stands at n or above: counting further adds nothing
pub count_past : (set : ℕ → Bool) (n m : ℕ) → ((k : ℕ) → n ≤ k → set k ≡ false) → n ≤ m → count_below set m ≡ count_below set n
unfolding count_below
count_past set n zero h l = let e : n ≡ 0 = omega arith in rw e
count_past set n (suc m) h l = go (dec_le n m) (count_past set n m h)
  where
    go : Dec (n ≤ m) → (n ≤ m → count_below set m ≡ count_below set n) → count_below set m + pick (set m) 1 0 ≡ count_below set n
    go (yes k) f = rw (h m k) (omega (arith, f k))
    go (no k) f = let e : n ≡ suc m = omega arith in rw e
