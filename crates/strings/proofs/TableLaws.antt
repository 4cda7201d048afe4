-- What the one test of the table shows of each id: its offsets rise, from 0 to the end of the text, and bound its name.
use Rattle.std.specs.Prelude.{ℕ, zero, suc, ◌+◌, ◌-◌, ◌≤◌, ◌<◌, ◌≡◌, refl, Bool, true, false, ◌&&◌, ltb, length, take, drop, get_or}
use Rattle.std.proofs.Common.{le_of_suc-le-suc, not-suc-le-zero, add-one, arith, ltb-true, length-append}
use mathlib.Core.List.{List, [], ◌∷◌, ◌++◌, append_assoc, append-nil}
use Rattle.std.proofs.Math.Seq.{take-append_seam, drop-append_seam}
use Rattle.octets.specs.Lists.{all_below, joined, before}
use Rattle.strings.specs.Table.{standard_names, standard_offsets, standard_order}
use Rattle.strings.specs.Text.{codes, same_text_lem, order_of}
use Rattle.strings.specs.TextLaws.{same_true}
use Rattle.strings.specs.Strings.{standard_strings, standard_string, standard_text}
use Rattle.strings.specs.TableTest.{rises, offsets_from, is_less, ordered, has_all, every, table_tests}

-- ---- the test, computed, and its parts

pub table-passes : every table_tests ≡ true
unfolding standard_names standard_offsets standard_order codes same_text_lem order_of standard_strings standard_string
    rises offsets_from is_less ordered all_below before has_all every table_tests
table-passes = refl

pub and_left : (a b : Bool) → (a && b) ≡ true → a ≡ true
and_left true b e = refl
and_left false b e = e

pub and_right : (a b : Bool) → (a && b) ≡ true → b ≡ true
and_right true b e = e
and_right false b e = cc

pub every-at : (ts : List Bool) → every ts ≡ true → (i : ℕ) → get_or ts i true ≡ true
unfolding every
every-at [] e i = refl
every-at (t ∷ ts) e zero = and_left t (every ts) e
every-at (t ∷ ts) e (suc i) = every-at ts (and_right t (every ts) e) i

offsets-rise : rises standard_offsets ≡ true
unfolding table_tests
offsets-rise = every-at table_tests table-passes 0

offsets_are : standard_offsets ≡ offsets_from 0 standard_strings
unfolding table_tests
offsets_are = same_true _ _ (every-at table_tests table-passes 1)

-- ---- how long the table is

pub strings-length : length standard_strings ≡ 391
unfolding standard_names standard_strings
strings-length = refl

pub text-length : length standard_text ≡ 3052
unfolding standard_names codes joined standard_strings standard_text
text-length = refl

pub offsets-length : length standard_offsets ≡ 392
unfolding standard_offsets
offsets-length = refl

pub order-length : length standard_order ≡ 391
unfolding standard_order
order-length = refl

-- ---- offsets

rises-at : (ns : List ℕ) (k : ℕ) → rises ns ≡ true → suc k < length ns → get_or ns k 0 < get_or ns (suc k) 0
unfolding rises
rises-at [] k t h = absurd (not-suc-le-zero h)
rises-at (a ∷ []) k t h = absurd (not-suc-le-zero (le_of_suc-le-suc h))
rises-at (a ∷ (b ∷ ns)) zero t h = ltb-true a b (and_left (ltb a b) (rises (b ∷ ns)) t)
rises-at (a ∷ (b ∷ ns)) (suc k) t h = rises-at (b ∷ ns) k (and_right (ltb a b) (rises (b ∷ ns)) t) (le_of_suc-le-suc h)

offset-head : (a : ℕ) (ss : List (List ℕ)) → get_or (offsets_from a ss) 0 0 ≡ a
unfolding offsets_from
offset-head a [] = refl
offset-head a (s ∷ ss) = refl

-- of texts one behind the other, after some front
part_at : (front : List ℕ) (ss : List (List ℕ)) (k : ℕ) → k < length ss
    → take (get_or (offsets_from (length front) ss) (suc k) 0 - get_or (offsets_from (length front) ss) k 0)
    (drop (get_or (offsets_from (length front) ss) k 0) (front ++ joined ss))
    ≡ get_or ss k []
unfolding offsets_from joined
part_at front [] k h = absurd (not-suc-le-zero h)
part_at front (s ∷ ss) zero h =
    let e : length front + length s - length front ≡ length s = omega arith in
    rw (offset-head (length front + length s) ss, e, drop-append_seam, take-append_seam)
part_at front (s ∷ ss) (suc k) h = rw (length-append, append_assoc) at (part_at (front ++ s) ss k (le_of_suc-le-suc h))

part-within : (front : List ℕ) (ss : List (List ℕ)) (k : ℕ) → k < length ss
    → get_or (offsets_from (length front) ss) (suc k) 0 ≤ length (front ++ joined ss)
unfolding offsets_from joined
part-within front [] k h = absurd (not-suc-le-zero h)
part-within front (s ∷ ss) zero h = rw (offset-head (length front + length s) ss, length-append, length-append) (omega arith)
part-within front (s ∷ ss) (suc k) h = rw (length-append, append_assoc) at (part-within (front ++ s) ss k (le_of_suc-le-suc h))

end_at : (front : List ℕ) (ss : List (List ℕ)) → get_or (offsets_from (length front) ss) (length ss) 0 ≡ length (front ++ joined ss)
unfolding offsets_from joined
end_at front [] = rw append-nil
end_at front (s ∷ ss) = rw (length-append, append_assoc) at (end_at (front ++ s) ss)

pub offset-first : get_or standard_offsets 0 0 ≡ 0
offset-first = rw offsets_are (offset-head 0 standard_strings)

pub offset-last : get_or standard_offsets 391 0 ≡ length standard_text
unfolding standard_text
offset-last = rw offsets_are (rw strings-length at (end_at [] standard_strings))

module _ (k : ℕ) (h : k < 391) where
  pub offset-rises : get_or standard_offsets k 0 < get_or standard_offsets (k + 1) 0
  offset-rises = rw add-one (rises-at standard_offsets k offsets-rise (rw offsets-length (omega arith)))

  pub offset-within : get_or standard_offsets (k + 1) 0 ≤ 3052
  unfolding standard_text
  offset-within = rw (add-one, offsets_are, ← text-length) (part-within [] standard_strings k (rw strings-length h))

  -- the name of an id is the part of the text between its offset and the next
  pub part_is : take (get_or standard_offsets (k + 1) 0 - get_or standard_offsets k 0) (drop (get_or standard_offsets k 0) standard_text) ≡ standard_string k
  unfolding standard_text standard_string
  part_is = rw (add-one, offsets_are) (part_at [] standard_strings k (rw strings-length h))
