-- What a report of stored cases (tools/oracle/README.md, 'Lines') means: where its last line says `all agreed`, each line of the text is a case and our answer its answer; and its counts add
-- up to the number of lines.
use Rattle.std.specs.Prelude.{ℕ, zero, suc, ◌+◌, ◌-◌, ◌*◌, ◌≤◌, ◌<◌, ◌≡◌, refl, Bool, true, false, ltb, leb, eqb, take, drop, get_or, set, replicate, None, Option, Some}
use Rattle.std.proofs.Common.{sym, ap, not-suc-le-zero}
use Rattle.std.proofs.lemmas.Bool.{false≢true}
use Rattle.std.proofs.lemmas.Option.{none-some}
use mathlib.Core.List.{List, [], ◌∷◌}
use native.Mathlib.Omega.{arith}
use Rattle.std.proofs.Math.ListN.{length}
use Rattle.std.proofs.lemmas.List.{length-replicate}
use Rattle.octets.specs.Pick.{pick}
use Rattle.octets.specs.Lists.{sum_of}
use Rattle.hexlines.specs.Hexlines.{field_end_lem}
use Rattle.strings.specs.TextLaws.{same_true}
use Rattle.cases.specs.Fields.{field_bytes, both_same}
use Rattle.cases.specs.Lines.{Answering, lines_of, answer_of, agrees}
use Rattle.cases.specs.Tally.{counted, counted_all, first_failed, place_of}
use Rattle.cases.specs.TallyLaws.{place-small, counted-length}
use Rattle.cases.specs.Report.{all_agreed, word_bytes, first_bytes}

-- ---- a line that agrees

-- the two fields of a line, and that our answer to the first is the second
pub record Agrees (answer : Answering) (line : List ℕ) : Type 0 where
  pub input : List ℕ
  pub stored : List ℕ
  pub first : field_bytes 4096 (take (field_end_lem line 2 (length line) - 2) (drop 2 line)) ≡ Some input
  pub second : field_bytes 4096 (drop (field_end_lem line 2 (length line) + 1) line) ≡ Some stored
  pub same : answer (get_or line 0 0) input ≡ Some stored

passed : (t : Bool) (b : Bool) → pick t false b ≡ true → b ≡ true
passed true b e = absurd (false≢true e)
passed false b e = e

held : (t : Bool) (b : Bool) → pick t b false ≡ true → b ≡ true
held true b e = e
held false b e = absurd (false≢true e)

both : (a b : Option (List ℕ)) → both_same a b ≡ true → (l : List ℕ) × (a ≡ Some l) × (b ≡ Some l)
both None b e = absurd (false≢true e)
both (Some x) None e = absurd (false≢true e)
both (Some x) (Some y) e = (x, refl, ap Some (sym (same_true x y e)))

answered : (answer : Answering) (kind : ℕ) (o : Option (List ℕ)) (l : List ℕ) → answer_of answer kind o ≡ Some l → (s : List ℕ) × (o ≡ Some s) × (answer kind s ≡ Some l)
answered answer kind None l e = absurd (let z : ◌≡◌ {A = ℕ} 0 1 = cc in (let y : ⊥ = omega arith in y))
answered answer kind (Some s) l e = (s, refl, e)

pub agrees_means : (answer : Answering) (line : List ℕ) → agrees answer line ≡ true → Agrees answer line
unfolding agrees
agrees_means answer line e =
    let end = field_end_lem line 2 (length line) in
    let f = passed (leb (length line) end) _ (held (eqb (get_or line 1 0) 32) _ (passed (ltb (length line) 2) _ e)) in
    let b = both (answer_of answer (get_or line 0 0) (field_bytes 4096 (take (end - 2) (drop 2 line)))) (field_bytes 4096 (drop (end + 1) line)) f in
    let a = answered answer (get_or line 0 0) (field_bytes 4096 (take (end - 2) (drop 2 line))) b.0 b.1 in
    record { input = a.0; stored = b.0; first = a.1; second = b.2; same = a.2 }

-- ---- all lines

pub first-agrees : (agree : List ℕ → Bool) (n : ℕ) (ls : List (List ℕ)) → first_failed agree n ls ≡ None → (i : ℕ) → i < length ls → agree (get_or ls i []) ≡ true
unfolding first_failed
first-agrees agree n [] e i h = absurd (not-suc-le-zero h)
first-agrees agree n (l ∷ ls) e i h = go (agree l) refl e (first-agrees agree (n + 1) ls) i h
  where
    go : (t : Bool) → agree l ≡ t → pick t (first_failed agree (n + 1) ls) (Some (n + 1)) ≡ None
        → (first_failed agree (n + 1) ls ≡ None → (j : ℕ) → j < length ls → agree (get_or ls j []) ≡ true)
        → (j : ℕ) → j < suc (length ls) → agree (get_or (l ∷ ls) j []) ≡ true
    go true f z rest zero k = f
    go true f z rest (suc j) k = rest z j (omega arith)
    go false f z rest j k = absurd (none-some (n + 1) (sym z))

-- the last line says `all agreed` only where no line failed
pub says_all : (first : Option ℕ) → first_bytes first ≡ all_agreed → first ≡ None
unfolding first_bytes word_bytes
says_all None e = refl
says_all (Some line) e = absurd (let z : ◌≡◌ {A = ℕ} 102 97 = ap (λ (l : List ℕ). get_or l 0 0) e in (let y : ⊥ = omega arith in y))

pub all-agreed : (answer : Answering) (text : List ℕ) → first_bytes (first_failed (agrees answer) 0 (lines_of text)) ≡ all_agreed
    → (i : ℕ) → i < length (lines_of text) → Agrees answer (get_or (lines_of text) i [])
all-agreed answer text e i h =
    agrees_means answer (get_or (lines_of text) i []) (first-agrees (agrees answer) 0 (lines_of text) (says_all (first_failed (agrees answer) 0 (lines_of text)) e) i h)

-- ---- the counts

-- one more at a place among the first m adds one to their sum
sum-set : (m : ℕ) (l : List ℕ) (i : ℕ) → i < m → i < length l → sum_of (take m (set l i (get_or l i 0 + 1))) ≡ sum_of (take m l) + 1
unfolding sum_of
sum-set zero l i h k = absurd (not-suc-le-zero h)
sum-set (suc m) [] i h k = absurd (not-suc-le-zero k)
sum-set (suc m) (x ∷ xs) zero h k = omega arith
sum-set (suc m) (x ∷ xs) (suc i) h k = omega (arith, sum-set m xs i (omega arith) (omega arith))

-- the counts that are printed: two for each kind and two for lines of no kind
abbrev pub printed : List ℕ → List ℕ → List ℕ
printed kinds counts = take (2 * length kinds + 2) counts

module _ (agree : List ℕ → Bool) (kinds : List ℕ) where
  one-counted : (counts line : List ℕ) → 2 * length kinds + 2 ≤ length counts → sum_of (printed kinds (counted kinds counts line (agree line))) ≡ sum_of (printed kinds counts) + 1
  unfolding counted
  one-counted counts line h =
      let p = place-small kinds counts line (agree line) in
      sum-set (2 * length kinds + 2) counts (place_of kinds line (agree line)) p (omega arith)

  pub counts_add : (counts : List ℕ) (ls : List (List ℕ)) → 2 * length kinds + 2 ≤ length counts
      → sum_of (printed kinds (counted_all agree kinds counts ls)) ≡ sum_of (printed kinds counts) + length ls
  unfolding counted_all
  counts_add counts [] h = omega arith
  counts_add counts (l ∷ ls) h =
      let n = counted-length kinds counts l (agree l) in
      omega (arith, counts_add (counted kinds counts l (agree l)) ls (omega arith), one-counted counts l h)

zeros-sum : (m k : ℕ) → sum_of (take m (replicate k 0)) ≡ 0
unfolding sum_of
zeros-sum zero k = refl
zeros-sum (suc m) zero = refl
zeros-sum (suc m) (suc k) = omega (arith, zeros-sum m k)

-- the counts of a report add up to the number of lines
pub all-counted : (answer : Answering) (kinds text : List ℕ) → length kinds ≤ 24
    → sum_of (printed kinds (counted_all (agrees answer) kinds (replicate 50 0) (lines_of text))) ≡ length (lines_of text)
all-counted answer kinds text h =
    let m = length-replicate {A = ℕ} 50 0 in
    let s = counts_add (agrees answer) kinds (replicate 50 0) (lines_of text) (omega arith) in
    let z = zeros-sum (2 * length kinds + 2) 50 in
    omega (arith, s, z)
