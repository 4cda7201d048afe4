-- Laws of the report: the digits that `io::decimal` writes, how long the parts are, and the rows one by one.
use Prim.Native.Nat.{ℕ, zero, suc, ◌+◌, ◌-◌, ◌*◌, ◌/◌, ◌%◌, ◌^◌, ◌≤◌, ◌<◌}
use Rattle.std.specs.Prelude.{◌≡◌, refl, Bool, true, false, ltb, leb, length, take, get_or, replicate, None, Option, Some}
use Rattle.std.proofs.Common.{sym, ◌∙◌, pow-suc, div-lt_iff_lt-mul, not-suc-le-zero, lit<, length-append, drop-cons, length-take-le, lt-ltb, le-ltb, leb-true, leb-false}
use Rattle.std.proofs.Math.Path.{ap}
use mathlib.Core.List.{List, [], ◌∷◌, ◌++◌}
use Rattle.std.proofs.Math.Nat.{pow-le-pow_right}
use native.Mathlib.Omega.{arith}
use Rattle.std.proofs.Math.ListN.{drop}
use Rattle.std.proofs.Math.Seq.{drop-length}
use Rattle.io.specs.Counts.{IsPrefixLen}
use Rattle.io.specs.Digits.{hex_digit_ascii, last_digits, IsDigitCount}
use Rattle.octets.specs.Pick.{pick_ind}
use Rattle.octets.specs.Octets.{Wrote}
use Rattle.octets.specs.PutLaws.{wrote-length}
use Rattle.cases.specs.Lines.{Answering, lines_of, agrees}
use Rattle.cases.specs.Tally.{counted_all, first_failed}
use Rattle.cases.specs.Report.{decimal, agreed_word, failed_word, first_word, word_bytes, tally_bytes, row_bytes, rows_bytes, other_bytes, first_bytes, report_bytes, too_long, report_of}

-- a digit
glyph_digit : (d : ℕ) → d < 10 → hex_digit_ascii d ≡ 48 + d
glyph_digit d h = rw (lt-ltb d 10 h)

-- the fewest digits are the decimal ones
pub decimal-digits : (k r n : ℕ) → r ≤ k → IsDigitCount 10 1 n r → last_digits 10 r n ≡ decimal k n
unfolding decimal
decimal-digits k zero n h f = absurd (not-suc-le-zero f.0)
decimal-digits zero (suc r) n h f = absurd (not-suc-le-zero h)
decimal-digits (suc k) (suc zero) n h f =
    let l : n < 10 = omega (arith, f.1, pow-suc 10 0) in
    let e : n % 10 ≡ n = omega arith in
    rw (lt-ltb n 10 l, e, glyph_digit n l)
decimal-digits (suc k) (suc (suc r)) n h f =
    let m : suc (suc r) - 1 ≡ suc r = omega arith in
    let b : 10 ^ suc r ≤ n = rw m at (f.2 (omega arith)) in
    let p : 10 ^ 0 ≤ 10 ^ r = pow-le-pow_right (lit< tt) {i = 0} {j = r} (omega arith) in
    let l : 10 ≤ n = omega (arith, pow-suc 10 r) in
    let j : suc r - 1 ≡ r = omega arith in
    let g : IsDigitCount 10 1 (n / 10) (suc r) = (omega arith, (div-lt_iff_lt-mul (lit< tt)).1 (rw pow-suc at f.1), λ x. rw j (omega (arith, pow-suc 10 r))) in
    rw (le-ltb n 10 l, glyph_digit (n % 10) (omega arith), decimal-digits k (suc r) (n / 10) (omega arith) g)

-- a number of 64 bits has up to 20
pub decimal-few : (r n : ℕ) → n < 18446744073709551616 → IsDigitCount 10 1 n r → r ≤ 20
decimal-few r n h f = go (leb r 20) refl
  where
    go : (t : Bool) → leb r 20 ≡ t → r ≤ 20
    go true e = leb-true r 20 e
    go false e =
        let l = leb-false r 20 e in
        let p : 100000000000000000000 ≤ 10 ^ (r - 1) = pow-le-pow_right {n = 10} (lit< tt) {i = 20} {j = r - 1} (omega arith) in
        absurd (let x : ⊥ = omega (arith, f.2 (omega arith)) in x)

pub decimal-length : (k n : ℕ) → length (decimal k n) ≤ k
unfolding decimal
decimal-length zero n = omega arith
decimal-length (suc k) n =
    pick_ind (λ (l : List ℕ). length l ≤ suc k) (ltb n 10) _ _ (λ e. omega arith)
    (λ e. rw length-append (omega (arith, decimal-length k (n / 10))))

pub word-length : (w : List ℕ) (n : ℕ) → length (word_bytes w n) ≤ length w + 20
unfolding word_bytes
word-length w n = rw length-append (omega (arith, decimal-length 20 n))

pub tally-length : (a f : ℕ) → length (tally_bytes a f) ≤ 56
unfolding tally_bytes
tally-length a f = rw length-append (omega (arith, word-length agreed_word a, word-length failed_word f))

pub row-length : (kind a f : ℕ) → length (row_bytes kind a f) ≤ 58
unfolding row_bytes
row-length kind a f = rw length-append (omega (arith, tally-length a f))

pub first-length : (first : Option ℕ) → length (first_bytes first) ≤ 39
unfolding first_bytes
first-length None = omega arith
first-length (Some line) = rw length-append (omega (arith, word-length first_word line))

-- ---- the rows, one by one

module _ (ks counts : List ℕ) (i : ℕ) where
  -- the rows from the i-th on
  abbrev pub rows_left : List ℕ
  rows_left = rows_bytes (drop i ks) counts (2 * i)

  pub rows_next : i < length ks
      → rows_left ≡ row_bytes (get_or ks i 0) (get_or counts (2 * i) 0) (get_or counts (2 * i + 1) 0) ++ rows_bytes (drop (i + 1) ks) counts (2 * (i + 1))
  unfolding rows_bytes
  rows_next h =
      let m : suc i ≡ i + 1 = omega arith in
      let n : 2 * i + 2 ≡ 2 * (i + 1) = omega arith in
      let row = row_bytes (get_or ks i 0) (get_or counts (2 * i) 0) (get_or counts (2 * i + 1) 0) in
      ap (λ (l : List ℕ). rows_bytes l counts (2 * i)) (drop-cons ks i 0 h)
      ∙ ap (λ (j : ℕ). row ++ rows_bytes (drop j ks) counts (2 * i + 2)) m ∙ ap (λ (j : ℕ). row ++ rows_bytes (drop (i + 1) ks) counts j) n

  pub rows_none : i ≡ length ks → rows_left ≡ []
  unfolding rows_bytes
  rows_none e = ap (λ (l : List ℕ). rows_bytes l counts (2 * i)) (ap (λ (j : ℕ). drop j ks) e ∙ drop-length ks)

pub rows-length : (ks counts : List ℕ) (i : ℕ) → length (rows_bytes ks counts i) ≤ 58 * length ks
unfolding rows_bytes
rows-length [] counts i = omega arith
rows-length (k ∷ ks) counts i =
    rw length-append (omega (arith, row-length k (get_or counts i 0) (get_or counts (i + 1) 0), rows-length ks counts (i + 2)))

-- what was written from the start on can be lent
pub wrote_counts : {old new bs : List ℕ} {r : ℕ} → Wrote old 0 bs new r → length bs ≤ length old → IsPrefixLen r new
wrote_counts {old} {new} {bs} {r} w h =
    let n = wrote-length w (omega arith) in
    let k : r ≤ length new = omega (arith, w.behind) in
    (k, sym (length-take-le r new k))

-- ---- the rows and the last line

pub other_length : (kinds counts : List ℕ) → length (other_bytes kinds counts) ≤ 58
unfolding other_bytes
other_length kinds counts = row-length 63 (get_or counts (2 * length kinds) 0) (get_or counts (2 * length kinds + 1) 0)

pub report_length : (kinds counts : List ℕ) (first : Option ℕ) → length kinds ≤ 24 → length (report_bytes kinds counts first) ≤ 2048
unfolding report_bytes
report_length kinds counts first h =
    rw (length-append, length-append) (omega (arith, rows-length kinds counts 0, other_length kinds counts, first-length first))

-- ---- the report of a buffer, by the code's test

module _ (answer : Answering) (kinds buffer counts : List ℕ) (n : ℕ) (first : Option ℕ) where
  pub report_read : n < length buffer → counts ≡ counted_all (agrees answer) kinds (replicate 50 0) (lines_of (take n buffer))
      → first ≡ first_failed (agrees answer) 0 (lines_of (take n buffer)) → report_bytes kinds counts first ≡ report_of answer kinds buffer n
  unfolding report_of
  report_read h e f = rw (lt-ltb n (length buffer) h, e, f)

pub report_full : (answer : Answering) (kinds buffer : List ℕ) (n : ℕ) → length buffer ≤ n → too_long ≡ report_of answer kinds buffer n
unfolding report_of
report_full answer kinds buffer n h = rw (le-ltb n (length buffer) h)
