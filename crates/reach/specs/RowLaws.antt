-- Laws of the rows of a record: the i-th row by its bytes, and the rows from the i-th on.
use Rattle.std.specs.Prelude.{ℕ, zero, suc, ◌+◌, ◌-◌, ◌*◌, ◌/◌, ◌≤◌, ◌<◌, ◌≡◌, Bool, true, false, List, [], ◌∷◌, length, drop, get_or}
use Rattle.std.proofs.Common.{sym, ◌∙◌, arith, drop-drop, get_or-drop}
use Rattle.octets.specs.Octets.{Octets, num_at}
use Rattle.octets.specs.OctetsLaws.{num-two, num-four}
use Rattle.unfold.specs.Unfold.{Row}
use Rattle.record.specs.Record.{row_of, rows_from, rows_of, row_fine_lem, rows_fine_lem}
use Rattle.reach.specs.Reach.{Fits, row_no, rest_of}

-- a number behind a place
num-behind : (b : List ℕ) (at p n : ℕ) → num_at (drop at b) p n ≡ num_at b (at + p) n
unfolding num_at
num-behind b at p n = rw drop-drop

-- a row from its five numbers
abbrev row_with : ℕ → ℕ → ℕ → ℕ → ℕ → Row
row_with kind fd number offset len = record { kind = kind; fd = fd; number = number; offset = offset; len = len }

-- the row at a place, by its bytes
pub row_read : (b : List ℕ) (at kind fd number offset len : ℕ) → kind ≡ get_or b at 0 → fd ≡ get_or b (at + 1) 0 → number ≡ num_at b (at + 2) 2
    → offset ≡ num_at b (at + 4) 4 → len ≡ num_at b (at + 8) 2 → row_with kind fd number offset len ≡ row_of (drop at b)
row_read b at kind fd number offset len k f n o l =
    let z : at + 0 ≡ at = omega arith in
    let k' : get_or (drop at b) 0 0 ≡ kind = get_or-drop at b 0 0 ∙ rw z (sym k) in
    let f' : get_or (drop at b) 1 0 ≡ fd = get_or-drop at b 1 0 ∙ sym f in
    let n' : num_at (drop at b) 2 2 ≡ number = num-behind b at 2 2 ∙ sym n in
    let o' : num_at (drop at b) 4 4 ≡ offset = num-behind b at 4 4 ∙ sym o in
    let l' : num_at (drop at b) 8 2 ≡ len = num-behind b at 8 2 ∙ sym l in
    rw (k', f', n', o', l')

two-small : (b : List ℕ) → Octets b → (p : ℕ) → p + 2 ≤ length b → num_at b p 2 < 65536
two-small b o p h = omega (arith, num-two b p h, o p, o (p + 1))

four-small : (b : List ℕ) → Octets b → (p : ℕ) → p + 4 ≤ length b → num_at b p 4 < 4294967296
four-small b o p h = omega (arith, num-four b p h, o p, o (p + 1), o (p + 2), o (p + 3))

-- the numbers of a row at a place
pub row_fits : (b : List ℕ) → Octets b → (at : ℕ) → at + 10 ≤ length b → Fits (row_of (drop at b))
row_fits b o at h =
    record {
      kind = omega (arith, get_or-drop at b 0 0, o (at + 0));
      fd = omega (arith, get_or-drop at b 1 0, o (at + 1));
      number = omega (arith, num-behind b at 2 2, two-small b o (at + 2) (omega arith));
      offset = omega (arith, num-behind b at 4 4, four-small b o (at + 4) (omega arith));
      len = omega (arith, num-behind b at 8 2, two-small b o (at + 8) (omega arith));
    }

-- all rows of a list fit
unfoldable pub AllFit : List Row → Type 0
AllFit [] = Unit {0}
AllFit (r ∷ rs) = Fits r × AllFit rs

fit_from : (b : List ℕ) → Octets b → (n at : ℕ) → at + 10 * n ≤ length b → AllFit (rows_from n (drop at b))
unfolding AllFit rows_from
fit_from b o zero at h = tt
fit_from b o (suc n) at h = (row_fits b o at (omega arith), rw drop-drop (fit_from b o n (at + 10) (omega arith)))

pub all_fit : (b : List ℕ) → Octets b → AllFit (rows_of b)
unfolding rows_of
all_fit b o = fit_from b o (length b / 10) 0 (omega arith)

-- ---- the rows from the i-th on

pub rest_all : (b : List ℕ) → rest_of b 0 ≡ rows_of b
unfolding rows_of
rest_all b = let e : length b / 10 - 0 ≡ length b / 10 = omega arith in rw e

pub rest-none : (b : List ℕ) (i : ℕ) → length b / 10 ≤ i → rest_of b i ≡ []
unfolding rows_from
rest-none b i h = let e : length b / 10 - i ≡ 0 = omega arith in rw e

rows_more : (n : ℕ) (b : List ℕ) → 0 < n → rows_from n b ≡ row_of b ∷ rows_from (n - 1) (drop 10 b)
unfolding rows_from
rows_more zero b h = absurd (omega arith)
rows_more (suc n) b h = let e : suc n - 1 ≡ n = omega arith in rw e

pub rest-next : (b : List ℕ) (i : ℕ) → i < length b / 10 → rest_of b i ≡ row_no b i ∷ rest_of b (i + 1)
rest-next b i h =
    let e : length b / 10 - i - 1 ≡ length b / 10 - (i + 1) = omega arith in
    let d : 10 * i + 10 ≡ 10 * (i + 1) = omega arith in
    rows_more (length b / 10 - i) (drop (10 * i) b) (omega arith) ∙ rw (drop-drop, e, d)

-- ---- refusal 8, row by row

module _ (cid : Bool) (b : List ℕ) (i : ℕ) where
  pub fine_stops : i < length b / 10 → row_fine_lem cid (row_no b i) ≡ false → false ≡ rows_fine_lem cid (rest_of b i)
  unfolding rows_fine_lem
  fine_stops h e = rw (rest-next b i h, e)

  pub fine_goes_on : i < length b / 10 → row_fine_lem cid (row_no b i) ≡ true → rows_fine_lem cid (rest_of b (i + 1)) ≡ rows_fine_lem cid (rest_of b i)
  unfolding rows_fine_lem
  fine_goes_on h e = rw (rest-next b i h, e)

  pub fine_done : length b / 10 ≤ i → true ≡ rows_fine_lem cid (rest_of b i)
  unfolding rows_fine_lem
  fine_done h = rw (rest-none b i h)
