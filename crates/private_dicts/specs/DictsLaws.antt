-- Laws of the Font DICTs: how many they are, how long they are, what each is, and that they are those of the subset.
use Rattle.std.specs.Prelude.{ℕ, zero, suc, ◌+◌, ◌*◌, ◌≤◌, ◌<◌, ◌≡◌, refl, List, [], ◌∷◌, ◌++◌, length, take, get_or}
use Rattle.std.proofs.Common.{sym, ap, ◌∙◌, arith, length-append, length-take-le, get_or-take}
use Rattle.std.proofs.Math.Seq.{take-length}
use Rattle.std.proofs.lemmas.List.{take-take}
use Rattle.dict.specs.Op.{font_matrix}
use Rattle.dict_write.specs.Written.{copied_entry, private_entry}
use Rattle.dict_write.specs.WriteLaws.{private-length}
use Rattle.index.specs.Write.{total}
use Rattle.cff.specs.Font.{Program}
use Rattle.subset.specs.Kept.{private_of}
use Rattle.subset.specs.Subset.{matrix_of, private_dict, private_part, font_dict, font_dicts}
use Rattle.private_dicts.specs.Privates.{matrices_by, parts_len, dicts_by, font_dicts_by, no_part, Placed, parts_of}
use Rattle.private_dicts.specs.declared.part.Part.{Part}

no : ◌≡◌ {A = ℕ} 0 1 → ⊥
no h = omega arith

-- ---- over lists of the same length

many : (ms : List (List ℕ)) (qs : List Part) (from : ℕ) → length qs ≡ length ms → length (dicts_by ms qs from) ≡ length ms
unfolding dicts_by
many [] qs from h = refl
many (m ∷ ms) [] from h = absurd (no (omega arith))
many (m ∷ ms) (q ∷ qs) from h = ap suc (many ms qs (from + q.len) (omega arith))

long : (ms : List (List ℕ)) (qs : List Part) (from : ℕ) → length qs ≡ length ms → total (dicts_by ms qs from) ≡ total ms + 11 * length ms
unfolding dicts_by total
long [] qs from h = refl
long (m ∷ ms) [] from h = absurd (no (omega arith))
long (m ∷ ms) (q ∷ qs) from h =
    omega (arith, length-append m (private_entry q.size from), private-length q.size from, long ms qs (from + q.len) (omega arith))

at : (ms : List (List ℕ)) (qs : List Part) (from k : ℕ) → length qs ≡ length ms → k < length ms
    → get_or (dicts_by ms qs from) k [] ≡ get_or ms k [] ++ private_entry (get_or qs k no_part).size (from + parts_len (take k qs))
unfolding dicts_by parts_len
at [] qs from k h q = absurd (no (omega arith))
at (m ∷ ms) [] from k h q = absurd (no (omega arith))
at (m ∷ ms) (x ∷ qs) from zero h q = let e : from ≡ from + 0 = omega arith in ap (λ (n : ℕ). m ++ private_entry x.size n) e
at (m ∷ ms) (x ∷ qs) from (suc k) h q =
    let e : from + x.len + parts_len (take k qs) ≡ from + (x.len + parts_len (take k qs)) = omega arith in
    at ms qs (from + x.len) k (omega arith) (omega arith)
    ∙ ap (λ (n : ℕ). get_or ms k [] ++ private_entry (get_or qs k no_part).size n) e

-- ---- the FontMatrix entries

pub matrices_length : (p : Program) (fds : List ℕ) → length (matrices_by p fds) ≡ length fds
unfolding matrices_by
matrices_length p [] = refl
matrices_length p (f ∷ fs) = ap suc (matrices_length p fs)

matrix_at : (p : Program) (fds : List ℕ) (k : ℕ) → k < length fds → get_or (matrices_by p fds) k [] ≡ copied_entry font_matrix (matrix_of p (get_or fds k 0))
unfolding matrices_by
matrix_at p [] k h = absurd (no (omega arith))
matrix_at p (f ∷ fs) zero h = refl
matrix_at p (f ∷ fs) (suc k) h = matrix_at p fs k (omega arith)

-- one more
pub matrices_next : (p : Program) (fds : List ℕ) (k : ℕ) → k < length fds
    → total (matrices_by p (take (k + 1) fds)) ≡ total (matrices_by p (take k fds)) + length (copied_entry font_matrix (matrix_of p (get_or fds k 0)))
unfolding matrices_by total
matrices_next p [] k h = absurd (no (omega arith))
matrices_next p (f ∷ fs) zero h = omega arith
matrices_next p (f ∷ fs) (suc k) h =
    let e : suc k + 1 ≡ suc (k + 1) = omega arith in
    let t : total (matrices_by p (take (suc k + 1) (f ∷ fs))) ≡ length (copied_entry font_matrix (matrix_of p f)) + total (matrices_by p (take (k + 1) fs))
    = ap (λ (n : ℕ). total (matrices_by p (take n (f ∷ fs)))) e in
    omega (arith, t, matrices_next p fs k (omega arith))

-- so many of them
pub matrices-counted : (p : Program) (fds : List ℕ) (k count : ℕ) → k ≤ count → count ≤ k → (len : ℕ) → len ≡ total (matrices_by p (take k fds))
    → len ≡ total (matrices_by p (take count fds))
matrices-counted p fds k count h g len e = let i : k ≡ count = omega arith in e ∙ ap (λ (n : ℕ). total (matrices_by p (take n fds))) i

-- all of them
pub matrices_all : (p : Program) (fds : List ℕ) (k : ℕ) → k ≡ length fds → (len : ℕ) → len ≡ total (matrices_by p (take k fds)) → len ≡ total (matrices_by p fds)
matrices_all p fds k i len e = e ∙ ap (λ (n : ℕ). total (matrices_by p (take n fds))) i ∙ ap (λ (l : List ℕ). total (matrices_by p l)) (take-length fds)

pub matrices_none : (p : Program) (fds : List ℕ) → 0 ≡ total (matrices_by p (take 0 fds))
unfolding matrices_by total
matrices_none p fds = refl

-- ---- the first so many

pub parts-next : (qs : List Part) (k : ℕ) → k < length qs → parts_len (take (k + 1) qs) ≡ parts_len (take k qs) + (get_or qs k no_part).len
unfolding parts_len
parts-next [] k h = absurd (no (omega arith))
parts-next (x ∷ qs) zero h = omega arith
parts-next (x ∷ qs) (suc k) h =
    let e : suc k + 1 ≡ suc (k + 1) = omega arith in
    let f : parts_len (take (suc k + 1) (x ∷ qs)) ≡ x.len + parts_len (take (k + 1) qs) = ap (λ (n : ℕ). parts_len (take n (x ∷ qs))) e in
    omega (arith, parts-next qs k (omega arith))

-- no part is before the first
pub start-place : (qs : List Part) (from : ℕ) → from ≡ from + parts_len (take 0 qs)
unfolding parts_len
start-place qs from = omega arith

pub parts-part : (qs : List Part) (k n : ℕ) → k ≤ n → parts_len (take k qs) ≤ parts_len (take n qs)
unfolding parts_len
parts-part qs zero n h = omega arith
parts-part [] (suc k) zero h = absurd (no (omega arith))
parts-part [] (suc k) (suc n) h = omega arith
parts-part (x ∷ qs) (suc k) zero h = absurd (no (omega arith))
parts-part (x ∷ qs) (suc k) (suc n) h = omega (arith, parts-part qs k n (omega arith))

module _ (f : Program) (fds : List ℕ) (parts : List Part) (from : ℕ) (p : Placed f fds parts from) where
  even : length (take (length fds) parts) ≡ length (matrices_by f fds)
  even = length-take-le (length fds) parts p.long ∙ sym (matrices_length f fds)

  pub dicts_many : length fds ≡ length (font_dicts_by f fds parts from)
  dicts_many = sym (many (matrices_by f fds) (take (length fds) parts) from even ∙ matrices_length f fds)

  pub dicts-total : (m : ℕ) → m ≡ total (matrices_by f fds) → m + 11 * length fds ≡ total (font_dicts_by f fds parts from)
  dicts-total m e =
      sym (long (matrices_by f fds) (take (length fds) parts) from even
      ∙ ap (λ (n : ℕ). total (matrices_by f fds) + 11 * n) (matrices_length f fds) ∙ ap (λ (n : ℕ). n + 11 * length fds) (sym e))

  pub dicts-at : (k place : ℕ) → k < length fds → place ≡ from + parts_len (take k parts)
      → copied_entry font_matrix (matrix_of f (get_or fds k 0)) ++ private_entry (get_or parts k no_part).size place ≡ get_or (font_dicts_by f fds parts from) k []
  dicts-at k place h e =
      let count = length fds in
      sym (at (matrices_by f fds) (take count parts) from k even (omega (arith, h, matrices_length f fds))
      ∙ ap (λ (l : List ℕ). l ++ private_entry (get_or (take count parts) k no_part).size (from + parts_len (take k (take count parts)))) (matrix_at f fds k h)
      ∙ ap (λ (q : Part). copied_entry font_matrix (matrix_of f (get_or fds k 0)) ++ private_entry q.size (from + parts_len (take k (take count parts)))) (get_or-take count parts k no_part h)
      ∙ ap (λ (qs : List Part). copied_entry font_matrix (matrix_of f (get_or fds k 0)) ++ private_entry (get_or parts k no_part).size (from + parts_len qs)) (take-take k count parts (omega arith))
      ∙ ap (λ (n : ℕ). copied_entry font_matrix (matrix_of f (get_or fds k 0)) ++ private_entry (get_or parts k no_part).size n) (sym e))

  -- the places are held by the five-byte form
  pub place-small : (k place : ℕ) → k ≤ length fds → place ≡ from + parts_len (take k parts) → place < 2147483648
  place-small k place h e = omega (arith, p.ends, parts-part parts k (length fds) h)

  pub place-next : (k place : ℕ) → k < length fds → place ≡ from + parts_len (take k parts)
      → place + (get_or parts k no_part).len ≡ from + parts_len (take (k + 1) parts)
  place-next k place h e = omega (arith, parts-next parts k (omega (arith, p.long)))

-- ---- those of the subset

pub font-dicts_are : (p : Program) (from : ℕ) (used : List ℕ) (lss : List (List (List ℕ)))
    → font_dicts p from used lss ≡ dicts_by (matrices_by p used) (parts_of p used lss) from
unfolding font_dicts dicts_by matrices_by parts_of
font-dicts_are p from [] lss = refl
font-dicts_are p from (f ∷ fs) [] = refl
font-dicts_are p from (f ∷ fs) (ls ∷ lss) =
    ap (λ (l : List (List ℕ)). font_dict p f (length (private_dict (private_of p f) ls)) from ∷ l)
    (font-dicts_are p (from + length (private_part (private_of p f) ls)) fs lss)

-- their INDEX is as long wherever they stand
pub dicts_long : (ms : List (List ℕ)) (qs : List Part) (from : ℕ) → length qs ≡ length ms
    → (length (dicts_by ms qs from) ≡ length ms) × (total (dicts_by ms qs from) ≡ total ms + 11 * length ms)
dicts_long ms qs from h = (many ms qs from h, long ms qs from h)
