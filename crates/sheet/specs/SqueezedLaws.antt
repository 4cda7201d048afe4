-- The sheet of a text is that of what is kept of it: only line feeds of empty rows are left out. A text of which more than 48,134 bytes are kept
-- holds no sheet.
use Rattle.std.specs.Prelude.{ℕ, zero, suc, ◌+◌, ◌*◌, ◌%◌, ◌≤◌, ◌<◌, ◌≡◌, refl, Bool, true, false, List, [], ◌∷◌, leb, eqb, length, None, Some}
use Rattle.std.proofs.Common.{sym, ap, ◌∙◌, subst, arith, ne_eqb, lt-ltb, eqb-true, leb-true}
use Rattle.octets.specs.Pick.{pick}
use Rattle.octets.specs.PickLaws.{both_hold}
use Rattle.hexlines.specs.Hexlines.{is_hex_lem}
use Rattle.cases.specs.Lines.{in_front, lines_of}
use Rattle.sheet.specs.Sheet.{hex_up_to, is_kept, hex_of, all_rows, filled, are_rows, sheet_with, is_sheet_lem, sheet_in, sheet_of}
use Rattle.sheet.specs.Taking.{next_mode, ends_empty, kept_of, squeezed}
use Rattle.sheet.specs.ReadingLaws.{hex-of, are-rows}

-- ---- rows: at the start of one, and within one

-- what is kept of a byte, in each mode
kept-digit : (m x : ℕ) (xs : List ℕ) → eqb x 10 ≡ false → squeezed m (x ∷ xs) ≡ x ∷ squeezed (pick (eqb m 4) 5 m) xs
unfolding squeezed kept_of ends_empty next_mode
kept-digit m x xs e = rw e

lines-feed : (xs : List ℕ) → lines_of (10 ∷ xs) ≡ [] ∷ lines_of xs
unfolding lines_of
lines-feed xs = refl

lines-digit : (x : ℕ) (xs : List ℕ) → eqb x 10 ≡ false → lines_of (x ∷ xs) ≡ in_front x (lines_of xs)
unfolding lines_of
lines-digit x xs e = rw e

head-kept : (m : ℕ) (xs : List ℕ) → m < 4 → squeezed m (10 ∷ xs) ≡ 10 ∷ squeezed (m + 1) xs
unfolding squeezed kept_of ends_empty next_mode
head-kept m xs h = let n : m ≡ 4 → ⊥ = λ e. omega arith in rw (ne_eqb m 4 n, lt-ltb m 4 h)

head-kept-digit : (m x : ℕ) (xs : List ℕ) → m < 4 → eqb x 10 ≡ false → squeezed m (x ∷ xs) ≡ x ∷ squeezed m xs
head-kept-digit m x xs h e = let n : m ≡ 4 → ⊥ = λ e. omega arith in kept-digit m x xs e ∙ ap (λ (t : Bool). x ∷ squeezed (pick t 5 m) xs) (ne_eqb m 4 n)

-- a row begun is kept, empty or not
begun : List (List ℕ) → List (List ℕ)
begun [] = []
begun (l ∷ ls) = l ∷ filled ls

front_begun : (x : ℕ) (ls : List (List ℕ)) → in_front x (begun ls) ≡ begun (in_front x ls)
unfolding begun filled
front_begun x [] = refl
front_begun x (l ∷ ls) = refl

front-filled : (x : ℕ) (ls : List (List ℕ)) → in_front x (begun ls) ≡ filled (in_front x ls)
unfolding begun filled
front-filled x [] = refl
front-filled x (l ∷ ls) = refl

-- the lines kept of rows, from the start of one on and from within one
abbrev RowLines : List ℕ → Type 0
RowLines xs = (lines_of (squeezed 4 xs) ≡ filled (lines_of xs)) × (lines_of (squeezed 5 xs) ≡ begun (lines_of xs))

row-feed : (xs : List ℕ) → RowLines xs → RowLines (10 ∷ xs)
unfolding squeezed kept_of ends_empty next_mode lines_of filled begun
row-feed xs ih = (ih.0, ap (λ (l : List (List ℕ)). [] ∷ l) ih.0)

row-digit : (x : ℕ) (xs : List ℕ) → eqb x 10 ≡ false → RowLines xs → RowLines (x ∷ xs)
row-digit x xs e ih = (
  ap lines_of (kept-digit 4 x xs e) ∙ lines-digit x (squeezed 5 xs) e ∙ ap (in_front x) ih.1 ∙ front-filled x (lines_of xs) ∙ sym (ap filled (lines-digit x xs e)),
  ap lines_of (kept-digit 5 x xs e) ∙ lines-digit x (squeezed 5 xs) e ∙ ap (in_front x) ih.1 ∙ front_begun x (lines_of xs) ∙ sym (ap begun (lines-digit x xs e)),
)

row-byte : (t : Bool) (x : ℕ) (xs : List ℕ) → eqb x 10 ≡ t → RowLines xs → RowLines (x ∷ xs)
row-byte true x xs e ih = let h : 10 ≡ x = sym (eqb-true x 10 e) in subst (λ (y : ℕ). RowLines (y ∷ xs)) h (row-feed xs ih)
row-byte false x xs e ih = row-digit x xs e ih

row-lines : (xs : List ℕ) → RowLines xs
unfolding squeezed lines_of filled begun
row-lines [] = (refl, refl)
row-lines (x ∷ xs) = row-byte (eqb x 10) x xs refl (row-lines xs)

-- ---- the head: the first k lines as they are, and the rows behind them that are not empty

headed : ℕ → List (List ℕ) → List (List ℕ)
headed zero ls = filled ls
headed (suc k) [] = []
headed (suc k) (l ∷ ls) = l ∷ headed k ls

front_headed : (x k : ℕ) (ls : List (List ℕ)) → in_front x (headed (suc k) ls) ≡ headed (suc k) (in_front x ls)
unfolding headed filled
front_headed x zero [] = refl
front_headed x (suc k) [] = refl
front_headed x k (l ∷ ls) = refl

-- k lines of the head are still to come, from within the first of them on: the mode is 4 - k
abbrev HeadLines : ℕ → ℕ → List ℕ → Type 0
HeadLines k m xs = lines_of (squeezed m xs) ≡ headed k (lines_of xs)

head-feed : (k m : ℕ) (xs : List ℕ) → m < 4 → HeadLines k (m + 1) xs → HeadLines (suc k) m (10 ∷ xs)
unfolding headed
head-feed k m xs h ih =
    ap lines_of (head-kept m xs h) ∙ lines-feed (squeezed (m + 1) xs) ∙ ap (λ (l : List (List ℕ)). [] ∷ l) ih ∙ sym (ap (headed (suc k)) (lines-feed xs))

head-digit : (k m x : ℕ) (xs : List ℕ) → m < 4 → eqb x 10 ≡ false → HeadLines (suc k) m xs → HeadLines (suc k) m (x ∷ xs)
head-digit k m x xs h e ih =
    ap lines_of (head-kept-digit m x xs h e) ∙ lines-digit x (squeezed m xs) e ∙ ap (in_front x) ih ∙ front_headed x k (lines_of xs)
    ∙ sym (ap (headed (suc k)) (lines-digit x xs e))

head_byte : (t : Bool) (k m x : ℕ) (xs : List ℕ) → m < 4 → eqb x 10 ≡ t → HeadLines k (m + 1) xs → HeadLines (suc k) m xs → HeadLines (suc k) m (x ∷ xs)
head_byte true k m x xs h e next same = let g : 10 ≡ x = sym (eqb-true x 10 e) in subst (λ (y : ℕ). HeadLines (suc k) m (y ∷ xs)) g (head-feed k m xs h next)
head_byte false k m x xs h e next same = head-digit k m x xs h e same

head-lines : (k m : ℕ) (xs : List ℕ) → m + k ≡ 4 → HeadLines k m xs
unfolding headed squeezed lines_of
head-lines zero m xs e = let h : 4 ≡ m = omega arith in subst (λ (j : ℕ). HeadLines 0 j xs) h (row-lines xs).0
head-lines (suc k) m [] e = refl
head-lines (suc k) m (x ∷ xs) e = head_byte (eqb x 10) k m x xs (omega arith) refl (head-lines k (m + 1) xs (omega arith)) (head-lines (suc k) m xs e)

-- ---- the sheet

filled-twice : (ls : List (List ℕ)) → filled (filled ls) ≡ filled ls
unfolding filled
filled-twice [] = refl
filled-twice ([] ∷ ls) = filled-twice ls
filled-twice ((x ∷ l) ∷ ls) = ap (λ (t : List (List ℕ)). (x ∷ l) ∷ t) (filled-twice ls)

sheet_headed : (ls : List (List ℕ)) → sheet_in (headed 4 ls) ≡ sheet_in ls
unfolding sheet_in headed
sheet_headed [] = refl
sheet_headed (a ∷ []) = refl
sheet_headed (a ∷ (b ∷ [])) = refl
sheet_headed (a ∷ (b ∷ (c ∷ []))) = refl
sheet_headed (a ∷ (b ∷ (c ∷ (d ∷ ls)))) =
    ap (λ (t : List (List ℕ)). pick (is_sheet_lem a b c d t) (Some (sheet_with a b c d t)) None) (filled-twice ls)

-- what is kept of a text holds its sheet
pub sheet-squeezed : (text : List ℕ) → sheet_of (squeezed 0 text) ≡ sheet_of text
unfolding sheet_of
sheet-squeezed text = ap sheet_in (head-lines 4 0 text refl) ∙ sheet_headed (lines_of text)

-- ---- how long it is

-- the bytes of lines with their line feeds
total : List (List ℕ) → ℕ
total [] = 0
total (l ∷ ls) = suc (length l) + total ls

total-front : (x : ℕ) (ls : List (List ℕ)) → suc (total ls) ≤ total (in_front x ls)
unfolding total
total-front x [] = omega arith
total-front x (l ∷ ls) = omega arith

total-byte : (t : Bool) (x : ℕ) (xs : List ℕ) → eqb x 10 ≡ t → length xs ≤ total (lines_of xs) → suc (length xs) ≤ total (lines_of (x ∷ xs))
unfolding lines_of total
total-byte true x xs e h = rw e (omega (arith, h))
total-byte false x xs e h = rw e (omega (arith, h, total-front x (lines_of xs)))

total-lines : (xs : List ℕ) → length xs ≤ total (lines_of xs)
total-lines [] = omega arith
total-lines (x ∷ xs) = total-byte (eqb x 10) x xs refl (total-lines xs)

total-rows : (ls : List (List ℕ)) → all_rows ls ≡ true → total ls ≡ 21 * length ls
unfolding all_rows total
total-rows [] e = refl
total-rows (l ∷ ls) e =
    let p = both_hold (hex_of 20 l) (all_rows ls) e in
    omega (arith, (hex-of l 20 p.0).0, total-rows ls p.1)

up_to_length : (n : ℕ) (l : List ℕ) → hex_up_to n l ≡ true → length l ≤ 2 * n
unfolding hex_up_to
up_to_length n l e = leb-true (length l) (2 * n) (both_hold (leb (length l) (2 * n)) (is_hex_lem l) e).0

kept-length : (l : List ℕ) → is_kept l ≡ true → length l ≤ 4096
unfolding is_kept
kept-length l e = omega (arith, up_to_length 2048 l (both_hold (eqb (length l % 4) 0) (hex_up_to 2048 l) e).1)

rows-length : (ls : List (List ℕ)) → are_rows ls ≡ true → total ls ≤ 10752
rows-length ls e = let p = are-rows ls e in omega (arith, p.0, total-rows ls p.1)

sheet-length : (a b c d : List ℕ) (ls : List (List ℕ)) → is_sheet_lem a b c d ls ≡ true → total (a ∷ (b ∷ (c ∷ (d ∷ ls)))) ≤ 48134
unfolding is_sheet_lem total
sheet-length a b c d ls e =
    let p = both_hold (hex_up_to 16384 a) _ e in
    let q = both_hold (hex_up_to 256 b) _ p.1 in
    let r = both_hold (is_kept c) _ q.1 in
    let s = both_hold (hex_of 2 d) _ r.1 in
    omega (arith, up_to_length 16384 a p.0, up_to_length 256 b q.0, kept-length c r.0, (hex-of d 2 s.0).0, rows-length ls s.1)

sheet_long : (t : Bool) (a b c d : List ℕ) (ls : List (List ℕ)) → is_sheet_lem a b c d ls ≡ t → 48134 < total (a ∷ (b ∷ (c ∷ (d ∷ ls))))
    → pick t (Some (sheet_with a b c d ls)) None ≡ None
sheet_long true a b c d ls e h = absurd (omega (arith, h, sheet-length a b c d ls e))
sheet_long false a b c d ls e h = refl

lines_long : (ls : List (List ℕ)) → 48134 < total (headed 4 ls) → sheet_in ls ≡ None
unfolding sheet_in headed
lines_long [] h = refl
lines_long (a ∷ []) h = refl
lines_long (a ∷ (b ∷ [])) h = refl
lines_long (a ∷ (b ∷ (c ∷ []))) h = refl
lines_long (a ∷ (b ∷ (c ∷ (d ∷ ls)))) h = sheet_long (is_sheet_lem a b c d (filled ls)) a b c d (filled ls) refl h

-- a text of which more than 48,134 bytes are kept holds no sheet
pub sheet-over : (text : List ℕ) → 48134 < length (squeezed 0 text) → sheet_of text ≡ None
unfolding sheet_of
sheet-over text h =
    let e : total (lines_of (squeezed 0 text)) ≡ total (headed 4 (lines_of text)) = ap total (head-lines 4 0 text refl) in
    lines_long (lines_of text) (omega (arith, h, total-lines (squeezed 0 text), e))
