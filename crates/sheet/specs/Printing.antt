-- Laws of printing (document 01, 'One sheet, whole'): a byte of a line at a time, and how long what is printed is.
use Rattle.std.specs.Prelude.{ℕ, suc, ◌+◌, ◌*◌, ◌/◌, ◌%◌, ◌≤◌, ◌<◌, ◌≡◌, refl, Bool, true, false, List, [], ◌∷◌, ◌++◌, eqb, length, drop, get_or}
use Rattle.std.proofs.Common.{sym, ap, ◌∙◌, arith, add-one, eq-eqb, ne_eqb, lt-ltb, le-ltb, length-append, drop-cons}
use Rattle.std.proofs.Math.Seq.{drop-length}
use Rattle.octets.specs.Pick.{pick}
use Rattle.octets.specs.Octets.{bytes_of}
use Rattle.octets.specs.Out.{Writes}
use Rattle.octets.specs.declared.out.Out.{Out}
use Rattle.hexlines.specs.Hexlines.{digit_of, hex_text}
use Rattle.subset.specs.Cut.{subset}
use Rattle.sheet.specs.Sheet.{in_lines, refusal_line, subset_lines, printed}
use Rattle.subset.specs.declared.Way.{Way}
use Rattle.subset.specs.Way.{way_number}

-- ---- digits

pub digit_low : (v : ℕ) → v < 10 → 48 + v ≡ digit_of v
unfolding digit_of
digit_low v h = rw (lt-ltb v 10 h)

pub digit-high : (v : ℕ) → 10 ≤ v → 87 + v ≡ digit_of v
unfolding digit_of
digit-high v h = rw (le-ltb v 10 h)

-- the two digits of a byte, and the digits of a length
pub text-two : (b h l : ℕ) → h ≡ digit_of (b / 16) → l ≡ digit_of (b % 16) → h ∷ (l ∷ []) ≡ hex_text (b ∷ [])
unfolding hex_text
text-two b h l high low = rw (high, low)

pub text-pair : (v : ℕ) → hex_text (v / 256 % 256 ∷ []) ++ hex_text (v % 256 ∷ []) ≡ hex_text (bytes_of 2 v)
unfolding hex_text bytes_of
text-pair v = refl

pub text-four : (v : ℕ) → hex_text (bytes_of 2 (v / 256 / 256)) ++ hex_text (bytes_of 2 v) ≡ hex_text (bytes_of 4 v)
unfolding hex_text bytes_of
text-four v = refl

-- the number of the way, the length and a line feed
unfoldable pub head_bytes : ℕ → ℕ → List ℕ
head_bytes way n = hex_text (way ∷ bytes_of 4 n) ++ (10 ∷ [])

pub head-parts : (way n : ℕ) → hex_text (way ∷ []) ++ (hex_text (bytes_of 4 n) ++ (10 ∷ [])) ≡ head_bytes way n
unfolding head_bytes hex_text bytes_of
head-parts way n = refl

pub head-length : (way n : ℕ) → length (head_bytes way n) ≡ 11
unfolding head_bytes hex_text bytes_of
head-length way n = refl

pub head-behind : (way n : ℕ) {old new : Out} → Writes old (head_bytes way n) new → new.at ≡ old.at + 11
head-behind way n w = omega (arith, w.wrote.behind, head-length way n)

pub text-length : (b : ℕ) → length (hex_text (b ∷ [])) ≡ 2
unfolding hex_text
text-length b = refl

pub four-length : (n : ℕ) → length (hex_text (bytes_of 4 n)) ≡ 8
unfolding hex_text bytes_of
four-length n = refl

pub two-length : (n : ℕ) → length (hex_text (bytes_of 2 n)) ≡ 4
unfolding hex_text bytes_of
two-length n = refl

pub way-parts : (way : ℕ) (bs : List ℕ) → head_bytes way (length bs) ++ in_lines 0 bs ≡ subset_lines way bs
unfolding head_bytes hex_text bytes_of
way-parts way bs = refl

-- a subset is printed by the number of its way
pub way-told : (way : Way) (bs : List ℕ) → subset_lines (way_number way) bs ≡ printed (subset way bs)
unfolding printed
way-told way bs = refl

pub subset-parts : (way : Way) (bs : List ℕ) → head_bytes (way_number way) (length bs) ++ in_lines 0 bs ≡ printed (subset way bs)
subset-parts way bs = way-parts (way_number way) bs ∙ way-told way bs

-- ---- bytes in lines

-- a byte, and the line feed behind the last of a line
unfoldable pub cell_bytes : ℕ → ℕ → List ℕ
cell_bytes b col = hex_text (b ∷ []) ++ pick (eqb col 15) (10 ∷ []) []

-- the bytes in the line after one more
unfoldable pub next_col : ℕ → ℕ
next_col col = pick (eqb col 15) 0 (col + 1)

pub cell-last : (b col : ℕ) → col ≡ 15 → hex_text (b ∷ []) ++ (10 ∷ []) ≡ cell_bytes b col
unfolding cell_bytes
cell-last b col e = rw (eq-eqb col 15 e)

pub cell_inner : (b col : ℕ) → (col ≡ 15 → ⊥) → hex_text (b ∷ []) ≡ cell_bytes b col
unfolding cell_bytes hex_text
cell_inner b col n = rw (ne_eqb col 15 n)

pub col_last : (col : ℕ) → col ≡ 15 → 0 ≡ next_col col
unfolding next_col
col_last col e = rw (eq-eqb col 15 e)

pub col_inner : (col : ℕ) → (col ≡ 15 → ⊥) → col + 1 ≡ next_col col
unfolding next_col
col_inner col n = rw (ne_eqb col 15 n)

lines-first : (col b : ℕ) (bs : List ℕ) → in_lines col (b ∷ bs) ≡ cell_bytes b col ++ in_lines (next_col col) bs
unfolding in_lines cell_bytes next_col hex_text
lines-first col b bs = go (eqb col 15)
  where
    go : (t : Bool) → hex_text (b ∷ []) ++ pick t (10 ∷ in_lines 0 bs) (in_lines (col + 1) bs)
        ≡ (hex_text (b ∷ []) ++ pick t (10 ∷ []) []) ++ in_lines (pick t 0 (col + 1)) bs
    go true = refl
    go false = refl

pub lines_step : (bytes : List ℕ) (i col : ℕ) → i < length bytes
    → in_lines col (drop i bytes) ≡ cell_bytes (get_or bytes i 0) col ++ in_lines (next_col col) (drop (i + 1) bytes)
lines_step bytes i col h =
    let e : drop i bytes ≡ get_or bytes i 0 ∷ drop (i + 1) bytes = drop-cons bytes i 0 h ∙ rw add-one in
    ap (in_lines col) e ∙ lines-first col (get_or bytes i 0) (drop (i + 1) bytes)

pub lines-whole : (bytes : List ℕ) (i col : ℕ) → i ≡ length bytes → col ≡ 0 → in_lines col (drop i bytes) ≡ []
unfolding in_lines
lines-whole bytes i col e z = rw (e, z, drop-length)

pub lines_begun : (bytes : List ℕ) (i col : ℕ) → i ≡ length bytes → (col ≡ 0 → ⊥) → in_lines col (drop i bytes) ≡ (10 ∷ []) ++ []
unfolding in_lines
lines_begun bytes i col e n = rw (e, drop-length, ne_eqb col 0 n)

pub cell-length : (b col : ℕ) → length (cell_bytes b col) ≤ 3
unfolding cell_bytes hex_text
cell-length b col = go (eqb col 15)
  where
    go : (t : Bool) → length (digit_of (b / 16) ∷ (digit_of (b % 16) ∷ pick t (10 ∷ []) [])) ≤ 3
    go true = omega arith
    go false = omega arith

pub last-length : (b col : ℕ) → col ≡ 15 → length (cell_bytes b col) ≡ 3
unfolding hex_text
last-length b col e = ap length (sym (cell-last b col e))

pub inner_length : (b col : ℕ) → (col ≡ 15 → ⊥) → length (cell_bytes b col) ≡ 2
unfolding hex_text
inner_length b col n = ap length (sym (cell_inner b col n))

-- ---- a refusal

pub refused_parts : (n : ℕ) → hex_text (255 ∷ []) ++ (hex_text (n ∷ []) ++ (10 ∷ [])) ≡ refusal_line n
unfolding hex_text
refused_parts n = refl

-- ---- how long it is

lines-length : (bs : List ℕ) (col : ℕ) → length (in_lines col bs) ≤ 3 * length bs + 1
unfolding in_lines
lines-length [] col = go (eqb col 0)
  where
    go : (t : Bool) → length (pick {A = List ℕ} t [] (10 ∷ [])) ≤ 1
    go true = omega arith
    go false = omega arith
lines-length (b ∷ bs) col =
    let n = ap length (lines-first col b bs) ∙ length-append (cell_bytes b col) (in_lines (next_col col) bs) in
    let e : length (in_lines col (b ∷ bs)) ≤ 3 * suc (length bs) + 1 = omega (arith, n, cell-length b col, lines-length bs (next_col col)) in
    e

pub way-length : (way : ℕ) (bs : List ℕ) → length (subset_lines way bs) ≡ 11 + length (in_lines 0 bs)
way-length way bs =
    let n = ap length (sym (way-parts way bs)) ∙ length-append (head_bytes way (length bs)) (in_lines 0 bs) in
    omega (arith, n, head-length way (length bs))

pub way-room : (way : ℕ) (bs : List ℕ) → length (subset_lines way bs) ≤ 3 * length bs + 12
way-room way bs = omega (arith, way-length way bs, lines-length bs 0)

-- a subset of 32,768 bytes is printed in up to 98,316
pub printed-length : (way : Way) (bs : List ℕ) → length (printed (subset way bs)) ≤ 3 * length bs + 12
unfolding printed
printed-length way bs = way-room (way_number way) bs

pub subset-length : (way : Way) (bs : List ℕ) → length (printed (subset way bs)) ≡ 11 + length (in_lines 0 bs)
unfolding printed
subset-length way bs = way-length (way_number way) bs
