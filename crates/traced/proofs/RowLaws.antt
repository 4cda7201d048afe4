-- Laws of a record's bytes (document 01, 'Reach record'): rows whose fields fit their bytes read back; a record has the rows that it is made of,
-- rising; and it is what the keys of its rows give, sorted.
use Rattle.std.specs.Prelude.{ℕ, zero, suc, ◌*◌, ◌/◌, ◌%◌, ◌^◌, ◌<◌, ◌≡◌, refl, length, drop}
use Rattle.std.proofs.Common.{sym, ◌∙◌, subst, ⊎_elim, arith, length-append, drop-drop}
use Rattle.std.proofs.Math.Path.{ap}
use mathlib.Core.List.{List, [], ◌∷◌, ◌++◌, map, append_assoc}
use Rattle.octets.specs.Octets.{Octets, be, bytes_of}
use Rattle.octets.specs.OctetsLaws.{length-bytes, be-bytes, drop-front, num-written}
use Rattle.unfold.specs.Unfold.{Row}
use Rattle.prune.specs.Bodies.{All, empty, one}
use Rattle.record.specs.Record.{row_of, rows_from, rows_of}
use Rattle.row_window.specs.Window.{gathered, Rising, none as noNumber}
use Rattle.row_window.specs.WindowLaws.{rising-gathered}
use Rattle.row_window.specs.Key.{ten_of, key_bytes, keys_bytes}
use Rattle.row_window.specs.KeyLaws.{row-bytes, ten_bytes, ten_rises, gathered_map}
use Rattle.faithful.specs.RecordLaws.{row_is}
use Rattle.traced.specs.Traced.{row_bytes, row_key, tens_bytes, record_of}
use Rattle.traced.specs.Parts.{key_for}
use Rattle.traced.specs.Has.{Has, here, there}
use Rattle.traced.specs.HasLaws.{has-none, gathered-from, gathered-new, map_has, map_from, all_from, all-at}
use Rattle.traced.specs.RowLaws.{RowFits}

module _ (r : Row) (f : RowFits r) where
  row_ten : row_bytes r ≡ bytes_of 10 (ten_of (key_for r))
  row_ten =
      sym (row-bytes r.kind r.fd r.number r.offset r.len (omega (arith, f.kind)) f.fd f.number (omega (arith, f.offset)) f.len)
      ∙ ten_bytes (key_for r)

  pub row-key : row_key r ≡ ten_of (key_for r)
  row-key =
      let k : key_for r < 295147905179352825856 = omega (arith, f.kind, f.fd, f.number, f.offset, f.len) in
      let t : ten_of (key_for r) < 256 ^ 10 = omega (arith, k) in
      ap (be 0) row_ten ∙ be-bytes 10 (ten_of (key_for r)) t

  pub ten_row : bytes_of 10 (row_key r) ≡ row_bytes r
  ten_row = ap (bytes_of 10) row-key ∙ sym row_ten

  -- its bytes read back
  pub row_read : (rest : List ℕ) → row_of (row_bytes r ++ rest) ≡ r
  row_read rest =
      let b = row_bytes r ++ rest in
      let n = bytes_of 2 r.number in
      let o = bytes_of 4 r.offset in
      let l = bytes_of 2 r.len in
      let two : drop 2 b ≡ n ++ ((o ++ l) ++ rest) = append_assoc n (o ++ l) rest in
      let four : drop 4 b ≡ o ++ (l ++ rest) = sym (drop-drop 2 2 b) ∙ ap (drop 2) two ∙ drop-front 2 r.number ((o ++ l) ++ rest) ∙ append_assoc o l rest in
      let eight : drop 8 b ≡ l ++ rest = sym (drop-drop 4 4 b) ∙ ap (drop 4) four ∙ drop-front 4 r.offset (l ++ rest) in
      row_is (row_of b) r refl refl
      (num-written b 2 2 r.number ((o ++ l) ++ rest) f.number two)
      (num-written b 4 4 r.offset (l ++ rest) (omega (arith, f.offset)) four)
      (num-written b 8 2 r.len rest (omega (arith, f.len)) eight)

-- rows with the same bytes are the same
pub same_key : (r q : Row) → RowFits r → RowFits q → row_key r ≡ row_key q → r ≡ q
same_key r q f g e =
    let s : row_bytes r ≡ row_bytes q = sym (ten_row r f) ∙ ap (bytes_of 10) e ∙ ten_row q g in
    sym (row_read r f []) ∙ ap (λ (b : List ℕ). row_of (b ++ [])) s ∙ row_read q g []

-- ---- the rows of a record

tens_length : (ks : List ℕ) → length (tens_bytes ks) ≡ 10 * length ks
unfolding tens_bytes
tens_length [] = refl
tens_length (k ∷ ks) = length-append (bytes_of 10 k) (tens_bytes ks) ∙ omega (arith, length-bytes 10 k, tens_length ks)

pub record_tens : (rows : List Row) → length (record_of rows) ≡ 10 * length (gathered [] (map row_key rows))
unfolding record_of
record_tens rows = tens_length (gathered [] (map row_key rows))

rows-read : (l : List Row) → All RowFits l → rows_from (length l) (tens_bytes (map row_key l)) ≡ l
unfolding rows_from tens_bytes
rows-read [] empty = refl
rows-read (r ∷ l) (one f a) =
    let rest = tens_bytes (map row_key l) in
    let e : row_of (bytes_of 10 (row_key r) ++ rest) ≡ r = ap (λ (b : List ℕ). row_of (b ++ rest)) (ten_row r f) ∙ row_read r f rest in
    ap (λ (q : Row). q ∷ rows_from (length l) (drop 10 (bytes_of 10 (row_key r) ++ rest))) e
    ∙ ap (λ (b : List ℕ). r ∷ rows_from (length l) b) (drop-front 10 (row_key r) rest)
    ∙ ap (λ (m : List Row). r ∷ m) (rows-read l a)

map_length : (l : List Row) → length (map row_key l) ≡ length l
map_length [] = refl
map_length (r ∷ l) = ap suc (map_length l)

rows-of_tens : (l : List Row) → All RowFits l → rows_of (tens_bytes (map row_key l)) ≡ l
unfolding rows_of
rows-of_tens l a =
    let n : length (tens_bytes (map row_key l)) / 10 ≡ length l = omega (arith, tens_length (map row_key l), map_length l) in
    ap (λ (k : ℕ). rows_from k (tens_bytes (map row_key l))) n ∙ rows-read l a

-- rows for numbers, each the number of one of some rows
record Picked (rows : List Row) (ks : List ℕ) : Type 0 where
  list : List Row
  keys : map row_key list ≡ ks
  from : (r : Row) → Has Row r list → Has Row r rows

picked : (rows : List Row) (ks : List ℕ) → ((k : ℕ) → Has ℕ k ks → (r : Row) × Has Row r rows × (row_key r ≡ k)) → Picked rows ks
picked rows [] f = record { list = []; keys = refl; from = λ r h. absurd (has-none Row r h) }
picked rows (k ∷ ks) f = more (f k (here refl)) (picked rows ks (λ j h. f j (there h)))
  where
    more : ((r : Row) × Has Row r rows × (row_key r ≡ k)) → Picked rows ks → Picked rows (k ∷ ks)
    more m p =
        record {
          list = m.0 ∷ p.list;
          keys = ap (λ (j : ℕ). j ∷ map row_key p.list) m.2 ∙ ap (λ (l : List ℕ). k ∷ l) p.keys;
          from = λ r h. front r h;
        }
      where
        front : (r : Row) → Has Row r (m.0 ∷ p.list) → Has Row r rows
        front r (here e) = subst (λ (q : Row). Has Row q rows) e m.1
        front r (there h) = p.from r h

module _ (rows : List Row) (fits : All RowFits rows) where
  sorted : Picked rows (gathered [] (map row_key rows))
  sorted = picked rows (gathered [] (map row_key rows)) (λ k h. ⊎_elim (λ a. absurd (has-none ℕ k a)) (λ b. map_from row_key k rows b) (gathered-from k [] (map row_key rows) h))

  sorted-fits : All RowFits sorted.list
  sorted-fits = all_from RowFits sorted.list (λ r h. all-at RowFits r rows fits (sorted.from r h))

  record_list : rows_of (record_of rows) ≡ sorted.list
  unfolding record_of
  record_list = ap (λ (ks : List ℕ). rows_of (tens_bytes ks)) (sym sorted.keys) ∙ rows-of_tens sorted.list sorted-fits

  -- a record has the rows that it is made of
  pub record-has : (r : Row) → Has Row r rows → Has Row r (rows_of (record_of rows))
  record-has r h =
      let k : Has ℕ (row_key r) (map row_key sorted.list) =
      subst (Has ℕ (row_key r)) (sym sorted.keys) (gathered-new (row_key r) [] (map row_key rows) (map_has row_key r rows h)) in
      let m = map_from row_key (row_key r) sorted.list k in
      let e : m.0 ≡ r = same_key m.0 r (all-at RowFits m.0 sorted.list sorted-fits m.1) (all-at RowFits r rows fits h) m.2 in
      subst (Has Row r) (sym record_list) (subst (λ (q : Row). Has Row q sorted.list) e m.1)

  -- and no other
  pub record-from : (r : Row) → Has Row r (rows_of (record_of rows)) → Has Row r rows
  record-from r h = sorted.from r (subst (Has Row r) record_list h)

  -- they rise
  pub record-rises : Rising (map row_key (rows_of (record_of rows)))
  record-rises =
      subst Rising (sym (ap (map row_key) record_list ∙ sorted.keys)) (rising-gathered [] (map row_key rows) noNumber)

-- ---- its bytes

octets_both : (a b : List ℕ) → Octets a → Octets b → Octets (a ++ b)
octets_both [] b o q i = q i
octets_both (x ∷ a) b o q zero = o 0
octets_both (x ∷ a) b o q (suc i) = octets_both a b (λ j. o (suc j)) q i

octets_number : (n v : ℕ) → Octets (bytes_of n v)
unfolding bytes_of
octets_number zero v i = omega arith
octets_number (suc n) v i = octets_both (bytes_of n (v / 256)) (v % 256 ∷ []) (octets_number n (v / 256)) one_octet i
  where
    one_octet : Octets (v % 256 ∷ [])
    one_octet zero = omega arith
    one_octet (suc i) = omega arith

octets_tens : (ks : List ℕ) → Octets (tens_bytes ks)
unfolding tens_bytes
octets_tens [] i = omega arith
octets_tens (k ∷ ks) i = octets_both (bytes_of 10 k) (tens_bytes ks) (octets_number 10 k) (octets_tens ks) i

pub record_octets : (rows : List Row) → Octets (record_of rows)
unfolding record_of
record_octets rows = octets_tens (gathered [] (map row_key rows))

-- ---- the record by keys

keys_ten : (rows : List Row) → All RowFits rows → map row_key rows ≡ map ten_of (map key_for rows)
keys_ten [] empty = refl
keys_ten (r ∷ rows) (one f a) =
    ap (λ (k : ℕ). k ∷ map row_key rows) (row-key r f) ∙ ap (λ (l : List ℕ). ten_of (key_for r) ∷ l) (keys_ten rows a)

tens_keys : (ks : List ℕ) → tens_bytes (map ten_of ks) ≡ keys_bytes ks
unfolding tens_bytes keys_bytes
tens_keys [] = refl
tens_keys (k ∷ ks) = ap (λ (l : List ℕ). l ++ tens_bytes (map ten_of ks)) (sym (ten_bytes k)) ∙ ap (λ (l : List ℕ). key_bytes k ++ l) (tens_keys ks)

-- THE LAW of the record: its bytes are those of the keys of its rows, sorted
pub record-keys : (rows : List Row) → All RowFits rows → record_of rows ≡ keys_bytes (gathered [] (map key_for rows))
unfolding record_of
record-keys rows a =
    ap (λ (l : List ℕ). tens_bytes (gathered [] l)) (keys_ten rows a)
    ∙ ap tens_bytes (gathered_map ten_of ten_rises [] (map key_for rows))
    ∙ tens_keys (gathered [] (map key_for rows))
