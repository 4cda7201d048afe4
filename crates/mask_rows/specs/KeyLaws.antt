-- Laws of keys: a record lists a row of a mask exactly where its key is among the record's; the ten bytes of keys that rise are a record of their rows, which rises.
use Rattle.std.specs.Prelude.{ℕ, ◌+◌, ◌*◌, ◌/◌, ◌%◌, ◌≤◌, ◌<◌, ◌≡◌, Bool, drop, None, Some, Option}
use Rattle.std.specs.List.{filter_map, cons_option}
use Rattle.std.proofs.lemmas.Bool.{false≢true}
use Rattle.std.proofs.Math.Path.{refl, sym, ap}
use Rattle.std.proofs.Common.{◌∙◌, arith, drop-drop, drop_at}
use Rattle.std.proofs.Math.Bool.{true, false}
use mathlib.Core.List.{List, [], ◌∷◌, ◌++◌, map, append_assoc}
use borrow.Author.Tests.{le-ltb, eq-eqb, ne_eqb, eqb-true, ltb-true, ltb-false}
use Rattle.std.proofs.Math.Arith.{digits_div, digits_mod}
use Rattle.std.proofs.Math.Dec.{ltb, eqb}
use Rattle.std.proofs.Math.ListN.{length, length-append}
use Rattle.octets.specs.Pick.{pick}
use Rattle.octets.specs.PickLaws.{not_true}
use Rattle.octets.specs.Octets.{bytes_of, num_at}
use Rattle.octets.specs.OctetsLaws.{length-bytes, drop-front, num-written}
use Rattle.unfold.specs.Unfold.{Row}
use Rattle.record.specs.Record.{row_of, rows_from, rows_of, same_row_lem, at_place, lists}
use Rattle.subset.specs.Kept.{is_in}
use Rattle.reach.specs.Reach.{Fits, key_of_lem, rises}
use Rattle.reach.specs.RowLaws.{AllFit}
use Rattle.reach.specs.Cases.{by_number}
use Rattle.row_window.specs.Window.{placed, gathered, within, Below, Rising, none, one}
use Rattle.row_window.specs.KeyLaws.{bytes-split}
use Rattle.mask_rows.specs.MaskRows.{key_for, keys_end, key_in, row_for, row_bytes, rows_bytes}
use Rattle.mask_rows.specs.SameLaws.{and_left, and_right, same_truth, together}

-- the row of a mask
abbrev pub mask : ℕ → ℕ → ℕ → ℕ → ℕ → Row
mask kind fd k offset len = record { kind = kind; fd = fd; number = k; offset = offset; len = len }

-- ---- which keys are among some

module _ (k : ℕ) where
  pub in_both : (a b : List ℕ) → is_in k (a ++ b) ≡ pick (is_in k a) true (is_in k b)
  unfolding is_in
  in_both [] b = refl
  in_both (x ∷ a) b = by (eqb x k) (in_both a b)
    where
      by : (t : Bool) → is_in k (a ++ b) ≡ pick (is_in k a) true (is_in k b) → pick t true (is_in k (a ++ b)) ≡ pick (pick t true (is_in k a)) true (is_in k b)
      by true h = refl
      by false h = h

  in_placed : (x : ℕ) (c : List ℕ) → is_in k (placed x c) ≡ pick (eqb x k) true (is_in k c)
  unfolding placed is_in
  in_placed x [] = refl
  in_placed x (y ∷ c) = by (ltb x y) (eqb x y) refl (in_placed x c)
    where
      twice : (t u : Bool) → pick t true u ≡ pick t true (pick t true u)
      twice true u = refl
      twice false u = refl

      swap : (t u v : Bool) → pick t true (pick u true v) ≡ pick u true (pick t true v)
      swap true true v = refl
      swap true false v = refl
      swap false true v = refl
      swap false false v = refl

      by : (t u : Bool) → eqb x y ≡ u → is_in k (placed x c) ≡ pick (eqb x k) true (is_in k c)
          → is_in k (pick t (x ∷ y ∷ c) (pick u (y ∷ c) (y ∷ placed x c))) ≡ pick (eqb x k) true (pick (eqb y k) true (is_in k c))
      by true u e h = refl
      by false true e h =
          twice (eqb y k) (is_in k c) ∙ ap (λ (z : ℕ). pick (eqb z k) true (pick (eqb y k) true (is_in k c))) (sym (eqb-true x y e))
      by false false e h = ap (λ (b : Bool). pick (eqb y k) true b) h ∙ swap (eqb y k) (eqb x k) (is_in k c)

  pub in_gathered : (c ks : List ℕ) → is_in k (gathered c ks) ≡ pick (is_in k c) true (is_in k ks)
  unfolding gathered is_in
  in_gathered c [] = sym (same (is_in k c))
    where
      same : (t : Bool) → pick t true false ≡ t
      same true = refl
      same false = refl
  in_gathered c (x ∷ ks) = in_gathered (placed x c) ks ∙ ap (λ (b : Bool). pick b true (is_in k ks)) (in_placed x c) ∙ swap (eqb x k) (is_in k c) (is_in k ks)
    where
      swap : (t u v : Bool) → pick (pick t true u) true v ≡ pick u true (pick t true v)
      swap true true v = refl
      swap true false v = refl
      swap false true v = refl
      swap false false v = refl

  module _ (low high : ℕ) where
    pub in_range : low ≤ k → k < high → (ks : List ℕ) → is_in k (within low high ks) ≡ is_in k ks
    unfolding within is_in
    in_range l h [] = refl
    in_range l h (x ∷ ks) = by (ltb x low) (ltb x high) refl refl (in_range l h ks)
      where
        by : (t u : Bool) → ltb x low ≡ t → ltb x high ≡ u → is_in k (within low high ks) ≡ is_in k ks
            → is_in k (pick (pick t false u) (x ∷ within low high ks) (within low high ks)) ≡ pick (eqb x k) true (is_in k ks)
        by true u e f i = let n : eqb x k ≡ false = ne_eqb x k (λ z. absurd (omega (arith, z, ltb-true x low e))) in rw n i
        by false true e f i = ap (λ (b : Bool). pick (eqb x k) true b) i
        by false false e f i = let n : eqb x k ≡ false = ne_eqb x k (λ z. absurd (omega (arith, z, ltb-false x high f))) in rw n i

    pub in_none : k < low → (ks : List ℕ) → is_in k (within low high ks) ≡ false
    unfolding within is_in
    in_none l [] = refl
    in_none l (x ∷ ks) = by (ltb x low) (ltb x high) refl (in_none l ks)
      where
        by : (t u : Bool) → ltb x low ≡ t → is_in k (within low high ks) ≡ false
            → is_in k (pick (pick t false u) (x ∷ within low high ks) (within low high ks)) ≡ false
        by true u e i = i
        by false true e i = let n : eqb x k ≡ false = ne_eqb x k (λ z. absurd (omega (arith, z, ltb-false x low e))) in rw n i
        by false false e i = i

  -- a row's key, if it has one
  abbrev is_key : Option ℕ → Bool
  is_key None = false
  is_key (Some x) = eqb x k

  in_option : (o : Option ℕ) (ks : List ℕ) → is_in k (cons_option o ks) ≡ pick (is_key o) true (is_in k ks)
  unfolding is_in
  in_option None ks = refl
  in_option (Some x) ks = refl

-- ---- rows and their keys

same-fields : (r q : Row) → same_row_lem r q ≡ true → (r.kind ≡ q.kind) × (r.fd ≡ q.fd) × (r.number ≡ q.number) × (r.offset ≡ q.offset) × (r.len ≡ q.len)
same-fields r q e =
    let t = together r q (and_left (at_place r q) (eqb r.len q.len) e) in
    (t.0, t.1, t.2, t.3, eqb-true r.len q.len (and_right (at_place r q) (eqb r.len q.len) e))

row_same : (r q : Row) → r.kind ≡ q.kind → r.fd ≡ q.fd → r.number ≡ q.number → r.offset ≡ q.offset → r.len ≡ q.len → same_row_lem r q ≡ true
row_same r q a b c d e = rw (eq-eqb r.kind q.kind a, eq-eqb r.fd q.fd b, eq-eqb r.number q.number c, eq-eqb r.offset q.offset d, eq-eqb r.len q.len e)

two_digits : (n a b c d : ℕ) → b < n → d < n → a * n + b ≡ c * n + d → (a ≡ c) × (b ≡ d)
two_digits n a b c d h k e = (sym (digits_div a h) ∙ ap (λ (i : ℕ). i / n) e ∙ digits_div c k, sym (digits_mod a h) ∙ ap (λ (i : ℕ). i % n) e ∙ digits_mod c k)

module _ (kind fd k offset len : ℕ) (few : k < 65535) (near : offset < 4294967296) (short : len < 65536) where
  abbrev q : Row
  q = mask kind fd k offset len

  -- a row is the mask's where its key is
  row-key : (r : Row) → Fits r → same_row_lem r q ≡ is_key (key_for q) (key_in kind fd r)
  row-key r f = same_truth (same_row_lem r q) (is_key (key_for q) (key_in kind fd r)) forth back
    where
      forth : same_row_lem r q ≡ true → is_key (key_for q) (key_in kind fd r) ≡ true
      forth e =
          let s = same-fields r q e in
          rw (eq-eqb r.kind kind s.0, eq-eqb r.fd fd s.1) (eq-eqb (key_for r) (key_for q) (rw (s.2, s.3, s.4)))

      other : is_key (key_for q) (key_in kind fd r) ≡ true → key_in kind fd r ≡ None → ⊥
      other e n = false≢true (ap (is_key (key_for q)) (sym n) ∙ e)

      fields : key_for r ≡ key_for q → r.kind ≡ kind → r.fd ≡ fd → same_row_lem r q ≡ true
      fields e a b =
          let x = two_digits 65536 (r.number * 4294967296 + r.offset) r.len (k * 4294967296 + offset) len f.len short e in
          let y = two_digits 4294967296 r.number r.offset k offset f.offset near x.0 in
          row_same r q a b y.0 y.1 x.1

      back : is_key (key_for q) (key_in kind fd r) ≡ true → same_row_lem r q ≡ true
      back e =
          by_number r.kind kind
          (λ a. by_number r.fd fd
          (λ b. let s : key_in kind fd r ≡ Some (key_for r) = rw (eq-eqb r.kind kind a, eq-eqb r.fd fd b) in
          fields (eqb-true (key_for r) (key_for q) (ap (is_key (key_for q)) (sym s) ∙ e)) a b)
          (λ b. absurd (other e (rw (eq-eqb r.kind kind a, ne_eqb r.fd fd b)))))
          (λ a. absurd (other e (rw (ne_eqb r.kind kind a))))

  -- THE LAW of keys
  pub lists-key : (rows : List Row) → AllFit rows → lists rows q ≡ is_in (key_for q) (filter_map (key_in kind fd) rows)
  unfolding AllFit lists is_in
  lists-key [] a = refl
  lists-key (r ∷ rs) a =
      ap (λ (t : Bool). pick t true (lists rs q)) (row-key r a.0) ∙ ap (λ (t : Bool). pick (is_key (key_for q) (key_in kind fd r)) true t) (lists-key rs a.1)
      ∙ sym (in_option (key_for q) (key_in kind fd r) (filter_map (key_in kind fd) rs))

  -- the row of a key
  key_row : (x : ℕ) → same_row_lem (row_for kind fd x) q ≡ eqb x (key_for q)
  key_row x =
      same_truth (same_row_lem (row_for kind fd x) q) (eqb x (key_for q))
      (λ e. let s = same-fields (row_for kind fd x) q e in eq-eqb x (key_for q) (omega (arith, s.2, s.3, s.4)))
      (λ e. let g = eqb-true x (key_for q) e in
      let l : x % 65536 ≡ len = ap (λ (i : ℕ). i % 65536) g ∙ digits_mod (k * 4294967296 + offset) short in
      let h : x / 65536 ≡ k * 4294967296 + offset = ap (λ (i : ℕ). i / 65536) g ∙ digits_div (k * 4294967296 + offset) short in
      let o : x / 65536 % 4294967296 ≡ offset = ap (λ (i : ℕ). i % 4294967296) h ∙ digits_mod k near in
      let n : x / 281474976710656 ≡ k = omega (arith, h) in
      row_same (row_for kind fd x) q refl refl n o l)

  pub keys_list : (ks : List ℕ) → lists (map (row_for kind fd) ks) q ≡ is_in (key_for q) ks
  unfolding lists is_in
  keys_list [] = refl
  keys_list (x ∷ ks) =
      ap (λ (t : Bool). pick t true (lists (map (row_for kind fd) ks) q)) (key_row x) ∙ ap (λ (t : Bool). pick (eqb x (key_for q)) true t) (keys_list ks)

-- rows that fit list none that does not
pub lists-none : (rows : List Row) (q : Row) → AllFit rows → ((r : Row) → Fits r → r.offset ≡ q.offset → r.len ≡ q.len → ⊥) → lists rows q ≡ false
unfolding AllFit lists
lists-none [] q a n = refl
lists-none (r ∷ rs) q a n =
    let f : same_row_lem r q ≡ false = not_true (same_row_lem r q) (λ e. let s = same-fields r q e in n r a.0 s.3 s.4) in
    ap (λ (t : Bool). pick t true (lists rs q)) f ∙ lists-none rs q a.1 n

-- ---- the bytes of keys

module _ (kind fd : ℕ) where
  pub row-length : (k : ℕ) → length (row_bytes kind fd k) ≡ 10
  row-length k = length-append (bytes_of 2 (kind * 256 + fd)) (bytes_of 8 k) ∙ omega (arith, length-bytes 2 (kind * 256 + fd), length-bytes 8 k)

  pub rows-length : (ks : List ℕ) → length (rows_bytes kind fd ks) ≡ 10 * length ks
  unfolding rows_bytes
  rows-length [] = refl
  rows-length (k ∷ ks) = length-append (row_bytes kind fd k) (rows_bytes kind fd ks) ∙ omega (arith, row-length k, rows-length ks)

  pub rows_both : (ks qs : List ℕ) → rows_bytes kind fd (ks ++ qs) ≡ rows_bytes kind fd ks ++ rows_bytes kind fd qs
  unfolding rows_bytes
  rows_both [] qs = refl
  rows_both (k ∷ ks) qs = ap (λ (l : List ℕ). row_bytes kind fd k ++ l) (rows_both ks qs) ∙ sym (append_assoc (row_bytes kind fd k) (rows_bytes kind fd ks) (rows_bytes kind fd qs))

one_byte : (n : ℕ) → n < 256 → bytes_of 1 n ≡ n ∷ []
unfolding bytes_of
one_byte n h = let e : n % 256 ≡ n = omega arith in ap (λ (x : ℕ). x ∷ []) e

module _ (kind fd : ℕ) (hk : kind < 256) (hf : fd < 256) where
  two : bytes_of 2 (kind * 256 + fd) ≡ kind ∷ fd ∷ []
  two = bytes-split 1 1 kind fd hf ∙ ap (λ (l : List ℕ). l ++ bytes_of 1 fd) (one_byte kind hk) ∙ ap (λ (l : List ℕ). kind ∷ l) (one_byte fd hf)

  module _ (k : ℕ) (h : k < keys_end) where
    -- by its fields
    row-fields : row_bytes kind fd k ≡ kind ∷ fd ∷ (bytes_of 2 (k / 281474976710656) ++ (bytes_of 4 (k / 65536 % 4294967296) ++ bytes_of 2 (k % 65536)))
    row-fields =
        let number = k / 281474976710656 in
        let offset = k / 65536 % 4294967296 in
        let len = k % 65536 in
        let e : k ≡ (number * 4294967296 + offset) * 65536 + len = omega arith in
        let six : bytes_of 6 (number * 4294967296 + offset) ≡ bytes_of 2 number ++ bytes_of 4 offset = bytes-split 2 4 number offset (omega arith) in
        let eight : bytes_of 8 k ≡ (bytes_of 2 number ++ bytes_of 4 offset) ++ bytes_of 2 len
        = ap (bytes_of 8) e ∙ bytes-split 6 2 (number * 4294967296 + offset) len (omega arith) ∙ ap (λ (l : List ℕ). l ++ bytes_of 2 len) six in
        ap (λ (l : List ℕ). l ++ bytes_of 8 k) two
        ∙ ap (λ (l : List ℕ). kind ∷ fd ∷ l) (eight ∙ append_assoc (bytes_of 2 number) (bytes_of 4 offset) (bytes_of 2 len))

    -- they read back
    row_back : (rest : List ℕ) → row_of (row_bytes kind fd k ++ rest) ≡ row_for kind fd k
    row_back rest =
        let number = k / 281474976710656 in
        let offset = k / 65536 % 4294967296 in
        let len = k % 65536 in
        let n = bytes_of 2 number in
        let o = bytes_of 4 offset in
        let l = bytes_of 2 len in
        let b = kind ∷ fd ∷ ((n ++ (o ++ l)) ++ rest) in
        let two : drop 2 b ≡ n ++ ((o ++ l) ++ rest) = append_assoc n (o ++ l) rest in
        let four : drop 4 b ≡ o ++ (l ++ rest) = sym (drop-drop 2 2 b) ∙ ap (drop 2) two ∙ drop-front 2 number ((o ++ l) ++ rest) ∙ append_assoc o l rest in
        let eight : drop 8 b ≡ l ++ rest = sym (drop-drop 4 4 b) ∙ ap (drop 4) four ∙ drop-front 4 offset (l ++ rest) in
        let en : num_at b 2 2 ≡ number = num-written b 2 2 number ((o ++ l) ++ rest) (omega arith) two in
        let eo : num_at b 4 4 ≡ offset = num-written b 4 4 offset (l ++ rest) (omega arith) four in
        let el : num_at b 8 2 ≡ len = num-written b 8 2 len rest (omega arith) eight in
        ap (λ (x : List ℕ). row_of (x ++ rest)) row-fields ∙ rw (en, eo, el)

  rows-from : (ks : List ℕ) → Below keys_end ks → rows_from (length ks) (rows_bytes kind fd ks) ≡ map (row_for kind fd) ks
  unfolding rows_from rows_bytes
  rows-from [] none = refl
  rows-from (k ∷ ks) (one h b) =
      let rest = rows_bytes kind fd ks in
      ap (λ (q : Row). q ∷ rows_from (length ks) (drop 10 (row_bytes kind fd k ++ rest))) (row_back k h rest)
      ∙ ap (λ (l : List ℕ). row_for kind fd k ∷ rows_from (length ks) l) (drop_at (row_bytes kind fd k) rest 10 (row-length kind fd k))
      ∙ ap (λ (l : List Row). row_for kind fd k ∷ l) (rows-from ks b)

  -- THE LAW of the bytes: they are a record of the keys' rows
  pub rows_back : (ks : List ℕ) → Below keys_end ks → rows_of (rows_bytes kind fd ks) ≡ map (row_for kind fd) ks
  unfolding rows_of
  rows_back ks b =
      let n : length (rows_bytes kind fd ks) / 10 ≡ length ks = omega (arith, rows-length kind fd ks) in
      ap (λ (m : ℕ). rows_from m (rows_bytes kind fd ks)) n ∙ rows-from ks b

-- keys that rise have rows that rise
pub rows-rise : (kind fd : ℕ) (ks : List ℕ) → Rising ks → rises (map (row_for kind fd) ks) ≡ true
unfolding rises
rows-rise kind fd [] r = refl
rows-rise kind fd (x ∷ []) r = refl
rows-rise kind fd (x ∷ y ∷ ks) (one (one h a) r) =
    let l : ltb (key_of_lem (row_for kind fd y)) (key_of_lem (row_for kind fd x)) ≡ false = le-ltb (key_of_lem (row_for kind fd y)) (key_of_lem (row_for kind fd x)) (omega arith) in
    rw l (rows-rise kind fd (y ∷ ks) r)
