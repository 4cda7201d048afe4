-- What a reach record says (document 01, 'Reach record'): the length of a listed mask is the one given, where its body has no two lengths at
-- one offset; and the number of a listed row has two bytes.
use Rattle.std.specs.Prelude.{ℕ, zero, suc, ◌+◌, ◌/◌, ◌<◌, ◌≡◌, refl, Bool, true, false, ◌&&◌, not, List, [], ◌∷◌, eqb, length, take, drop}
use Rattle.std.proofs.Common.{sym, ap, ◌∙◌, subst, arith, get_or-drop, eqb-true}
use Rattle.std.proofs.lemmas.Bool.{not-false}
use Rattle.octets.specs.Pick.{pick}
use Rattle.octets.specs.PickLaws.{none-holds}
use Rattle.octets.specs.Octets.{Octets, be, num_at}
use Rattle.strings.proofs.TableLaws.{and_left, and_right}
use Rattle.charstring.specs.declared.MaskLen.TheVariants.{Given}
use Rattle.unfold.specs.Unfold.{Row, Site, glyph, local, global, masked}
use Rattle.prune.specs.StepLaws.{zero_one}
use Rattle.record.specs.Record.{row_of, rows_from, rows_of, same_row_lem, lists, at_place, given_in, of_body, disagrees, two_lengths_lem}

-- ---- tests

-- a test that holds, and another, which are not both so
other_fails : (t u : Bool) → t ≡ true → (t && u) ≡ false → u ≡ false
other_fails true u e f = f
other_fails false u e f = absurd (zero_one cc)

-- ---- rows

-- rows with the same fields
pub row_is : (r q : Row) → r.kind ≡ q.kind → r.fd ≡ q.fd → r.number ≡ q.number → r.offset ≡ q.offset → r.len ≡ q.len → r ≡ q
row_is r q a b c d e =
    ap (λ (k : ℕ). record { kind = k; fd = r.fd; number = r.number; offset = r.offset; len = r.len }) a
    ∙ ap (λ (f : ℕ). record { kind = q.kind; fd = f; number = r.number; offset = r.offset; len = r.len }) b
    ∙ ap (λ (n : ℕ). record { kind = q.kind; fd = q.fd; number = n; offset = r.offset; len = r.len }) c
    ∙ ap (λ (o : ℕ). record { kind = q.kind; fd = q.fd; number = q.number; offset = o; len = r.len }) d
    ∙ ap (λ (l : ℕ). record { kind = q.kind; fd = q.fd; number = q.number; offset = q.offset; len = l }) e

-- a row that is another one
pub same_row : (r q : Row) → same_row_lem r q ≡ true → r ≡ q
same_row r q e =
    let a = eqb r.kind q.kind in
    let b = eqb r.fd q.fd in
    let c = eqb r.number q.number in
    let d = eqb r.offset q.offset in
    let l = eqb r.len q.len in
    let e₄ = and_left (a && b && c && d) l e in
    let e₃ = and_left (a && b && c) d e₄ in
    let e₂ = and_left (a && b) c e₃ in
    row_is r q (eqb-true r.kind q.kind (and_left a b e₂)) (eqb-true r.fd q.fd (and_right a b e₂))
    (eqb-true r.number q.number (and_right (a && b) c e₃)) (eqb-true r.offset q.offset (and_right (a && b && c) d e₄))
    (eqb-true r.len q.len (and_right (a && b && c && d) l e))

-- the place of a mask does not depend on its length, and is of its body
place-length : (r : Row) (site : Site) (offset len : ℕ) → at_place r (masked site offset 0) ≡ at_place r (masked site offset len)
place-length r (glyph g) offset len = refl
place-length r (local fd k) offset len = refl
place-length r (global k) offset len = refl

-- a row at the place of a mask is of its body
place-body : (r : Row) (site : Site) (offset : ℕ) → at_place r (masked site offset 0) ≡ true → of_body r site ≡ true
place-body r (glyph g) offset e = and_left (of_body r (glyph g)) (eqb r.offset offset) e
place-body r (local fd k) offset e = and_left (of_body r (local fd k)) (eqb r.offset offset) e
place-body r (global k) offset e = and_left (of_body r (global k)) (eqb r.offset offset) e

-- the length in a mask's row
masked-length : (site : Site) (offset len : ℕ) → (masked site offset len).len ≡ len
masked-length (glyph g) offset len = refl
masked-length (local fd k) offset len = refl
masked-length (global k) offset len = refl

-- ---- one length at each offset

-- a row with which none disagrees has the length of a listed one at its place
agrees : (r q : Row) (rows : List Row) → disagrees r rows ≡ false → lists rows q ≡ true → at_place r q ≡ true → r.len ≡ q.len
unfolding disagrees lists
agrees r q [] e h a = absurd (zero_one cc)
agrees r q (x ∷ rows) e h a = go (same_row_lem x q) refl h (agrees r q rows n.1)
  where
    n : ((at_place r x && not (eqb r.len x.len)) ≡ false) × (disagrees r rows ≡ false)
    n = none-holds (at_place r x && not (eqb r.len x.len)) (disagrees r rows) e

    go : (t : Bool) → same_row_lem x q ≡ t → pick t true (lists rows q) ≡ true → (lists rows q ≡ true → at_place r q ≡ true → r.len ≡ q.len) → r.len ≡ q.len
    go true s h f =
        let i = same_row x q s in
        let p : at_place r x ≡ true = ap (at_place r) i ∙ a in
        let o = not-false (eqb r.len x.len) (other_fails (at_place r x) (not (eqb r.len x.len)) p n.0) in
        eqb-true r.len x.len o ∙ ap (λ (y : Row). y.len) i
    go false s h f = f h a

-- a listed mask of a body without two lengths has its length given
pub given-listed : (rows : List Row) (site : Site) (offset len : ℕ) → two_lengths_lem rows site ≡ false → lists rows (masked site offset len) ≡ true → given_in rows site offset ≡ Given len
unfolding two_lengths_lem given_in lists
given-listed [] site offset len e h = absurd (zero_one cc)
given-listed (r ∷ rows) site offset len e h =
    go (at_place r (masked site offset 0)) refl (same_row_lem r (masked site offset len)) refl h (given-listed rows site offset len n.1)
  where
    n : ((of_body r site && disagrees r rows) ≡ false) × (two_lengths_lem rows site ≡ false)
    n = none-holds (of_body r site && disagrees r rows) (two_lengths_lem rows site) e

    go : (t : Bool) → at_place r (masked site offset 0) ≡ t → (u : Bool) → same_row_lem r (masked site offset len) ≡ u
        → pick u true (lists rows (masked site offset len)) ≡ true → (lists rows (masked site offset len) ≡ true → given_in rows site offset ≡ Given len)
        → pick t (Given r.len) (given_in rows site offset) ≡ Given len
    go true p true s h f = ap Given (ap (λ (y : Row). y.len) (same_row r (masked site offset len) s) ∙ masked-length site offset len)
    go true p false s h f =
        let d = other_fails (of_body r site) (disagrees r rows) (place-body r site offset p) n.0 in
        ap Given (agrees r (masked site offset len) rows d h (sym (place-length r site offset len) ∙ p) ∙ masked-length site offset len)
    go false p true s h f =
        let a : at_place r (masked site offset 0) ≡ true
        = place-length r site offset len ∙ and_left (at_place r (masked site offset len)) (eqb r.len (masked site offset len).len) s in
        absurd (zero_one cc)
    go false p false s h f = f h

-- ---- numbers of two bytes

-- a number of two bytes
two-below : (l : List ℕ) → Octets l → be 0 (take 2 l) < 65536
unfolding be
two-below [] o = omega arith
two-below (x ∷ []) o = omega (arith, o 0)
two-below (x ∷ y ∷ l) o = omega (arith, o 0, o 1)

-- bytes behind a place
drop_octets : (n : ℕ) (b : List ℕ) → Octets b → Octets (drop n b)
drop_octets n b o i = rw (get_or-drop n b i 0) (o (n + i))

-- the number of a row among the first n
listed_below : (n : ℕ) (b : List ℕ) (q : Row) → Octets b → lists (rows_from n b) q ≡ true → q.number < 65536
unfolding rows_from lists num_at
listed_below zero b q o h = absurd (zero_one cc)
listed_below (suc n) b q o h = go (same_row_lem (row_of b) q) refl h (listed_below n (drop 10 b) q (drop_octets 10 b o))
  where
    go : (t : Bool) → same_row_lem (row_of b) q ≡ t → pick t true (lists (rows_from n (drop 10 b)) q) ≡ true
        → (lists (rows_from n (drop 10 b)) q ≡ true → q.number < 65536) → q.number < 65536
    go true s h f = subst (λ (y : Row). y.number < 65536) (same_row (row_of b) q s) (two-below (drop 2 b) (drop_octets 2 b o))
    go false s h f = f h

-- the number of a row that a record lists
pub number-below : (rec : List ℕ) (q : Row) → Octets rec → lists (rows_of rec) q ≡ true → q.number < 65536
unfolding rows_of
number-below rec q o h = listed_below (length rec / 10) rec q o h
