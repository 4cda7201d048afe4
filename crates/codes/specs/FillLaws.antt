-- Laws of the loops that fill the table: what is left to store gives, from what is stored, what all of it gives from the beginning.
use Rattle.std.specs.Prelude.{ℕ, ◌+◌, ◌-◌, ◌*◌, ◌/◌, ◌%◌, ◌≤◌, ◌<◌, ◌≡◌, Bool, false, ltb, eqb, take, drop, get_or, None, Option, Some, Ok}
use Rattle.std.proofs.Math.Path.{refl, sym, ap}
use Rattle.std.proofs.Common.{◌∙◌, eq-eqb, ne_eqb, le-ltb, get_or-drop, drop-drop}
use mathlib.Core.List.{List, [], ◌∷◌, ◌++◌}
use native.Mathlib.Omega.{arith}
use Rattle.std.proofs.Math.ListN.{length}
use Rattle.octets.specs.Pick.{pick}
use Rattle.octets.specs.Octets.{num_at}
use Rattle.charset.specs.Encoding.{encoding_at}
use Rattle.charset.specs.Codes.{Naming, by_number, by_string, codes_from, range_from, ranges_from, supplied_from, namings_by, namings_at}
use Rattle.charset.specs.CodesFound.{supplements_at, GoodEncoding, encoding-good}
use Rattle.cff.specs.Font.{Program}
use Rattle.cff.specs.Reads.{GoodFont}
use Rattle.cff.specs.declared.font.Font.{Font}
use Rattle.subset.specs.Codes.{string_glyph}
use Rattle.codes.specs.Filled.{stored, filled, Fills}
use Rattle.codes.specs.FilledLaws.{filled-append, stored-length, number-next, codes-next, range-next, ranges-next, supplied-next}

-- ---- codes

pub record CodesLeft (b : List ℕ) (at count n : ℕ) (old table : List (Option ℕ)) (q glyph left : ℕ) : Type 0 where
  pub size : length table ≡ length old
  pub within : q + left ≤ length b
  pub few : glyph + left ≤ 256
  pub is : (p : Program) → length p.charstrings ≡ n → filled p table (codes_from glyph (take left (drop q b))) ≡ filled p old (codes_from 1 (take count (drop at b)))

pub codes-start : (b : List ℕ) (at count n : ℕ) (old : List (Option ℕ)) → at + count ≤ length b → count < 256 → CodesLeft b at count n old old at 1 count
codes-start b at count n old within few = record { size = refl; within = within; few = omega arith; is = λ p e. refl }

module _ (b : List ℕ) (at count n : ℕ) (old table : List (Option ℕ)) (q glyph left : ℕ) (l : CodesLeft b at count n old table q glyph left) where
  pub codes-turn : 0 < left → (code : ℕ) → code ≡ get_or b q 0 → (new : List (Option ℕ)) → new ≡ stored table code (pick (ltb glyph n) (Some glyph) None)
      → CodesLeft b at count n old new (q + 1) (glyph + 1) (left - 1)
  codes-turn some code c new e =
      record {
        size = ap length e ∙ stored-length table code (pick (ltb glyph n) (Some glyph) None) ∙ l.size;
        within = omega (arith, l.within);
        few = omega (arith, l.few);
        is = λ p h. number-next p n h table new code glyph (codes_from (glyph + 1) (take (left - 1) (drop (q + 1) b))) e
            ∙ ap (λ (k : ℕ). filled p table (by_number k glyph ∷ codes_from (glyph + 1) (take (left - 1) (drop (q + 1) b)))) c
            ∙ ap (filled p table) (sym (codes-next b q left glyph some l.within)) ∙ l.is p h;
      }

  pub codes_done : left ≤ 0 → Fills n old (codes_from 1 (take count (drop at b))) table
  unfolding filled codes_from
  codes_done h =
      let z : left ≡ 0 = omega arith in
      record { size = l.size; is = λ p e. sym (ap (λ (k : ℕ). filled p table (codes_from glyph (take k (drop q b)))) z) ∙ l.is p e }

-- ---- one range

pub record RangeLeft (n first from count : ℕ) (old table : List (Option ℕ)) (code glyph left : ℕ) : Type 0 where
  pub size : length table ≡ length old
  pub codes : code + left ≤ 512
  pub few : glyph + left ≤ 65792
  pub is : (p : Program) → length p.charstrings ≡ n → filled p table (range_from left code glyph) ≡ filled p old (range_from count first from)

pub range-start : (n first from count : ℕ) (old : List (Option ℕ)) → first < 256 → from ≤ 65536 → count ≤ 256 → RangeLeft n first from count old old first from count
range-start n first from count old a b c = record { size = refl; codes = omega arith; few = omega arith; is = λ p e. refl }

module _ (n first from count : ℕ) (old table : List (Option ℕ)) (code glyph left : ℕ) (l : RangeLeft n first from count old table code glyph left) where
  pub range-turn : 0 < left → (new : List (Option ℕ)) → new ≡ stored table code (pick (ltb glyph n) (Some glyph) None)
      → RangeLeft n first from count old new (code + 1) (glyph + 1) (left - 1)
  range-turn some new e =
      record {
        size = ap length e ∙ stored-length table code (pick (ltb glyph n) (Some glyph) None) ∙ l.size;
        codes = omega (arith, l.codes);
        few = omega (arith, l.few);
        is = λ p h. number-next p n h table new code glyph (range_from (left - 1) (code + 1) (glyph + 1)) e
            ∙ ap (filled p table) (sym (range-next left code glyph some)) ∙ l.is p h;
      }

  pub range_done : left ≤ 0 → Fills n old (range_from count first from) table
  unfolding filled range_from
  range_done h =
      let z : left ≡ 0 = omega arith in
      record { size = l.size; is = λ p e. sym (ap (λ (k : ℕ). filled p table (range_from k code glyph)) z) ∙ l.is p e }

-- ---- all ranges

pub record RangesLeft (b : List ℕ) (at count n : ℕ) (old table : List (Option ℕ)) (q glyph left : ℕ) : Type 0 where
  pub size : length table ≡ length old
  pub within : q + left * 2 ≤ length b
  pub few : glyph + left * 256 ≤ 65281
  pub is : (p : Program) → length p.charstrings ≡ n → filled p table (ranges_from left glyph (drop q b)) ≡ filled p old (ranges_from count 1 (drop at b))

pub ranges-start : (b : List ℕ) (at count n : ℕ) (old : List (Option ℕ)) → at + count * 2 ≤ length b → count < 256 → RangesLeft b at count n old old at 1 count
ranges-start b at count n old within few = record { size = refl; within = within; few = omega arith; is = λ p e. refl }

module _ (b : List ℕ) (at count n : ℕ) (old table : List (Option ℕ)) (q glyph left : ℕ) (l : RangesLeft b at count n old table q glyph left) where
  pub ranges-turn : 0 < left → (first more : ℕ) → first ≡ get_or b q 0 → more ≡ get_or b (q + 1) 0 → more < 256 → (new : List (Option ℕ))
      → Fills n table (range_from (more + 1) first glyph) new → RangesLeft b at count n old new (q + 2) (glyph + (more + 1)) (left - 1)
  ranges-turn some first more a m low new f =
      let rest = ranges_from (left - 1) (glyph + (more + 1)) (drop (q + 2) b) in
      record {
        size = f.size ∙ l.size;
        within = omega (arith, l.within);
        few = omega (arith, l.few);
        is = λ p h. ap (λ (t : List (Option ℕ)). filled p t rest) (f.is p h)
            ∙ sym (filled-append p table (range_from (more + 1) first glyph) rest)
            ∙ ap (λ (x : ℕ). filled p table (range_from (more + 1) x glyph ++ rest)) a
            ∙ ap (λ (x : ℕ). filled p table (range_from (x + 1) (get_or b q 0) glyph ++ ranges_from (left - 1) (glyph + (x + 1)) (drop (q + 2) b))) m
            ∙ ap (filled p table) (sym (ranges-next b q left glyph some)) ∙ l.is p h;
      }

  pub ranges_done : left ≤ 0 → Fills n old (ranges_from count 1 (drop at b)) table
  unfolding filled ranges_from
  ranges_done h =
      let z : left ≡ 0 = omega arith in
      record { size = l.size; is = λ p e. sym (ap (λ (k : ℕ). filled p table (ranges_from k glyph (drop q b))) z) ∙ l.is p e }

-- ---- supplements

pub record SuppliedLeft (p : Program) (b : List ℕ) (at count : ℕ) (old table : List (Option ℕ)) (q left : ℕ) : Type 0 where
  pub size : length table ≡ length old
  pub within : q + left * 3 ≤ length b
  pub is : filled p table (supplied_from left (drop q b)) ≡ filled p old (supplied_from count (drop at b))

pub supplied-start : (p : Program) (b : List ℕ) (at count : ℕ) (old : List (Option ℕ)) → at + count * 3 ≤ length b → SuppliedLeft p b at count old old at count
supplied-start p b at count old within = record { size = refl; within = within; is = refl }

module _ (p : Program) (b : List ℕ) (at count : ℕ) (old table : List (Option ℕ)) (q left : ℕ) (l : SuppliedLeft p b at count old table q left) where
  pub supplied-turn : 0 < left → (code sid : ℕ) → code ≡ get_or b q 0 → sid ≡ num_at b (q + 1) 2 → (new : List (Option ℕ)) → new ≡ stored table code (string_glyph p sid)
      → SuppliedLeft p b at count old new (q + 3) (left - 1)
  unfolding filled
  supplied-turn some code sid c s new e =
      let rest = supplied_from (left - 1) (drop (q + 3) b) in
      let f : filled p new rest ≡ filled p table (by_string code sid ∷ rest) = ap (λ (t : List (Option ℕ)). filled p t rest) e in
      let g : filled p table (by_string code sid ∷ rest) ≡ filled p table (by_string (get_or b q 0) sid ∷ rest) = ap (λ (x : ℕ). filled p table (by_string x sid ∷ rest)) c in
      let h : filled p table (by_string (get_or b q 0) sid ∷ rest) ≡ filled p table (by_string (get_or b q 0) (num_at b (q + 1) 2) ∷ rest) =
      ap (λ (x : ℕ). filled p table (by_string (get_or b q 0) x ∷ rest)) s in
      record {
        size = ap length e ∙ stored-length table code (string_glyph p sid) ∙ l.size;
        within = omega (arith, l.within);
        is = f ∙ g ∙ h ∙ ap (filled p table) (sym (supplied-next b q left some)) ∙ l.is;
      }

  pub supplied_done : left ≤ 0 → table ≡ filled p old (supplied_from count (drop at b))
  unfolding filled supplied_from
  supplied_done h =
      let z : left ≡ 0 = omega arith in
      sym (ap (λ (k : ℕ). filled p table (supplied_from k (drop q b))) z) ∙ l.is

-- ---- codes or ranges, by the kind

pub kind-codes : (at count kind n : ℕ) → kind ≡ 0 → at + count * (kind + 1) ≤ n → at + count ≤ n
kind-codes at count kind n e h = let z = ap (λ (k : ℕ). count * (k + 1)) e in omega arith

pub kind-ranges : (at count kind n : ℕ) → (kind ≡ 0 → ⊥) → kind ≤ 1 → at + count * (kind + 1) ≤ n → at + count * 2 ≤ n
kind-ranges at count kind n e l h =
    let o : kind ≡ 1 = omega arith in
    let z = ap (λ (k : ℕ). count * (k + 1)) o in
    omega arith

module _ {n : ℕ} {old new : List (Option ℕ)} (xs ys : List Naming) (kind : ℕ) where
  pub fills_codes : kind ≡ 0 → Fills n old xs new → Fills n old (pick (eqb kind 0) xs ys) new
  fills_codes e f = rw (eq-eqb kind 0 e) f

  pub fills_ranges : (kind ≡ 0 → ⊥) → Fills n old ys new → Fills n old (pick (eqb kind 0) xs ys) new
  fills_ranges e f = rw (ne_eqb kind 0 e) f

-- ---- the whole encoding

-- one that a font has of its own lies within it
pub coded-good : (b : List ℕ) (f : Font) → GoodFont b f → 2 ≤ f.encoding → GoodEncoding b f.encoding
coded-good b f g h =
    let l : ltb f.encoding 2 ≡ false = le-ltb f.encoding 2 h in
    encoding-good b f.encoding (sym (ap (λ (t : Bool). pick t (Ok tt) (encoding_at b f.encoding)) l) ∙ g.parts.coded)

module _ (p : Program) (b : List ℕ) (at n format count : ℕ) (many : length p.charstrings ≡ n) (is-format : format ≡ get_or b at 0) (is-count : count ≡ get_or b (at + 1) 0)
    (old mid : List (Option ℕ))
    (first : Fills n old (pick (eqb (format % 128) 0) (codes_from 1 (take count (drop (at + 2) b))) (ranges_from count 1 (drop (at + 2) b))) mid) where
  abbrev front : List Naming
  front = pick (eqb (format % 128) 0) (codes_from 1 (take count (drop (at + 2) b))) (ranges_from count 1 (drop (at + 2) b))

  abbrev behind : List Naming
  behind = pick (eqb (format / 128) 0) [] (supplied_from (get_or (drop (at + 2) b) (count * (format % 128 + 1)) 0) (drop (count * (format % 128 + 1) + 1) (drop (at + 2) b)))

  all_namings : filled p mid behind ≡ filled p old (namings_at b at)
  unfolding namings_at namings_by
  all_namings =
      ap (λ (t : List (Option ℕ)). filled p t behind) (first.is p many) ∙ sym (filled-append p old front behind)
      ∙ ap (λ (x : ℕ). filled p old (namings_by x count (drop (at + 2) b))) is-format
      ∙ ap (λ (x : ℕ). filled p old (namings_by (get_or b at 0) x (drop (at + 2) b))) is-count

  -- without supplements
  pub fill_plain : format / 128 ≡ 0 → mid ≡ filled p old (namings_at b at)
  unfolding filled
  fill_plain h =
      let e : behind ≡ [] = rw (eq-eqb (format / 128) 0 h) refl in
      sym (ap (filled p mid) e) ∙ all_namings

  -- and with them
  pub fill_supplied : (format / 128 ≡ 0 → ⊥) → (sups k : ℕ) → sups ≡ at + 2 + count * (format % 128 + 1) → k ≡ get_or b sups 0 → (new : List (Option ℕ))
      → new ≡ filled p mid (supplied_from k (drop (sups + 1) b)) → new ≡ filled p old (namings_at b at)
  fill_supplied h sups k s e new is =
      let m = count * (format % 128 + 1) in
      let a : at + 2 + (m + 1) ≡ sups + 1 = omega arith in
      let x : get_or (drop (at + 2) b) m 0 ≡ k = get_or-drop (at + 2) b m 0 ∙ ap (λ (q : ℕ). get_or b q 0) (sym s) ∙ sym e in
      let y : drop (m + 1) (drop (at + 2) b) ≡ drop (sups + 1) b = drop-drop (m + 1) (at + 2) b ∙ ap (λ (q : ℕ). drop q b) a in
      let t : eqb (format / 128) 0 ≡ false = ne_eqb (format / 128) 0 h in
      let z : behind ≡ supplied_from k (drop (sups + 1) b) =
      ap (λ (c : Bool). pick c [] (supplied_from (get_or (drop (at + 2) b) m 0) (drop (m + 1) (drop (at + 2) b)))) t
      ∙ ap (λ (q : ℕ). supplied_from q (drop (m + 1) (drop (at + 2) b))) x ∙ ap (supplied_from k) y in
      is ∙ sym (ap (filled p mid) z) ∙ all_namings

-- what is read of it lies within the font
module _ (b : List ℕ) (at format count : ℕ) (g : GoodEncoding b at) (is-format : format ≡ get_or b at 0) (is-count : count ≡ get_or b (at + 1) 0) where
  sups_same : at + 2 + count * (format % 128 + 1) ≡ supplements_at b at
  sups_same = ap (λ (x : ℕ). at + 2 + count * (x % 128 + 1)) is-format ∙ ap (λ (x : ℕ). at + 2 + x * (get_or b at 0 % 128 + 1)) is-count

  pub encoding-within : (format % 128 ≤ 1) × (at + 2 + count * (format % 128 + 1) ≤ length b)
  encoding-within =
      let f = ap (λ (x : ℕ). x % 128) is-format in
      (omega (arith, g.kind), omega (arith, sups_same, g.codes))

  module _ (more : format / 128 ≡ 0 → ⊥) where
    supplied_there : get_or b at 0 / 128 ≡ 0 → ⊥
    supplied_there z = more (ap (λ (x : ℕ). x / 128) is-format ∙ z)

    pub count-within : at + 2 + count * (format % 128 + 1) < length b
    count-within = omega (arith, sups_same, g.counted supplied_there)

    pub supplied-within : (k : ℕ) → k ≡ get_or b (at + 2 + count * (format % 128 + 1)) 0 → at + 2 + count * (format % 128 + 1) + 1 + k * 3 ≤ length b
    supplied-within k e =
        let same = e ∙ ap (λ (x : ℕ). get_or b x 0) sups_same in
        let z = ap (λ (x : ℕ). x * 3) same in
        omega (arith, sups_same, g.supplied supplied_there)
