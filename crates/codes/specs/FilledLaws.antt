-- Laws of a filled table: one naming after the other, and what it holds of each code in the end.
use Rattle.std.specs.Prelude.{ℕ, zero, suc, ◌+◌, ◌-◌, ◌≤◌, ◌<◌, ◌≡◌, refl, Bool, true, false, List, [], ◌∷◌, ◌++◌, ltb, eqb, length, take, drop, get_or, set, replicate, None, Option, Some}
use Rattle.std.proofs.Common.{sym, ap, ◌∙◌, add-one, arith, lt-ltb, ltb-true, eqb-true, length-set, length-take-le, drop-cons, drop-drop, get_or-drop, get_or-set_same, get_or-set_other}
use Rattle.std.proofs.lemmas.Bool.{eqb-false}
use Rattle.std.proofs.lemmas.List.{length-replicate, get_or-replicate, set-append_left, take-append-drop}
use Rattle.octets.specs.Pick.{pick, pick_ind}
use Rattle.octets.specs.PickLaws.{pick_same}
use Rattle.octets.specs.Octets.{num_at}
use Rattle.charset.specs.Codes.{Naming, by_number, by_string, codes_from, range_from, ranges_from, supplied_from}
use Rattle.cff.specs.Font.{Program}
use Rattle.subset.specs.Codes.{code_of, glyph_by, or_else, last_named}
use Rattle.codes.specs.Filled.{stored, filled}

-- ---- one after the other

pub filled-append : (p : Program) (table : List (Option ℕ)) (xs ys : List Naming) → filled p table (xs ++ ys) ≡ filled p (filled p table xs) ys
unfolding filled
filled-append p table [] ys = refl
filled-append p table (x ∷ xs) ys = filled-append p (stored table (code_of x) (glyph_by p x)) xs ys

pub stored-length : (table : List (Option ℕ)) (code : ℕ) (f : Option ℕ) → length (stored table code f) ≡ length table
stored-length table code None = refl
stored-length table code (Some g) =
    pick_ind (λ (l : List (Option ℕ)). length l ≡ length table) (ltb code 256) (set table code (Some g)) table (λ e. length-set table code (Some g)) (λ e. refl)

-- ---- a table in front of more

chosen_front : (front rest : List (Option ℕ)) (code g : ℕ) (t : Bool) → ltb code 256 ≡ t → 256 ≤ length front
    → pick t (set (front ++ rest) code (Some g)) (front ++ rest) ≡ pick t (set front code (Some g)) front ++ rest
chosen_front front rest code g true e h = let l = ltb-true code 256 e in set-append_left front rest code (Some g) (omega arith)
chosen_front front rest code g false e h = refl

stored_front : (front rest : List (Option ℕ)) (code : ℕ) (f : Option ℕ) → 256 ≤ length front → stored (front ++ rest) code f ≡ stored front code f ++ rest
stored_front front rest code None h = refl
stored_front front rest code (Some g) h = chosen_front front rest code g (ltb code 256) refl h

filled_front : (p : Program) (front rest : List (Option ℕ)) (ns : List Naming) → 256 ≤ length front → filled p (front ++ rest) ns ≡ filled p front ns ++ rest
unfolding filled
filled_front p front rest [] h = refl
filled_front p front rest (n ∷ ns) h =
    ap (λ (t : List (Option ℕ)). filled p t ns) (stored_front front rest (code_of n) (glyph_by p n) h)
    ∙ filled_front p (stored front (code_of n) (glyph_by p n)) rest ns (rw (stored-length front (code_of n) (glyph_by p n)) h)

pub filled_first : (p : Program) (table first new : List (Option ℕ)) (ns : List Naming) → 256 ≤ length table → first ≡ take 256 table → new ≡ filled p first ns
    → new ++ drop 256 table ≡ filled p table ns
filled_first p table first new ns h is e =
    let n : 256 ≤ length (take 256 table) = omega (arith, length-take-le 256 table h) in
    ap (λ (l : List (Option ℕ)). l ++ drop 256 table) (e ∙ ap (λ (l : List (Option ℕ)). filled p l ns) is)
    ∙ sym (filled_front p (take 256 table) (drop 256 table) ns n) ∙ ap (λ (l : List (Option ℕ)). filled p l ns) (take-append-drop 256 table)

-- ---- what the table holds

-- of a code, once another or the same names a glyph
module _ (table : List (Option ℕ)) (code c : ℕ) (long : 256 ≤ length table) (low : c < 256) (prev : Option ℕ) (is : get_or table c None ≡ prev) where
  stored_same : (g : ℕ) (t : Bool) → eqb code c ≡ t → get_or (pick (ltb code 256) (set table code (Some g)) table) c None ≡ pick t (Some g) prev
  stored_same g true e =
      let s : code ≡ c = eqb-true code c e in
      let l : ltb code 256 ≡ true = lt-ltb code 256 (omega arith) in
      rw (l, s) (get_or-set_same table c (Some g) None (omega arith))
  stored_same g false e =
      let d = eqb-false code c e in
      pick_ind (λ (l : List (Option ℕ)). get_or l c None ≡ prev) (ltb code 256) (set table code (Some g)) table
      (λ t. get_or-set_other table code c (Some g) None (λ s. d (sym s)) ∙ is)
      (λ t. is)

  stored_at : (f : Option ℕ) → get_or (stored table code f) c None ≡ pick (eqb code c) (or_else f prev) prev
  stored_at None = is ∙ sym (pick_same (eqb code c) prev)
  stored_at (Some g) = stored_same g (eqb code c) refl

-- of a code, once all are stored: the last glyph that it names
pub filled_at : (p : Program) (table : List (Option ℕ)) (ns : List Naming) (c : ℕ) → 256 ≤ length table → c < 256 → (prev : Option ℕ) → get_or table c None ≡ prev
    → get_or (filled p table ns) c None ≡ last_named p c prev ns
unfolding filled last_named
filled_at p table [] c long low prev is = is
filled_at p table (n ∷ ns) c long low prev is =
    filled_at p (stored table (code_of n) (glyph_by p n)) ns c (rw (stored-length table (code_of n) (glyph_by p n)) long) low
    (pick (eqb (code_of n) c) (or_else (glyph_by p n) prev) prev)
    (stored_at table (code_of n) c long low prev is (glyph_by p n))

-- a table that was empty
pub filled-empty : (p : Program) (table : List (Option ℕ)) (ns : List Naming) → table ≡ replicate 256 None → (c : ℕ) → c < 256
    → get_or (filled p table ns) c None ≡ last_named p c None ns
filled-empty p table ns e c low =
    let l : length table ≡ 256 = ap length e ∙ length-replicate {A = Option ℕ} 256 None in
    filled_at p table ns c (omega arith) low None (ap (λ (t : List (Option ℕ)). get_or t c None) e ∙ get_or-replicate 256 c None None low)

-- ---- one naming more, as the loops meet it

-- by a glyph's number
pub number-next : (p : Program) (n : ℕ) → length p.charstrings ≡ n → (table new : List (Option ℕ)) (code g : ℕ) (ns : List Naming)
    → new ≡ stored table code (pick (ltb g n) (Some g) None) → filled p new ns ≡ filled p table (by_number code g ∷ ns)
unfolding filled
number-next p n e table new code g ns h =
    ap (λ (t : List (Option ℕ)). filled p t ns) (h ∙ ap (λ (m : ℕ). stored table code (pick (ltb g m) (Some g) None)) (sym e))

-- the first of the bytes that are left
byte_next : (b : List ℕ) (q left : ℕ) → 0 < left → q + left ≤ length b → take left (drop q b) ≡ get_or b q 0 ∷ take (left - 1) (drop (q + 1) b)
byte_next b q zero some within = absurd (omega arith)
byte_next b q (suc m) some within =
    let m₁ : suc m - 1 ≡ m = omega arith in
    rw (drop-cons b q 0 (omega arith), add-one q, m₁) refl

pub codes-next : (b : List ℕ) (q left g : ℕ) → 0 < left → q + left ≤ length b
    → codes_from g (take left (drop q b)) ≡ by_number (get_or b q 0) g ∷ codes_from (g + 1) (take (left - 1) (drop (q + 1) b))
unfolding codes_from
codes-next b q left g some within = ap (codes_from g) (byte_next b q left some within)

pub range-next : (left code g : ℕ) → 0 < left → range_from left code g ≡ by_number code g ∷ range_from (left - 1) (code + 1) (g + 1)
unfolding range_from
range-next zero code g some = absurd (omega arith)
range-next (suc m) code g some = let m₁ : suc m - 1 ≡ m = omega arith in rw m₁ refl

pub ranges-next : (b : List ℕ) (q left g : ℕ) → 0 < left
    → ranges_from left g (drop q b) ≡ range_from (get_or b (q + 1) 0 + 1) (get_or b q 0) g ++ ranges_from (left - 1) (g + (get_or b (q + 1) 0 + 1)) (drop (q + 2) b)
unfolding ranges_from
ranges-next b q zero g some = absurd (omega arith)
ranges-next b q (suc m) g some =
    let z : q + 0 ≡ q = omega arith in
    let x : get_or (drop q b) 0 0 ≡ get_or b q 0 = get_or-drop q b 0 0 ∙ ap (λ (k : ℕ). get_or b k 0) z in
    let m₁ : suc m - 1 ≡ m = omega arith in
    rw (x, get_or-drop q b 1 0, drop-drop 2 q b, m₁) refl

pub supplied-next : (b : List ℕ) (q left : ℕ) → 0 < left
    → supplied_from left (drop q b) ≡ by_string (get_or b q 0) (num_at b (q + 1) 2) ∷ supplied_from (left - 1) (drop (q + 3) b)
unfolding supplied_from num_at
supplied-next b q zero some = absurd (omega arith)
supplied-next b q (suc m) some =
    let z : q + 0 ≡ q = omega arith in
    let x : get_or (drop q b) 0 0 ≡ get_or b q 0 = get_or-drop q b 0 0 ∙ ap (λ (k : ℕ). get_or b k 0) z in
    let m₁ : suc m - 1 ≡ m = omega arith in
    rw (x, drop-drop 1 q b, drop-drop 3 q b, m₁) refl
