-- The three parts make up the record (document 02, Wish 1): a glyph meets masks of kind 2 in itself alone, so that these can be sorted glyph by glyph.
use Prim.Native.Nat.{ℕ, zero, suc, ◌+◌, ◌≤◌, ◌<◌}
use Rattle.std.specs.Prelude.{◌≡◌, refl, Bool, ◌⊎◌, ltb, eqb, length, get_or, Some, Ok}
use Rattle.std.proofs.Common.{sym, ◌∙◌, subst, inl, inr, ⊎_elim, arith, lt-ltb, le-ltb, ltb-true, ltb-false, eqb-true}
use Rattle.std.proofs.Math.Path.{ap}
use Rattle.std.proofs.Math.Bool.{true, false}
use mathlib.Core.List.{List, [], ◌∷◌, ◌++◌, map, append-nil}
use Rattle.octets.specs.Pick.{pick}
use Rattle.octets.specs.PickLaws.{pick_same}
use Rattle.octets.specs.Octets.{Octets}
use Rattle.strings.proofs.TableLaws.{and_left}
use Rattle.unfold.specs.Unfold.{Tok, Row, Glyph, plain}
use Rattle.prune.specs.Bodies.{All, empty as nothing, one as listing}
use Rattle.prune.specs.BelongsLaws.{Belongs, rows_belong}
use Rattle.record.specs.Record.{row_fine_lem}
use Rattle.dict.specs.Lookup.{cid_keyed}
use Rattle.cff.specs.Font.{Program, read_font}
use Rattle.subset.specs.Kept.{those, keeps, kept_of, locals_of}
use Rattle.subset.specs.KeptListLaws.{those_in}
use Rattle.row_window.specs.Window.{gathered, in_range, within, Below, none, one}
use Rattle.row_window.specs.WindowLaws.{within_both, range_split}
use Rattle.row_window.specs.NextLaws.{within_all}
use Rattle.row_window.specs.Key.{keys_bytes}
use Rattle.row_window.specs.KeyLaws.{keys-both}
use Rattle.faithful.specs.Faithful.{unfolded}
use Rattle.faithful.specs.GoodLaws.{font-good}
use Rattle.traced.specs.Traced.{met_by, met_all, record_of}
use Rattle.traced.specs.Has.{Has, here, there}
use Rattle.traced.specs.HasLaws.{has-none, all-at, all_from}
use Rattle.traced.specs.Parts.{key_for, mask_from, subrs_from, keys_end, keys_in, masks_in, masks_of}
use Rattle.traced.specs.RowLaws.{RowFits}
use Rattle.traced.proofs.RowLaws.{record-keys}
use Rattle.traced.proofs.RunLaws.{Proper}
use Rattle.traced.proofs.MetLaws.{split, met-from}
use Rattle.traced.specs.Theorem.{kept_rows}
use Rattle.traced.proofs.Theorem.{glyph_proper, kept-fits}

-- a row that fits, and that is a mask in a glyph only of those from low up to high
pub record MaskIn (low high : ℕ) (r : Row) : Type 0 where
  pub fits : RowFits r
  pub glyphs : r.kind ≡ 2 → (r.fd ≡ 0) × (low ≤ r.number) × (r.number < high)

pub mask_wider : (a b c d : ℕ) (r : Row) → MaskIn a b r → c ≤ a → b ≤ d → MaskIn c d r
mask_wider a b c d r m h k = record { fits = m.fits; glyphs = λ e. let g = m.glyphs e in (g.0, omega (arith, g.1), omega (arith, g.2)) }

-- ---- keys outside a range

out_low : (low high k : ℕ) → k < low → in_range low high k ≡ false
out_low low high k h = rw (lt-ltb k low h)

out_high : (low high k : ℕ) → high ≤ k → in_range low high k ≡ false
out_high low high k h = rw (le-ltb k high h) (pick_same (ltb k low) false)

-- where a key stands, by kind
key-before : (r : Row) → RowFits r → r.kind < 2 → (a : ℕ) → key_for r < mask_from a
key-before r f h a = omega (arith, f.fd, f.number, f.offset, f.len, h)

key-after : (r : Row) → RowFits r → 2 < r.kind → subrs_from ≤ key_for r
key-after r f h = omega (arith, h)

key-mask : (r : Row) → RowFits r → r.kind ≡ 2 → r.fd ≡ 0 → (mask_from r.number ≤ key_for r) × (key_for r < mask_from (r.number + 1))
key-mask r f k d = (omega (arith, k, d), omega (arith, k, d, f.offset, f.len))

-- the key of a row is not in the range of glyphs that it is not a mask in
outside : (low high a b : ℕ) (r : Row) → MaskIn low high r → b ≤ 16777216 → (b ≤ low) ⊎ (high ≤ a) → in_range (mask_from a) (mask_from b) (key_for r) ≡ false
outside low high a b r m h d = by (ltb r.kind 2) refl (ltb 2 r.kind) refl
  where
    mask : r.kind ≡ 2 → in_range (mask_from a) (mask_from b) (key_for r) ≡ false
    mask k =
        let g = m.glyphs k in
        let e = key-mask r m.fits k g.0 in
        ⊎_elim (λ x. out_high (mask_from a) (mask_from b) (key_for r) (omega (arith, x, g.1, e.0)))
        (λ x. out_low (mask_from a) (mask_from b) (key_for r) (omega (arith, x, g.2, e.1))) d

    by : (t : Bool) → ltb r.kind 2 ≡ t → (u : Bool) → ltb 2 r.kind ≡ u → in_range (mask_from a) (mask_from b) (key_for r) ≡ false
    by true t u e = out_low (mask_from a) (mask_from b) (key_for r) (key-before r m.fits (ltb-true r.kind 2 t) a)
    by false t true e = out_high (mask_from a) (mask_from b) (key_for r) (omega (arith, key-after r m.fits (ltb-true 2 r.kind e), h))
    by false t false e = mask (omega (arith, ltb-false r.kind 2 t, ltb-false 2 r.kind e))

within_none : (low high : ℕ) (rows : List Row) → ((r : Row) → Has Row r rows → in_range low high (key_for r) ≡ false) → within low high (map key_for rows) ≡ []
unfolding within
within_none low high [] f = refl
within_none low high (r ∷ rows) f = rw (f r (here refl)) (within_none low high rows (λ q h. f q (there h)))

map_both : (a b : List Row) → map key_for (a ++ b) ≡ map key_for a ++ map key_for b
map_both [] b = refl
map_both (r ∷ a) b = ap (λ (l : List ℕ). key_for r ∷ l) (map_both a b)

-- ---- glyph by glyph

-- the masks in glyph g, and those in later glyphs
step : (g top : ℕ) (met rest : List Row) → g < 16777216 → ((r : Row) → Has Row r met → MaskIn g (g + 1) r) → ((r : Row) → Has Row r rest → MaskIn (g + 1) top r)
    → keys_in (mask_from g) subrs_from (met ++ rest) ≡ keys_in (mask_from g) (mask_from (g + 1)) met ++ keys_in (mask_from (g + 1)) subrs_from rest
step g top met rest h own later =
    let a = mask_from g in
    let b = mask_from (g + 1) in
    let ks = map key_for (met ++ rest) in
    let first : within a b ks ≡ within a b (map key_for met) =
    ap (within a b) (map_both met rest) ∙ within_both a b (map key_for met) (map key_for rest)
    ∙ ap (λ (l : List ℕ). within a b (map key_for met) ++ l)
    (within_none a b rest (λ r i. outside (g + 1) top g (g + 1) r (later r i) (omega (arith, h)) (inl (omega arith))))
    ∙ append-nil (within a b (map key_for met)) in
    let second : within b subrs_from ks ≡ within b subrs_from (map key_for rest) =
    ap (within b subrs_from) (map_both met rest) ∙ within_both b subrs_from (map key_for met) (map key_for rest)
    ∙ ap (λ (l : List ℕ). l ++ within b subrs_from (map key_for rest))
    (within_none b subrs_from met (λ r i. outside g (g + 1) (g + 1) 16777216 r (own r i) (omega arith) (inr (omega arith)))) in
    range_split a b subrs_from (omega arith) (omega (arith, h)) [] [] ks none none
    ∙ ap (λ (l : List ℕ). gathered [] l ++ gathered [] (within b subrs_from ks)) first
    ∙ ap (λ (l : List ℕ). keys_in a b met ++ gathered [] l) second

module _ (p : Program) (test : ℕ → Bool) (total : ℕ) (few : total ≤ 65536)
    (own : (g : ℕ) → g < total → (ts : List Tok) (met : List Row) → unfolded p g ≡ plain ts met → (r : Row) → Has Row r met → MaskIn g (g + 1) r) where
  -- rows of later glyphs
  later : (n g : ℕ) → g + n ≤ total → (rows : List Row) → met_all p (those test n g) ≡ Some rows → (r : Row) → Has Row r rows → MaskIn g (g + n) r
  later n g h rows e r i =
      let m = met-from p (those test n g) rows e r i in
      let t = those_in test n g m.0 m.1 in
      mask_wider m.0 (m.0 + 1) g (g + n) r (own m.0 (omega (arith, t.1)) m.2.tokens m.2.met m.2.plainly r m.2.has) t.0 (omega (arith, t.1))

  masks_sorted : (n g : ℕ) → g + n ≤ total → (rows : List Row) → met_all p (those test n g) ≡ Some rows
      → keys_in (mask_from g) subrs_from rows ≡ masks_of p (those test n g)
  unfolding those met_all masks_of gathered within
  masks_sorted zero g h rows e = let z : rows ≡ [] = cc in ap (λ (l : List Row). keys_in (mask_from g) subrs_from l) z
  masks_sorted (suc n) g h rows e =
      by (test g) e (λ rest o. masks_sorted n (g + 1) (omega arith) rest o) (λ rest o. later n (g + 1) (omega arith) rest o)
    where
      by : (t : Bool) → met_all p (pick t (g ∷ those test n (g + 1)) (those test n (g + 1))) ≡ Some rows
          → ((rest : List Row) → met_all p (those test n (g + 1)) ≡ Some rest → keys_in (mask_from (g + 1)) subrs_from rest ≡ masks_of p (those test n (g + 1)))
          → ((rest : List Row) → met_all p (those test n (g + 1)) ≡ Some rest → (r : Row) → Has Row r rest → MaskIn (g + 1) (g + 1 + n) r)
          → keys_in (mask_from g) subrs_from rows ≡ masks_of p (pick t (g ∷ those test n (g + 1)) (those test n (g + 1)))
      by true i next beyond =
          let s = split p g (those test n (g + 1)) rows i in
          let first : masks_in g (met_by (unfolded p g)) ≡ keys_in (mask_from g) (mask_from (g + 1)) s.met = ap (λ (u : Glyph). masks_in g (met_by u)) s.first in
          ap (λ (l : List Row). keys_in (mask_from g) subrs_from l) (sym s.all)
          ∙ step g (g + 1 + n) s.met s.rest (omega arith) (own g (omega arith) s.tokens s.met s.first) (beyond s.rest s.others)
          ∙ ap (λ (l : List ℕ). l ++ keys_in (mask_from (g + 1)) subrs_from s.rest) (sym first)
          ∙ ap (λ (l : List ℕ). masks_in g (met_by (unfolded p g)) ++ l) (next s.rest s.others)
      by false i next beyond =
          step g (g + 1 + n) [] rows (omega arith) (λ r h. absurd (has-none Row r h)) (beyond rows i) ∙ next rows i

-- ---- the record

keys_below : (rows : List Row) → All RowFits rows → Below keys_end (map key_for rows)
keys_below [] nothing = none
keys_below (r ∷ rows) (listing f a) = one {x = key_for r} (omega (arith, f.kind, f.fd, f.number, f.offset, f.len)) (keys_below rows a)

-- its parts by kind
pub record-parts : (rows : List Row) → All RowFits rows
    → record_of rows ≡ keys_bytes (keys_in 0 (mask_from 0) rows) ++ (keys_bytes (keys_in (mask_from 0) subrs_from rows) ++ keys_bytes (keys_in subrs_from keys_end rows))
record-parts rows a =
    let ks = map key_for rows in
    record-keys rows a
    ∙ ap (λ (l : List ℕ). keys_bytes (gathered [] l)) (sym (within_all keys_end ks (keys_below rows a)))
    ∙ ap keys_bytes (range_split 0 (mask_from 0) keys_end (omega arith) (omega arith) [] [] ks none none)
    ∙ keys-both (keys_in 0 (mask_from 0) rows) (keys_in (mask_from 0) keys_end rows)
    ∙ ap (λ (l : List ℕ). keys_bytes (keys_in 0 (mask_from 0) rows) ++ l)
    (ap keys_bytes (range_split (mask_from 0) subrs_from keys_end (omega arith) (omega arith) [] [] ks none none)
    ∙ keys-both (keys_in (mask_from 0) subrs_from rows) (keys_in subrs_from keys_end rows))

-- ---- of a font

fine_fd : (cid : Bool) (r : Row) → r.kind ≡ 2 → row_fine_lem cid r ≡ true → r.fd ≡ 0
fine_fd cid r k e = eqb-true r.fd 0 (by cid (subst (λ (n : ℕ). row_fine_lem cid (record { kind = n; fd = r.fd; number = r.number; offset = r.offset; len = r.len }) ≡ true) k e))
  where
    by : (c : Bool) → row_fine_lem c (record { kind = 2; fd = r.fd; number = r.number; offset = r.offset; len = r.len }) ≡ true → eqb r.fd 0 ≡ true
    by true h = and_left (eqb r.fd 0) true h
    by false h = and_left (eqb r.fd 0) true h

module _ (font keep : List ℕ) (octets : Octets font) (p : Program) (is : read_font font ≡ Ok p) where
  own_masks : (g : ℕ) → g < length p.charstrings → (ts : List Tok) (met : List Row) → unfolded p g ≡ plain ts met → (r : Row) → Has Row r met → MaskIn g (g + 1) r
  own_masks g h ts met e r i =
      let fd = get_or p.fds g 0 in
      let proper = all-at (Proper (cid_keyed p.top)) r met (glyph_proper font octets p is g h ts met e) i in
      let belongs = all-at (Belongs (λ q. Unit) fd g) r met
      (rows_belong p.globals (locals_of p fd) fd g (λ q. Unit) (get_or p.charstrings g []) ts met e (all_from (λ q. Unit) met (λ q j. tt))) i in
      record {
        fits = proper.fits;
        glyphs = λ k. let n = belongs.in_glyph k in (fine_fd (cid_keyed p.top) r k proper.fine, omega (arith, n), omega (arith, n));
      }

  -- THE LAW of the parts: what the kept glyphs enter; the masks in each of them, glyph by glyph; the masks in subroutines
  pub kept-parts : (rows : List Row) → kept_rows p keep ≡ Some rows
      → record_of rows
      ≡ keys_bytes (keys_in 0 (mask_from 0) rows) ++ (keys_bytes (masks_of p (kept_of (length p.charstrings) keep)) ++ keys_bytes (keys_in subrs_from keys_end rows))
  kept-parts rows e =
      let n = length p.charstrings in
      let few : n ≤ 65536 = omega (arith, (font-good font p octets is).charstrings.count) in
      record-parts rows (kept-fits font keep 0 octets p is rows e)
      ∙ ap (λ (l : List ℕ). keys_bytes (keys_in 0 (mask_from 0) rows) ++ (keys_bytes l ++ keys_bytes (keys_in subrs_from keys_end rows)))
      (masks_sorted p (keeps keep) n few own_masks n 0 (omega arith) rows e)
