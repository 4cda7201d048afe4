-- Laws of a font in a file: one for each way out of reading, and what a font that was read says of its file.
use Rattle.std.specs.Prelude.{ℕ, ◌+◌, ◌≤◌, ◌≡◌, refl, List, length, drop, Result, Ok, Err}
use Rattle.std.proofs.Common.{sym, ◌∙◌, subst, arith, length-drop, length-take-le}
use Rattle.std.proofs.Math.Path.{ap}
use Rattle.std.proofs.Math.Seq.{take-length}
use Rattle.octets.specs.Lists.{part_of}
use Rattle.octets.specs.Octets.{Octets, num_at}
use Rattle.index.proofs.FoundLaws.{part_octets}
use Rattle.opentype.specs.Opentype.{otto, place_of, table_lying}
use Rattle.opentype.specs.OpentypeLaws as place
use Rattle.cff.specs.Font.{Program, read_table, read_at, read_font}
use Rattle.cff.specs.Reads.{program_of, GoodFont, ReadsFont}
use Rattle.cff.specs.ReadsLaws.{no}
use Rattle.cff.specs.File.{table_in, InFile, HasFont, ReadsFile}
use Rattle.cff.specs.declared.font.Font.{Font}
use Rattle.opentype.specs.declared.TableAt.{TableAt}
use Rattle.refusal.specs.declared.Refusal.{Refusal}

-- ---- reading

module _ (file : List ℕ) (x : Result TableAt Refusal) (e : x ≡ place_of file) where
  pub no_place : (n : Refusal) → x ≡ Err n → ReadsFile file (Err n)
  unfolding read_font
  no_place n q = ap (read_at file) (sym e ∙ q)

  module _ (start len : ℕ) (q : x ≡ table_lying start len) where
    pub table_there : start + len ≤ length file
    table_there = (place.found-fits file start len (sym e ∙ q)).0

    table-read : read_font file ≡ read_table (part_of file start len)
    unfolding read_font
    table-read = ap (read_at file) (sym e ∙ q)

    module _ (b : List ℕ) (same : b ≡ part_of file start len) (r : Result Font Refusal) (reads : ReadsFont b (read_table b) r) where
      pub table_refused : (n : Refusal) → r ≡ Err n → ReadsFile file (Err n)
      table_refused n i = table-read ∙ ap read_table (sym same) ∙ subst (ReadsFont b (read_table b)) i reads

      -- the font that was read, once its start and length are set
      module _ (f : Font) (i : r ≡ Ok f) (g : Font) (s : start ≡ g.start) (l : len ≡ g.len) where
        placed : b ≡ table_in file g
        placed = same ∙ ap (λ (k : ℕ). part_of file k len) s ∙ ap (part_of file g.start) l

        pub table-found : (GoodFont b f → GoodFont b g) → program_of b f ≡ program_of b g → ReadsFile file (Ok g)
        table-found good p =
            let h = subst (ReadsFont b (read_table b)) i reads in
            record {
              place = sym e ∙ q ∙ ap (λ (k : ℕ). table_lying k len) s ∙ ap (table_lying g.start) l;
              bytes = refl;
              good = subst (λ (t : List ℕ). GoodFont t g) placed (good h.0);
              is = table-read ∙ ap read_table (sym same) ∙ h.1 ∙ ap Ok p ∙ ap (λ (t : List ℕ). Ok (program_of t g)) placed;
            }

-- ---- a font in a file

-- its table lies in the file
pub font_there : (file : List ℕ) (f : Font) → HasFont file f → f.start + f.len ≤ length file
font_there file f h = (place.found-fits file f.start f.len h.place).0

-- bytes that are its table's
pub font-lent : (file : List ℕ) (f : Font) → HasFont file f → (b : List ℕ) → b ≡ table_in file f → InFile file f b
font-lent file f h b e = subst (InFile file f) (sym e) h

part-short : (file : List ℕ) (start len : ℕ) → start + len ≤ length file → length (part_of file start len) ≤ length file
part-short file start len h =
    let d = length-drop start file in
    let t = length-take-le len (drop start file) (omega (arith, d)) in
    omega (arith, t)

module _ (file : List ℕ) (f : Font) (b : List ℕ) (h : InFile file f b) where
  -- they are bytes, not too many
  pub table_octets : Octets file → Octets b
  table_octets o = subst Octets (sym h.bytes) (part_octets file f.len f.start o)

  pub table-short : length b ≤ 67108864
  table-short =
      let t = place.found-fits file f.start f.len h.place in
      let s = part-short file f.start f.len t.0 in
      omega (arith, ap length h.bytes, s, t.1)

-- ---- what a file that is read holds: a table that is read

pub record Within (file : List ℕ) (p : Program) : Type 0 where
  pub start : ℕ
  pub len : ℕ
  pub fits : (start + len ≤ length file) × (length file ≤ 67108864)
  pub is : read_table (part_of file start len) ≡ Ok p

pub read-within : (file : List ℕ) (p : Program) → read_font file ≡ Ok p → Within file p
unfolding read_font
read-within file p = go (place_of file) (place.place-fits file)
  where
    go : (x : Result TableAt Refusal) → place.Fits file x → read_at file x ≡ Ok p → Within file p
    go (Err n) f e = absurd (no cc)
    go (Ok t) f e = record { start = t.start; len = t.len; fits = f; is = e }

-- the table's bytes
module _ (file : List ℕ) (p : Program) (w : Within file p) where
  pub within_octets : Octets file → Octets (part_of file w.start w.len)
  within_octets o = part_octets file w.len w.start o

  pub within-short : length (part_of file w.start w.len) ≤ 67108864
  within-short = let s = part-short file w.start w.len w.fits.0 in omega (arith, s, w.fits.1)

-- ---- a file that does not begin with `OTTO` is read as a bare font

pub bare : (b : List ℕ) → length b ≤ 67108864 → (num_at b 0 4 ≡ otto → ⊥) → read_font b ≡ read_table b
unfolding read_font
bare b short other = ap (read_at b) (place.bare b short other) ∙ ap read_table (take-length b)
