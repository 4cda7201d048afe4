-- A charstring by a part of the record that has its rows is the charstring by the whole record.
use Rattle.std.specs.Prelude.{ℕ, ◌+◌, ◌≤◌, ◌<◌, ◌≡◌, true, List, [], length, take, get_or, Option}
use Rattle.std.proofs.Common.{sym, ap, ◌∙◌, subst, arith}
use Rattle.octets.specs.declared.out.Out.{Out}
use Rattle.octets.specs.Out.{Writes}
use Rattle.octets.specs.OutLaws.{writes_as}
use Rattle.index.specs.Index.{items_of}
use Rattle.unfold.specs.Unfold.{Row, glyph}
use Rattle.record.specs.Record.{rows_of}
use Rattle.reach.specs.Reach.{rises}
use Rattle.renumber.specs.Turn.{sized_of, body_of_lem}
use Rattle.renumber.specs.Ranks.{calls_by}
use Rattle.renumber.specs.declared.Ranks.{Ranks}
use Rattle.mask_rows.specs.MaskRows.{SameMasks, Fillable, Covers}
use Rattle.mask_rows.specs.declared.Window.{Window}
use Rattle.bodies.specs.Ways.{holds, ranks_in}
use Rattle.bodies.specs.Sizes.{AtMost}
use Rattle.bodies.specs.WindowsLaws.{by-same}
use Rattle.glyph_bodies.specs.Glyphs.{GlyphIn, charstring_for, in_order}
use Rattle.glyph_bodies.specs.declared.glyphs.Glyph.{Glyph}
use Rattle.glyph_bodies.specs.declared.glyphs.Source.{Source}

module _ (rec bytes : List ℕ) (w : Window) (covers : Covers rec bytes 2 0 w) {b ws : List ℕ} {table : List Ranks} {from : Source} {g : Glyph} (a : GlyphIn b ws table from g (rows_of rec))
    (part : List ℕ) (shown : part ≡ take w.len bytes) (from' : Source) (e : from' ≡ in_order from) where
  -- the part is asked in the same way
  part-kept : GlyphIn b ws table (in_order from) g (rows_of part)
  part-kept =
      record {
        good = a.good;
        few = a.few;
        inside = a.inside;
        size = a.size;
        fd_inside = a.fd_inside;
        table_long = a.table_long;
        local_ranks = a.local_ranks;
        global_ranks = a.global_ranks;
        order = λ z. ap (λ (l : List ℕ). rises (rows_of l)) shown ∙ covers.rising;
      }

  pub part-asked : GlyphIn b ws table from' g (rows_of part)
  part-asked = subst (λ (x : Source). GlyphIn b ws table x g (rows_of part)) (sym e) part-kept

  module _ (low : w.from ≤ g.number) (high : g.number < w.end) where
    part_same : charstring_for from' g (rows_of part) ws table b ≡ charstring_for from g (rows_of rec) ws table b
    part_same =
        ap (λ (x : Source). charstring_for x g (rows_of part) ws table b) e
        ∙ sym (by-same from.how.way (rows_of rec) (rows_of part) (calls_by ws (ranks_in table g.fd) from.how.globals) (glyph g.number) (get_or (items_of b from.ix) g.number [])
        (subst (λ (l : List ℕ). SameMasks (rows_of rec) (rows_of l) (glyph g.number)) (sym shown) (λ offset len. covers.same g.number low high offset len)))

    pub part_len : (r : Option ℕ) → (r ≡ sized_of (charstring_for from' g (rows_of part) ws table b)) × AtMost 335544320 r
        → (r ≡ sized_of (charstring_for from g (rows_of rec) ws table b)) × AtMost 335544320 r
    part_len r h = (h.0 ∙ ap sized_of part_same, h.1)

    pub part_room : (at n : ℕ) → holds (charstring_for from g (rows_of rec) ws table b) ≡ true → at + length (body_of_lem (charstring_for from g (rows_of rec) ws table b)) ≤ n
        → (holds (charstring_for from' g (rows_of part) ws table b) ≡ true)
        × (at + length (body_of_lem (charstring_for from' g (rows_of part) ws table b)) ≤ n)
    part_room at n h l = (ap holds part_same ∙ h, subst (λ (m : Option (List ℕ)). at + length (body_of_lem m) ≤ n) (sym part_same) l)

    pub part-writes : {old new : Out} → Writes old (body_of_lem (charstring_for from' g (rows_of part) ws table b)) new
        → Writes old (body_of_lem (charstring_for from g (rows_of rec) ws table b)) new
    part-writes v = writes_as v (ap body_of_lem part_same)

-- a part from a glyph on can be filled
pub fills_glyph : {b ws : List ℕ} {table : List Ranks} {from : Source} {g : Glyph} {rows : List Row} → GlyphIn b ws table from g rows → Fillable 2 0 g.number
fills_glyph a = record { kind_fits = omega arith; fd_fits = omega arith; few = omega (arith, a.inside, a.few) }
