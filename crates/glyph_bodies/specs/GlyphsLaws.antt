-- Laws of one charstring, as the code takes it: by the glyph's number and FD, and the ranks of its local subroutines by the tables.
use Rattle.std.specs.Prelude.{ℕ, ◌+◌, ◌*◌, ◌%◌, ◌≤◌, ◌<◌, ◌≡◌, true, List, [], length, get_or, Option}
use Rattle.std.proofs.Common.{sym, ap, ◌∙◌, subst, arith}
use Rattle.octets.specs.declared.out.Out.{Out}
use Rattle.octets.specs.Out.{Writes}
use Rattle.octets.specs.OutLaws.{writes_as}
use Rattle.index.specs.Index.{items_of}
use Rattle.index.specs.IndexLaws.{item-short}
use Rattle.charset.specs.FdPlaces.{fd_of}
use Rattle.record.specs.Record.{rows_of}
use Rattle.unfold.specs.Unfold.{Row}
use Rattle.unfold.specs.Sites.{site_of}
use Rattle.order_window.specs.Stays.{order_of, Stays, stays-refl, stays-of, stays-glyph}
use Rattle.order_window.specs.declared.window.Kept.{Kept}
use Rattle.renumber.specs.Ranks.{Ranked}
use Rattle.renumber.specs.Bodies.{calls_of}
use Rattle.renumber.specs.declared.body.Body.{Body}
use Rattle.long_bodies.specs.Offsets.{Sited}
use Rattle.subset.specs.declared.Way.{Way}
use Rattle.renumber.specs.Turn.{Inputs, sized_of, body_of_lem}
use Rattle.renumber.specs.declared.Ranks.{Ranks}
use Rattle.bodies.specs.Ways.{holds, by_way, new_by_way, ranks_in}
use Rattle.bodies.specs.Sizes.{AtMost}
use Rattle.bodies.specs.SubrsLaws.{new-body_is}
use Rattle.bodies.specs.CodeLaws.{by_way-reads}
use Rattle.bodies.specs.SizesLaws.{at_most_more}
use Rattle.glyph_bodies.specs.Glyphs.{glyph_of, GlyphIn}
use Rattle.glyph_bodies.specs.Written.{glyph_in, written, Bodied}
use Rattle.glyph_bodies.specs.declared.charstrings.Charstring.{Charstring}
use Rattle.glyph_bodies.specs.declared.glyphs.Glyph.{Glyph}
use Rattle.glyph_bodies.specs.declared.glyphs.Source.{Source}

-- a glyph that was read with its FD, after the window was moved
pub glyph_read : (old new : Kept) → Stays old new → (i : ℕ) → i < old.o.count → (w fd : ℕ) → w ≡ get_or (order_of old) i 0
    → fd ≡ fd_of new.font.now new.o.f.select (w % 65536) → record { number = w % 65536; fd = fd } ≡ glyph_in old i
glyph_read old new s i h w fd e f =
    ap (λ (x : ℕ). record { number = w % 65536; fd = x }) (f ∙ stays-of (λ b g ws. fd_of b g.select (w % 65536)) old new s)
    ∙ ap (glyph_of old.font.now old.o.f.select) (stays-glyph old old (stays-refl old) i h w e)

module _ {b ws : List ℕ} {table : List Ranks} {from : Source} {g : Glyph} {rows : List Row} (w : GlyphIn b ws table from g rows) where
  -- the FD is in the table
  pub fd-inside : g.fd < length table
  fd-inside = omega (arith, w.fd_inside, w.table_long)

  module _ (locals : Ranks) (el : locals ≡ ranks_in table g.fd) (s : List ℕ) (es : s ≡ get_or (items_of b from.ix) g.number []) where
    -- what renumbering it asks
    pub charstring_inputs : Inputs s ws locals from.how.globals
    charstring_inputs =
        let n = ap length es in
        record {
          local_ranks = subst (Ranked ws) (sym el) w.local_ranks;
          global_ranks = w.global_ranks;
          size = omega (arith, item-short b from.ix w.good g.number w.inside, w.size);
        }

-- the charstring as it was put together
module _ (one : Charstring) {b : Body} (w : Bodied one b) where
  abbrev way : Way
  way = one.from.how.way

  -- its rows can be taken by windows
  pub charstring_sited : Sited b.site
  charstring_sited = subst Sited (sym w.site_is) (record { few = omega (arith, one.asked.inside, one.asked.few) })

  body_is : by_way way b ≡ written one
  body_is = by_way-reads way w

  new_is : new_by_way way b ≡ body_of_lem (written one)
  new_is = new-body_is way (rows_of b.rows.bytes.now) (calls_of b) (site_of b.site) b.code.now ∙ ap body_of_lem body_is

  pub charstring-len : {r : Option ℕ} → (r ≡ sized_of (by_way way b)) × AtMost (5 * length b.code.now) r → (r ≡ sized_of (written one)) × AtMost 335544320 r
  charstring-len {r} q = (q.0 ∙ ap sized_of body_is, at_most_more (5 * length b.code.now) 335544320 (omega (arith, b.inputs.size)) r q.1)

  pub charstring_room : (at n : ℕ) → holds (written one) ≡ true → at + length (body_of_lem (written one)) ≤ n
      → (holds (by_way way b) ≡ true) × (at + length (new_by_way way b) ≤ n)
  charstring_room at n k l = (ap holds body_is ∙ k, subst (λ (x : List ℕ). at + length x ≤ n) (sym new_is) l)

  pub charstring_writes : {old new : Out} → Writes old (new_by_way way b) new → Writes old (body_of_lem (written one)) new
  charstring_writes v = writes_as v new_is
