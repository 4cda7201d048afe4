-- Laws of a loop that writes the charstrings of the kept glyphs as the items of an INDEX.
use Rattle.std.specs.Prelude.{ℕ, ◌+◌, ◌≤◌, ◌<◌, ◌≡◌, refl, true, List, length, Option}
use Rattle.std.proofs.Common.{sym, ◌∙◌}
use Rattle.octets.specs.declared.out.Out.{Out}
use Rattle.octets.specs.Out.{Writes}
use Rattle.bits.specs.Bits.{count_below}
use Rattle.index.specs.Good.{Lies}
use Rattle.index.specs.Write.{head_bytes, size_for, index_bytes, index_for_lem}
use Rattle.index.specs.Begun.{Meant}
use Rattle.index.specs.ItemOut.{Ends}
use Rattle.index.specs.declared.Index.{Index}
use Rattle.record.specs.Record.{rows_of}
use Rattle.renumber.specs.Turn.{body_of_lem}
use Rattle.order_window.specs.Stays.{Stays}
use Rattle.order_window.specs.declared.window.Kept.{Kept}
use Rattle.bodies.specs.Ways.{many_of, holds, every, Room}
use Rattle.bodies.specs.WritingLaws.{count-every, head-fits, places-meant}
use Rattle.bodies.specs.WritingOut.{WritesOn, writes_start, writes-fit, writes_end, writes-on, writes-whole}
use Rattle.glyph_bodies.specs.Glyphs.{charstring_for}
use Rattle.glyph_bodies.specs.LoopLaws.{source_of, charstring_at, all_placed, glyph_room, glyph_writes}
use Rattle.glyph_bodies.specs.Written.{glyph_in, all_written}
use Rattle.glyph_bodies.specs.declared.glyphs.Glyph.{Glyph}
use Rattle.glyph_bodies.specs.declared.kept_bodies.KeptBodies.{KeptBodies}

module _ (all : KeptBodies) (out : Out) {sum : ℕ} (room : Room (all_written all) sum out.at (length out.bytes.now)) {to : Index}
    (is : to ≡ index_for_lem out.at all.kept.now.o.count sum) where
  abbrev n : ℕ
  n = all.kept.now.o.count

  abbrev F : ℕ → Option (List ℕ)
  F = charstring_at (source_of all.how all.kept.now.o) all.kept.now.o.f (rows_of all.rows.now) all.kept.now.words.now all.table.now all.kept.now.font.now

  abbrev B : Option (List (List ℕ))
  B = all_written all

  -- the charstring of a glyph
  abbrev one : Glyph → Option (List ℕ)
  one g = charstring_for (source_of all.how all.kept.now.o) g (rows_of all.rows.now) all.kept.now.words.now all.table.now all.kept.now.font.now

  many : n ≡ count_below every n
  many = sym (count-every n)

  -- the head has room
  pub head-asked : (sum < 4294967295) × (out.at + length (head_bytes n (size_for (sum + 1))) ≤ length out.bytes.now)
  head-asked = (room.few, head-fits B F every n (all_placed all) room.done out.bytes.now out.at n sum to room is many)

  -- the output behind the place of the table
  module _ (start : Out) (size : length start.bytes.now ≡ length out.bytes.now) where
    -- the places are for the charstrings
    pub charstrings-meant : Meant (length start.bytes.now) to (many_of B)
    charstrings-meant = places-meant B F every n (all_placed all) room.done out.bytes.now out.at n sum to room is many (length start.bytes.now) size

    pub put-start : start.at ≡ to.base + 1 → WritesOn start to (many_of B) every n 0 0 start
    put-start = writes_start start to (many_of B) every n

    module _ {i : ℕ} {new : Out} (w : WritesOn start to (many_of B) every n i i new) where
      pub put-size : length new.bytes.now ≡ length out.bytes.now
      put-size = w.size ∙ size

      -- all are written
      pub put_whole : {mid : Out} → Writes out (head_bytes n (size_for (sum + 1))) mid → start.bytes ≡ mid.bytes → n ≤ i → Writes out (index_bytes (many_of B)) new
      put_whole v b h = writes-whole B F every n (all_placed all) room.done n sum to room is many v b h w

      module _ {now : Kept} (stays : Stays all.kept.now now) (h : i < n) (g : Glyph) (read : g ≡ glyph_in now i) where
        -- the charstring of the i-th kept glyph does not fail, and has room
        pub put-asked : (holds (one g) ≡ true) × (new.at + length (body_of_lem (one g)) ≤ length new.bytes.now)
        put-asked = glyph_room all stays h g read new.at (length new.bytes.now) (writes-fit B F every n (all_placed all) room.done charstrings-meant i i w h refl)

        module _ {next : Out} (v : Writes new (body_of_lem (one g)) next) where
          -- the offset of its end has room
          pub end_asked : (Lies (length next.bytes.now) to) × (i < to.count) × (to.base ≤ next.at)
          end_asked = writes_end B F every n (all_placed all) room.done charstrings-meant i i w h refl (glyph_writes all stays h g read v)

          -- it is written, with the offset of its end
          pub put_next : {last : Out} → Ends next to i last → WritesOn start to (many_of B) every n (i + 1) (i + 1) last
          put_next e = writes-on B F every n (all_placed all) room.done charstrings-meant i i w h refl (glyph_writes all stays h g read v) e
