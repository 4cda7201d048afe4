-- Laws of a loop over the charstrings of the kept glyphs: the glyph at a place, and what its charstring asks.
use Rattle.std.specs.Prelude.{ℕ, ◌+◌, ◌≤◌, ◌<◌, ◌≡◌, refl, true, List, length, get_or, Option, None, Some}
use Rattle.std.proofs.Common.{sym, ap, ◌∙◌, subst, arith}
use Rattle.octets.specs.declared.out.Out.{Out}
use Rattle.octets.specs.Out.{Writes}
use Rattle.octets.specs.OutLaws.{writes_as}
use Rattle.index.specs.Index.{items_of}
use Rattle.charset.specs.FdFound.{fd-at}
use Rattle.record.specs.Record.{rows_of}
use Rattle.unfold.specs.Unfold.{Row}
use Rattle.cff.specs.Reads.{program_of}
use Rattle.cff.specs.declared.font.Font.{Font}
use Rattle.subset.specs.Pruned.{each}
use Rattle.renumber.specs.Turn.{sized_of, body_of_lem}
use Rattle.renumber.specs.declared.Ranks.{Ranks}
use Rattle.order_window.specs.Window.{glyphs_of}
use Rattle.order_window.specs.OrderLaws.{order_below}
use Rattle.order_window.specs.GatheredLaws.{glyphs_many}
use Rattle.order_window.specs.Stays.{kept_glyphs, Stays, stays-of}
use Rattle.order_window.specs.declared.Order.{Order}
use Rattle.order_window.specs.declared.window.Kept.{Kept}
use Rattle.bodies.specs.Ways.{holds, measured_of, every, up_to}
use Rattle.bodies.specs.Sizes.{AtMost, Adding}
use Rattle.bodies.specs.SizesLaws.{adding_end, adding_failed, adding_on, adding_room, adding_small}
use Rattle.bodies.specs.declared.Manner.{Manner}
use Rattle.glyph_bodies.specs.Charstrings.{charstring_of, charstrings_of, CharstringsIn}
use Rattle.glyph_bodies.specs.Glyphs.{glyph_of, GlyphIn, charstring_for}
use Rattle.glyph_bodies.specs.EachLaws.{each-order}
use Rattle.glyph_bodies.specs.declared.glyphs.Glyph.{Glyph}
use Rattle.glyph_bodies.specs.Written.{glyph_in, all_written}
use Rattle.glyph_bodies.specs.declared.glyphs.Source.{Source}
use Rattle.glyph_bodies.specs.declared.kept_bodies.KeptBodies.{KeptBodies}

-- the charstrings of a font, and how they are written
abbrev pub source_of : Manner → Order → Source
source_of how o = record { how = how; ix = o.f.charstrings }

-- the charstring of the i-th kept glyph
abbrev pub charstring_at : Source → Font → List Row → List ℕ → List Ranks → List ℕ → ℕ → Option (List ℕ)
charstring_at from f rows ws table b i =
    charstring_of from.how.way rows (program_of b f).fds ws table from.how.globals (items_of b from.ix) (get_or (glyphs_of b f ws) i 0)

-- those of all
abbrev pub charstrings_by : Source → Font → List Row → List ℕ → List Ranks → List ℕ → Option (List (List ℕ))
charstrings_by from f rows ws table b = charstrings_of from.how.way rows (program_of b f).fds ws table from.how.globals (items_of b from.ix) (glyphs_of b f ws)

-- the i-th glyph, whatever the window holds
pub glyph_stays : {old new : Kept} → Stays old new → (i : ℕ) → glyph_in new i ≡ glyph_in old i
glyph_stays s i = stays-of (λ b f ws. glyph_of b f.select (get_or (glyphs_of b f ws) i 0)) _ _ s

-- what they ask does not name what the window holds
pub asked_again : (old new : Kept) → Stays old new → (table : List Ranks) (how : Manner) (rows : List Row)
    → CharstringsIn old.font.now old.words.now table old.o how rows → CharstringsIn new.font.now new.words.now table new.o how rows
asked_again old new s table how rows c =
    let o : CharstringsIn old.font.now old.words.now table (record { f = old.o.f; count = old.o.count; held = new.o.held }) how rows
    = record { size = c.size; table_long = c.table_long; fds = c.fds; local_ranks = c.local_ranks; global_ranks = c.global_ranks; order = c.order } in
    let x = subst (λ (b : List ℕ). CharstringsIn b old.words.now table (record { f = old.o.f; count = old.o.count; held = new.o.held }) how rows) (sym s.font) o in
    let y = subst (λ (f : Font). CharstringsIn new.font.now old.words.now table (record { f = f; count = old.o.count; held = new.o.held }) how rows) (sym s.f) x in
    let z = subst (λ (n : ℕ). CharstringsIn new.font.now old.words.now table (record { f = new.o.f; count = n; held = new.o.held }) how rows) (sym s.count) y in
    subst (λ (ws : List ℕ). CharstringsIn new.font.now ws table new.o how rows) (sym s.words) z

-- ---- the glyph at place i

module _ (all : KeptBodies) where
  abbrev k : Kept
  k = all.kept.now

  abbrev rows : List Row
  rows = rows_of all.rows.now

  abbrev from : Source
  from = source_of all.how k.o

  abbrev F : ℕ → Option (List ℕ)
  F = charstring_at from k.o.f rows k.words.now all.table.now k.font.now

  -- all, place by place
  pub all_placed : all_written all ≡ each F (up_to k.o.count)
  all_placed = sym (each-order F _ k.o.count (kept_glyphs k) (k.gathered.many ∙ glyphs_many k.font.now k.o.f k.words.now) (λ i h. refl))

  -- it was read after the window was moved
  module _ {now : Kept} {i : ℕ} (stays : Stays k now) (h : i < k.o.count) (g : Glyph) (read : g ≡ glyph_in now i) where
    abbrev number : ℕ
    number = get_or (kept_glyphs k) i 0

    is : g ≡ glyph_in k i
    is = read ∙ glyph_stays stays i

    number-inside : number < k.o.f.charstrings.count
    number-inside = order_below k.font.now k.o.f k.words.now k.gathered.good.glyphs.held.few i (omega (arith, k.gathered.many))

    glyph_is : g ≡ record { number = number; fd = get_or (program_of k.font.now k.o.f).fds number 0 }
    glyph_is = is ∙ ap (λ (x : ℕ). record { number = number; fd = x }) (sym (fd-at k.font.now k.o.f.select k.o.f.charstrings.count number number-inside))

    -- its charstring is the i-th
    glyph_body : charstring_for from g rows k.words.now all.table.now k.font.now ≡ F i
    glyph_body = ap (λ (x : Glyph). charstring_for from x rows k.words.now all.table.now k.font.now) glyph_is

    -- what it asks
    pub glyph_asked : GlyphIn k.font.now k.words.now all.table.now from g rows
    glyph_asked =
        let c = all.asked in
        subst (λ (x : Glyph). GlyphIn k.font.now k.words.now all.table.now from x rows) (sym glyph_is)
        (record {
          good = k.gathered.good.glyphs.held.good;
          few = k.gathered.good.glyphs.held.few;
          inside = number-inside;
          size = c.size;
          fd_inside = c.fds i h;
          table_long = c.table_long;
          local_ranks = c.local_ranks i h;
          global_ranks = c.global_ranks;
          order = c.order;
        })

    -- ---- measured

    module _ (sum : ℕ) (a : Adding F every k.o.count i sum) (r : Option ℕ)
        (e : (r ≡ sized_of (charstring_for from g rows k.words.now all.table.now k.font.now)) × AtMost 335544320 r) where
      pub total_failed : r ≡ None → None ≡ measured_of (all_written all)
      total_failed f = adding_failed F every k.o.count i sum a h r (e.0 ∙ ap sized_of glyph_body) f ∙ ap measured_of (sym all_placed)

      module _ (len : ℕ) (f : r ≡ Some len) where
        pub total-room : sum + len < 18446744073709551616
        total-room = adding_room F every k.o.count i sum a h k.gathered.few len r e.1 f

        pub total-next : Adding F every k.o.count (i + 1) (sum + len)
        total-next = adding_on F every k.o.count i sum a h r (e.0 ∙ ap sized_of glyph_body) e.1 len f

    -- ---- written

    pub glyph_room : (at n : ℕ) → (holds (F i) ≡ true) × (at + length (body_of_lem (F i)) ≤ n)
        → (holds (charstring_for from g rows k.words.now all.table.now k.font.now) ≡ true)
        × (at + length (body_of_lem (charstring_for from g rows k.words.now all.table.now k.font.now)) ≤ n)
    glyph_room at n e = (ap holds glyph_body ∙ e.0, subst (λ (m : Option (List ℕ)). at + length (body_of_lem m) ≤ n) (sym glyph_body) e.1)

    pub glyph_writes : {out new : Out} → Writes out (body_of_lem (charstring_for from g rows k.words.now all.table.now k.font.now)) new
        → Writes out (body_of_lem (F i)) new
    glyph_writes w = writes_as w (ap body_of_lem glyph_body)

  -- all were measured
  pub total-whole : (i sum : ℕ) → Adding F every k.o.count i sum → k.o.count ≤ i → (Some sum ≡ measured_of (all_written all)) × (sum ≤ 21989897011200)
  total-whole i sum a h =
      (adding_end F every k.o.count i sum a h ∙ ap measured_of (sym all_placed), adding_small F every k.o.count i sum a k.gathered.few)
