-- The parts of a CID-keyed subset written one behind the other (document 01, 'Layout'): what each writer asks is there, and together they write
-- the subset.
use Rattle.std.specs.Prelude.{ℕ, ◌+◌, ◌≤◌, ◌<◌, ◌≡◌, Option}
use Rattle.std.proofs.Math.Path.{sym, ap, subst}
use Rattle.std.proofs.Common.{◌∙◌, arith}
use Rattle.std.proofs.Math.Bool.{true}
use mathlib.Core.List.{List, ◌++◌, append_assoc}
use Rattle.std.proofs.Math.ListN.{length, length-append}
use Rattle.octets.specs.Octets.{Wrote}
use Rattle.octets.specs.PutLaws.{wrote_as}
use Rattle.index.specs.Write.{index_bytes}
use Rattle.unfold.specs.Unfold.{Row}
use Rattle.charset.specs.CharsetBytes.{charset_bytes}
use Rattle.charset.specs.FdSelectBytes.{fd_select_bytes}
use Rattle.dict_write.specs.WriteLaws.{room-first, room-then, wrote-both}
use Rattle.cff.specs.Font.{Program}
use Rattle.cff.specs.Reads.{program_of}
use Rattle.cff.specs.declared.font.Font.{Font}
use Rattle.order_window.specs.declared.Order.{Order}
use Rattle.outcome.specs.Walked.{Walked, charstrings-walked, same-charstrings}
use Rattle.subset.specs.Pruned.{Bodies}
use Rattle.subset.specs.Subset.{private_parts, font_dicts, own_by_cid, top_by_cid, cids_of, new_fds}
use Rattle.glyph_tables.specs.Tables.{kept_cids, kept_fds, new_fds_by, Numbered}
use Rattle.renumber.specs.declared.Ranks.{Ranks}
use Rattle.private_dicts.specs.Privates.{font_dicts_by, Placed}
use Rattle.private_dicts.specs.declared.part.Part.{Part}
use Rattle.bodies.specs.Ways.{many_of, Room}
use Rattle.glyph_bodies.specs.Charstrings.{CharstringsIn, charstrings_from}
use Rattle.fds.specs.Locals.{fds_in}
use Rattle.fds.specs.NewLocals.{LocalsIn}
use Rattle.fds.specs.NewParts.{parts_for, PartsRoom}
use Rattle.own_strings.specs.declared.Own.{Own}
use Rattle.own_strings.specs.declared.slots.Slot.{Slot}
use Rattle.top_dict.specs.Top.{Offsets}
use Rattle.front.specs.Front.{front_len as measured, front_bytes, CidFront}
use Rattle.front.specs.ByCidLaws.{cid_front_len, cid_front-sum}
use Rattle.parts.specs.Ready.{Ready, Summed}
use Rattle.parts.specs.declared.Planned.{Planned}
use Rattle.outcome.specs.Layout.{front_len, cid_charset, cid_select, cid_glyphs, cid_dicts, cid_privates, cid_end, cid_top, cid-parts}
use Rattle.parts.specs.CodeLaws.{glyphs-asked, glyphs_are}
use Rattle.parts.specs.PrivateLaws.{privates-asked, privates_are}
use Rattle.cid_parts.specs.Cid.{StringsReady, places_of, written_in, bodies_in, CidReady, DictsReady, cid_bytes, cid_places, head_bytes, glyph_bytes, tail_bytes}
use Rattle.cid_parts.specs.CidPlacesLaws.{held_small, bytes_long}
use Rattle.front.specs.declared.CidPlaces.{CidPlaces}

-- where two parts end below a bound, so does the second behind the first
second_below : (at : ℕ) (xs ys : List ℕ) (most p : ℕ) → at + length (xs ++ ys) ≤ most → p ≡ at + length xs → p + length ys ≤ most
second_below at xs ys most p small e = omega (arith, length-append xs ys)

-- the first parts are within all
within : (f g i s h d a end front some : ℕ) → end ≡ front + g + i + s + h + d + a → f ≡ front → some ≡ f + (g + i) → some ≤ end
within f g i s h d a end front some e₁ e₂ e₃ = omega (arith, e₁, e₂, e₃)

-- places in a subset that is not too long have the five-byte form
low : (f g i s h d a : ℕ) → (places_of f g i s h d a).end ≤ 67108864
    → Offsets (places_of f g i s h d a).charset (places_of f g i s h d a).select (places_of f g i s h d a).glyphs (places_of f g i s h d a).dicts
low f g i s h d a e = record { first = omega (arith, e); second = omega (arith, e); third = omega (arith, e); fourth = omega (arith, e) }

-- six parts in three groups
three : (f g i s h l : List ℕ) → (f ++ (g ++ i)) ++ ((s ++ h) ++ l) ≡ f ++ (g ++ (i ++ (s ++ (h ++ l))))
three f g i s h l =
    append_assoc f (g ++ i) ((s ++ h) ++ l) ∙ ap (λ (x : List ℕ). f ++ x) (append_assoc g i ((s ++ h) ++ l))
    ∙ ap (λ (x : List ℕ). f ++ (g ++ (i ++ x))) (append_assoc s h l)

module _ (b : List ℕ) (rows : List Row) (used ws : List ℕ) (r : Planned) (table : List Ranks) where
  abbrev p : Program
  p = program_of b r.order.f

  abbrev order : List ℕ
  order = written_in b rows used ws r

  abbrev bodies : Bodies
  bodies = bodies_in b rows used ws r

  -- ---- FDSelect and charstrings

  module _ (c : CidReady b rows used ws r table) (o : Order) (walked : Walked o r.order) (at : ℕ) (out : List ℕ)
      (small : at + length (glyph_bytes b rows used ws r) ≤ 67108864) (room : at + length (glyph_bytes b rows used ws r) ≤ length out) where
    abbrev select : List ℕ
    select = fd_select_bytes (new_fds p (fds_in used) order)

    abbrev glyphs : List ℕ
    glyphs = index_bytes bodies.charstrings

    pub select-put : Numbered used (kept_fds b o.f ws) × (at ≤ 67108864) × (at + length (fd_select_bytes (new_fds_by used (kept_fds b o.f ws))) ≤ length out)
    unfolding glyph_bytes
    select-put =
        subst (λ (f : Font). Numbered used (kept_fds b f ws) × (at ≤ 67108864) × (at + length (fd_select_bytes (new_fds_by used (kept_fds b f ws))) ≤ length out)) (sym walked.f)
        (c.numbered, omega (arith, small), subst (λ (l : List ℕ). at + length (fd_select_bytes l) ≤ length out) (sym c.news) (room-first (length out) at select glyphs room))

    module _ {mid : List ℕ} {q : ℕ} (w : Wrote out at (fd_select_bytes (new_fds_by used (kept_fds b o.f ws))) mid q) where
      selected : Wrote out at select mid q
      selected = wrote_as w (ap (λ (f : Font). fd_select_bytes (new_fds_by used (kept_fds b f ws))) walked.f ∙ ap fd_select_bytes c.news)

      -- the window moved meanwhile
      pub glyphs-put : (u : Order) → Walked u r.order → CharstringsIn b ws table u r.how rows × Room (charstrings_from r.how u rows ws table b) r.glyphs_total q (length mid)
      unfolding glyph_bytes
      glyphs-put u moved =
          charstrings-walked b rows ws table u r moved q (length mid)
          (glyphs-asked b rows used ws table r c.ready q (length mid) (second_below at select glyphs 67108864 q small selected.behind)
          (room-then glyphs selected room))

      pub glyphs-wrote : (u : Order) → Walked u r.order → {new : List ℕ} {q' : ℕ}
          → Wrote mid q (index_bytes (many_of (charstrings_from r.how u rows ws table b))) new q' → Wrote out at (glyph_bytes b rows used ws r) new q'
      unfolding glyph_bytes
      glyphs-wrote u moved v =
          wrote-both room selected
          (wrote_as v (ap (λ (l : Option (List (List ℕ))). index_bytes (many_of l)) (same-charstrings b rows ws table u r moved)
          ∙ ap index_bytes (glyphs_are b rows used ws table r c.ready)))

  -- ---- the FD INDEX and the Private parts

  module _ (ready : Ready b rows used ws r table) (totals : List ℕ) (summed : Summed b rows used ws r table totals)
      (fds : List ℕ) (parts : List Part) (from : ℕ) (d : DictsReady b rows used ws r fds parts from) (at : ℕ) (out : List ℕ)
      (small : at + length (tail_bytes b rows used ws r from) ≤ 67108864) (room : at + length (tail_bytes b rows used ws r from) ≤ length out) where
    abbrev dicts : List ℕ
    dicts = index_bytes (font_dicts p from (fds_in used) bodies.locals)

    abbrev privates : List ℕ
    privates = private_parts p (fds_in used) bodies.locals

    pub dicts-put : Placed p fds parts from × (at < 4294967296)
        × (at + length (index_bytes (font_dicts_by p fds parts from)) ≤ length out)
    unfolding tail_bytes
    dicts-put = (
      d.placed,
      omega (arith, small),
      subst (λ (l : List (List ℕ)). at + length (index_bytes l) ≤ length out) (sym d.are) (room-first (length out) at dicts privates room),
    )

    module _ {mid : List ℕ} {q : ℕ} (w : Wrote out at (index_bytes (font_dicts_by p fds parts from)) mid q) where
      listed : Wrote out at dicts mid q
      listed = wrote_as w (ap index_bytes d.are)

      pub privates-put : LocalsIn p used ws table r.how.globals rows r.how.rising
          × PartsRoom r.how.way p rows ws table r.how.globals used totals q (length mid)
      unfolding tail_bytes
      privates-put =
          privates-asked b rows used ws table r ready totals summed q (length mid)
          (second_below at dicts privates 67108864 q small listed.behind) (room-then privates listed room)

      pub privates-wrote : {new : List ℕ} {q' : ℕ}
          → Wrote mid q (parts_for r.how.way p rows ws table r.how.globals (fds_in used)) new q'
          → Wrote out at (tail_bytes b rows used ws r from) new q'
      unfolding tail_bytes
      privates-wrote v =
          wrote-both room listed (wrote_as v (privates_are b rows used ws table r ready totals summed))

  -- ---- front, globals and charset

  module _ (c : CidReady b rows used ws r table) (name : List ℕ) (slots : List Slot) (own : Own) (strings : StringsReady p slots own) (short : length name ≤ 65535)
      (at : CidPlaces) (is : at ≡ cid_places b rows used ws r name) (small : at.end ≤ 67108864) (out : List ℕ) (room : at.end ≤ length out) where
    -- the front by the places, which are the subset's
    abbrev front_at : CidPlaces → List ℕ
    front_at x = front_bytes x.end name (top_by_cid p (own_by_cid p) x.charset x.select x.glyphs x.dicts) (own_by_cid p)

    abbrev front : List ℕ
    front = front_bytes (cid_end p name (fds_in used) order bodies) name (cid_top p name (fds_in used) order bodies) (own_by_cid p)

    abbrev globals : List ℕ
    globals = index_bytes bodies.globals

    abbrev ids : List ℕ
    ids = charset_bytes (cids_of p order)

    front_is : front_at at ≡ front
    unfolding cid_places
    front_is = ap front_at is

    -- how long it is, and that front, globals and charset are within the subset
    front_long : length front ≡ measured true 0 p.top slots (length name) own
    front_long =
        cid_front_len p slots strings.slotted own strings.measured.is (cid_end p name (fds_in used) order bodies) name
        (cid_charset p name (fds_in used) order bodies) (cid_select p name (fds_in used) order bodies) (cid_glyphs p name (fds_in used) order bodies)
        (cid_dicts p name (fds_in used) order bodies)

    head-within : length (front ++ (globals ++ ids)) ≤ at.end
    unfolding cid_places
    head-within =
        let sum = cid_front-sum p slots strings.slotted own strings.measured.is name 0 0 0 0 in
        let select = length (fd_select_bytes (new_fds p (fds_in used) order)) in
        let glyphs = length (index_bytes bodies.charstrings) in
        let dicts = length (index_bytes (font_dicts p 0 (fds_in used) bodies.locals)) in
        let privates = length (private_parts p (fds_in used) bodies.locals) in
        let end : at.end ≡ measured true 0 p.top slots (length name) own + length globals + length ids + select + glyphs + dicts + privates
        = ap (λ (x : CidPlaces). x.end) is
        ∙ ap (λ (m : ℕ). m + length globals + length ids + select + glyphs + dicts + privates) (sym sum) in
        within (length front) (length globals) (length ids) select glyphs dicts privates at.end (measured true 0 p.top slots (length name) own)
        (length (front ++ (globals ++ ids))) end front_long (length-append front (globals ++ ids) ∙ ap (λ (m : ℕ). length front + m) (length-append globals ids))

    head-room : 0 + length (front ++ (globals ++ ids)) ≤ length out
    head-room = omega (arith, head-within, room)

    -- what the front asks
    pub front-put : CidFront b r.order.f slots own (length name) (length out) × Offsets at.charset at.select at.glyphs at.dicts
    unfolding cid_places
    front-put =
        let l = length-append front (globals ++ ids) in (
          record {
            font = held_small b r.order.f c.ready.read;
            ready = strings.slotted;
            is = strings.measured.is;
            fits = record {
              few = strings.few;
              short = short;
              small = omega (arith, l, front_long, head-within, small);
              room = omega (arith, l, front_long, head-within, room);
            };
          },
          subst (λ (x : CidPlaces). x.end ≤ 67108864 → Offsets x.charset x.select x.glyphs x.dicts) (sym is)
              (low (front_len name (top_by_cid p (own_by_cid p) 0 0 0 0) (own_by_cid p)) (length globals) (length ids) (length (fd_select_bytes (new_fds p (fds_in used) order)))
              (length (index_bytes bodies.charstrings)) (length (index_bytes (font_dicts p 0 (fds_in used) bodies.locals)))
              (length (private_parts p (fds_in used) bodies.locals)))
              small,
        )

    module _ {mid : List ℕ} {q : ℕ} (w : Wrote out 0 (front_at at) mid q) where
      fronted : Wrote out 0 front mid q
      fronted = wrote_as w front_is

      rest-room : q + length (globals ++ ids) ≤ length mid
      rest-room = room-then (globals ++ ids) fronted head-room

      -- what the globals ask
      pub globals-put : Ready b rows used ws r table × (q + length globals ≤ 67108864) × (q + length globals ≤ length mid)
      globals-put = (
        c.ready,
        omega (arith, fronted.behind, length-append front (globals ++ ids), length-append globals ids, head-within, small),
        room-first (length mid) q globals ids rest-room,
      )

      module _ {mid2 : List ℕ} {q2 : ℕ} (v : Wrote mid q globals mid2 q2) where
        -- what the charset asks
        pub charset-put : (o : Order) → Walked o r.order → q2 + length (charset_bytes (kept_cids b o.f ws)) ≤ length mid2
        charset-put o walked =
            subst (λ (f : Font). q2 + length (charset_bytes (kept_cids b f ws)) ≤ length mid2) (sym walked.f) (room-then ids v rest-room)

        pub head-wrote : (o : Order) → Walked o r.order → {new : List ℕ} {q3 : ℕ}
            → Wrote mid2 q2 (charset_bytes (kept_cids b o.f ws)) new q3 → Wrote out 0 (head_bytes b rows used ws r name) new q3
        unfolding head_bytes
        head-wrote o walked u =
            wrote-both head-room fronted
            (wrote-both rest-room v (wrote_as u (ap (λ (f : Font). charset_bytes (kept_cids b f ws)) walked.f)))

  -- ---- all

  module _ (c : CidReady b rows used ws r table) (totals : List ℕ) (summed : Summed b rows used ws r table totals) (name : List ℕ)
      (at : CidPlaces) (is : at ≡ cid_places b rows used ws r name) (small : at.end ≤ 67108864) (out : List ℕ) (room : at.end ≤ length out) where
    abbrev head : List ℕ
    head = head_bytes b rows used ws r name

    abbrev middle : List ℕ
    middle = glyph_bytes b rows used ws r

    abbrev tail : List ℕ
    tail = tail_bytes b rows used ws r at.privates

    -- the three groups are the subset
    groups : head ++ (middle ++ tail) ≡ cid_bytes b rows used ws r name
    unfolding cid_bytes cid_places head_bytes glyph_bytes tail_bytes
    groups =
        let from = cid_privates p name (fds_in used) order bodies in
        let front = front_bytes (cid_end p name (fds_in used) order bodies) name (cid_top p name (fds_in used) order bodies) (own_by_cid p) in
        let last = index_bytes (font_dicts p from (fds_in used) bodies.locals) ++ private_parts p (fds_in used) bodies.locals in
        ap (λ (x : CidPlaces). head ++ (middle ++ tail_bytes b rows used ws r x.privates)) is
        ∙ three front (index_bytes bodies.globals) (charset_bytes (cids_of p order)) (fd_select_bytes (new_fds p (fds_in used) order)) (index_bytes bodies.charstrings) last
        ∙ sym (cid-parts p name (fds_in used) order bodies)

    whole : length (head ++ (middle ++ tail)) ≡ at.end
    whole = ap length groups ∙ bytes_long b rows used ws r table c totals summed name ∙ ap (λ (x : CidPlaces). x.end) (sym is)

    all_room : 0 + length (head ++ (middle ++ tail)) ≤ length out
    all_room = omega (arith, whole, room)

    module _ {mid : List ℕ} {q : ℕ} (w : Wrote out 0 head mid q) where
      left-room : q + length (middle ++ tail) ≤ length mid
      left-room = room-then (middle ++ tail) w all_room

      left-small : q + length (middle ++ tail) ≤ 67108864
      left-small = second_below 0 head (middle ++ tail) 67108864 q (omega (arith, whole, small)) w.behind

      pub middle-put : CidReady b rows used ws r table × (q + length middle ≤ 67108864) × (q + length middle ≤ length mid)
      middle-put = (c, omega (arith, left-small, length-append middle tail), room-first (length mid) q middle tail left-room)

      -- what is behind the head as one
      pub all-left : {new : List ℕ} {q3 : ℕ} → Wrote mid q (middle ++ tail) new q3 → Wrote out 0 (cid_bytes b rows used ws r name) new q3
      all-left u = wrote_as (wrote-both all_room w u) groups

      module _ {mid2 : List ℕ} {q2 : ℕ} (v : Wrote mid q middle mid2 q2) where
        pub tail-small : q2 + length tail ≤ 67108864
        tail-small = second_below q middle tail 67108864 q2 left-small v.behind

        pub tail-room : q2 + length tail ≤ length mid2
        tail-room = room-then tail v left-room

        pub all-wrote : {new : List ℕ} {q3 : ℕ} → Wrote mid2 q2 tail new q3 → Wrote out 0 (cid_bytes b rows used ws r name) new q3
        all-wrote u = wrote_as (wrote-both all_room w (wrote-both left-room v u)) groups
