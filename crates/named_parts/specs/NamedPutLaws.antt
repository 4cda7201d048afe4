-- Laws of the parts of a name-keyed subset: where they stand, what their writers ask, and that part behind part the subset is written.
use Rattle.std.specs.Prelude.{ℕ, ◌+◌, ◌*◌, ◌-◌, ◌≤◌, ◌<◌, ◌≡◌, false, List, [], ◌∷◌, ◌++◌, length, take, drop, get_or, Option}
use Rattle.std.proofs.Common.{sym, ap, ◌∙◌, subst, append_assoc, append-nil, arith, length-append, get_or-take}
use Rattle.octets.specs.Octets.{Wrote}
use Rattle.octets.specs.PutLaws.{wrote_as}
use Rattle.index.specs.Write.{index_bytes, index_len_lem}
use Rattle.charset.specs.CharsetBytes.{charset_bytes}
use Rattle.charset.specs.CharsetBytesLaws.{charset-length}
use Rattle.unfold.specs.Unfold.{Row}
use Rattle.cff.specs.Font.{Program}
use Rattle.cff.specs.Reads.{GoodFont, program_of}
use Rattle.cff.specs.declared.font.Font.{Font}
use Rattle.subset.specs.Kept.{private_of}
use Rattle.subset.specs.Texts.{names_of}
use Rattle.subset.specs.Pruned.{Bodies, mapped}
use Rattle.subset.specs.Codes.{Coded, coded_bytes, coded_at}
use Rattle.subset.specs.Subset.{private_dict, private_part, private_parts, own_by_name, top_by_name, new_ids, one_local_lem, subset_by_name}
use Rattle.subset.proofs.TextsLaws.{names-length, ids-length}
use Rattle.order_window.specs.declared.Order.{Order}
use Rattle.order_window.specs.declared.window.Kept.{Kept}
use Rattle.order_window.specs.Window.{glyphs_of}
use Rattle.faithful.specs.ByName.{coded-within, dict-within}
use Rattle.renumber.specs.declared.Ranks.{Ranks}
use Rattle.private_dicts.specs.Privates.{no_part, parts_of}
use Rattle.private_dicts.specs.declared.part.Part.{Part}
use Rattle.own_strings.specs.declared.Own.{Own}
use Rattle.own_strings.specs.declared.slots.Slot.{Slot}
use Rattle.own_strings.specs.Ready.{SlotsGiven}
use Rattle.name_strings.specs.Names.{NamesApart, new_names, names_for, NamesReady}
use Rattle.name_strings.specs.NamesLaws.{order-ids}
use Rattle.top_dict.specs.Top.{Offsets}
use Rattle.top_dict.specs.Writing.{split-append, split-room, Writing, writing_start, writing-room, writing-turn, writing-left, writing-last}
use Rattle.bodies.specs.Ways.{many_of, Room, kept_count}
use Rattle.bodies.specs.Pruning.{bodies_by}
use Rattle.glyph_bodies.specs.Charstrings.{CharstringsIn, charstrings_from}
use Rattle.fds.specs.Locals.{fds_in}
use Rattle.fds.specs.NewLocals.{LocalsIn}
use Rattle.fds.specs.Parts.{SizesParts}
use Rattle.fds.specs.NewParts.{parts_for, PartsRoom}
use Rattle.front.specs.Front.{SmallFont, SlotsReady, front_bytes, NamedFront, front_len as measuredLen}
use Rattle.front.specs.PrepareLaws.{has-strings}
use Rattle.front.specs.ByNameLaws.{named-front-sum, named-front_len}
use Rattle.parts.specs.Ready.{bodies_for, Ready}
use Rattle.parts.specs.declared.Planned.{Planned}
use Rattle.parts.specs.CodeLaws.{globals_long, glyphs_long, glyphs-asked, glyphs_are}
use Rattle.parts.specs.PrivateLaws.{all-parts, parts_held, privates-asked, privates_are}
use Rattle.outcome.specs.Walked.{Walked, charstrings-walked, same-charstrings}
use Rattle.outcome.specs.Layout.{front_len, named_charset, named_codes, named_charstrings, named_private, named_end, named_top, named-parts, named-length}
use Rattle.named_parts.specs.Named.{named_tables, named_glyphs, NamedPlan, NamedStrings, NamedCodes, PlacedNamed}
use Rattle.front.specs.declared.NamedPlaces.{NamedPlaces}
use Rattle.encoding.specs.Encoded.{pairs_of, coded_in, Encodes, encoding_len, offset_for, CanRename}
use Rattle.encoding.specs.EncodedLaws.{encodes-length, encodes-offset}
use Rattle.encoding.specs.declared.Encoding.{Encoding}
use Rattle.subset.specs.declared.Way.{Way}

-- slots that are ready, and names that differ, are what new ids ask
pub can_rename : (b : List ℕ) (f : Font) (ws : List ℕ) (slots : List Slot) → SmallFont b f → SlotsReady (program_of b f) false slots → NamesApart b f ws → CanRename b f ws slots
can_rename b f ws slots small ready apart = record { has = has-strings b f small; front = ready.front; given = ready.given; apart = apart }

-- charset and encoding, one behind the other, of the font that is walked
module _ (k : Kept) (e : Encoding) (codes : List (Option ℕ)) (slots : List Slot) (f : Font) (walked : k.o.f ≡ f) (ready : SlotsReady (program_of k.font.now f) false slots)
    (coding : NamedCodes e codes) (small : length k.font.now ≤ 67108864) (apart : NamesApart k.font.now f k.words.now) (out : List ℕ) (at : ℕ)
    (room : at + length (named_tables (program_of k.font.now f) (glyphs_of k.font.now f k.words.now) (coded_in e codes)) ≤ length out) where
  abbrev charset_part : List ℕ
  charset_part = charset_bytes (new_ids (own_by_name (program_of k.font.now f) (glyphs_of k.font.now f k.words.now)) (names_of (program_of k.font.now f) (glyphs_of k.font.now f k.words.now)))

  abbrev coded_part : List ℕ
  coded_part = coded_bytes (coded_in e codes)

  good : GoodFont k.font.now f
  good = subst (GoodFont k.font.now) walked k.gathered.good

  ids_are : charset_bytes (names_for k slots) ≡ charset_part
  ids_are =
      ap (λ (g : Font). charset_bytes (new_names k.font.now g k.words.now slots)) walked
      ∙ ap charset_bytes (order-ids k.font.now f k.words.now good.glyphs.held.few slots ready.front)

  pub charset-asked : NamesReady k slots × (at + length (charset_bytes (names_for k slots)) ≤ length out)
  charset-asked = (
    record {
      small = small;
      given = subst (λ (g : Font). SlotsGiven (program_of k.font.now g).strings slots) (sym walked) ready.given;
      apart = subst (λ (g : Font). NamesApart k.font.now g k.words.now) (sym walked) apart;
    },
    omega (arith, ap length ids_are, split-room at (length out) room (split-append charset_part coded_part)),
  )

  module _ {mid : List ℕ} {q : ℕ} (w : Wrote out at (charset_bytes (names_for k slots)) mid q) where
    charset-put : Writing (charset_part ++ coded_part) out at coded_part mid q
    charset-put = writing-turn room (split-append charset_part coded_part) (writing_start (charset_part ++ coded_part) out at) (wrote_as w ids_are)

    coded-room : q + length coded_part ≤ length mid
    coded-room = writing-left room charset-put

    -- what writing the encoding asks
    pub codes-asked : Encodes (coded_in e codes) codes e × (pairs_of e ≤ 255) × (q + length coded_part ≤ length mid)
    codes-asked = (coding.is, coding.few, coded-room)

    pub tables_wrote : {new : List ℕ} {q2 : ℕ} → Wrote mid q coded_part new q2
        → Wrote out at (named_tables (program_of k.font.now f) (glyphs_of k.font.now f k.words.now) (coded_in e codes)) new q2
    tables_wrote v = writing-last room charset-put v

-- ---- one FD alone

only_part : (p : Program) (h : ℕ → List (List ℕ)) (fs : List ℕ) → fs ≡ 0 ∷ [] → private_parts p fs (mapped h fs) ≡ private_part (private_of p 0) (get_or (mapped h fs) 0 [])
unfolding private_parts mapped
only_part p h fs e =
    subst (λ (l : List ℕ). private_parts p l (mapped h l) ≡ private_part (private_of p 0) (get_or (mapped h l) 0 [])) (sym e)
    (append-nil (private_part (private_of p 0) (h 0)))

only-size : (p : Program) (h : ℕ → List (List ℕ)) (fs : List ℕ) (parts : List Part) → fs ≡ 0 ∷ [] → take (length fs) parts ≡ parts_of p fs (mapped h fs)
    → (get_or parts 0 no_part).size ≡ length (private_dict (private_of p 0) (get_or (mapped h fs) 0 []))
unfolding parts_of mapped
only-size p h fs parts e t =
    let u : take 1 parts ≡ parts_of p (0 ∷ []) (mapped h (0 ∷ [])) = subst (λ (l : List ℕ). take (length l) parts ≡ parts_of p l (mapped h l)) e t in
    let o : 0 < 1 = omega arith in
    ap (λ (q : Part). q.size) (sym (get_or-take 1 parts 0 no_part o)) ∙ ap (λ (qs : List Part). (get_or qs 0 no_part).size) u
    ∙ ap (λ (l : List ℕ). length (private_dict (private_of p 0) (get_or (mapped h l) 0 []))) (sym e)

bodies-part : (p : Program) (rows : List Row) (way : Way) (fs order : List ℕ) → fs ≡ 0 ∷ []
    → private_parts p fs (bodies_by p rows way fs order).locals ≡ private_part (private_of p 0) (one_local_lem (bodies_by p rows way fs order))
unfolding bodies_by
bodies-part p rows way fs order e = only_part p _ fs e

bodies-size : (p : Program) (rows : List Row) (way : Way) (fs order : List ℕ) (parts : List Part) → fs ≡ 0 ∷ []
    → take (length fs) parts ≡ parts_of p fs (bodies_by p rows way fs order).locals
    → (get_or parts 0 no_part).size ≡ length (private_dict (private_of p 0) (one_local_lem (bodies_by p rows way fs order)))
unfolding bodies_by
bodies-size p rows way fs order parts e t = only-size p _ fs parts e t

module _ (b : List ℕ) (rows : List Row) (used ws : List ℕ) (r : Planned) (table : List Ranks) (totals : List ℕ)
    (g : NamedPlan b rows used ws r table totals) where
  abbrev p : Program
  p = program_of b r.order.f

  abbrev k : ℕ
  k = r.order.count

  abbrev order : List ℕ
  order = glyphs_of b r.order.f ws

  abbrev bodies : Bodies
  bodies = bodies_for b rows used ws r

  abbrev ids : List ℕ
  ids = charset_bytes (new_ids (own_by_name p order) (names_of p order))

  abbrev glyphs : List ℕ
  glyphs = index_bytes bodies.charstrings

  abbrev private : List ℕ
  private = private_part (private_of p 0) (one_local_lem bodies)

  private_is : private_parts p (fds_in used) bodies.locals ≡ private
  private_is = bodies-part p rows r.how.way (fds_in used) order g.only

  -- ---- charstrings and Private written

  module _ (o : Order) (walked : Walked o r.order) (out : List ℕ) (at : ℕ) (small : at + length (named_glyphs p bodies) ≤ 67108864)
      (room : at + length (named_glyphs p bodies) ≤ length out) where
    sums : length (named_glyphs p bodies) ≡ length glyphs + length private
    sums = length-append glyphs private

    pub charstrings-asked : CharstringsIn b ws table o r.how rows × Room (charstrings_from r.how o rows ws table b) r.glyphs_total at (length out)
    charstrings-asked =
        charstrings-walked b rows ws table o r walked at (length out)
        (glyphs-asked b rows used ws table r g.ready at (length out) (omega (arith, sums)) (split-room at (length out) room (split-append glyphs private)))

    module _ {mid : List ℕ} {q : ℕ} (v : Wrote out at (index_bytes (many_of (charstrings_from r.how o rows ws table b))) mid q) where
      glyphs-put : Wrote out at glyphs mid q
      glyphs-put = wrote_as v (ap (λ (l : Option (List (List ℕ))). index_bytes (many_of l)) (same-charstrings b rows ws table o r walked) ∙ ap index_bytes (glyphs_are b rows used ws table r g.ready))

      charstrings-put : Writing (named_glyphs p bodies) out at private mid q
      charstrings-put = writing-turn room (split-append glyphs private) (writing_start (named_glyphs p bodies) out at) glyphs-put

      private_len : length (private_parts p (fds_in used) bodies.locals) ≡ length private
      private_len = ap length private_is

      pub parts-asked : LocalsIn p used ws table r.how.globals rows r.how.rising
          × PartsRoom r.how.way p rows ws table r.how.globals used totals q (length mid)
      parts-asked =
          let left : q + length private ≤ length mid = writing-left room charstrings-put in
          privates-asked b rows used ws table r g.ready totals g.summed q (length mid)
          (omega (arith, sums, glyphs-put.behind, private_len)) (omega (arith, left, private_len))

      pub glyphs-wrote : {new : List ℕ} {q3 : ℕ} → Wrote mid q (parts_for r.how.way p rows ws table r.how.globals (fds_in used)) new q3
          → Wrote out at (named_glyphs p bodies) new q3
      glyphs-wrote u =
          writing-last room charstrings-put (wrote_as u (privates_are b rows used ws table r g.ready totals g.summed ∙ private_is))

  -- ---- measured

  module _ (name : List ℕ) (slots : List Slot) (own : Own) (t : NamedStrings p order slots own (length name)) (e : Encoding) (held : List (Option ℕ)) (coding : NamedCodes e held) where
    abbrev strings : List (List ℕ)
    strings = own_by_name p order

    abbrev coded : Coded
    coded = coded_in e held

    abbrev codes : List ℕ
    codes = coded_bytes coded

    measured_is : measuredLen false (coded_at coded 1) p.top slots (length name) own ≡ front_len name (top_by_name p strings 0 (coded_at coded 1) 0 0 0) strings
    measured_is = named-front-sum b r.order.f ws g.ready.read.font slots t.ready own t.measured.is name 0 (coded_at coded 1) 0 0 0

    ids_long : length ids ≡ 1 + 2 * (k - 1)
    ids_long =
        let m : length (new_ids strings (names_of p order)) ≡ k = ids-length strings (names_of p order) ∙ names-length p order ∙ sym g.ready.many in
        charset-length (new_ids strings (names_of p order)) ∙ ap (λ (m : ℕ). 1 + 2 * (m - 1)) m

    module _ (v front globals len at₂ many : ℕ) (v-is : v ≡ offset_for e 1) (front_is : front ≡ measuredLen false v p.top slots (length name) own)
        (globals-is : globals ≡ index_len_lem (kept_count r.how.way r.how.globals.reached r.how.globals.count) r.globals_total)
        (len_is : len ≡ encoding_len e) (at-is : at₂ ≡ offset_for e (front + globals + (1 + 2 * (k - 1))))
        (many_is : many ≡ index_len_lem r.order.count r.glyphs_total)
        {old parts : List Part} {all : ℕ} (s : SizesParts p r.how.way table totals used old parts all) where
      pub places_are : (at : NamedPlaces)
          → at ≡ record {
            charset = front + globals;
            encoding = at₂;
            charstrings = front + globals + (1 + 2 * (k - 1)) + len;
            size = (get_or parts 0 no_part).size;
            private = front + globals + (1 + 2 * (k - 1)) + len + many;
            end = front + globals + (1 + 2 * (k - 1)) + len + many + all;
          }
          → PlacedNamed p coded name order bodies at
      places_are at i =
          let v₁ : v ≡ coded_at coded 1 = v-is ∙ sym (encodes-offset coded held e coding.is 1) in
          let m : front ≡ front_len name (top_by_name p strings 0 (coded_at coded 1) 0 0 0) strings
          = front_is ∙ ap (λ (x : ℕ). measuredLen false x p.top slots (length name) own) v₁ ∙ measured_is in
          let c : front + globals ≡ named_charset p coded name order bodies
          = omega (arith, m, globals-is, globals_long b rows used ws table r g.ready) in
          let x : front + globals + (1 + 2 * (k - 1)) ≡ named_codes p coded name order bodies = omega (arith, c, ids_long) in
          let d : front + globals + (1 + 2 * (k - 1)) + len ≡ named_charstrings p coded name order bodies
          = omega (arith, x, len_is, encodes-length coded held e coding.is) in
          let q : front + globals + (1 + 2 * (k - 1)) + len + many ≡ named_private p coded name order bodies
          = omega (arith, d, many_is, glyphs_long b rows used ws table r g.ready) in
          let o = all-parts b rows used ws table r g.ready totals g.summed s in
          let z : front + globals + (1 + 2 * (k - 1)) + len + many + all ≡ named_end p coded name order bodies = omega (arith, q, o, ap length private_is) in
          subst (λ (a : NamedPlaces). PlacedNamed p coded name order bodies a) (sym i)
          (record {
            charset = c;
            encoding = at-is ∙ sym (encodes-offset coded held e coding.is _) ∙ ap (coded_at coded) x;
            charstrings = d;
            size =
                bodies-size p rows r.how.way (fds_in used) order parts g.only
                (parts_held b rows used ws table r g.ready totals g.summed s);
            private = q;
            end = z;
          })

    -- ---- all written

    module _ (at : NamedPlaces) (placed : PlacedNamed p coded name order bodies at) (out : List ℕ) (small : at.end ≤ 67108864) (room : at.end ≤ length out)
        (o : Order) (walked : Walked o r.order) where
      abbrev globals : List ℕ
      globals = index_bytes bodies.globals

      abbrev tables : List ℕ
      tables = named_tables p order coded

      abbrev rest : List ℕ
      rest = named_glyphs p bodies

      abbrev top_at : ℕ → ℕ → ℕ → ℕ → ℕ → List ℕ
      top_at = top_by_name p strings

      abbrev front : List ℕ
      front = front_bytes at.end name (top_at at.charset at.encoding at.charstrings at.size at.private) strings

      abbrev whole : List ℕ
      whole = front ++ (globals ++ (tables ++ rest))

      -- charset, encoding and what follows, as the subset has them
      tables_are : tables ++ rest ≡ ids ++ (codes ++ rest)
      tables_are = append_assoc ids codes rest

      front_is : front ≡ front_bytes (named_end p coded name order bodies) name (named_top p coded name order bodies) strings
      front_is =
          ap (λ (m : ℕ). front_bytes m name (top_at at.charset at.encoding at.charstrings at.size at.private) strings) placed.end
          ∙ ap (λ (m : ℕ). front_bytes end name (top_at m at.encoding at.charstrings at.size at.private) strings) placed.charset
          ∙ ap (λ (m : ℕ). front_bytes end name (top_at at₁ m at.charstrings at.size at.private) strings) placed.encoding
          ∙ ap (λ (m : ℕ). front_bytes end name (top_at at₁ v m at.size at.private) strings) placed.charstrings
          ∙ ap (λ (m : ℕ). front_bytes end name (top_at at₁ v at₂ m at.private) strings) placed.size
          ∙ ap (λ (m : ℕ). front_bytes end name (top_at at₁ v at₂ (length (private_dict (private_of p 0) (one_local_lem bodies))) m) strings) placed.private
        where
          end : ℕ
          end = named_end p coded name order bodies

          at₁ : ℕ
          at₁ = named_charset p coded name order bodies

          v : ℕ
          v = coded_at coded (named_codes p coded name order bodies)

          at₂ : ℕ
          at₂ = named_charstrings p coded name order bodies

      whole_is : whole ≡ subset_by_name p coded name order bodies
      whole_is =
          ap (λ (l : List ℕ). front ++ (globals ++ l)) tables_are ∙ ap (λ (l : List ℕ). l ++ (globals ++ (ids ++ (codes ++ rest)))) front_is
          ∙ sym (named-parts p coded name order bodies)

      long : length whole ≡ at.end
      long = ap length whole_is ∙ named-length p coded name order bodies ∙ sym placed.end

      halves : length whole ≡ length front + (length globals + (length tables + length rest))
      halves =
          length-append front (globals ++ (tables ++ rest))
          ∙ ap (λ (m : ℕ). length front + m) (length-append globals (tables ++ rest) ∙ ap (λ (m : ℕ). length globals + m) (length-append tables rest))

      front_long : length front ≡ measuredLen false at.encoding p.top slots (length name) own
      front_long =
          named-front_len b r.order.f ws g.ready.read.font slots t.ready own t.measured.is at.end name at.charset at.encoding at.charstrings at.size at.private

      whole_room : 0 + length whole ≤ length out
      whole_room = omega (arith, long)

      encoding-low : at.encoding ≤ at.end
      encoding-low =
          omega (arith, placed.encoding, coded-within coded (named_codes p coded name order bodies) at.end (omega (arith, placed.end)) (omega (arith, placed.end)))

      -- the front by the font that is walked
      abbrev front_of : Font → List ℕ
      front_of f =
          front_bytes at.end name (top_by_name (program_of b f) (own_by_name (program_of b f) (glyphs_of b f ws)) at.charset at.encoding at.charstrings at.size at.private)
          (own_by_name (program_of b f) (glyphs_of b f ws))

      pub front-asked : NamedFront b o.f at.encoding slots own ws (length name) (length out) × Offsets at.charset at.charstrings at.size at.private
          × (at.encoding < 2147483648)
      front-asked =
          let d = dict-within (private_of p 0) (one_local_lem bodies) in (
            subst (λ (f : Font). NamedFront b f at.encoding slots own ws (length name) (length out)) (sym walked.f)
                (record {
                  font = record { good = g.ready.read.font; small = g.ready.read.size };
                  ready = t.ready;
                  apart = g.apart;
                  is = t.measured.is;
                  fits =
                      record {
                        few = t.few;
                        short = t.short;
                        small = omega (arith, long, halves, front_long);
                        room = omega (arith, long, halves, front_long);
                      };
                }),
            record {
              first = omega (arith, placed.charset, placed.charstrings, placed.private, placed.end);
              second = omega (arith, placed.charset, placed.charstrings, placed.private, placed.end);
              third = omega (arith, placed.charset, placed.charstrings, placed.private, placed.end, placed.size, d);
              fourth = omega (arith, placed.charset, placed.charstrings, placed.private, placed.end);
            },
            omega (arith, encoding-low),
          )

      module _ {mid : List ℕ} {q : ℕ} (v₀ : Wrote out 0 (front_of o.f) mid q) where
        w : Wrote out 0 front mid q
        w = wrote_as v₀ (ap front_of walked.f)

        front-put : Writing whole out 0 (globals ++ (tables ++ rest)) mid q
        front-put = writing-turn whole_room (split-append front (globals ++ (tables ++ rest))) (writing_start whole out 0) w

        pub globals_there : Ready b rows used ws r table × (q + length globals ≤ 67108864) × (q + length globals ≤ length mid)
        globals_there = (
          g.ready,
          omega (arith, long, halves, w.behind),
          writing-room whole_room (split-append globals (tables ++ rest)) front-put,
        )

        module _ {mid2 : List ℕ} {q2 : ℕ} (v : Wrote mid q globals mid2 q2) where
          globals-put : Writing whole out 0 (tables ++ rest) mid2 q2
          globals-put = writing-turn whole_room (split-append globals (tables ++ rest)) front-put v

          pub tables_there : q2 + length tables ≤ length mid2
          tables_there = writing-room whole_room (split-append tables rest) globals-put

          module _ {mid3 : List ℕ} {q3 : ℕ} (x : Wrote mid2 q2 tables mid3 q3) where
            tables-put : Writing whole out 0 rest mid3 q3
            tables-put = writing-turn whole_room (split-append tables rest) globals-put x

            pub glyphs_there : (q3 + length rest ≤ 67108864) × (q3 + length rest ≤ length mid3)
            glyphs_there = (omega (arith, long, halves, w.behind, v.behind, x.behind), writing-left whole_room tables-put)

            pub named-wrote : {new : List ℕ} {q4 : ℕ} → Wrote mid3 q3 rest new q4 → Wrote out 0 (subset_by_name p coded name order bodies) new q4
            named-wrote u = wrote_as (writing-last whole_room tables-put u) whole_is
