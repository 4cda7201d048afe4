-- The parts of a CID-keyed subset measured (document 01, 'Layout'): what their measures ask, that the places are the subset's, and the outcome
-- by its length.
use Rattle.std.specs.Prelude.{ℕ, suc, ◌+◌, ◌*◌, ◌≤◌, ◌<◌, ◌≡◌, refl, Bool, true, false, ltb, replicate, Result, Err, None}
use Rattle.std.proofs.Math.Path.{sym, ap, subst}
use Rattle.std.proofs.Common.{◌∙◌, arith, lt-ltb, le-ltb}
use mathlib.Core.List.{List, [], ◌∷◌}
use Rattle.std.proofs.Math.ListN.{length, length-append}
use Rattle.std.proofs.lemmas.List.{length-replicate}
use Rattle.octets.specs.Pick.{pick}
use Rattle.octets.specs.Octets.{Wrote}
use Rattle.index.specs.Write.{total, index_bytes, index_len_lem}
use Rattle.unfold.specs.Unfold.{Row}
use Rattle.charset.specs.CharsetBytes.{charset_bytes, charset_len}
use Rattle.charset.specs.CharsetBytesLaws.{charset-length}
use Rattle.charset.specs.FdSelectBytes.{fd_select_bytes}
use Rattle.charset.specs.FdSelectBytesLaws.{select-length, changes-few}
use Rattle.dict.specs.Lookup.{cid_keyed}
use Rattle.cff.specs.Font.{Program}
use Rattle.cff.specs.Reads.{program_of}
use Rattle.cff.specs.declared.font.Font.{Font}
use Rattle.subset.specs.Kept.{fds_of, used_fds}
use Rattle.subset.specs.KeptListLaws.{those-count}
use Rattle.subset.specs.EachLaws.{length-mapped}
use Rattle.subset.specs.Pruned.{Pruned}
use Rattle.subset.specs.Subset.{private_parts, font_dicts, own_by_name, own_by_cid, cids_of, subset_by_cid, subset_by_name, subset_bytes}
use Rattle.subset.specs.Codes.{none}
use Rattle.subset.specs.Cut.{Outcome, refused, subset, own_of, written}
use Rattle.order_window.specs.declared.Order.{Order}
use Rattle.outcome.specs.Walked.{Walked}
use Rattle.glyph_tables.specs.Tables.{kept_fds, new_fd_by, new_fds_by}
use Rattle.fds.specs.Locals.{in_use_lem, fds_in}
use Rattle.fds.specs.Parts.{SizesParts}
use Rattle.renumber.specs.declared.Ranks.{Ranks}
use Rattle.private_dicts.specs.Privates.{matrices_by}
use Rattle.private_dicts.specs.declared.part.Part.{Part}
use Rattle.bodies.specs.Ways.{kept_count}
use Rattle.own_strings.specs.declared.Own.{Own}
use Rattle.own_strings.specs.declared.slots.Slot.{Slot}
use Rattle.front.specs.Front.{SmallFont, SlotsReady, Measured, front_len}
use Rattle.front.specs.ByCidLaws.{cid_front-sum}
use Rattle.front.specs.PrepareLaws.{has-strings, cid_own, slots-bound}
use Rattle.faithful.specs.FontHeld.{FontHeld}
use Rattle.parts.specs.Ready.{Summed}
use Rattle.parts.specs.declared.Planned.{Planned}
use Rattle.outcome.specs.Entry.{Cut, a_cut}
use Rattle.outcome.specs.Layout.{cid_privates, cid_length}
use Rattle.parts.specs.CodeLaws.{globals_long, glyphs_long}
use Rattle.parts.specs.PrivateLaws.{all-parts, dicts-placed, dicts_are, dicts-length}
use Rattle.cid_parts.specs.Cid.{sized, StringsReady, places_of, places_by, PartsSmall, written_in, bodies_in, CidReady, DictsReady, PrivatesEnd, cid_bytes, cid_places, tail_bytes}
use Rattle.front.specs.declared.CidPlaces.{CidPlaces}
use Rattle.outcome.specs.declared.Subsetted.{Subsetted}
use Rattle.refusal.specs.declared.Refusal.{Refusal}
use Rattle.refusal.specs.declared.Refusal.TheVariants.{Subset, Output, StringId}
use Rattle.subset.specs.declared.Way.{Way}

-- ---- glyphs

cids_many : (p : Program) (gs : List ℕ) → length (cids_of p gs) ≡ length gs
unfolding cids_of
cids_many p [] = refl
cids_many p (g ∷ gs) = ap suc (cids_many p gs)

fds_many : (p : Program) (gs : List ℕ) → length (fds_of p gs) ≡ length gs
unfolding fds_of
fds_many p [] = refl
fds_many p (g ∷ gs) = ap suc (fds_many p gs)

-- ---- places

-- equal lengths give equal places
places_same : (f g c s h d a f' g' c' s' h' d' a' : ℕ) → f ≡ f' → g ≡ g' → c ≡ c' → s ≡ s' → h ≡ h' → d ≡ d' → a ≡ a'
    → places_of f g c s h d a ≡ places_of f' g' c' s' h' d' a'
places_same f g c s h d a f' g' c' s' h' d' a' e₁ e₂ e₃ e₄ e₅ e₆ e₇ =
    ap (λ (x : ℕ). places_of x g c s h d a) e₁ ∙ ap (λ (x : ℕ). places_of f' x c s h d a) e₂ ∙ ap (λ (x : ℕ). places_of f' g' x s h d a) e₃
    ∙ ap (λ (x : ℕ). places_of f' g' c' x h d a) e₄ ∙ ap (λ (x : ℕ). places_of f' g' c' s' x d a) e₅ ∙ ap (λ (x : ℕ). places_of f' g' c' s' h' x a) e₆
    ∙ ap (λ (x : ℕ). places_of f' g' c' s' h' d' x) e₇

-- the Private parts end the subset
ends_at : (b : List ℕ) (rows : List Row) (used ws : List ℕ) (r : Planned) (name : List ℕ) (at : CidPlaces) → at ≡ cid_places b rows used ws r name
    → at.end ≡ at.privates + length (private_parts (program_of b r.order.f) (fds_in used) (bodies_in b rows used ws r).locals)
unfolding cid_places
ends_at b rows used ws r name at e =
    ap (λ (x : CidPlaces). x.end) e
    ∙ ap (λ (x : CidPlaces). x.privates + length (private_parts (program_of b r.order.f) (fds_in used) (bodies_in b rows used ws r).locals)) (sym e)

pub privates_end : (b : List ℕ) (rows : List Row) (used ws : List ℕ) (r : Planned) (name : List ℕ) (at : CidPlaces) → at ≡ cid_places b rows used ws r name
    → at.end ≤ 67108864 → PrivatesEnd b rows used ws r at.privates
privates_end b rows used ws r name at e small = subst (λ (m : ℕ). m ≤ 67108864) (ends_at b rows used ws r name at e) small

-- ---- strings

-- a font that was read is a small one
pub held_small : (b : List ℕ) (f : Font) → FontHeld b f → SmallFont b f
held_small b f h = record { good = h.font; small = h.size }

-- the own strings of a CID-keyed subset are at most those of the eight slots
pub strings_ready : (b : List ℕ) (f : Font) → FontHeld b f → (slots : List Slot) (own : Own) → Measured (own_by_cid (program_of b f)) own
    → SlotsReady (program_of b f) true slots → StringsReady (program_of b f) slots own
strings_ready b f held slots own m s =
    let e = (slots-bound b f.strings (has-strings b f (held_small b f held)) slots s.given.eight).0 in
    record {
      slotted = s;
      measured = m;
      few = omega (arith, e, ap length (cid_own (program_of b f) slots s), ap (λ (o : Own). o.count) m.is);
    }

pub own-few : (p : Program) (slots : List Slot) (own : Own) → StringsReady p slots own → length (own_by_cid p) ≤ 64609
own-few p slots own s = omega (arith, s.few, ap (λ (o : Own). o.count) s.measured.is)

-- a new table has a word for each FD
pub table-room : (table : List ℕ) → table ≡ replicate 256 0 → 256 ≤ length table
table-room table e = omega (arith, ap length e, length-replicate {A = ℕ} 256 0)

-- the FDSelect is as long, by the font that is walked
pub select-walked : (b ws used : List ℕ) (o planned : Order) → Walked o planned
    → length (fd_select_bytes (new_fds_by used (kept_fds b o.f ws))) ≡ length (fd_select_bytes (new_fds_by used (kept_fds b planned.f ws)))
select-walked b ws used o planned walked = ap (λ (f : Font). length (fd_select_bytes (new_fds_by used (kept_fds b f ws)))) walked.f

module _ (b : List ℕ) (rows : List Row) (used ws : List ℕ) (r : Planned) (table : List Ranks)
    (c : CidReady b rows used ws r table) where
  abbrev p : Program
  p = program_of b r.order.f

  abbrev k : ℕ
  k = r.order.count

  abbrev order : List ℕ
  order = written_in b rows used ws r

  cids_long : length (charset_bytes (cids_of p order)) ≡ charset_len k
  cids_long = charset-length (cids_of p order) ∙ ap charset_len (cids_many p order ∙ sym c.ready.many)

  -- ---- measures

  select_short : length (fd_select_bytes (new_fds_by used (fds_of p order))) ≤ 200000
  select_short =
      let fds = new_fds_by used (fds_of p order) in
      omega (arith, select-length fds, changes-few None 0 fds, length-mapped (new_fd_by used) (fds_of p order), fds_many p order, c.ready.many, c.ready.few)

  module _ (totals : List ℕ) (summed : Summed b rows used ws r table totals) where
    -- the length of the subset
    pub bytes_long : (name : List ℕ) → length (cid_bytes b rows used ws r name) ≡ (cid_places b rows used ws r name).end
    unfolding cid_bytes cid_places
    bytes_long name =
        let dicts = dicts-length b rows used ws table r c.ready totals summed in
        cid_length p name (fds_in used) order (bodies_in b rows used ws r) (dicts (cid_privates p name (fds_in used) order (bodies_in b rows used ws r)) ∙ sym (dicts 0))

    module _ {old parts : List Part} {all : ℕ} (s : SizesParts p r.how.way table totals used old parts all) {fds : List ℕ} (listed : fds ≡ fds_in used)
        (count : ℕ) (counted : count ≡ length (fds_in used)) where
      module _ (name : List ℕ) (slots : List Slot) (own : Own) (strings : StringsReady p slots own) (front globals select glyphs matrices : ℕ)
          (front_is : front ≡ front_len true 0 p.top slots (length name) own)
          (globals-is : globals ≡ index_len_lem (kept_count r.how.way r.how.globals.reached r.how.globals.count) r.globals_total)
          (select-is : select ≡ length (fd_select_bytes (new_fds_by used (fds_of p order)))) (glyphs-is : glyphs ≡ index_len_lem k r.glyphs_total)
          (matrices-are : (matrices ≡ total (matrices_by p fds)) × (matrices ≤ 1792000000000)) where
        -- what the places ask
        pub places-asked : front ≤ 844424931000004 → globals ≤ 281474977000000 → glyphs ≤ 281474977000000 → PartsSmall front globals k select glyphs count matrices all
        places-asked f-small g-small h-small =
            record {
              front-small = f-small;
              globals-small = g-small;
              some = c.some;
              few = c.ready.few;
              select-small = omega (arith, select-is, select_short);
              glyphs-small = h-small;
              fds = omega (arith, counted, those-count (in_use_lem used) 256 0);
              matrices_small = matrices-are.1;
              all_small = s.small;
            }

        matrices_long : index_len_lem count (matrices + 11 * count) ≡ index_len_lem (length (fds_in used)) (total (matrices_by p (fds_in used)) + 11 * length (fds_in used))
        matrices_long =
            let e : matrices ≡ total (matrices_by p (fds_in used))
            = matrices-are.0 ∙ ap (λ (l : List ℕ). total (matrices_by p l)) listed in
            ap (λ (m : ℕ). index_len_lem m (matrices + 11 * m)) counted
            ∙ ap (λ (m : ℕ). index_len_lem (length (fds_in used)) (m + 11 * length (fds_in used))) e

        -- they are the subset's
        pub places_are : places_by front globals k select glyphs count matrices all ≡ cid_places b rows used ws r name
        unfolding places_by cid_places
        places_are =
            places_same front globals (charset_len k) select glyphs (index_len_lem count (matrices + 11 * count)) all _ _ _ _ _ _ _
            (front_is ∙ cid_front-sum p slots strings.slotted own strings.measured.is name 0 0 0 0)
            (globals-is ∙ globals_long b rows used ws table r c.ready)
            (sym cids_long)
            (select-is ∙ ap (λ (l : List ℕ). length (fd_select_bytes l)) c.news)
            (glyphs-is ∙ glyphs_long b rows used ws table r c.ready)
            (matrices_long ∙ sym (dicts-length b rows used ws table r c.ready totals summed 0))
            (all-parts b rows used ws table r c.ready totals summed s)

      -- what the Font DICTs ask, where they are within what a subset may have
      pub dicts_ready : (from : ℕ) → PrivatesEnd b rows used ws r from → (at : ℕ) → at + length (tail_bytes b rows used ws r from) ≤ 67108864
          → DictsReady b rows used ws r fds parts from
      unfolding tail_bytes
      dicts_ready from l at small =
          let locals = (bodies_in b rows used ws r).locals in
          let dicts = index_bytes (font_dicts p from (fds_in used) locals) in
          record {
            placed = dicts-placed b rows used ws table r c.ready totals summed s listed from l
                (omega (arith, small, length-append dicts (private_parts p (fds_in used) locals)));
            are = dicts_are b rows used ws table r c.ready totals summed s listed from;
          }

-- ---- the outcome

module _ (way : Way) (bs out : List ℕ) where
  abbrev chosen : Bool → Bool → Outcome
  chosen a b = pick a (refused Subset) (pick b (refused Output) (subset way bs))

  by_tests : (a b : Bool) → ltb 67108864 (length bs) ≡ a → ltb (length out) (length bs) ≡ b → sized way bs (length out) ≡ chosen a b
  by_tests a b x y = rw (x, y)

  cut_as : (o : Outcome) → sized way bs (length out) ≡ o → (out' : List ℕ) (r : Result Subsetted Refusal) → Cut o out out' r → Cut (sized way bs (length out)) out out' r
  cut_as o e out' r k = subst (λ (x : Outcome). Cut x out out' r) (sym e) k

  -- so long in all
  module _ (end : ℕ) (is : length bs ≡ end) where
    -- too long
    pub sized_long : 67108864 < end → Cut (sized way bs (length out)) out out (Err Subset)
    sized_long h =
        cut_as (refused Subset) (by_tests true _ (lt-ltb 67108864 (length bs) (omega (arith, is))) refl) out (Err Subset) (record { answers = refl; output = refl })

    -- too little room
    pub sized-room : end ≤ 67108864 → length out < end → Cut (sized way bs (length out)) out out (Err Output)
    sized-room l h =
        cut_as (refused Output) (by_tests false true (le-ltb 67108864 (length bs) (omega (arith, is))) (lt-ltb (length out) (length bs) (omega (arith, is)))) out (Err Output)
        (record { answers = refl; output = refl })

    -- written
    pub sized-written : end ≤ 67108864 → end ≤ length out → {out' : List ℕ} {q : ℕ} → Wrote out 0 bs out' q → Cut (sized way bs (length out)) out out' (a_cut way end)
    sized-written l h {out'} w =
        cut_as (subset way bs) (by_tests false false (le-ltb 67108864 (length bs) (omega (arith, is))) (le-ltb (length out) (length bs) (omega (arith, is)))) out' (a_cut way end)
        (record { answers = ap (a_cut way) (sym is); output = w.is })

-- the outcome of the cut of a CID-keyed font is that of its subset, own strings being few
pub cut-sized : (p : Program) (name kept order : List ℕ) (room : ℕ) (q : Pruned) → true ≡ cid_keyed p.top → length (own_by_cid p) ≤ 64609
    → written p none name kept order room q ≡ sized q.way (subset_by_cid p name (used_fds p kept) order q.bodies) room
unfolding subset_bytes
cut-sized p name kept order room q keyed few =
    let own : ltb 64609 (length (own_of p order)) ≡ false
    = ap (λ (t : Bool). ltb 64609 (length (pick t (own_by_cid p) (own_by_name p order)))) (sym keyed) ∙ le-ltb 64609 (length (own_by_cid p)) few in
    let bs : subset_bytes p none name kept order q.bodies ≡ subset_by_cid p name (used_fds p kept) order q.bodies
    = ap (λ (t : Bool). pick t (subset_by_cid p name (used_fds p kept) order q.bodies) (subset_by_name p none name order q.bodies)) (sym keyed) in
    ap (λ (t : Bool). pick t (refused StringId) (sized q.way (subset_bytes p none name kept order q.bodies) room)) own
    ∙ ap (λ (l : List ℕ). sized q.way l room) bs
