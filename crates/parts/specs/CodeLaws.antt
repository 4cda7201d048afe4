-- The INDEXes of global subroutines and of charstrings as the plan left them: their lengths, what their writers ask, and that what is written
-- is the subset's.
use Rattle.std.specs.Prelude.{ℕ, ◌+◌, ◌≤◌, ◌≡◌, true, List, [], length, get_or, Option}
use Rattle.std.proofs.Math.Path.{sym, ap}
use Rattle.std.proofs.Common.{◌∙◌, subst, arith}
use Rattle.octets.specs.Pick.{pick_ind}
use Rattle.octets.specs.PickLaws.{both_hold}
use Rattle.index.specs.Write.{total, index_bytes, index_len_lem}
use Rattle.index.specs.WriteLaws.{length-index, total-within}
use Rattle.unfold.specs.Unfold.{Row, glyph, global}
use Rattle.cff.specs.Font.{Program}
use Rattle.cff.specs.Reads.{program_of}
use Rattle.bits.specs.Bits.{count_below}
use Rattle.subset.specs.Pruned.{global_set, calls_in}
use Rattle.subset.specs.EachLaws.{length-mapped}
use Rattle.order_window.specs.Window.{glyphs_of}
use Rattle.glyph_bodies.specs.Charstrings.{CharstringsIn, charstrings_from}
use Rattle.renumber.specs.Ranks.{calls_by}
use Rattle.renumber.specs.declared.Ranks.{Ranks}
use Rattle.bodies.specs.Ways.{Room, many_of, holds, new_body, body_by, new_subrs, kept_count, reached_in}
use Rattle.bodies.specs.Pruning.{all_hold, bodies_by}
use Rattle.bodies.specs.RecordLaws.{reached-told}
use Rattle.bodies.specs.Sources.{Sourced, subrs_from, new_subrs_from}
use Rattle.bodies.specs.SubrsLaws.{new-subrs_is, new-body_is, new-subrs_many}
use Rattle.bodies.specs.WaysLaws.{mapped-bodies}
use Rattle.bodies.specs.declared.subrs.Source.{Source}
use Rattle.reach.specs.declared.Subrs.TheVariants.{Global}
use Rattle.fds.specs.Locals.{fds_in}
use Rattle.fds.specs.NewLocals.{locals_by}
use Rattle.plan.specs.Sizes.{across_by, globals_by, glyphs_by}
use Rattle.plan.specs.StandsLaws.{stands_reached}
use Rattle.plan.specs.WayLaws.{new-globals, new-glyphs}
use Rattle.parts.specs.Ready.{bodies_for, Ready}
use Rattle.parts.specs.declared.Planned.{Planned}
use Rattle.subset.specs.Way.{is_renumbered}
use Rattle.subset.specs.declared.Way.{Way}

-- room for the INDEX of bodies that do not fail, where its length is small
room_for : (bodies : Option (List (List ℕ))) (new : List (List ℕ)) (sum at room : ℕ) → holds bodies ≡ true → many_of bodies ≡ new → sum ≡ total new
    → at + length (index_bytes new) ≤ 67108864 → at + length (index_bytes new) ≤ room → Room bodies sum at room
room_for bodies new sum at room done same is small fits =
    let t = total-within new in
    record {
      done = done;
      is = is ∙ ap total (sym same);
      few = omega arith;
      early = omega arith;
      fits = subst (λ (l : List (List ℕ)). at + length (index_bytes l) ≤ room) (sym same) fits;
    }

-- the length of an INDEX by its count and the bytes of its items
length-by : (items : List (List ℕ)) (count sum : ℕ) → count ≡ length items → sum ≡ total items → index_len_lem count sum ≡ length (index_bytes items)
length-by items count sum many is =
    ap (λ (n : ℕ). index_len_lem n sum) many ∙ ap (index_len_lem (length items)) is ∙ sym (length-index items)

module _ (b : List ℕ) (rows : List Row) (used ws : List ℕ) (table : List Ranks) (r : Planned) (ready : Ready b rows used ws r table) where
  abbrev p : Program
  p = program_of b r.order.f

  abbrev way : Way
  way = r.how.way

  abbrev own : Ranks
  own = r.how.globals

  abbrev across : Ranks
  across = across_by table (fds_in used)

  abbrev the_globals : Option (List (List ℕ))
  the_globals = globals_by way p rows ws used table own (glyphs_of b r.order.f ws)

  abbrev the_glyphs : Option (List (List ℕ))
  the_glyphs = glyphs_by way p rows ws used table own (glyphs_of b r.order.f ws)

  -- neither fails
  globals_hold : holds the_globals ≡ true
  globals_hold = (both_hold (holds the_globals) _ ready.made).0

  glyphs_hold : holds the_glyphs ≡ true
  glyphs_hold =
      (both_hold (all_hold (locals_by way p rows ws table own) (fds_in used)) (holds the_glyphs)
      (both_hold (holds the_globals) _ ready.made).1).1

  -- ---- globals

  pub globals-few : kept_count r.how.way r.how.globals.reached r.how.globals.count ≤ 65535
  globals-few =
      let s = ready.asked.subrs.global_ranks in
      pick_ind (λ (n : ℕ). n ≤ 65535) (is_renumbered way) own.reached own.count (λ e. omega (arith, s.few_reached)) (λ e. omega (arith, s.few))

  many_are : many_of the_globals ≡ (bodies_for b rows used ws r).globals
  many_are =
      new-globals p ready.read.program rows ready.narrow used ws own table ready.ranked
      (glyphs_of b r.order.f ws) ready.within way ready.numbered

  new_are : new_subrs way rows (reached_in ws own) (calls_by ws across own) global p.globals ≡ (bodies_for b rows used ws r).globals
  new_are = new-subrs_is way rows (reached_in ws own) (calls_by ws across own) global p.globals ∙ many_are

  -- the number reached, as the words tell it
  reached_are : own.reached ≡ count_below (reached_in ws own) own.count
  reached_are =
      let s = ready.ranked.global_ranks in
      reached-told ws own (global_set rows) (λ k h. stands_reached ws own (global_set rows) (length p.globals) s k (omega (arith, s.many))) s.reaches

  globals_many : kept_count way own.reached own.count ≡ length (bodies_for b rows used ws r).globals
  globals_many =
      let s = ready.asked.subrs in
      ap (λ (n : ℕ). kept_count way n own.count) reached_are
      ∙ ap (λ (n : ℕ). kept_count way (count_below (reached_in ws own) n) n) s.many
      ∙ sym (new-subrs_many way b ws r.order.f.globals own across own rows r.how.rising Global s (calls_by ws across own) global globals_hold)
      ∙ ap length new_are

  pub globals_long : index_len_lem (kept_count r.how.way r.how.globals.reached r.how.globals.count) r.globals_total
      ≡ length (index_bytes (bodies_for b rows used ws r).globals)
  globals_long = length-by (bodies_for b rows used ws r).globals _ _ globals_many ready.globals_total_lem

  module _ (from : Source)
      (is : from
      ≡ record {
        way = r.how.way;
        of = Global;
        ix = r.order.f.globals;
        own = r.how.globals;
        locals = across_by table (fds_in used);
        globals = r.how.globals;
        rising = r.how.rising;
      }) where
    pub globals-asked : (at room : ℕ) → at + length (index_bytes (bodies_for b rows used ws r).globals) ≤ 67108864
        → at + length (index_bytes (bodies_for b rows used ws r).globals) ≤ room
        → Sourced from rows ws b × (from.own.reached ≡ count_below (reached_in ws from.own) from.own.count)
        × Room (subrs_from from rows ws b) r.globals_total at room
    globals-asked at room small fits =
        subst (λ (s : Source). Sourced s rows ws b × (s.own.reached ≡ count_below (reached_in ws s.own) s.own.count)
        × Room (subrs_from s rows ws b) r.globals_total at room) (sym is) (
          ready.asked.subrs,
          reached_are,
          room_for the_globals (bodies_for b rows used ws r).globals r.globals_total at room globals_hold many_are ready.globals_total_lem small fits,
        )

    pub globals_are : new_subrs_from from rows ws b ≡ (bodies_for b rows used ws r).globals
    globals_are = ap (λ (s : Source). new_subrs_from s rows ws b) is ∙ new_are

  -- ---- charstrings

  glyphs_many : many_of the_glyphs ≡ (bodies_for b rows used ws r).charstrings
  unfolding bodies_by
  glyphs_many =
      let e = new-glyphs p ready.read.program rows ready.narrow used ws own table ready.ranked
      (glyphs_of b r.order.f ws) ready.within way ready.numbered in
      ap many_of e
      ∙ sym (mapped-bodies (λ g. body_by way rows (calls_in p rows (get_or p.fds g 0)) (glyph g) (get_or p.charstrings g []))
      (λ g. new_body way rows (calls_in p rows (get_or p.fds g 0)) (glyph g) (get_or p.charstrings g []))
      (λ g. new-body_is way rows (calls_in p rows (get_or p.fds g 0)) (glyph g) (get_or p.charstrings g []))
      (glyphs_of b r.order.f ws) (ap holds (sym e) ∙ glyphs_hold))

  glyphs-count : r.order.count ≡ length (bodies_for b rows used ws r).charstrings
  unfolding bodies_by
  glyphs-count =
      ready.many
      ∙ sym (length-mapped (λ g. new_body way rows (calls_in p rows (get_or p.fds g 0)) (glyph g) (get_or p.charstrings g [])) (glyphs_of b r.order.f ws))

  pub glyphs_long : index_len_lem r.order.count r.glyphs_total ≡ length (index_bytes (bodies_for b rows used ws r).charstrings)
  glyphs_long = length-by (bodies_for b rows used ws r).charstrings _ _ glyphs-count ready.glyphs_total_lem

  pub glyphs-asked : (at room : ℕ) → at + length (index_bytes (bodies_for b rows used ws r).charstrings) ≤ 67108864
      → at + length (index_bytes (bodies_for b rows used ws r).charstrings) ≤ room
      → CharstringsIn b ws table r.order r.how rows × Room (charstrings_from r.how r.order rows ws table b) r.glyphs_total at room
  glyphs-asked at room small fits = (
    ready.asked.glyphs,
    room_for the_glyphs (bodies_for b rows used ws r).charstrings r.glyphs_total at room glyphs_hold glyphs_many ready.glyphs_total_lem small fits,
  )

  pub glyphs_are : many_of (charstrings_from r.how r.order rows ws table b) ≡ (bodies_for b rows used ws r).charstrings
  glyphs_are = glyphs_many
