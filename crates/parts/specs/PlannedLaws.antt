-- What planning leaves: the words of the glyphs as they were, the way and the bodies those of the subset, and all bodies measured.
use Prim.Native.Nat.{ℕ, ◌+◌, ◌≤◌, ◌<◌}
use Rattle.std.specs.Prelude.{◌≡◌, refl, Bool, false, eqb, ◌&&◌, ◌||◌, ◌⊎◌, take, get_or, None, Option, Some}
use Rattle.std.proofs.Math.Path.{sym, ap, fun_ext}
use Rattle.std.proofs.Common.{◌∙◌, subst, arith, inl, inr, eqb-true, eq-eqb}
use Rattle.std.proofs.Math.Bool.{true}
use mathlib.Core.List.{List, [], ◌++◌}
use Rattle.std.proofs.Math.ListN.{length, drop}
use Rattle.std.proofs.Math.Seq.{length-take-le, take-append-le, take-take}
use Rattle.octets.specs.Octets.{put}
use Rattle.octets.specs.Pick.{pick}
use Rattle.index.specs.Write.{total}
use Rattle.index.specs.IndexLaws.{items-length}
use Rattle.unfold.specs.Unfold.{Row, glyph}
use Rattle.prune.specs.StepLaws.{zero_one}
use Rattle.cff.specs.Font.{Program}
use Rattle.bits.specs.Bits.{words_for}
use Rattle.cff.specs.Find.{locals_words}
use Rattle.cff.specs.Reads.{program_of}
use Rattle.cff.specs.declared.font.Font.{Font}
use Rattle.subset.specs.Pruned.{Pruned, each, mapped, calls_in, pruned}
use Rattle.order.specs.Walks.{many_in, order_in}
use Rattle.order_window.specs.declared.Held.{Held}
use Rattle.order_window.specs.declared.Order.{Order}
use Rattle.order_window.specs.declared.window.Kept.{Kept}
use Rattle.order_window.specs.Window.{glyphs_of, Steady, HoldsAll, Gathered}
use Rattle.order_window.specs.GatheredLaws.{glyphs_many, steady-again, same-glyphs, same-gathered, same-steady}
use Rattle.order_window.specs.Stays.{Stays}
use Rattle.reach.specs.Reach.{rises}
use Rattle.renumber.specs.Turn.{body_of_lem}
use Rattle.bodies.specs.Ways.{many_of, holds, body_by}
use Rattle.bodies.specs.Pruning.{all_hold, bodies_by, way_of}
use Rattle.bodies.specs.SubrsLaws.{new-body_is}
use Rattle.bodies.specs.WaysLaws.{each-parts, pruned-by}
use Rattle.bodies.specs.declared.Manner.{Manner}
use Rattle.fds.specs.Locals.{fds_in}
use Rattle.fds.specs.NewLocals.{locals_by}
use Rattle.renumber.specs.declared.Ranks.{Ranks}
use Rattle.plan.specs.Ranked.{every_numbered, all_bits, RanksAll}
use Rattle.plan.specs.Sizes.{FdsUsed, globals_by, glyphs_by, all_made, first_way, way_by, Plans, MeasureIn, Narrow}
use Rattle.plan.specs.WayLaws.{new-globals, new-glyphs, way_is}
use Rattle.plan.specs.PlanLaws.{way-found}
use Rattle.plan.specs.InLaws.{measure_in}
use Rattle.plan.specs.declared.RankedAll.{RankedAll}
use Rattle.plan.specs.declared.Plan.{Plan}
use Rattle.parts.specs.Ready.{PlanIn, at_rest, bodies_for, Ready, Summed}
use Rattle.parts.specs.declared.Planned.{Planned}
use Rattle.subset.specs.Way.{is_renumbered}
use Rattle.subset.specs.declared.Way.{Way}
use Rattle.subset.specs.declared.Way.TheVariants.{Renumbered, Stubbed, Copied}

-- ---- words, ways and bodies

-- bodies are renumbered only where each number has a subroutine
zero-way : (t u v : Bool) → is_renumbered (pick t Copied (pick u (pick v Renumbered Stubbed) Stubbed)) ≡ true → u ≡ true
zero-way true u v e = absurd (zero_one cc)
zero-way false true v e = refl
zero-way false false v e = absurd (zero_one cc)

-- where all parts hold, the last one does
last-holds : (t u v : Bool) → pick t (pick u v false) false ≡ true → v ≡ true
last-holds true true v e = e
last-holds true false v e = absurd (zero_one cc)
last-holds false u v e = absurd (zero_one cc)

-- bodies of which none fails
each-made : (f : ℕ → Option (List ℕ)) (ks : List ℕ) (m : Option (List (List ℕ))) → each f ks ≡ m → holds m ≡ true → many_of m ≡ mapped (λ k. body_of_lem (f k)) ks
each-made f ks None e h = absurd (zero_one cc)
each-made f ks (Some l) e h = sym (each-parts f body_of_lem (λ a. refl) ks l e)

module _ (b : List ℕ) (o : Order) (used old window : List ℕ) (h : PlanIn b o used old window) where
  abbrev p : Program
  p = program_of b o.f

  many_words : words_for (length p.charstrings) ≡ words_for (many_in o.f)
  many_words = ap words_for (items-length b o.f.charstrings)

  -- there is room for the bits
  pub rank_room : words_for o.f.charstrings.count + words_for o.f.globals.count + locals_words p.privates ≤ length old
  rank_room =
      let g : words_for (length p.globals) ≡ words_for o.f.globals.count = ap words_for (items-length b o.f.globals) in
      omega (arith, h.room, many_words)

  module _ (rows : List Row) (narrow : Narrow rows) (ws : List ℕ) (table : List Ranks) (ranked : RankedAll) (s : RanksAll p rows used old ws table ranked) (size : length ws ≡ length old) where
    -- ---- the bits of the glyphs stay where the subroutines are ranked behind them

    bits_stay : take (words_for (many_in o.f)) ws ≡ take (words_for (many_in o.f)) old
    unfolding put
    bits_stay =
        let at = words_for (length p.charstrings) in
        let q : words_for (many_in o.f) ≤ length (take at old) = omega (arith, length-take-le at old (omega (arith, h.room)), many_words) in
        ap (take (words_for (many_in o.f))) s.words ∙ take-append-le (words_for (many_in o.f)) (take at old) (all_bits p rows used ++ drop (at + length (all_bits p rows used)) old) q
        ∙ take-take (words_for (many_in o.f)) at old (omega (arith, many_words))

    order_stays : glyphs_of b o.f old ≡ glyphs_of b o.f ws
    order_stays = same-glyphs b o.f old ws bits_stay

    pub plan_ordered : Gathered b ws window o
    plan_ordered = same-gathered b old ws window o bits_stay size h.ordered

    -- where no loop had begun, what was planned from is gathered in what the window holds by then
    ordered_again : (last : List ℕ) → 0 < length last → (HoldsAll o → last ≡ window) → Steady b o.f old window o.held → Gathered b ws last o
    ordered_again last some same s =
        (steady-again b ws window last o plan_ordered (same-steady b old ws window o bits_stay s) some same).0

    -- no loop had begun exactly where the code says so
    rest-steady : at_rest o ≡ true → Steady b o.f old window o.held
    rest-steady e = go (eqb o.held.from 0) (eqb o.held.walk.done 0) (eqb o.held.walk.done o.count) refl refl refl e
      where
        go : (t u v : Bool) → eqb o.held.from 0 ≡ t → eqb o.held.walk.done 0 ≡ u → eqb o.held.walk.done o.count ≡ v → (t && (u || v)) ≡ true → Steady b o.f old window o.held
        go true true v x y z e = record { holds = h.ordered.holds; front = eqb-true o.held.from 0 x; whole = inl (eqb-true o.held.walk.done 0 y) }
        go true false true x y z e =
            record { holds = h.ordered.holds; front = eqb-true o.held.from 0 x; whole = inr (eqb-true o.held.walk.done o.count z ∙ h.ordered.many) }
        go true false false x y z e = absurd (zero_one cc)
        go false u v x y z e = absurd (zero_one cc)

    steady_rest : Steady b o.f old window o.held → at_rest o ≡ true
    steady_rest s = ap (λ (t : Bool). t && (eqb o.held.walk.done 0 || eqb o.held.walk.done o.count)) (eq-eqb o.held.from 0 s.front) ∙ go s.whole
      where
        last-true : (t : Bool) → (t || true) ≡ true
        last-true true = refl
        last-true false = refl

        go : (o.held.walk.done ≡ 0) ⊎ (o.held.walk.done ≡ length (order_in b o.f old)) → (eqb o.held.walk.done 0 || eqb o.held.walk.done o.count) ≡ true
        go (inl z) = ap (λ (t : Bool). t || eqb o.held.walk.done o.count) (eq-eqb o.held.walk.done 0 z)
        go (inr w) =
            ap (λ (t : Bool). eqb o.held.walk.done 0 || t) (eq-eqb o.held.walk.done o.count (w ∙ sym h.ordered.many)) ∙ last-true (eqb o.held.walk.done 0)

    within : FdsUsed p used (glyphs_of b o.f ws)
    within = subst (FdsUsed p used) order_stays h.within

    many : o.count ≡ length (glyphs_of b o.f ws)
    many = plan_ordered.many ∙ glyphs_many b o.f ws

    module _ (rising : Bool) (sorted : rising ≡ rises rows) (table_long : 256 ≤ length table) where
      -- the kept glyphs, whatever the window holds
      abbrev after : Held → Order
      after held = record { f = o.f; count = o.count; held = held }

      -- how bodies are written by a way
      abbrev by : Way → Manner
      by way = record { way = way; globals = ranked.globals; rising = rising }

      -- what measuring asks
      pub plan_asked : (held : Held) (way : Way) → MeasureIn b (after held) used ws (by way) table rows
      plan_asked held way =
          measure_in b (after held) h.read.font h.read.program rows used ws ranked.globals table s.ranked way rising within many
          h.read.size h.used_long table_long h.fds (λ e. sym sorted ∙ e)

      -- ---- what is found and measured

      module _ (held : Held) (traced : ℕ) (first : Way) (tried : first ≡ first_way traced ranked.all) (totals : List ℕ) (r : Plan)
          (t : Plans p rows ws used table ranked.globals (glyphs_of b o.f ws) first totals r) where
        abbrev planned : Planned
        planned = record { order = after held; how = by r.way; globals_total = r.globals_total; glyphs_total = r.glyphs_total }

        -- the way that is found
        found : r.way ≡ way_by traced ranked.all (all_made Renumbered p rows ws used table ranked.globals (glyphs_of b o.f ws))
        found = t.is ∙ way-found p rows ws used table ranked.globals (glyphs_of b o.f ws) traced ranked.all first tried

        numbered : is_renumbered r.way ≡ true → every_numbered p rows (fds_in used) ≡ true
        numbered e =
            sym s.told
            ∙ zero-way (eqb traced 0) ranked.all (all_made Renumbered p rows ws used table ranked.globals (glyphs_of b o.f ws)) (ap is_renumbered (sym found) ∙ e)

        made : all_made r.way p rows ws used table ranked.globals (glyphs_of b o.f ws) ≡ true
        made = t.sizes.made

        -- the charstrings that were measured are those of the subset
        charstrings_are : many_of (glyphs_by r.way p rows ws used table ranked.globals (glyphs_of b o.f ws)) ≡ (bodies_for b rows used ws planned).charstrings
        unfolding bodies_by
        charstrings_are =
            let order = glyphs_of b o.f ws in
            let g = new-glyphs p h.read.program rows narrow used ws ranked.globals table s.ranked order within r.way numbered in
            let body : ℕ → Option (List ℕ) = λ g. body_by r.way rows (calls_in p rows (get_or p.fds g 0)) (glyph g) (get_or p.charstrings g []) in
            let made : holds (glyphs_by r.way p rows ws used table ranked.globals order) ≡ true
            = last-holds (holds (globals_by r.way p rows ws used table ranked.globals order))
            (all_hold (locals_by r.way p rows ws table ranked.globals) (fds_in used)) _ made in
            each-made body order (glyphs_by r.way p rows ws used table ranked.globals order) (sym g) made
            ∙ ap (λ (l : ℕ → List ℕ). mapped l order)
            (fun_ext (λ g. sym (new-body_is r.way rows (calls_in p rows (get_or p.fds g 0)) (glyph g) (get_or p.charstrings g []))))

        plan_ready : Ready b rows used ws planned table
        plan_ready =
            record {
              read = h.read;
              narrow = narrow;
              asked = plan_asked held r.way;
              many = many;
              few = h.ordered.few;
              within = within;
              ranked = s.ranked;
              numbered = numbered;
              made = made;
              globals_total_lem = t.sizes.of_globals
                  ∙ ap total (new-globals p h.read.program rows narrow used ws ranked.globals table s.ranked (glyphs_of b o.f ws) within r.way numbered);
              glyphs_total_lem = t.sizes.of_glyphs ∙ ap total charstrings_are;
              globals_few = t.sizes.few_globals;
              glyphs_few = t.sizes.few_glyphs;
            }

        plan_summed : 256 ≤ length totals → Summed b rows used ws planned table totals
        plan_summed long = record { long = long; sums = t.sizes.of_locals; few = t.sizes.few_locals }

        -- the way and the bodies are the subset's
        plan_pruned : record { way = r.way; bodies = bodies_for b rows used ws planned } ≡ pruned p rows (fds_in used) (glyphs_of b o.f old) traced
        plan_pruned =
            let order = glyphs_of b o.f ws in
            let by = pruned-by p rows (fds_in used) order traced in
            let e : r.way ≡ way_of p rows (fds_in used) order traced
            = found
            ∙ way_is p h.read.program rows narrow used ws ranked.globals table s.ranked order within traced ranked.all s.told
            ∙ ap (λ (q : Pruned). q.way) by in
            ap (λ (w : Way). record { way = w; bodies = bodies_by p rows w (fds_in used) order }) e
            ∙ sym by ∙ ap (λ (l : List ℕ). pruned p rows (fds_in used) l traced) (sym order_stays)

        -- what the code returns, the window being moved by then
        abbrev planned_by : Order → Planned
        planned_by q = record { order = q; how = by r.way; globals_total = r.globals_total; glyphs_total = r.glyphs_total }

        abbrev Whole : Order → Type 0
        Whole q =
            Ready b rows used ws (planned_by q) table × Summed b rows used ws (planned_by q) table totals
            × (record { way = r.way; bodies = bodies_for b rows used ws (planned_by q) } ≡ pruned p rows (fds_in used) (glyphs_of b o.f old) traced)

        whole_moved : (q : Order) → q.f ≡ o.f → q.count ≡ o.count → q.held ≡ held → Whole (after held) → Whole q
        whole_moved q f n g w =
            let e = ap (λ (x : Font). record { f = x; count = o.count; held = held }) (sym f) in
            let y = ap (λ (k : ℕ). record { f = q.f; count = k; held = held }) (sym n) in
            let z = ap (λ (h : Held). record { f = q.f; count = q.count; held = h }) (sym g) in
            subst Whole (e ∙ y ∙ z) w

        pub returns_planned : 256 ≤ length totals → (q : Order) → q.f ≡ o.f → q.count ≡ o.count → q.held ≡ held → (last : List ℕ) → Gathered b ws last q
            → (HoldsAll o → (q ≡ o) × (last ≡ window))
            → Ready b rows used ws (planned_by q) table × Summed b rows used ws (planned_by q) table totals × Gathered b ws last q × (q.f ≡ o.f) × (q.count ≡ o.count)
            × (glyphs_of b o.f ws ≡ glyphs_of b o.f old)
            × (record { way = r.way; bodies = bodies_for b rows used ws (planned_by q) } ≡ pruned p rows (fds_in used) (glyphs_of b o.f old) traced)
            × (HoldsAll o → (q ≡ o) × (last ≡ window)) × (Steady b o.f old window o.held → Gathered b ws last o)
        returns_planned long q f n g last gathered whole =
            let w = whole_moved q f n g (plan_ready, plan_summed long, plan_pruned) in
            (w.0, w.1, gathered, f, n, sym order_stays, w.2, whole, ordered_again last gathered.some (λ h. (whole h).1))

        -- the order that was given stands in the answer where no loop had begun
        abbrev Returned : List ℕ → Order → Type 0
        Returned last q =
            Ready b rows used ws (planned_by q) table × Summed b rows used ws (planned_by q) table totals × Gathered b ws last q × (q.f ≡ o.f) × (q.count ≡ o.count)
            × (glyphs_of b o.f ws ≡ glyphs_of b o.f old)
            × (record { way = r.way; bodies = bodies_for b rows used ws (planned_by q) } ≡ pruned p rows (fds_in used) (glyphs_of b o.f old) traced)
            × (HoldsAll o → (q ≡ o) × (last ≡ window)) × (Steady b o.f old window o.held → Gathered b ws last o) × (Steady b o.f old window o.held → q ≡ o)

        with_order : 256 ≤ length totals → (q : Order) → q.f ≡ o.f → q.count ≡ o.count → q.held ≡ held → (last : List ℕ) → Gathered b ws last q
            → (HoldsAll o → (q ≡ o) × (last ≡ window)) → (Steady b o.f old window o.held → q ≡ o) → Returned last q
        with_order long q f n g last gathered whole steady =
            let w = returns_planned long q f n g last gathered whole in
            (w.0, w.1, w.2, w.3, w.4, w.5, w.6, w.7, w.8, steady)

        pub returns_standing : 256 ≤ length totals → (m : Order) → m.f ≡ o.f → m.count ≡ o.count → (last : List ℕ) → Gathered b ws last m
            → (HoldsAll o → (m ≡ o) × (last ≡ window)) → (q : Order) → q ≡ pick (at_rest o) o m → q.held ≡ held → Returned last q
        returns_standing long m f n last gathered whole q is g = go (at_rest o) refl is
          where
            go : (t : Bool) → at_rest o ≡ t → q ≡ pick t o m → Returned last q
            go true e i =
                with_order long q (ap (λ (x : Order). x.f) i) (ap (λ (x : Order). x.count) i) g last
                (subst (Gathered b ws last) (sym i) (ordered_again last gathered.some (λ h. (whole h).1) (rest-steady e)))
                (λ h. (i, (whole h).1)) (λ s. i)
            go false e i =
                with_order long q (ap (λ (x : Order). x.f) i ∙ f) (ap (λ (x : Order). x.count) i ∙ n) g last (subst (Gathered b ws last) (sym i) gathered)
                (λ h. let w = whole h in (i ∙ w.0, w.1))
                (λ s. absurd (zero_one (let y : ◌≡◌ {A = Bool} false true = sym e ∙ steady_rest s in cc)))

-- who lent the window has what it holds after it was moved
pub stays_gathered : (a b : Kept) → Stays a b → (window : List ℕ) → window ≡ b.window.now → Gathered a.font.now a.words.now window b.o
stays_gathered a b s window e =
    let x = subst (λ (w : List ℕ). Gathered b.font.now b.words.now w b.o) (sym e) b.gathered in
    let y = subst (λ (l : List ℕ). Gathered l b.words.now window b.o) s.font x in
    subst (λ (l : List ℕ). Gathered a.font.now l window b.o) s.words y
