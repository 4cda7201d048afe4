-- Laws of measuring all bodies, part by part: the globals, the locals of the FDs in use, the charstrings.
use Rattle.std.specs.Prelude.{ℕ, ◌≤◌, ◌≡◌, refl, Bool, true, false, List, Option, None, Some}
use Rattle.std.proofs.Common.{sym, ap, ◌∙◌, subst}
use Rattle.octets.specs.Pick.{pick}
use Rattle.octets.specs.PickLaws.{first-fails}
use Rattle.unfold.specs.Unfold.{Row}
use Rattle.prune.specs.StepLaws.{zero_one}
use Rattle.cff.specs.Font.{Program}
use Rattle.renumber.specs.declared.Ranks.{Ranks}
use Rattle.renumber.specs.Ranks.{calls_by}
use Rattle.bodies.specs.Ways.{holds, measured_of, subrs_by, reached_in, site_in}
use Rattle.bodies.specs.Sizes.{Bounded}
use Rattle.bodies.specs.WritingLaws.{measured_failed, measured-total}
use Rattle.reach.specs.declared.Subrs.TheVariants.{Global}
use Rattle.bodies.specs.Pruning.{all_hold}
use Rattle.fds.specs.Locals.{fds_in}
use Rattle.fds.specs.NewLocals.{locals_by, MeasuresLocals}
use Rattle.bodies.specs.declared.Manner.{Manner}
use Rattle.cff.specs.declared.font.Font.{Font}
use Rattle.cff.specs.Reads.{program_of}
use Rattle.order_window.specs.Window.{glyphs_of}
use Rattle.order_window.specs.Stays.{kept_glyphs, Stays, stays-of}
use Rattle.order_window.specs.declared.Held.{Held}
use Rattle.order_window.specs.declared.Order.{Order}
use Rattle.order_window.specs.declared.window.Kept.{Kept}
use Rattle.plan.specs.Sizes.{across_by, globals_by, glyphs_by, all_made, Totaled, MeasuresAll, MeasureIn, by_way_lem}
use Rattle.plan.specs.declared.sizes.Totals.{Totals}
use Rattle.subset.specs.declared.Way.{Way}

-- what was measured, by its parts
abbrev pub totals_of : ℕ → ℕ → Totals
totals_of g c = record { globals = g; glyphs = c }

either : (t u v : Bool) → pick u v false ≡ false → pick t (pick u v false) false ≡ false
either true u v e = e
either false u v e = refl

last : (t u v : Bool) → v ≡ false → pick t (pick u v false) false ≡ false
last true true v e = e
last true false v e = refl
last false u v e = refl

every : (t u v : Bool) → t ≡ true → u ≡ true → v ≡ true → pick t (pick u v false) false ≡ true
every true true v a b e = e
every true false v a b e = absurd (zero_one cc)
every false u v a b e = absurd (zero_one cc)

module _ (way : Way) (p : Program) (rows : List Row) (ws used : List ℕ) (table : List Ranks) (globals : Ranks) (order : List ℕ) where
  -- the globals as they were measured, their calls by the ranks across
  pub globals-measured : (calls : Ranks) → calls ≡ across_by table (fds_in used) → (m : Option ℕ)
      → m ≡ measured_of (subrs_by way rows (reached_in ws globals) (calls_by ws calls globals) (site_in Global) p.globals)
      → m ≡ measured_of (globals_by way p rows ws used table globals order)
  globals-measured calls across m is =
      is ∙ ap (λ (q : Ranks). measured_of (subrs_by way rows (reached_in ws globals) (calls_by ws q globals) (site_in Global) p.globals)) across

module _ (way : Way) (p : Program) (rows : List Row) (ws used : List ℕ) (table : List Ranks) (globals : Ranks) (order totals : List ℕ) where
  -- the globals and the charstrings by the way; whether the locals of no FD fail
  abbrev the_globals : Option (List (List ℕ))
  the_globals = globals_by way p rows ws used table globals order

  abbrev the_glyphs : Option (List (List ℕ))
  the_glyphs = glyphs_by way p rows ws used table globals order

  abbrev locals_hold : Bool
  locals_hold = all_hold (locals_by way p rows ws table globals) (fds_in used)

  abbrev Whole : Option Totals → Type 0
  Whole r = MeasuresAll way p rows ws used table globals order totals r

  fails : all_made way p rows ws used table globals order ≡ false → Whole None
  fails e = record { told = sym e; sums = λ t z. absurd (zero_one cc) }

  -- the globals fail
  pub globals-fail : measured_of the_globals ≡ None → Whole None
  globals-fail e = fails (first-fails (holds the_globals) (pick locals_hold (holds the_glyphs) false) (measured_failed the_globals e))

  module _ (t : Bool) (ls : MeasuresLocals way p rows ws table globals used totals t) where
    -- the locals of an FD fail
    pub locals-fail : t ≡ false → Whole None
    locals-fail e =
        fails (either (holds the_globals) locals_hold (holds the_glyphs)
        (first-fails locals_hold (holds the_glyphs) (sym ls.told ∙ e)))

    -- a charstring fails
    pub glyphs-fail : measured_of the_glyphs ≡ None → Whole None
    glyphs-fail e =
        fails (last (holds the_globals) locals_hold (holds the_glyphs)
        (measured_failed the_glyphs e))

    -- none fails
    pub all-measured : (g c : ℕ) → measured_of the_globals ≡ Some g → t ≡ true
        → measured_of the_glyphs ≡ Some c → g ≤ 21989897011200 → c ≤ 21989897011200 → Whole (Some (totals_of g c))
    all-measured g c e u d gs cs =
        let x = measured-total the_globals g e in
        let y = measured-total the_glyphs c d in
        let m = every (holds the_globals) locals_hold (holds the_glyphs) x.0 (sym ls.told ∙ u) y.0 in
        record {
          told = sym m;
          sums = λ s z.
              let k : totals_of g c ≡ s = cc in
              subst (Totaled way p rows ws used table globals order totals) k
              (record {
                made = m;
                of_globals = x.1;
                of_locals = ls.sums u;
                of_glyphs = y.1;
                few_globals = gs;
                few_locals = ls.few u;
                few_glyphs = cs;
              });
        }

  -- what the code returns: each part as it was measured
  module _ (m : Option ℕ) (is : m ≡ measured_of the_globals) where
    pub returns_globals : m ≡ None → (r : Option Totals) → r ≡ None → Whole r
    returns_globals e r a = subst Whole (sym a) (globals-fail (sym is ∙ e))

    module _ (t : Bool) (ls : MeasuresLocals way p rows ws table globals used totals t) where
      pub returns_locals : t ≡ false → Whole None
      returns_locals e = locals-fail t ls e

      module _ (d : Option ℕ) (ds : d ≡ measured_of the_glyphs) where
        pub returns_glyphs : d ≡ None → (r : Option Totals) → r ≡ None → Whole r
        returns_glyphs e r a = subst Whole (sym a) (glyphs-fail t ls (sym ds ∙ e))

        pub returns_all : Bounded m → Bounded d → (g c : ℕ) → m ≡ Some g → t ≡ true → d ≡ Some c → Whole (Some (totals_of g c))
        returns_all few short g c e u v = all-measured t ls g c (sym is ∙ e) u (sym ds ∙ v) (subst Bounded e few) (subst Bounded v short)

-- what measuring asks does not name the way
pub by_way : (way : Way) (b : List ℕ) (o : Order) (used ws : List ℕ) (how : Manner) (table : List Ranks) (rows : List Row)
    → MeasureIn b o used ws how table rows → MeasureIn b o used ws (by_way_lem way how) table rows
by_way way b o used ws how table rows h =
    let g = h.glyphs in
    record {
      font = h.font;
      tables = h.tables;
      locals = h.locals;
      subrs = h.subrs;
      glyphs = record { size = g.size; table_long = g.table_long; fds = g.fds; local_ranks = g.local_ranks; global_ranks = g.global_ranks; order = g.order };
    }

-- nor what a window of the kept glyphs holds
by_window : (b : List ℕ) (o : Order) (held : Held) (used ws : List ℕ) (how : Manner) (table : List Ranks) (rows : List Row)
    → MeasureIn b o used ws how table rows → MeasureIn b (record { f = o.f; count = o.count; held = held }) used ws how table rows
by_window b o held used ws how table rows h =
    let g = h.glyphs in
    record {
      font = h.font;
      tables = h.tables;
      locals = h.locals;
      subrs = h.subrs;
      glyphs = record { size = g.size; table_long = g.table_long; fds = g.fds; local_ranks = g.local_ranks; global_ranks = g.global_ranks; order = g.order };
    }

-- so it is there for another way, after the window was moved
pub measured_again : (way : Way) (old new : Kept) → Stays old new → (used : List ℕ) (how : Manner) (table : List Ranks) (rows : List Row)
    → MeasureIn old.font.now old.o used old.words.now how table rows → MeasureIn new.font.now new.o used new.words.now (by_way_lem way how) table rows
measured_again way old new s used how table rows h =
    let q = by_way_lem way how in
    let m = by_window old.font.now old.o new.o.held used old.words.now q table rows (by_way way old.font.now old.o used old.words.now how table rows h) in
    let x = subst (λ (b : List ℕ). MeasureIn b (record { f = old.o.f; count = old.o.count; held = new.o.held }) used old.words.now q table rows) (sym s.font) m in
    let y = subst (λ (f : Font). MeasureIn new.font.now (record { f = f; count = old.o.count; held = new.o.held }) used old.words.now q table rows) (sym s.f) x in
    let z = subst (λ (n : ℕ). MeasureIn new.font.now (record { f = new.o.f; count = n; held = new.o.held }) used old.words.now q table rows) (sym s.count) y in
    subst (λ (ws : List ℕ). MeasureIn new.font.now new.o used ws q table rows) (sym s.words) z

-- what was measured after the window was moved
pub measured_stays : (old new : Kept) → Stays old new → (way : Way) (rows : List Row) (used : List ℕ) (table : List Ranks) (globals : Ranks) (totals : List ℕ) (r : Option Totals)
    → MeasuresAll way (program_of new.font.now new.o.f) rows new.words.now used table globals (kept_glyphs new) totals r
    → MeasuresAll way (program_of old.font.now old.o.f) rows old.words.now used table globals (kept_glyphs old) totals r
measured_stays old new s way rows used table globals totals r m =
    subst (λ (x : Program × List ℕ × List ℕ). MeasuresAll way x.0 rows x.1 used table globals x.2 totals r)
    (stays-of (λ b f ws. (program_of b f, ws, glyphs_of b f ws)) old new s) m
