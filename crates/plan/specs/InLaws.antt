-- What measuring asks is there once all subroutines are ranked and the words hold the kept glyphs.
use Rattle.std.specs.Prelude.{ℕ, ◌≤◌, ◌<◌, ◌≡◌, refl, Bool, true, List, [], ◌∷◌, length, get_or}
use Rattle.std.proofs.Common.{sym, ◌∙◌, subst, arith}
use Rattle.bits.specs.Bits.{count_below}
use Rattle.unfold.specs.Unfold.{Row}
use Rattle.index.specs.IndexLaws.{items-length}
use Rattle.cff.specs.Reads.{GoodFont, program_of}
use Rattle.order_window.specs.declared.Order.{Order}
use Rattle.order_window.specs.Window.{glyphs_of}
use Rattle.subset.specs.Kept.{is_in, locals_of}
use Rattle.subset.specs.Pruned.{local_set, global_set}
use Rattle.subset.specs.KeptListLaws.{in_head, those_in}
use Rattle.faithful.specs.Laid.{GoodProgram}
use Rattle.reach.specs.Reach.{rises}
use Rattle.renumber.specs.Ranks.{Ranked}
use Rattle.renumber.specs.declared.Ranks.{Ranks}
use Rattle.bodies.specs.Ways.{no_ranks, ranks_in}
use Rattle.fds.specs.Locals.{in_use_lem, fds_in, UsedOf}
use Rattle.plan.specs.Ranked.{AllRanked}
use Rattle.plan.specs.Sizes.{across_by, FdsUsed, MeasureIn}
use Rattle.plan.specs.StandsLaws.{stands_ranked}
use Rattle.subset.specs.declared.Way.{Way}

-- no bits are counted
none-ranked : (ws : List ℕ) → Ranked ws no_ranks
unfolding count_below
none-ranked ws = record { inside = omega arith; few = omega arith; few_reached = omega arith; reaches = refl; low = refl; high = refl }

module _ (b : List ℕ) (o : Order) (font : GoodFont b o.f) (good : GoodProgram (program_of b o.f)) (rows : List Row) (used ws : List ℕ)
    (globals : Ranks) (table : List Ranks) (h : AllRanked (program_of b o.f) rows used ws globals table) where
  local_ranked : (x : ℕ) → x < 256 → in_use_lem used x ≡ true → Ranked ws (ranks_in table x)
  local_ranked x k u =
      stands_ranked ws (ranks_in table x) (local_set rows x) (length (locals_of (program_of b o.f) x)) (h.local_ranks x k u) (good.locals x).count

  global_ranked : Ranked ws globals
  global_ranked = stands_ranked ws globals (global_set rows) (length (program_of b o.f).globals) h.global_ranks good.globals.count

  across-ranked : (fs : List ℕ) → fds_in used ≡ fs → Ranked ws (across_by table fs)
  across-ranked [] e = none-ranked ws
  across-ranked (x ∷ []) e =
      let m : is_in x (fds_in used) ≡ true = subst (λ (l : List ℕ). is_in x l ≡ true) (sym e) (in_head x x [] refl) in
      let t = those_in (in_use_lem used) 256 0 x m in
      let k : x < 256 = omega (arith, t.1) in
      local_ranked x k t.2
  across-ranked (x ∷ y ∷ fs) e = none-ranked ws

  pub measure_in : (way : Way) (rising : Bool) → FdsUsed (program_of b o.f) used (glyphs_of b o.f ws) → o.count ≡ length (glyphs_of b o.f ws)
      → length b ≤ 67108864 → 256 ≤ length used → 256 ≤ length table → UsedOf (length (program_of b o.f).privates) used → (rising ≡ true → rises rows ≡ true)
      → MeasureIn b o used ws (record { way = way; globals = globals; rising = rising }) table rows
  measure_in way rising within many size u a fds sorted =
      let fd : ℕ → ℕ = λ i. get_or (program_of b o.f).fds (get_or (glyphs_of b o.f ws) i 0) 0 in
      record {
        font = font;
        tables = record { size = size; used_long = u; table_long = a; fds = fds };
        locals = record {
          many = λ x l v. (h.local_ranks x l v).many;
          ranks = local_ranked;
          global_ranks = global_ranked;
          order = sorted;
        };
        subrs = record {
          good = font.begun.globals-held.good;
          few = font.begun.globals-held.few;
          size = size;
          many = h.global_ranks.many ∙ items-length b o.f.globals;
          inside = h.global_ranks.inside;
          local_ranks = across-ranked (fds_in used) refl;
          global_ranks = global_ranked;
          order = sorted;
          fits = tt;
        };
        glyphs = record {
          size = size;
          table_long = a;
          fds = λ i l. good.fds (get_or (glyphs_of b o.f ws) i 0);
          local_ranks = λ i l. local_ranked (fd i) (good.fds (get_or (glyphs_of b o.f ws) i 0)) (within i (omega (arith, many)));
          global_ranks = global_ranked;
          order = sorted;
        };
      }
