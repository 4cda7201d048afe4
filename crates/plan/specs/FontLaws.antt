-- The bodies that the work words and the tables give by the way are those of the subset, and no part fails exactly where the font can be
-- renumbered.
use Rattle.std.specs.Prelude.{ℕ, zero, suc, ◌<◌, ◌≡◌, refl, true, List, [], ◌∷◌, length, get_or}
use Rattle.std.proofs.Common.{sym, ap, ◌∙◌, subst, ⊎_elim, arith, eqb-true}
use Rattle.std.proofs.Math.Path.{fun_ext}
use Rattle.octets.specs.Octets.{Octets}
use Rattle.octets.specs.PickLaws.{both_hold}
use Rattle.record.specs.Record.{rows_of}
use Rattle.unfold.specs.Unfold.{Row, glyph, local, global}
use Rattle.prune.specs.StepLaws.{zero_one}
use Rattle.cff.specs.Font.{Program}
use Rattle.subset.specs.Kept.{is_in, locals_of, fds_of}
use Rattle.bits.specs.Bits.{count_below}
use Rattle.subset.specs.Pruned.{each, reached, local_set, global_set, calls_in, calls_across}
use Rattle.subset.specs.KeptListLaws.{in_none, in_head, in_cases, those-has, those_in}
use Rattle.faithful.specs.Laid.{GoodProgram}
use Rattle.renumber.specs.Ranks.{calls_by}
use Rattle.renumber.specs.RanksLaws.{HoldsRanks, calls-in, calls-across, calls-across-none}
use Rattle.renumber.specs.HoldsLaws.{narrow_set}
use Rattle.renumber.specs.declared.Ranks.{Ranks}
use Rattle.bodies.specs.Ways.{body_by, subrs_by, reached_in, no_ranks, ranks_in}
use Rattle.fds.specs.Locals.{in_use_lem, fds_in, numbered, all_numbered}
use Rattle.fds.specs.NewLocals.{locals_by}
use Rattle.plan.specs.Ranked.{AllRanked, globals_numbered, every_numbered}
use Rattle.plan.specs.Sizes.{across_by, FdsUsed, globals_by, glyphs_by, Narrow}
use Rattle.plan.specs.StandsLaws.{stands_reached, stands_holds, stands_all}
use Rattle.plan.specs.SameLaws.{body_same, subrs-same, each-alike}
use Rattle.subset.specs.Way.{is_renumbered}
use Rattle.subset.specs.declared.Way.{Way}

-- rows of bytes have numbers of two bytes
pub narrow_rows : (b : List ℕ) → Octets b → Narrow (rows_of b)
narrow_rows b o = record { globals = λ i h. narrow_set b o 1 0 i h; locals = λ f i h. narrow_set b o 0 f i h }

-- ---- numbers that all have a subroutine

-- of an FD among those in use
numbered_of : (p : Program) (rows : List Row) (fs : List ℕ) (f : ℕ) → all_numbered p rows fs ≡ true → is_in f fs ≡ true → numbered p rows f ≡ true
unfolding all_numbered
numbered_of p rows [] f e h = absurd (in_none f h)
numbered_of p rows (x ∷ fs) f e h =
    let b = both_hold (numbered p rows x) (all_numbered p rows fs) e in
    ⊎_elim (λ z. ap (numbered p rows) (sym z) ∙ b.0) (λ m. numbered_of p rows fs f b.1 m) (in_cases x f fs h)

-- the FD at a place of a list
pub fds_at : (p : Program) (order : List ℕ) (i : ℕ) → i < length order → get_or (fds_of p order) i 0 ≡ get_or p.fds (get_or order i 0) 0
unfolding fds_of
fds_at p [] i h = absurd (zero_one (omega arith))
fds_at p (g ∷ order) zero h = refl
fds_at p (g ∷ order) (suc i) h = fds_at p order i (omega arith)

module _ (p : Program) (good : GoodProgram p) (rows : List Row) (narrow : Narrow rows) (used ws : List ℕ) (globals : Ranks) (table : List Ranks)
    (h : AllRanked p rows used ws globals table) (way : Way) (all : is_renumbered way ≡ true → every_numbered p rows (fds_in used) ≡ true) where
  globals-all : is_renumbered way ≡ true → reached (global_set rows) ≡ count_below (global_set rows) (length p.globals)
  globals-all z = eqb-true _ _ (both_hold (globals_numbered p rows) (all_numbered p rows (fds_in used)) (all z)).0

  globals_hold : is_renumbered way ≡ true → HoldsRanks ws globals (global_set rows)
  globals_hold z = stands_holds ws globals (global_set rows) (length p.globals) h.global_ranks good.globals.count (globals-all z) narrow.globals

  module _ (f : ℕ) (k : f < 256) (u : in_use_lem used f ≡ true) where
    locals-all : is_renumbered way ≡ true → reached (local_set rows f) ≡ count_below (local_set rows f) (length (locals_of p f))
    locals-all z =
        eqb-true _ _ (numbered_of p rows (fds_in used) f (both_hold (globals_numbered p rows) (all_numbered p rows (fds_in used)) (all z)).1
        (those-has (in_use_lem used) 256 0 f (omega arith) (omega arith) u))

    locals_hold : is_renumbered way ≡ true → HoldsRanks ws (ranks_in table f) (local_set rows f)
    locals_hold z =
        stands_holds ws (ranks_in table f) (local_set rows f) (length (locals_of p f)) (h.local_ranks f k u) (good.locals f).count (locals-all z) (narrow.locals f)

    calls_same : is_renumbered way ≡ true → calls_by ws (ranks_in table f) globals ≡ calls_in p rows f
    calls_same z =
        fun_ext (λ b. fun_ext (λ y.
        calls-in p rows ws (ranks_in table f) globals (globals_hold z) h.global_ranks.many f (locals_hold z) (h.local_ranks f k u).many b y))

    -- the new locals of an FD in use
    pub locals_same : locals_by way p rows ws table globals f ≡ subrs_by way rows (local_set rows f) (calls_in p rows f) (local f) (locals_of p f)
    locals_same =
        let own = ranks_in table f in
        subrs-same way rows (reached_in ws own) (local_set rows f) (calls_by ws own globals) (calls_in p rows f) (local f) (locals_of p f)
        (λ i l. stands_reached ws own (local_set rows f) (length (locals_of p f)) (h.local_ranks f k u) i l)
        (λ z. (
          fun_ext (stands_all ws own (local_set rows f) (length (locals_of p f)) (h.local_ranks f k u) (good.locals f).count (locals-all z) (narrow.locals f)),
          calls_same z,
        ))

  across-same : is_renumbered way ≡ true → (fs : List ℕ) → fds_in used ≡ fs → calls_by ws (across_by table fs) globals ≡ calls_across p rows fs
  across-same z [] e = fun_ext (λ b. fun_ext (λ y. calls-across-none p rows ws no_ranks globals (globals_hold z) h.global_ranks.many refl b y))
  across-same z (f ∷ []) e =
      let m : is_in f (fds_in used) ≡ true = subst (λ (l : List ℕ). is_in f l ≡ true) (sym e) (in_head f f [] refl) in
      let t = those_in (in_use_lem used) 256 0 f m in
      let k : f < 256 = omega (arith, t.1) in
      calls_same f k t.2 z
  across-same z (f ∷ g ∷ fs) e =
      fun_ext (λ b. fun_ext (λ y. calls-across p rows ws no_ranks globals (globals_hold z) h.global_ranks.many refl f g fs b y))

  module _ (order : List ℕ) where
    -- the new globals
    pub globals-same : globals_by way p rows ws used table globals order
        ≡ subrs_by way rows (global_set rows) (calls_across p rows (fds_in used)) global p.globals
    globals-same =
        subrs-same way rows (reached_in ws globals) (global_set rows) (calls_by ws (across_by table (fds_in used)) globals) (calls_across p rows (fds_in used))
        global p.globals
        (λ i l. stands_reached ws globals (global_set rows) (length p.globals) h.global_ranks i l)
        (λ z. (
          fun_ext (stands_all ws globals (global_set rows) (length p.globals) h.global_ranks good.globals.count (globals-all z) narrow.globals),
          across-same z (fds_in used) refl,
        ))

    -- the new charstrings of glyphs whose FDs are in use
    pub glyphs-same : FdsUsed p used order
        → glyphs_by way p rows ws used table globals order
        ≡ each (λ g. body_by way rows (calls_in p rows (get_or p.fds g 0)) (glyph g) (get_or p.charstrings g [])) order
    glyphs-same within = each-alike _ _ order (λ i l.
        let g = get_or order i 0 in
        body_same way rows _ (calls_in p rows (get_or p.fds g 0)) (glyph g) (get_or p.charstrings g []) (calls_same (get_or p.fds g 0) (good.fds g) (within i l)))
