-- Which way it is: no part fails exactly where the font can be renumbered, and a number without a subroutine fails it; and the bodies by
-- the way are those of the subset.
use Rattle.std.specs.Prelude.{ℕ, ◌<◌, ◌≡◌, refl, Bool, true, false, List, [], ◌∷◌, eqb, length, get_or, None, Option}
use Rattle.std.proofs.Math.Path.{sym, ap}
use Rattle.std.proofs.Common.{◌∙◌, arith}
use Rattle.octets.specs.Pick.{pick}
use Rattle.octets.specs.PickLaws.{pick_same}
use Rattle.unfold.specs.Unfold.{Row, glyph, local, global}
use Rattle.prune.specs.StepLaws.{zero_one}
use Rattle.cff.specs.Font.{Program}
use Rattle.subset.specs.Kept.{is_in, those, locals_of}
use Rattle.subset.specs.Pruned.{Pruned, each, local_set, global_set, renumbered_subrs, calls_in, calls_across, renumbered_body, pruned}
use Rattle.subset.specs.KeptListLaws.{those_in}
use Rattle.faithful.specs.Laid.{GoodProgram}
use Rattle.renumber.specs.declared.Ranks.{Ranks}
use Rattle.bodies.specs.Ways.{many_of, holds, body_by, new_subrs}
use Rattle.bodies.specs.Pruning.{all_hold, renumbered_globals, renumbered_locals, renumbered_glyph, bodies_by, renumbers}
use Rattle.bodies.specs.SubrsLaws.{new-subrs_is}
use Rattle.bodies.specs.WaysLaws.{holds-each, renumbers-parts, pruned-by}
use Rattle.fds.specs.Locals.{in_use_lem, fds_in, numbered, all_numbered}
use Rattle.fds.specs.NewLocals.{locals_by, new_locals}
use Rattle.plan.specs.Ranked.{AllRanked, globals_numbered, every_numbered}
use Rattle.plan.specs.Sizes.{FdsUsed, globals_by, glyphs_by, all_made, way_by, Narrow}
use Rattle.plan.specs.SameLaws.{hold_same}
use Rattle.plan.specs.FontLaws.{locals_same, globals-same, glyphs-same}
use Rattle.subset.specs.Way.{is_renumbered}
use Rattle.subset.specs.declared.Way.{Way}
use Rattle.subset.specs.declared.Way.TheVariants.{Renumbered, Stubbed, Copied}
use Rattle.subset.specs.Flag.{flag_of}

-- ---- a number without a subroutine

no_number : (rows : List Row) (p : Program) (f : ℕ) → numbered p rows f ≡ false → holds (renumbered_locals p rows f) ≡ false
unfolding renumbered_subrs
no_number rows p f e =
    ap (λ (t : Bool). holds (pick t (each (λ k. renumbered_body rows (calls_in p rows f) (local f k) (get_or (locals_of p f) k [])) (those (local_set rows f) (length (locals_of p f)) 0)) None)) e

no_numbers : (rows : List Row) (p : Program) (fs : List ℕ) → all_numbered p rows fs ≡ false → all_hold (renumbered_locals p rows) fs ≡ false
unfolding all_numbered all_hold
no_numbers rows p [] e = absurd (zero_one cc)
no_numbers rows p (f ∷ fs) e = go (numbered p rows f) refl (λ m. no_numbers rows p fs m) e
  where
    go : (t : Bool) → numbered p rows f ≡ t → (all_numbered p rows fs ≡ false → all_hold (renumbered_locals p rows) fs ≡ false)
        → pick t (all_numbered p rows fs) false ≡ false
        → pick (holds (renumbered_locals p rows f)) (all_hold (renumbered_locals p rows) fs) false ≡ false
    go true n more h = ap (λ (b : Bool). pick (holds (renumbered_locals p rows f)) b false) (more h) ∙ pick_same (holds (renumbered_locals p rows f)) false
    go false n more h = ap (λ (b : Bool). pick b (all_hold (renumbered_locals p rows) fs) false) (no_number rows p f n)

-- a font whose record has a number without a subroutine is not renumbered
pub unnumbered_fails : (p : Program) (rows : List Row) (used order : List ℕ) → every_numbered p rows used ≡ false → renumbers p rows used order ≡ false
unfolding renumbered_subrs
unnumbered_fails p rows used order e = renumbers-parts p rows used order ∙ go (globals_numbered p rows) refl e
  where
    go : (t : Bool) → globals_numbered p rows ≡ t → pick t (all_numbered p rows used) false ≡ false
        → pick (holds (renumbered_globals p rows used)) (pick (all_hold (renumbered_locals p rows) used) (all_hold (renumbered_glyph p rows) order) false) false ≡ false
    go true n h =
        ap (λ (b : Bool). pick (holds (renumbered_globals p rows used)) (pick b (all_hold (renumbered_glyph p rows) order) false) false) (no_numbers rows p used h)
        ∙ pick_same (holds (renumbered_globals p rows used)) false
    go false n h =
        ap (λ (t : Bool). pick (holds (pick t (each (λ k. renumbered_body rows (calls_across p rows used) (global k) (get_or p.globals k [])) (those (global_set rows) (length p.globals) 0)) None))
        (pick (all_hold (renumbered_locals p rows) used) (all_hold (renumbered_glyph p rows) order) false) false) n

module _ (p : Program) (good : GoodProgram p) (rows : List Row) (narrow : Narrow rows) (used ws : List ℕ) (globals : Ranks) (table : List Ranks)
    (h : AllRanked p rows used ws globals table) (order : List ℕ) (within : FdsUsed p used order) where
  -- an FD among those in use
  in_use : (f : ℕ) → is_in f (fds_in used) ≡ true → (f < 256) × (in_use_lem used f ≡ true)
  in_use f m = let t = those_in (in_use_lem used) 256 0 f m in let b : f < 256 = omega (arith, t.1) in (b, t.2)

  -- no part fails where the font can be renumbered
  pub made-renumbers : every_numbered p rows (fds_in used) ≡ true → all_made Renumbered p rows ws used table globals order ≡ renumbers p rows (fds_in used) order
  made-renumbers all =
      let gs = globals-same p good rows narrow used ws globals table h Renumbered (λ z. all) order in
      let cs = glyphs-same p good rows narrow used ws globals table h Renumbered (λ z. all) order within in
      let ls = hold_same (locals_by Renumbered p rows ws table globals) (renumbered_locals p rows) (fds_in used)
      (λ f m. locals_same p good rows narrow used ws globals table h Renumbered (λ z. all) f (in_use f m).0 (in_use f m).1) in
      ap (λ (m : Option (List (List ℕ))). pick (holds m) (pick (all_hold (locals_by Renumbered p rows ws table globals) (fds_in used)) (holds (glyphs_by Renumbered p rows ws used table globals order)) false) false) gs
      ∙ ap (λ (b : Bool). pick (holds (renumbered_globals p rows (fds_in used))) (pick b (holds (glyphs_by Renumbered p rows ws used table globals order)) false) false) ls
      ∙ ap (λ (b : Bool). pick (holds (renumbered_globals p rows (fds_in used))) (pick (all_hold (renumbered_locals p rows) (fds_in used)) b false) false)
      (ap holds cs ∙ holds-each (renumbered_glyph p rows) order)
      ∙ sym (renumbers-parts p rows (fds_in used) order)

  module _ (way : Way) (all : is_renumbered way ≡ true → every_numbered p rows (fds_in used) ≡ true) where
    -- the globals of the subset, by the way
    pub new-globals : many_of (globals_by way p rows ws used table globals order) ≡ (bodies_by p rows way (fds_in used) order).globals
    unfolding bodies_by
    new-globals =
        ap many_of (globals-same p good rows narrow used ws globals table h way all order)
        ∙ sym (new-subrs_is way rows (global_set rows) (calls_across p rows (fds_in used)) global p.globals)

    -- the locals of an FD in use
    pub new-locals : (f : ℕ) → f < 256 → in_use_lem used f ≡ true
        → new_locals way p rows ws table globals f ≡ new_subrs way rows (local_set rows f) (calls_in p rows f) (local f) (locals_of p f)
    new-locals f b u =
        new-subrs_is way rows _ _ (local f) (locals_of p f)
        ∙ ap many_of (locals_same p good rows narrow used ws globals table h way all f b u)
        ∙ sym (new-subrs_is way rows (local_set rows f) (calls_in p rows f) (local f) (locals_of p f))

    -- the charstrings of the subset, or that their renumbering fails
    pub new-glyphs : glyphs_by way p rows ws used table globals order
        ≡ each (λ g. body_by way rows (calls_in p rows (get_or p.fds g 0)) (glyph g) (get_or p.charstrings g [])) order
    new-glyphs = glyphs-same p good rows narrow used ws globals table h way all order within

  -- the way that is found is that of the subset
  pub way_is : (traced : ℕ) (all : Bool) → all ≡ every_numbered p rows (fds_in used)
      → way_by traced all (all_made Renumbered p rows ws used table globals order) ≡ (pruned p rows (fds_in used) order traced).way
  way_is traced all e =
      ap (λ (w : Way). pick (eqb traced 0) Copied w)
      (ap (λ (t : Bool). pick t (pick (all_made Renumbered p rows ws used table globals order) Renumbered Stubbed) Stubbed) e ∙ go (every_numbered p rows (fds_in used)) refl)
      ∙ sym (ap (λ (q : Pruned). q.way) (pruned-by p rows (fds_in used) order traced))
    where
      go : (t : Bool) → every_numbered p rows (fds_in used) ≡ t
          → pick t (pick (all_made Renumbered p rows ws used table globals order) Renumbered Stubbed) Stubbed ≡ pick (renumbers p rows (fds_in used) order) Renumbered Stubbed
      go true n = ap (λ (b : Bool). pick b Renumbered Stubbed) (made-renumbers n)
      go false n = sym (ap (λ (b : Bool). pick b Renumbered Stubbed) (unnumbered_fails p rows (fds_in used) order n))

  -- the same of a flag that is set or not
  pub way_flagged : (traced all : Bool) → all ≡ every_numbered p rows (fds_in used)
      → pick traced (pick all (pick (all_made Renumbered p rows ws used table globals order) Renumbered Stubbed) Stubbed) Copied ≡ (pruned p rows (fds_in used) order (flag_of traced)).way
  way_flagged false all e = way_is 0 all e
  way_flagged true all e = way_is 1 all e
