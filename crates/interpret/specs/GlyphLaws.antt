-- Laws of a glyph's run: what it answers is over the glyph's unfolding, and the rows that it meets are a run's.
use Rattle.std.specs.Prelude.{ℕ, ◌≡◌, Bool, true, false, Ok, Err}
use Rattle.std.proofs.Math.Path.{refl, ap, subst}
use Rattle.std.proofs.Common.{sym, ◌∙◌, arith}
use mathlib.Core.List.{List, [], ◌∷◌}
use Rattle.std.proofs.Math.ListN.{length}
use Rattle.unfold.specs.Unfold.{Row, glyph, Run, broken as broke, returned as back, ended as done, run_body, Tok, Glyph, plain, glyph_of, unfold_glyph}
use Rattle.unfold.specs.Unfold as bodies
use Rattle.prune.specs.Bodies.{All}
use Rattle.row_window.specs.Filled.{keeps_none}
use Rattle.row_window.specs.declared.filling.Filling.{Filling}
use Rattle.turns.specs.Turns.{Few}
use Rattle.turns.specs.TargetLaws.{zero_one}
use Rattle.interpret.specs.Trace.{Trace, trace_body, fresh}
use Rattle.interpret.specs.TraceLaws.{tell, meets-none, body_as}
use Rattle.interpret.specs.Rows.{own, RowMet, Proper}
use Rattle.interpret.specs.RowsLaws.{proper_body}
use Rattle.interpret.specs.Run.{globals_in, locals_in, Ran, Telling, Tells, Meeting, Meets}
use Rattle.interpret.specs.RunLaws.{notes_none}
use Rattle.interpret.specs.declared.Subrs.{Subrs}
use Rattle.interpret.specs.declared.Range.{Range}
use Rattle.interpret.specs.declared.End.TheVariants.{Returned, Ended}

pub fresh-few : Few fresh
fresh-few = record { operands = omega arith; hints = omega arith }

-- a glyph's unfolding without its tokens
glyph_as : (globals locals : List (List ℕ)) (fd g : ℕ) (s : List ℕ) → tell (run_body globals locals fd 10 (glyph g) s bodies.fresh) ≡ trace_body globals locals fd 10 (glyph g) s fresh
glyph_as globals locals fd g s = body_as globals locals fd 10 (glyph g) s bodies.fresh ∙ meets-none _

-- ---- the rows of a plain glyph

-- THE LAW: each row that a plain glyph meets is one that it can meet
pub rows-met : (globals locals : List (List ℕ)) (fd g : ℕ) (s : List ℕ) (ts : List Tok) (rows : List Row) → unfold_glyph globals locals fd g s ≡ plain ts rows
    → All (RowMet globals locals fd g s) rows
unfolding unfold_glyph
rows-met globals locals fd g [] ts rows e = let k : [] ≡ rows = cc in subst (All (RowMet globals locals fd g [])) k All.empty
rows-met globals locals fd g (b ∷ bs) ts rows e =
    by (run_body globals locals fd 10 (glyph g) (b ∷ bs) bodies.fresh) (glyph_as globals locals fd g (b ∷ bs))
    (proper_body globals locals fd g (b ∷ bs) 10 (glyph g) (b ∷ bs) fresh own fresh-few) e
  where
    by : (r : Run) → tell r ≡ trace_body globals locals fd 10 (glyph g) (b ∷ bs) fresh → Proper globals locals fd g (b ∷ bs) (trace_body globals locals fd 10 (glyph g) (b ∷ bs) fresh)
        → glyph_of r ≡ plain ts rows → All (RowMet globals locals fd g (b ∷ bs)) rows
    by broke f p k = absurd (zero_one cc)
    by (back st) f p k = absurd (zero_one cc)
    by (done st) f p k = let m : st.met ≡ rows = cc in subst (All (RowMet globals locals fd g (b ∷ bs))) m (subst (Proper globals locals fd g (b ∷ bs)) (sym f) p)

-- ---- the ways out of the code

module _ (font : List ℕ) (q : Subrs) (g : ℕ) (code : List ℕ) (range : Range) (old : Filling) where
  abbrev unfolded : List ℕ → Glyph
  unfolded s = unfold_glyph (globals_in font q) (locals_in font q) q.fd g s

  -- an empty charstring
  pub glyph_empty : length code ≡ 0 → Meets (unfold_glyph (globals_in font q) (locals_in font q) q.fd g code) range old old true
  unfolding unfold_glyph
  glyph_empty e = by code e
    where
      by : (s : List ℕ) → length s ≡ 0 → Meets (unfolded s) range old old true
      by [] k = record { says = (refl, notes_none range old); keeps = keeps_none old }
      by (b ∷ bs) k = absurd (omega (arith, k))

  -- any other: by how its run ends
  abbrev met_by : Ran → Bool
  met_by (Err e) = false
  met_by (Ok (Returned x)) = false
  met_by (Ok Ended) = true

  pub glyph_ran : (length code ≡ 0 → ⊥) → {new : Filling} {a : Ran} → Tells (trace_body (globals_in font q) (locals_in font q) q.fd 10 (glyph g) code fresh) range old new a
      → (b : Ran) → a ≡ b → Meets (unfold_glyph (globals_in font q) (locals_in font q) q.fd g code) range old new (met_by b)
  unfolding unfold_glyph
  glyph_ran h {new} {a} u b f = record { says = subst (λ (r : Ran). Meeting (unfolded code) range old new (met_by r)) f (by code h u.says); keeps = u.keeps }
    where
      told : (r : Run) → Telling (tell r) range old new a → Meeting (glyph_of r) range old new (met_by a)
      told broke p = ap met_by p
      told (back st) p = ap met_by p.0
      told (done st) p = (ap met_by p.0, p.1)

      by : (s : List ℕ) → (length s ≡ 0 → ⊥) → Telling (trace_body (globals_in font q) (locals_in font q) q.fd 10 (glyph g) s fresh) range old new a
          → Meeting (unfolded s) range old new (met_by a)
      by [] k p = absurd (k refl)
      by (c ∷ cs) k p =
          told (run_body (globals_in font q) (locals_in font q) q.fd 10 (glyph g) (c ∷ cs) bodies.fresh)
          (subst (λ (t : Trace). Telling t range old new a) (sym (glyph_as (globals_in font q) (locals_in font q) q.fd g (c ∷ cs))) p)
