-- The bodies of a subset by the way (document 01, 'Corners in write.rs'), and which way it is.
use Rattle.std.specs.Prelude.{ℕ, Bool, true, false, List, [], ◌∷◌, eqb, get_or, Option}
use Rattle.octets.specs.Pick.{pick}
use Rattle.unfold.specs.Unfold.{Row, glyph, local, global}
use Rattle.cff.specs.Font.{Program}
use Rattle.subset.specs.Kept.{locals_of}
use Rattle.subset.specs.Pruned.{Bodies, mapped, local_set, global_set, renumbered_body, renumbered_subrs, calls_in, calls_across, renumbered}
use Rattle.bodies.specs.Ways.{holds, new_body, new_subrs}
use Rattle.subset.specs.declared.Way.TheVariants.{Renumbered, Stubbed, Copied}
use Rattle.subset.specs.declared.Way.{Way}

-- each of a list holds
unfoldable pub all_hold : {A : Type 0} → (ℕ → Option A) → List ℕ → Bool
all_hold f [] = true
all_hold f (k ∷ ks) = pick (holds (f k)) (all_hold f ks) false

module _ (p : Program) (rows : List Row) where
  -- the globals renumbered where some FDs are in use, the locals of an FD, the charstring of a glyph
  abbrev pub renumbered_globals : List ℕ → Option (List (List ℕ))
  renumbered_globals used = renumbered_subrs rows (global_set rows) (calls_across p rows used) global p.globals

  abbrev pub renumbered_locals : ℕ → Option (List (List ℕ))
  renumbered_locals f = renumbered_subrs rows (local_set rows f) (calls_in p rows f) (local f) (locals_of p f)

  abbrev pub renumbered_glyph : ℕ → Option (List ℕ)
  renumbered_glyph g = renumbered_body rows (calls_in p rows (get_or p.fds g 0)) (glyph g) (get_or p.charstrings g [])

  -- the bodies by the way
  unfoldable pub bodies_by : Way → List ℕ → List ℕ → Bodies
  bodies_by way used order =
      record {
        globals = new_subrs way rows (global_set rows) (calls_across p rows used) global p.globals;
        locals = mapped (λ f. new_subrs way rows (local_set rows f) (calls_in p rows f) (local f) (locals_of p f)) used;
        charstrings = mapped (λ g. new_body way rows (calls_in p rows (get_or p.fds g 0)) (glyph g) (get_or p.charstrings g [])) order;
      }

  -- whether the renumbering of the font does not fail
  abbrev pub renumbers : List ℕ → List ℕ → Bool
  renumbers used order = holds (renumbered p rows used order)

  -- the way: by the flag, and whether the renumbering fails
  abbrev pub way_of : List ℕ → List ℕ → ℕ → Way
  way_of used order flag = pick (eqb flag 0) Copied (pick (renumbers used order) Renumbered Stubbed)
