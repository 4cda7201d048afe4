-- What becomes of charstrings and subroutines (document 01, 'Corners in write.rs'; the Rust's prune and prune_cid, renumber and renumber_cid, stubbed): renumbered, or stubbed,
-- or copied. A name-keyed font has one FD, 0.
use Rattle.std.specs.Prelude.{ℕ, ◌+◌, Bool, List, [], ◌∷◌, eqb, ℤ, length, get_or, None, Option, Some}
use Rattle.octets.specs.Pick.{pick}
use Rattle.octets.specs.Steps.{and}
use Rattle.bits.specs.Bits.{count_below}
use Rattle.charstring.specs.Bias.{bias_of}
use Rattle.unfold.specs.Unfold.{Row, Site, glyph, local, global, entered}
use Rattle.prune.specs.Renumber.{operand_of, Calls, renumber_charstring}
use Rattle.record.specs.Record.{lists, given_in, two_lengths_lem}
use Rattle.cff.specs.Font.{Program}
use Rattle.subset.specs.Kept.{those, locals_of}
use Rattle.subset.specs.declared.Way.{Way}
use Rattle.subset.specs.declared.Way.TheVariants.{Renumbered, Stubbed, Copied}

-- the global subroutines, the local ones of each FD in use, and the charstrings as they are written
pub record Bodies : Type 0 where
  pub globals : List (List ℕ)
  pub locals : List (List (List ℕ))
  pub charstrings : List (List ℕ)

-- ---- ranks

-- the new number of a subroutine: how many reached ones are below it
abbrev pub rank : (ℕ → Bool) → ℕ → Option ℕ
rank set i = pick (set i) (Some (count_below set i)) None

-- how many are reached; a row's number has two bytes
abbrev pub reached : (ℕ → Bool) → ℕ
reached set = count_below set 65536

-- each of a list
unfoldable pub each : {A : Type 0} → (ℕ → Option A) → List ℕ → Option (List A)
each f [] = Some []
each f (k ∷ ks) = and (f k) (λ b. and (each f ks) (λ bs. Some (b ∷ bs)))

-- what a record has of the local subroutines of an FD, and of the globals
abbrev pub local_set : List Row → ℕ → ℕ → Bool
local_set rows f k = lists rows (entered (local f k))

abbrev pub global_set : List Row → ℕ → Bool
global_set rows k = lists rows (entered (global k))

-- a body, with the lengths that the record gives for its masks; two lengths at one offset fail
unfoldable pub renumbered_body : List Row → Calls → Site → List ℕ → Option (List ℕ)
renumbered_body rows calls site s = pick (two_lengths_lem rows site) None (renumber_charstring calls (given_in rows site) s)

-- the reached ones of some subroutines; a number without a subroutine fails
unfoldable pub renumbered_subrs : List Row → (ℕ → Bool) → Calls → (ℕ → Site) → List (List ℕ) → Option (List (List ℕ))
renumbered_subrs rows set calls site subrs =
    pick (eqb (reached set) (count_below set (length subrs)))
    (each (λ k. renumbered_body rows calls (site k) (get_or subrs k [])) (those set (length subrs) 0)) None

-- each unreached subroutine is a return
unfoldable pub stubbed_from : (ℕ → Bool) → ℕ → List (List ℕ) → List (List ℕ)
stubbed_from set k [] = []
stubbed_from set k (s ∷ ss) = pick (set k) s (11 ∷ []) ∷ stubbed_from set (k + 1) ss

unfoldable pub mapped : {A : Type 0} → (ℕ → A) → List ℕ → List A
mapped f [] = []
mapped f (x ∷ xs) = f x ∷ mapped f xs

-- ---- a font's

module _ (p : Program) (rows : List Row) where
  -- what becomes of the operand of a call of a local subroutine of an FD, and of a global one
  abbrev pub local_operand : ℕ → ℤ → Option ℤ
  local_operand f z = operand_of (rank (local_set rows f)) (bias_of (length (locals_of p f))) (bias_of (reached (local_set rows f))) z

  abbrev pub global_operand : ℤ → Option ℤ
  global_operand z = operand_of (rank (global_set rows)) (bias_of (length p.globals)) (bias_of (reached (global_set rows))) z

  -- the calls of a glyph or a local subroutine of an FD; those of a global one, which may call a local one only where one FD is in use
  abbrev pub calls_in : ℕ → Calls
  calls_in f b z = pick (eqb b 10) (local_operand f z) (global_operand z)

  abbrev pub calls_across : List ℕ → Calls
  calls_across [] b z = pick (eqb b 10) None (global_operand z)
  calls_across (f ∷ []) b z = calls_in f b z
  calls_across (f ∷ g ∷ fs) b z = pick (eqb b 10) None (global_operand z)

-- renumbered: the FDs in use, and the order in which the glyphs are written
unfoldable pub renumbered : Program → List Row → List ℕ → List ℕ → Option Bodies
renumbered p rows used order =
    and (renumbered_subrs rows (global_set rows) (calls_across p rows used) global p.globals) (λ gs.
    and (each (λ f. renumbered_subrs rows (local_set rows f) (calls_in p rows f) (local f) (locals_of p f)) used) (λ ls.
    and (each (λ g. renumbered_body rows (calls_in p rows (get_or p.fds g 0)) (glyph g) (get_or p.charstrings g [])) order) (λ cs.
    Some (record { globals = gs; locals = ls; charstrings = cs }))))

abbrev pub charstrings_of : Program → List ℕ → List (List ℕ)
charstrings_of p order = mapped (λ g. get_or p.charstrings g []) order

unfoldable pub stubbed : Program → List Row → List ℕ → List ℕ → Bodies
stubbed p rows used order =
    record {
      globals = stubbed_from (global_set rows) 0 p.globals;
      locals = mapped (λ f. stubbed_from (local_set rows f) 0 (locals_of p f)) used;
      charstrings = charstrings_of p order;
    }

unfoldable pub copied : Program → List ℕ → List ℕ → Bodies
copied p used order = record { globals = p.globals; locals = mapped (locals_of p) used; charstrings = charstrings_of p order }

-- ---- the way: renumbered, stubbed where that fails, copied where the glyphs could not be traced

pub record Pruned : Type 0 where
  pub way : Way
  pub bodies : Bodies

abbrev pub or_stubbed : Option Bodies → Bodies → Pruned
or_stubbed None s = record { way = Stubbed; bodies = s }
or_stubbed (Some b) s = record { way = Renumbered; bodies = b }

unfoldable pub pruned : Program → List Row → List ℕ → List ℕ → ℕ → Pruned
pruned p rows used order flag =
    pick (eqb flag 0) (record { way = Copied; bodies = copied p used order }) (or_stubbed (renumbered p rows used order) (stubbed p rows used order))
