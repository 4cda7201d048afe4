-- The bodies of a subset are the same for fonts that are alike where they are asked: renumbered or stubbed the subroutines that the record lists as reached,
-- in FDs in use; copied all of these FDs and all globals; and of the charstrings the kept ones.
use Rattle.std.specs.Prelude.{ℕ, ◌<◌, ◌≡◌, refl, Bool, true, false, eqb, ℤ, length, get_or, None, Option, Some}
use Rattle.std.proofs.Common.{sym, ◌∙◌, arith, eqb-true, ext_get_or}
use Rattle.std.proofs.Math.Path.{ap}
use mathlib.Core.List.{List, [], ◌∷◌}
use Rattle.octets.specs.Pick.{pick, pick_ind}
use Rattle.octets.specs.Steps.{and}
use Rattle.charstring.specs.Bias.{bias_of}
use Rattle.unfold.specs.Unfold.{Row, glyph as glyphSite, local as localSite, global as globalSite}
use Rattle.prune.specs.Renumber.{operand_of, Calls}
use Rattle.dict.specs.Lookup.{cid_keyed}
use Rattle.cff.specs.Font.{Program}
use Rattle.subset.specs.Kept.{is_in, keeps, kept_of, sorted_by, written_order, used_fds, locals_of}
use Rattle.subset.specs.KeptListLaws.{those_in, sorted_in}
use Rattle.subset.specs.Pruned.{Bodies, each, rank, reached, local_set, global_set, renumbered_body, renumbered_subrs, stubbed_from, mapped, calls_in, calls_across, renumbered, charstrings_of, stubbed, copied, Pruned, or_stubbed, pruned}
use Rattle.subset.proofs.AlikeLaws.{each-alike, mapped-alike, stubbed-alike, renumbered-alike}
use Rattle.alike.specs.Alike.{SameFor, Alike}
use Rattle.subset.specs.declared.Way.TheVariants.{Copied}

-- the calls of a glyph or a local subroutine, by how many local and how many global subroutines the font has
abbrev global_by : List Row → ℕ → ℤ → Option ℤ
global_by rows globals z = operand_of (rank (global_set rows)) (bias_of globals) (bias_of (reached (global_set rows))) z

abbrev calls_by : List Row → ℕ → ℕ → ℕ → Calls
calls_by rows f locals globals b z =
    pick (eqb b 10) (operand_of (rank (local_set rows f)) (bias_of locals) (bias_of (reached (local_set rows f))) z) (global_by rows globals z)

abbrev across_by : List Row → ℕ → Calls
across_by rows globals b z = pick (eqb b 10) None (global_by rows globals z)

-- bodies that were copied
abbrev copied_as : List (List ℕ) → List (List (List ℕ)) → List (List ℕ) → Pruned
copied_as gs ls cs = record { way = Copied; bodies = record { globals = gs; locals = ls; charstrings = cs } }

-- bodies that are the same wherever they are asked, all being asked
all_same : (xs ys : List (List ℕ)) → SameFor (λ k. true) xs ys → xs ≡ ys
all_same xs ys s = ext_get_or [] xs ys s.many (λ i h. s.same i refl)

-- a flag that is not 0
not_zero : (flag : ℕ) → 0 < flag → eqb flag 0 ≡ false
not_zero flag h = go (eqb flag 0) refl
  where
    go : (t : Bool) → eqb flag 0 ≡ t → t ≡ false
    go true e = let z : flag ≡ 0 = eqb-true flag 0 e in absurd (omega arith)
    go false e = refl

module _ {keep : List ℕ} {global : ℕ → Bool} {local : ℕ → ℕ → Bool} {p q : Program} (a : Alike keep global local p q) where
  abbrev kept : List ℕ
  kept = kept_of (length p.charstrings) keep

  -- the charstring of a glyph that is written
  charstring_same : (g : ℕ) → is_in g (written_order p kept) ≡ true → get_or p.charstrings g [] ≡ get_or q.charstrings g []
  charstring_same g h =
      let same =
      pick_ind (λ (l : List ℕ). is_in g l ≡ is_in g kept) (cid_keyed p.top) (sorted_by (λ g. get_or p.ids g 0) kept) kept
      (λ t. sorted_in (λ g. get_or p.ids g 0) kept g)
      (λ t. refl)
      in
      a.charstrings.same g (those_in (keeps keep) (length p.charstrings) 0 g (sym same ∙ h)).2

  charstrings-same : charstrings_of p (written_order p kept) ≡ charstrings_of q (written_order p kept)
  charstrings-same = mapped-alike (λ g. get_or p.charstrings g []) (λ g. get_or q.charstrings g []) (written_order p kept) charstring_same

  -- ---- calls

  module _ (rows : List Row) where
    calls_same : (f : ℕ) → calls_in p rows f ≡ calls_in q rows f
    calls_same f =
        ap (λ (n : ℕ). calls_by rows f n (length p.globals)) (a.privates f).locals.many
        ∙ ap (λ (n : ℕ). calls_by rows f (length (locals_of q f)) n) a.globals.many

    across-same : (used : List ℕ) → calls_across p rows used ≡ calls_across q rows used
    across-same [] = ap (across_by rows) a.globals.many
    across-same (f ∷ []) = calls_same f
    across-same (f ∷ g ∷ fs) = ap (across_by rows) a.globals.many

    -- ---- with a record

    module _ (globals : (k : ℕ) → global_set rows k ≡ true → global k ≡ true)
        (locals : (f k : ℕ) → is_in f (used_fds p kept) ≡ true → local_set rows f k ≡ true → local f k ≡ true) where
      abbrev used : List ℕ
      used = used_fds p kept

      local_same : (f : ℕ) → is_in f used ≡ true → (k : ℕ) → local_set rows f k ≡ true → get_or (locals_of p f) k [] ≡ get_or (locals_of q f) k []
      local_same f h k t = (a.privates f).locals.same k (locals f k h t)

      global_same : (k : ℕ) → global_set rows k ≡ true → get_or p.globals k [] ≡ get_or q.globals k []
      global_same k t = a.globals.same k (globals k t)

      stubbed-same : stubbed p rows used (written_order p kept) ≡ stubbed q rows used (written_order p kept)
      unfolding stubbed
      stubbed-same =
          let gs = stubbed-alike (global_set rows) p.globals q.globals a.globals.many global_same in
          let ls =
          mapped-alike (λ f. stubbed_from (local_set rows f) 0 (locals_of p f)) (λ f. stubbed_from (local_set rows f) 0 (locals_of q f)) used
          (λ f h. stubbed-alike (local_set rows f) (locals_of p f) (locals_of q f) (a.privates f).locals.many (local_same f h))
          in
          ap (λ (l : List (List ℕ)). record { globals = l; locals = mapped (λ f. stubbed_from (local_set rows f) 0 (locals_of p f)) used; charstrings = charstrings_of p (written_order p kept) }) gs
          ∙ (ap (λ (l : List (List (List ℕ))). record { globals = stubbed_from (global_set rows) 0 q.globals; locals = l; charstrings = charstrings_of p (written_order p kept) }) ls
          ∙ ap (λ (l : List (List ℕ)). record { globals = stubbed_from (global_set rows) 0 q.globals; locals = mapped (λ f. stubbed_from (local_set rows f) 0 (locals_of q f)) used; charstrings = l })
          charstrings-same)

      -- the parts of a font that is renumbered, and the whole
      abbrev joined : Option (List (List ℕ)) → Option (List (List (List ℕ))) → Option (List (List ℕ)) → Option Bodies
      joined gs ls cs = and gs (λ g. and ls (λ l. and cs (λ c. Some (record { globals = g; locals = l; charstrings = c }))))

      abbrev globals_for : Program → Option (List (List ℕ))
      globals_for x = renumbered_subrs rows (global_set rows) (calls_across x rows used) globalSite x.globals

      abbrev locals_for : Program → ℕ → Option (List (List ℕ))
      locals_for x f = renumbered_subrs rows (local_set rows f) (calls_in x rows f) (localSite f) (locals_of x f)

      abbrev glyph_for : Program → ℕ → Option (List ℕ)
      glyph_for x g = renumbered_body rows (calls_in x rows (get_or x.fds g 0)) (glyphSite g) (get_or x.charstrings g [])

      globals-renumbered : globals_for p ≡ globals_for q
      globals-renumbered =
          ap (λ (c : Calls). renumbered_subrs rows (global_set rows) c globalSite p.globals) (across-same used)
          ∙ renumbered-alike (global_set rows) rows (calls_across q rows used) globalSite p.globals q.globals a.globals.many global_same

      locals-renumbered : (f : ℕ) → is_in f used ≡ true → locals_for p f ≡ locals_for q f
      locals-renumbered f h =
          ap (λ (c : Calls). renumbered_subrs rows (local_set rows f) c (localSite f) (locals_of p f)) (calls_same f)
          ∙ renumbered-alike (local_set rows f) rows (calls_in q rows f) (localSite f) (locals_of p f) (locals_of q f) (a.privates f).locals.many (local_same f h)

      glyph_renumbered : (g : ℕ) → is_in g (written_order p kept) ≡ true → glyph_for p g ≡ glyph_for q g
      glyph_renumbered g h =
          ap (λ (l : List ℕ). renumbered_body rows (calls_in p rows (get_or l g 0)) (glyphSite g) (get_or p.charstrings g [])) a.fds
          ∙ (ap (λ (c : Calls). renumbered_body rows c (glyphSite g) (get_or p.charstrings g [])) (calls_same (get_or q.fds g 0))
          ∙ ap (renumbered_body rows (calls_in q rows (get_or q.fds g 0)) (glyphSite g)) (charstring_same g h))

      renumbered-same : renumbered p rows used (written_order p kept) ≡ renumbered q rows used (written_order p kept)
      unfolding renumbered
      renumbered-same =
          let ls = each-alike (locals_for p) (locals_for q) used locals-renumbered in
          let cs = each-alike (glyph_for p) (glyph_for q) (written_order p kept) glyph_renumbered in
          ap (λ (m : Option (List (List ℕ))). joined m (each (locals_for p) used) (each (glyph_for p) (written_order p kept))) globals-renumbered
          ∙ (ap (λ (m : Option (List (List (List ℕ)))). joined (globals_for q) m (each (glyph_for p) (written_order p kept))) ls
          ∙ ap (λ (m : Option (List (List ℕ))). joined (globals_for q) (each (locals_for q) used) m) cs)

      pub pruned-same : (flag : ℕ) → 0 < flag → pruned p rows used (written_order p kept) flag ≡ pruned q rows used (written_order p kept) flag
      unfolding pruned
      pruned-same flag h =
          let e =
          ap (λ (m : Option Bodies). or_stubbed m (stubbed p rows used (written_order p kept))) renumbered-same
          ∙ ap (or_stubbed (renumbered q rows used (written_order p kept))) stubbed-same
          in
          rw (not_zero flag h) e

    -- ---- without one

    pub copied-same : ((k : ℕ) → global k ≡ true) → ((f k : ℕ) → is_in f (used_fds p kept) ≡ true → local f k ≡ true)
        → pruned p rows (used_fds p kept) (written_order p kept) 0 ≡ pruned q rows (used_fds p kept) (written_order p kept) 0
    unfolding pruned copied
    copied-same globals locals =
        let gs = all_same p.globals q.globals (record { many = a.globals.many; same = λ k t. a.globals.same k (globals k) }) in
        let ls =
        mapped-alike (locals_of p) (locals_of q) (used_fds p kept)
        (λ f h. all_same (locals_of p f) (locals_of q f)
        (record { many = (a.privates f).locals.many; same = λ k t. (a.privates f).locals.same k (locals f k h) }))
        in
        ap (λ (l : List (List ℕ)). copied_as l (mapped (locals_of p) (used_fds p kept)) (charstrings_of p (written_order p kept))) gs
        ∙ (ap (λ (l : List (List (List ℕ))). copied_as q.globals l (charstrings_of p (written_order p kept))) ls
        ∙ ap (λ (l : List (List ℕ)). copied_as q.globals (mapped (locals_of q) (used_fds p kept)) l) charstrings-same)
