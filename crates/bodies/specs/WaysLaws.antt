-- The bodies by the way are those of crates/subset, and the renumbering of a font fails exactly where that of a part does.
use Rattle.std.specs.Prelude.{ℕ, ◌≡◌, Bool, List, [], ◌∷◌, eqb, ℤ, None, Option, Some}
use Rattle.std.proofs.Math.Path.{refl, ap, fun_ext}
use Rattle.std.proofs.Common.{sym, ◌∙◌}
use Rattle.std.proofs.Math.Bool.{true, false}
use Rattle.octets.specs.Pick.{pick}
use Rattle.octets.specs.Steps.{and}
use Rattle.unfold.specs.Unfold.{Row, Site}
use Rattle.prune.specs.Renumber.{Calls}
use Rattle.prune.specs.StepLaws.{zero_one}
use Rattle.cff.specs.Font.{Program}
use Rattle.subset.specs.Pruned.{Bodies, each, mapped, renumbered, stubbed, copied, or_stubbed, pruned}
use Rattle.subset.specs.EachLaws.{and_yes}
use Rattle.faithful.specs.RenumberedLaws.{renews}
use Rattle.renumber.specs.Turn.{body_of_lem}
use Rattle.bodies.specs.Ways.{many_of, holds, new_subrs, subrs_by}
use Rattle.bodies.specs.Pruning.{all_hold, renumbered_globals, renumbered_locals, renumbered_glyph, bodies_by, renumbers, way_of}
use Rattle.subset.specs.declared.Way.{Way}
use Rattle.subset.specs.declared.Way.TheVariants.{Renumbered, Stubbed, Copied}

-- ---- sets and calls that are the same for every number

pub new-subrs-alike : (way : Way) (rows : List Row) (set set' : ℕ → Bool) (calls calls' : Calls) (site : ℕ → Site) (subrs : List (List ℕ))
    → ((k : ℕ) → set k ≡ set' k) → ((b : ℕ) (z : ℤ) → calls b z ≡ calls' b z)
    → new_subrs way rows set calls site subrs ≡ new_subrs way rows set' calls' site subrs
new-subrs-alike way rows set set' calls calls' site subrs same alike =
    let e : set ≡ set' = fun_ext same in
    let f : calls ≡ calls' = fun_ext (λ b. fun_ext (alike b)) in
    ap (λ (s : ℕ → Bool). new_subrs way rows s calls site subrs) e ∙ ap (λ (c : Calls). new_subrs way rows set' c site subrs) f

-- the same, or that their renumbering fails
pub subrs-by-alike : (way : Way) (rows : List Row) (set set' : ℕ → Bool) (calls calls' : Calls) (site : ℕ → Site) (subrs : List (List ℕ))
    → ((k : ℕ) → set k ≡ set' k) → ((b : ℕ) (z : ℤ) → calls b z ≡ calls' b z)
    → subrs_by way rows set calls site subrs ≡ subrs_by way rows set' calls' site subrs
subrs-by-alike way rows set set' calls calls' site subrs same alike =
    let e : set ≡ set' = fun_ext same in
    let f : calls ≡ calls' = fun_ext (λ b. fun_ext (alike b)) in
    ap (λ (s : ℕ → Bool). subrs_by way rows s calls site subrs) e ∙ ap (λ (c : Calls). subrs_by way rows set' c site subrs) f

-- ---- each of a list

-- what each is, where none fails
pub each-parts : {A : Type 0} (f : ℕ → Option A) (part : Option A → A) → ((a : A) → part (Some a) ≡ a) → (ks : List ℕ) (l : List A) → each f ks ≡ Some l
    → mapped (λ k. part (f k)) ks ≡ l
unfolding each mapped
each-parts f part h [] l e = let m : [] ≡ l = cc in m
each-parts {A} f part h (k ∷ ks) l e =
    let p = and_yes (f k) _ l e in
    let q = and_yes (each f ks) _ l p.2 in
    let first : part (f k) ≡ p.0 = ap part p.1 ∙ h p.0 in
    let m : p.0 ∷ q.0 ≡ l = cc in
    ap (λ (x : A). x ∷ mapped (λ j. part (f j)) ks) first ∙ ap (λ (xs : List A). p.0 ∷ xs) (each-parts f part h ks q.0 q.1) ∙ m

-- the same at every number
mapped-alike : {A : Type 0} (f g : ℕ → A) → ((k : ℕ) → f k ≡ g k) → (ks : List ℕ) → mapped f ks ≡ mapped g ks
mapped-alike {A} f g same ks = ap (λ (h : ℕ → A). mapped h ks) (fun_ext same)

-- bodies that do not fail, each by its number
pub mapped-bodies : (f : ℕ → Option (List ℕ)) (g : ℕ → List ℕ) → ((k : ℕ) → g k ≡ body_of_lem (f k)) → (ks : List ℕ) → holds (each f ks) ≡ true
    → mapped g ks ≡ many_of (each f ks)
mapped-bodies f g same ks h = mapped-alike g (λ k. body_of_lem (f k)) same ks ∙ go (each f ks) refl h
  where
    go : (m : Option (List (List ℕ))) → each f ks ≡ m → holds m ≡ true → mapped (λ k. body_of_lem (f k)) ks ≡ many_of m
    go None e q = absurd (zero_one cc)
    go (Some l) e q = each-parts f body_of_lem (λ a. refl) ks l e

-- one holds, and then the next
holds-and : {A B : Type 0} (m : Option A) (f : A → Option B) (b : Bool) → ((a : A) → holds (f a) ≡ b) → holds (and m f) ≡ pick (holds m) b false
holds-and None f b h = refl
holds-and (Some a) f b h = h a

pub holds-each : {A : Type 0} (f : ℕ → Option A) (ks : List ℕ) → holds (each f ks) ≡ all_hold f ks
unfolding each all_hold
holds-each f [] = refl
holds-each {A} f (k ∷ ks) = holds-and (f k) _ (all_hold f ks) (λ b. rest b (each f ks) (holds-each f ks))
  where
    rest : (b : A) (m : Option (List A)) → holds m ≡ all_hold f ks → holds (and m (λ bs. Some (b ∷ bs))) ≡ all_hold f ks
    rest b None h = h
    rest b (Some l) h = h

-- ---- a font's

-- bodies with the same parts
bodies-same : (a b : Bodies) → a.globals ≡ b.globals → a.locals ≡ b.locals → a.charstrings ≡ b.charstrings → a ≡ b
bodies-same a b e f g =
    ap (λ (x : List (List ℕ)). record { globals = x; locals = a.locals; charstrings = a.charstrings }) e
    ∙ ap (λ (x : List (List (List ℕ))). record { globals = b.globals; locals = x; charstrings = a.charstrings }) f
    ∙ ap (λ (x : List (List ℕ)). record { globals = b.globals; locals = b.locals; charstrings = x }) g

module _ (p : Program) (rows : List Row) (used order : List ℕ) where
  -- copied, stubbed and renumbered
  copied-by : copied p used order ≡ bodies_by p rows Copied used order
  unfolding copied bodies_by
  copied-by = refl

  stubbed-by : stubbed p rows used order ≡ bodies_by p rows Stubbed used order
  unfolding stubbed bodies_by
  stubbed-by = refl

  renumbered-by : (b : Bodies) → renumbered p rows used order ≡ Some b → b ≡ bodies_by p rows Renumbered used order
  unfolding bodies_by
  renumbered-by b e =
      let r = renews p rows used order b e in
      bodies-same b (bodies_by p rows Renumbered used order) (sym (ap many_of r.globals))
      (sym (each-parts (renumbered_locals p rows) many_of (λ a. refl) used b.locals r.locals))
      (sym (each-parts (renumbered_glyph p rows) body_of_lem (λ a. refl) order b.charstrings r.charstrings))

  -- what crates/subset prunes is the bodies by the way
  pub pruned-by : (flag : ℕ) → pruned p rows used order flag
      ≡ record { way = way_of p rows used order flag; bodies = bodies_by p rows (way_of p rows used order flag) used order }
  unfolding pruned
  pruned-by flag = go (eqb flag 0) (renumbered p rows used order) refl
    where
      go : (t : Bool) (m : Option Bodies) → renumbered p rows used order ≡ m
          → pick t (record { way = Copied; bodies = copied p used order }) (or_stubbed m (stubbed p rows used order))
          ≡ record { way = pick t Copied (pick (holds m) Renumbered Stubbed); bodies = bodies_by p rows (pick t Copied (pick (holds m) Renumbered Stubbed)) used order }
      go true m e = ap (λ (b : Bodies). record { way = Copied; bodies = b }) copied-by
      go false None e = ap (λ (b : Bodies). record { way = Stubbed; bodies = b }) stubbed-by
      go false (Some b) e = ap (λ (x : Bodies). record { way = Renumbered; bodies = x }) (renumbered-by b e)

  -- the renumbering of a font holds where that of the globals, of the locals of each FD in use, and of each glyph does
  pub renumbers-parts : renumbers p rows used order
      ≡ pick (holds (renumbered_globals p rows used)) (pick (all_hold (renumbered_locals p rows) used) (all_hold (renumbered_glyph p rows) order) false) false
  unfolding renumbered
  renumbers-parts =
      holds-and (renumbered_globals p rows used) _ _ (λ gs.
      holds-and (each (renumbered_locals p rows) used) _ _ (λ ls.
      holds-and (each (renumbered_glyph p rows) order) _ true (λ cs. refl) ∙ whole (holds (each (renumbered_glyph p rows) order)) (holds-each (renumbered_glyph p rows) order))
      ∙ ap (λ (b : Bool). pick b (all_hold (renumbered_glyph p rows) order) false) (holds-each (renumbered_locals p rows) used))
    where
      whole : (t : Bool) → t ≡ all_hold (renumbered_glyph p rows) order → pick t true false ≡ all_hold (renumbered_glyph p rows) order
      whole true h = h
      whole false h = h
