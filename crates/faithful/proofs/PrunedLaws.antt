-- What becomes of charstrings and subroutines (document 01, demand 3; the Rust's prune and prune_cid): in each of the three ways the bodies
-- fit their INDEXes, and a kept glyph unfolds to what it did, if the record lists the rows that it meets.
use Prim.Native.Nat.{ℕ, ◌≤◌, ◌<◌}
use Rattle.std.specs.Prelude.{◌≡◌, true, eqb, None, Option, Some}
use Rattle.std.proofs.Math.Path.{refl, subst}
use Rattle.std.proofs.Common.{sym, ap, ◌∙◌, inl, inr, zero-add, arith, eqb-true}
use mathlib.Core.List.{List, [], ◌∷◌}
use Rattle.std.proofs.Math.Decide.{dec_le}
use Rattle.std.proofs.Math.ListN.{length, get_or, get_or-eq_default}
use Rattle.std.proofs.lemmas.Bool.{eqb-false}
use Rattle.octets.specs.Pick.{pick_ind}
use Rattle.octets.specs.Octets.{Octets}
use Rattle.unfold.specs.Unfold.{Tok, Row, local, global, plain, unfold_glyph}
use Rattle.prune.specs.Bodies.{All, empty, one}
use Rattle.prune.proofs.Unfolds.{same_unfolds}
use Rattle.record.specs.Record.{rows_of}
use Rattle.cff.specs.Font.{Program}
use Rattle.subset.specs.Kept.{is_in, used_fds, new_fd, locals_of}
use Rattle.subset.specs.Pruned.{Bodies, local_set, global_set, stubbed_from, mapped, renumbered_subrs, calls_in, calls_across, renumbered, charstrings_of, stubbed, copied, Pruned, or_stubbed, pruned}
use Rattle.faithful.specs.Faithful.{unfolded, Recorded}
use Rattle.faithful.specs.Laid.{GoodProgram, Fitting}
use Rattle.subset.specs.EachLaws.{length-mapped, mapped_at, length-each, each_at, length-stubbed, stubbed-at}
use Rattle.faithful.specs.UsedLaws.{used-has, new-fd-at}
use Rattle.faithful.specs.RecordLaws.{number-below}
use Rattle.faithful.specs.RenumberedLaws.{subrs-few, Renews, renews}
use Rattle.faithful.specs.RenumberedGlyphLaws.{IsListed, renumbered_glyph}
use Rattle.subset.specs.declared.Way.TheVariants.{Copied}

-- ---- the three ways

-- what holds of the bodies in each way holds of those that are taken
pruned_ways : (p : Program) (rows : List Row) (used order : List ℕ) (flag : ℕ) (P : Bodies → Type 0) → (flag ≡ 0 → P (copied p used order))
    → ((flag ≡ 0 → ⊥) → P (stubbed p rows used order)) → ((flag ≡ 0 → ⊥) → (b : Bodies) → Renews p rows used order b → P b)
    → P (pruned p rows used order flag).bodies
unfolding pruned
pruned_ways p rows used order flag P copies stubs renewed =
    pick_ind (λ (q : Pruned). P q.bodies) (eqb flag 0) (record { way = Copied; bodies = copied p used order }) (or_stubbed (renumbered p rows used order) (stubbed p rows used order))
    (λ t. copies (eqb-true flag 0 t)) (λ t. go (eqb-false flag 0 t) (renumbered p rows used order) refl)
  where
    go : (flag ≡ 0 → ⊥) → (m : Option Bodies) → renumbered p rows used order ≡ m → P (or_stubbed m (stubbed p rows used order)).bodies
    go n None e = stubs n
    go n (Some b) e = renewed n b (renews p rows used order b e)

-- ---- the bodies fit

-- lists of which each is short, and none past the end
all-few : (l : List (List (List ℕ))) → ((k : ℕ) → k < length l → length (get_or l k []) < 65536) → (k : ℕ) → length (get_or l k []) < 65536
all-few l h k = go (dec_le (length l) k)
  where
    go : Dec (length l ≤ k) → length (get_or l k []) < 65536
    go (yes m) = let e : length (get_or l k []) ≡ 0 = ap length (get_or-eq_default l [] m) in omega arith
    go (no m) = h k (omega arith)

module _ (p : Program) (rows : List Row) (used order : List ℕ) (good : GoodProgram p) where
  -- those that are copied
  copied-fits : Fitting (length order) used (copied p used order)
  unfolding copied
  copied-fits =
      record {
        glyphs = length-mapped (λ g. get_or p.charstrings g []) order;
        globals = good.globals.count;
        fds = length-mapped (locals_of p) used;
        locals = all-few (mapped (locals_of p) used) (λ k h.
            let m : k < length used = subst (λ (n : ℕ). k < n) (length-mapped (locals_of p) used) h in
            subst (λ (l : List (List ℕ)). length l < 65536) (sym (mapped_at (locals_of p) used k [] m)) (good.locals (get_or used k 0)).count);
      }

  -- those that are stubbed
  stubbed-fits : Fitting (length order) used (stubbed p rows used order)
  unfolding stubbed
  stubbed-fits =
      let f : ℕ → List (List ℕ) = λ n. stubbed_from (local_set rows n) 0 (locals_of p n) in
      record {
        glyphs = length-mapped (λ g. get_or p.charstrings g []) order;
        globals = subst (λ (n : ℕ). n < 65536) (sym (length-stubbed (global_set rows) 0 p.globals)) good.globals.count;
        fds = length-mapped f used;
        locals = all-few (mapped f used) (λ k h.
            let m : k < length used = subst (λ (n : ℕ). k < n) (length-mapped f used) h in
            let q = get_or used k 0 in
            subst (λ (l : List (List ℕ)). length l < 65536) (sym (mapped_at f used k [] m))
            (subst (λ (n : ℕ). n < 65536) (sym (length-stubbed (local_set rows q) 0 (locals_of p q))) (good.locals q).count));
      }

  -- those that are renumbered
  renewed_fits : (b : Bodies) → Renews p rows used order b → Fitting (length order) used b
  renewed_fits b new =
      let f : ℕ → Option (List (List ℕ)) = λ n. renumbered_subrs rows (local_set rows n) (calls_in p rows n) (local n) (locals_of p n) in
      let few = subrs-few rows (global_set rows) (calls_across p rows used) global p.globals b.globals new.globals in
      record {
        glyphs = length-each _ order b.charstrings new.charstrings;
        globals = omega (arith, good.globals.count, few);
        fds = length-each f used b.locals new.locals;
        locals = all-few b.locals (λ k h.
            let m : k < length used = subst (λ (n : ℕ). k < n) (length-each f used b.locals new.locals) h in
            let q = get_or used k 0 in
            let l = subrs-few rows (local_set rows q) (calls_in p rows q) (local q) (locals_of p q) (get_or b.locals k []) (each_at f used b.locals new.locals k [] m) in
            omega (arith, (good.locals q).count, l));
      }

-- the bodies that are taken fit
pub pruned-fits : (p : Program) (rows : List Row) (used order : List ℕ) (flag : ℕ) → GoodProgram p → Fitting (length order) used (pruned p rows used order flag).bodies
pruned-fits p rows used order flag good =
    pruned_ways p rows used order flag (Fitting (length order) used) (λ e. copied-fits p rows used order good) (λ n. stubbed-fits p rows used order good)
    (λ n b new. renewed_fits p rows used order good b new)

-- ---- a kept glyph unfolds to what it did

-- every row is one of all
all-rows : (met : List Row) → All (λ r. Unit) met
all-rows [] = empty
all-rows (r ∷ met) = one tt (all-rows met)

-- rows that are recorded are listed, where the flag is not 0
recorded_listed : (rec : List ℕ) (flag : ℕ) (met : List Row) → (flag ≡ 0 → ⊥) → Recorded rec flag met → All (IsListed (rows_of rec)) met
recorded_listed rec flag met n (inl e) = absurd (n e)
recorded_listed rec flag met n (inr h) = h

-- bodies over which the glyph at place i of the order unfolds to the tokens
abbrev Unfolds : Program → List ℕ → List ℕ → ℕ → ℕ → ℕ → List Tok → Bodies → Type 0
Unfolds p used order i fd' g' ts b =
    (met' : List Row)
    × (unfold_glyph b.globals (get_or b.locals (new_fd used (get_or p.fds (get_or order i 0) 0)) []) fd' g' (get_or b.charstrings i []) ≡ plain ts met')

module _ (p : Program) (rows : List Row) (used order : List ℕ) (i : ℕ) (there : i < length order) (in_use_lem : is_in (get_or p.fds (get_or order i 0) 0) used ≡ true)
    (fd' g' : ℕ) (ts : List Tok) (met : List Row) (e : unfolded p (get_or order i 0) ≡ plain ts met) where
  -- the glyph, and its FD
  abbrev g : ℕ
  g = get_or order i 0

  abbrev fd : ℕ
  fd = get_or p.fds g 0

  -- what an FD in use is mapped to stands at its new number
  fd-mapped : {A : Type 0} (f : ℕ → A) (d : A) → get_or (mapped f used) (new_fd used fd) d ≡ f fd
  fd-mapped f d = let k = new-fd-at used fd in_use_lem in mapped_at f used (new_fd used fd) d k.0 ∙ ap f k.1

  -- the glyph's charstring stands at its place
  charstring_mapped : get_or (charstrings_of p order) i [] ≡ get_or p.charstrings g []
  charstring_mapped = mapped_at (λ n. get_or p.charstrings n []) order i [] there

  -- over copied subroutines
  copied_unfolds : Unfolds p used order i fd' g' ts (copied p used order)
  unfolding copied
  copied_unfolds =
      rw (fd-mapped (locals_of p) [], charstring_mapped)
      (same_unfolds p.globals (locals_of p fd) p.globals (locals_of p fd) fd fd' g g' (λ r. Unit) refl refl (λ n h. refl) (λ n h. refl)
      (get_or p.charstrings g []) ts met e (all-rows met))

  -- over stubbed subroutines, where the rows met are listed
  stubbed_unfolds : All (IsListed rows) met → Unfolds p used order i fd' g' ts (stubbed p rows used order)
  unfolding stubbed
  stubbed_unfolds h =
      rw (fd-mapped (λ f. stubbed_from (local_set rows f) 0 (locals_of p f)) [], charstring_mapped)
      (same_unfolds p.globals (locals_of p fd) (stubbed_from (global_set rows) 0 p.globals) (stubbed_from (local_set rows fd) 0 (locals_of p fd)) fd fd' g g' (IsListed rows)
      (length-stubbed (local_set rows fd) 0 (locals_of p fd)) (length-stubbed (global_set rows) 0 p.globals)
      (λ n l. stubbed-at (local_set rows fd) 0 (locals_of p fd) n (ap (local_set rows fd) (zero-add n) ∙ l))
      (λ n l. stubbed-at (global_set rows) 0 p.globals n (ap (global_set rows) (zero-add n) ∙ l))
      (get_or p.charstrings g []) ts met e h)

-- THE THEOREM for what becomes of charstrings and subroutines: the kept glyph at place i of the order
pub pruned_unfolds : (p : Program) (rec kept order : List ℕ) (flag : ℕ) → GoodProgram p → Octets rec
    → (i : ℕ) → i < length order → is_in (get_or order i 0) kept ≡ true → get_or order i 0 < length p.charstrings
    → (fd' g' : ℕ) (ts : List Tok) (met : List Row) → unfolded p (get_or order i 0) ≡ plain ts met → Recorded rec flag met
    → let b = (pruned p (rows_of rec) (used_fds p kept) order flag).bodies in
    (met' : List Row) × (unfold_glyph b.globals (get_or b.locals (new_fd (used_fds p kept) (get_or p.fds (get_or order i 0) 0)) []) fd' g' (get_or b.charstrings i []) ≡ plain ts met')
pruned_unfolds p rec kept order flag good octets i there is_kept inFont fd' g' ts met e recorded =
    let in_use_lem = used-has p kept (get_or order i 0) good is_kept inFont in
    pruned_ways p (rows_of rec) (used_fds p kept) order flag (Unfolds p (used_fds p kept) order i fd' g' ts)
    (λ z. copied_unfolds p (rows_of rec) (used_fds p kept) order i there in_use_lem fd' g' ts met e)
    (λ n. stubbed_unfolds p (rows_of rec) (used_fds p kept) order i there in_use_lem fd' g' ts met e (recorded_listed rec flag met n recorded))
    (λ n b new. renumbered_glyph p good (rows_of rec) (λ q h. number-below rec q octets h) (used_fds p kept) order b new i there in_use_lem fd' g' ts met e
    (recorded_listed rec flag met n recorded))
