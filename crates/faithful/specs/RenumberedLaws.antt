-- Charstrings and subroutines that are renumbered (the Rust's renumber and renumber_cid): each reached subroutine stands at its rank, each
-- body without two lengths is turned, and a kept glyph unfolds to what it did.
use Rattle.std.specs.Prelude.{ℕ, ◌+◌, ◌≤◌, ◌<◌, ◌≡◌, Bool, List, [], ◌∷◌, ℤ, length, get_or, None, Option, Some}
use Rattle.std.proofs.Math.Path.{refl}
use Rattle.std.proofs.Common.{sym, ap, ◌∙◌, subst, arith, eqb-true}
use Rattle.std.proofs.Math.Bool.{true, false}
use Rattle.std.proofs.Math.Dec.{eqb}
use Rattle.octets.specs.Pick.{pick}
use Rattle.type2_number.specs.Number.{Reading}
use Rattle.charstring.specs.Bias.{bias_of}
use Rattle.unfold.specs.Unfold.{Row, Site, glyph, local, global, target_of}
use Rattle.prune.specs.Renumber.{operand_of, Calls, renumber_charstring}
use Rattle.prune.specs.OperandLaws.{operand_target, operand_reading}
use Rattle.prune.specs.StepLaws.{zero_one}
use Rattle.record.specs.Record.{given_in, two_lengths_lem}
use Rattle.cff.specs.Font.{Program}
use Rattle.subset.specs.Kept.{is_in, those, locals_of}
use Rattle.bits.specs.Bits.{count_below}
use Rattle.subset.specs.Pruned.{Bodies, rank, reached, each, local_set, global_set, renumbered_body, renumbered_subrs, local_operand, global_operand, calls_in, calls_across, renumbered}
use Rattle.subset.specs.EachLaws.{and_yes, length-each, each_at}
use Rattle.subset.specs.RankLaws.{count-few, count-below, count-bound, rank-new, length-those, those-at}

-- ---- a body

-- a body that is turned has no two lengths
pub record Turned (rows : List Row) (calls : Calls) (site : Site) (s s' : List ℕ) : Type 0 where
  pub one : two_lengths_lem rows site ≡ false
  pub is : renumber_charstring calls (given_in rows site) s ≡ Some s'

-- a body that does not fail is turned
pub body-turned : (rows : List Row) (calls : Calls) (site : Site) (s s' : List ℕ) → renumbered_body rows calls site s ≡ Some s' → Turned rows calls site s s'
unfolding renumbered_body
body-turned rows calls site s s' e = go (two_lengths_lem rows site) refl e
  where
    go : (t : Bool) → two_lengths_lem rows site ≡ t → pick t None (renumber_charstring calls (given_in rows site) s) ≡ Some s' → Turned rows calls site s s'
    go true f h = absurd (zero_one cc)
    go false f h = record { one = f; is = h }

-- ---- subroutines

-- a reached subroutine and its rank
pub record Ranked (set : ℕ → Bool) (subrs : List (List ℕ)) (i n : ℕ) : Type 0 where
  pub member : set i ≡ true
  pub there : i < length subrs
  pub at : n ≡ count_below set i

module _ (rows : List Row) (set : ℕ → Bool) (calls : Calls) (site : ℕ → Site) (subrs l : List (List ℕ)) (e : renumbered_subrs rows set calls site subrs ≡ Some l) where
  -- what becomes of a subroutine
  abbrev body : ℕ → Option (List ℕ)
  body k = renumbered_body rows calls (site k) (get_or subrs k [])

  -- no number without a subroutine is reached, and each reached one is turned
  subrs-told : (reached set ≡ count_below set (length subrs)) × (each body (those set (length subrs) 0) ≡ Some l)
  unfolding renumbered_subrs
  subrs-told = go (eqb (reached set) (count_below set (length subrs))) refl e
    where
      go : (t : Bool) → eqb (reached set) (count_below set (length subrs)) ≡ t → pick t (each body (those set (length subrs) 0)) None ≡ Some l
          → (reached set ≡ count_below set (length subrs)) × (each body (those set (length subrs) 0) ≡ Some l)
      go true f h = (eqb-true (reached set) (count_below set (length subrs)) f, h)
      go false f h = absurd (zero_one cc)

  -- the reached subroutines are as many as are in the set
  length-of-those : length (those set (length subrs) 0) ≡ count_below set (length subrs)
  length-of-those =
      let q : 0 + length subrs ≡ length subrs = omega arith in
      let c : count_below set (0 + length subrs) ≡ count_below set (length subrs) = ap (count_below set) q in
      omega (arith, length-those set (length subrs) 0, count-few set 0)

  -- as many as are reached
  pub subrs-length : length l ≡ reached set
  subrs-length = length-each body (those set (length subrs) 0) l subrs-told.1 ∙ length-of-those ∙ sym subrs-told.0

  -- no more than there were
  pub subrs-few : length l ≤ length subrs
  subrs-few =
      let c : length l ≡ count_below set (length subrs) = subrs-length ∙ subrs-told.0 in
      omega (arith, count-few set (length subrs))

  -- each stands at its rank
  pub subrs-body : (i n : ℕ) → Ranked set subrs i n → Turned rows calls (site i) (get_or subrs i []) (get_or l n [])
  subrs-body i n r =
      let c : count_below set i < count_below set (length subrs) = count-below set i (length subrs) r.member r.there in
      let b = each_at body (those set (length subrs) 0) l subrs-told.1 (count_below set i) [] (omega (arith, length-of-those)) in
      let q : body i ≡ Some (get_or l (count_below set i) []) = ap body (sym (those-at set (length subrs) i r.there r.member)) ∙ b in
      body-turned rows calls (site i) (get_or subrs i []) (get_or l n []) (q ∙ ap (λ (m : ℕ). Some (get_or l m [])) (sym r.at))

  module _ (small : (i : ℕ) → set i ≡ true → i < 65536) where
    -- a reached subroutine is there
    pub subrs_there : (i : ℕ) → set i ≡ true → i < length subrs
    subrs_there i h = count-bound set 65536 (length subrs) i subrs-told.0 h (small i h)

    -- a rank is below the count of those reached
    rank_below : (i n : ℕ) → rank set i ≡ Some n → n < reached set
    rank_below i n h =
        let r = rank-new set i n h in
        let c = count-below set i 65536 r.0 (small i r.0) in
        subst (λ (m : ℕ). m < reached set) (sym r.1) c

    module _ (z y : ℤ) (o : operand_of (rank set) (bias_of (length subrs)) (bias_of (reached set)) z ≡ Some y) where
      -- a call that is rewritten calls the subroutine at the rank
      pub subrs_call : (i : ℕ) → target_of (length subrs) (Some z) ≡ Some i → (n : ℕ) × (target_of (length l) (Some y) ≡ Some n) × Ranked set subrs i n
      subrs_call i t =
          let q = operand_target (rank set) (length subrs) (reached set) rank_below z y o i t in
          let r = rank-new set i q.0 q.2 in
          (q.0, ap (λ (m : ℕ). target_of m (Some y)) subrs-length ∙ q.1, record { member = r.0; there = subrs_there i r.0; at = r.1 })

      -- its operand is a reading
      pub subrs-reading : length subrs < 65536 → Reading y
      subrs-reading few =
          operand_reading (rank set) (length subrs) (reached set) rank_below z y o (subst (λ (m : ℕ). m < 65536) subrs-length (omega (arith, subrs-few)))

-- ---- calls

-- what becomes of the calls of a body that a glyph of the FD can run
abbrev pub calls_of : Program → List Row → List ℕ → ℕ → Site → Calls
calls_of p rows used fd (glyph n) = calls_in p rows fd
calls_of p rows used fd (local f k) = calls_in p rows fd
calls_of p rows used fd (global k) = calls_across p rows used

-- where a local call fails, one that is rewritten is of a global subroutine
across_global : (p : Program) (rows : List Row) (f b : ℕ) (z y : ℤ) → pick (eqb b 10) None (global_operand p rows z) ≡ Some y → calls_in p rows f b z ≡ Some y
across_global p rows f b z y e = go (eqb b 10) e
  where
    go : (t : Bool) → pick t None (global_operand p rows z) ≡ Some y → pick t (local_operand p rows f z) (global_operand p rows z) ≡ Some y
    go true h = absurd (zero_one cc)
    go false h = h

-- the one FD in use is the glyph's own
only-fd : (f fd : ℕ) → is_in fd (f ∷ []) ≡ true → f ≡ fd
unfolding is_in
only-fd f fd e = go (eqb f fd) refl e
  where
    go : (t : Bool) → eqb f fd ≡ t → pick t true false ≡ true → f ≡ fd
    go true h q = eqb-true f fd h
    go false h q = absurd (zero_one cc)

-- calls in a global subroutine are rewritten as the glyph's own
across_in : (p : Program) (rows : List Row) (used : List ℕ) (fd : ℕ) → is_in fd used ≡ true → (b : ℕ) (z y : ℤ) → calls_across p rows used b z ≡ Some y
    → calls_in p rows fd b z ≡ Some y
across_in p rows [] fd h b z y e = across_global p rows fd b z y e
across_in p rows (f ∷ []) fd h b z y e = subst (λ (x : ℕ). calls_in p rows x b z ≡ Some y) (only-fd f fd h) e
across_in p rows (f ∷ g ∷ fs) fd h b z y e = across_global p rows fd b z y e

-- calls in every body that the glyph runs are rewritten as its own
pub calls-in : (p : Program) (rows : List Row) (used : List ℕ) (fd : ℕ) → is_in fd used ≡ true → (site : Site) (b : ℕ) (z y : ℤ) → calls_of p rows used fd site b z ≡ Some y
    → calls_in p rows fd b z ≡ Some y
calls-in p rows used fd h (glyph n) b z y e = e
calls-in p rows used fd h (local f k) b z y e = e
calls-in p rows used fd h (global k) b z y e = across_in p rows used fd h b z y e

-- ---- a font's

-- the bodies of a font that are renumbered
pub record Renews (p : Program) (rows : List Row) (used order : List ℕ) (b : Bodies) : Type 0 where
  pub globals : renumbered_subrs rows (global_set rows) (calls_across p rows used) global p.globals ≡ Some b.globals
  pub locals : each (λ f. renumbered_subrs rows (local_set rows f) (calls_in p rows f) (local f) (locals_of p f)) used ≡ Some b.locals
  pub charstrings : each (λ g. renumbered_body rows (calls_in p rows (get_or p.fds g 0)) (glyph g) (get_or p.charstrings g [])) order ≡ Some b.charstrings

-- bodies whose renumbering does not fail
pub renews : (p : Program) (rows : List Row) (used order : List ℕ) (b : Bodies) → renumbered p rows used order ≡ Some b → Renews p rows used order b
unfolding renumbered
renews p rows used order b e =
    let gs = and_yes (renumbered_subrs rows (global_set rows) (calls_across p rows used) global p.globals) _ b e in
    let ls = and_yes (each (λ f. renumbered_subrs rows (local_set rows f) (calls_in p rows f) (local f) (locals_of p f)) used) _ b gs.2 in
    let cs = and_yes (each (λ g. renumbered_body rows (calls_in p rows (get_or p.fds g 0)) (glyph g) (get_or p.charstrings g [])) order) _ b ls.2 in
    let q : record { globals = gs.0; locals = ls.0; charstrings = cs.0 } ≡ b = cc in
    subst (Renews p rows used order) q (record { globals = gs.1; locals = ls.1; charstrings = cs.1 })
