-- Laws of a traced cut: it depends on the keep list by the glyphs that are kept; a list without a glyph; the first of a search.
use Prim.Native.Nat.{ℕ, zero, suc, ◌+◌, ◌≤◌, ◌<◌}
use Rattle.std.specs.Prelude.{◌≡◌, Bool, true, List, [], ◌∷◌, ltb, eqb, length, Some, None}
use Rattle.std.proofs.Math.Path.{refl, ap}
use Rattle.std.proofs.Common.{sym, ◌∙◌, eqb-true, ne_eqb}
use Rattle.std.proofs.Math.Bool.{false}
use native.Mathlib.Omega.{arith}
use Rattle.std.proofs.lemmas.Bool.{eqb-false}
use Rattle.octets.specs.Pick.{pick, pick_ind}
use Rattle.octets.specs.Lists.{all_below}
use Rattle.prune.specs.StepLaws.{zero_one}
use Rattle.dict.specs.Lookup.{ros_in, cid_keyed}
use Rattle.cff.specs.Font.{Program}
use Rattle.subset.specs.Kept.{is_in, those, keeps, kept_of}
use Rattle.subset.specs.Cut.{Outcome, refused, all_found_lem, has_ros_lem, unsupported_in}
use Rattle.traced.specs.Traced.{Traced, refused as refusedTrace, traced, met_all, answered, trace_program}
use Rattle.traced.proofs.MetLaws.{kept_same, below_as}
use Rattle.culprit.specs.Culprit.{cut_traced, traced_cut, without, first_of}
use Rattle.refusal.specs.declared.Refusal.TheVariants.{Malformed, Unsupported, TooLong, NoSuchNumber, NotFound}

-- ---- a list without a glyph

pub in_without : (g : ℕ) (keep : List ℕ) (x : ℕ) → is_in x (without g keep) ≡ pick (eqb x g) false (is_in x keep)
unfolding without is_in
in_without g [] x = by (eqb x g)
  where
    by : (t : Bool) → false ≡ pick t false false
    by true = refl
    by false = refl
in_without g (y ∷ ys) x =
    pick_ind (λ (l : List ℕ). is_in x l ≡ pick (eqb x g) false (pick (eqb y x) true (is_in x ys))) (eqb y g) (without g ys) (y ∷ without g ys)
    (λ t. in_without g ys x ∙ dropped (eqb-true y g t))
    (λ t. ap (pick (eqb y x) true) (in_without g ys x) ∙ stays (eqb-false y g t))
  where
    by-test : (s t : Bool) (b : Bool) → (s ≡ false → t ≡ false) → pick s false b ≡ pick s false (pick t true b)
    by-test true t b f = refl
    by-test false t b f = ap (λ (u : Bool). pick u true b) (sym (f refl))

    dropped : y ≡ g → pick (eqb x g) false (is_in x ys) ≡ pick (eqb x g) false (pick (eqb y x) true (is_in x ys))
    dropped e = by-test (eqb x g) (eqb y x) (is_in x ys) (λ n. ne_eqb y x (λ h. eqb-false x g n (sym h ∙ e)))

    either : (s t b : Bool) → (t ≡ true → s ≡ false) → pick t true (pick s false b) ≡ pick s false (pick t true b)
    either true true b f = absurd (zero_one (let e : true ≡ false = f refl in cc))
    either true false b f = refl
    either false true b f = refl
    either false false b f = refl

    stays : (y ≡ g → ⊥) → pick (eqb y x) true (pick (eqb x g) false (is_in x ys)) ≡ pick (eqb x g) false (pick (eqb y x) true (is_in x ys))
    stays n = either (eqb x g) (eqb y x) (is_in x ys) (λ t. ne_eqb x g (λ h. n (eqb-true y x t ∙ h)))

-- ---- the kept glyphs alone count

module _ (p : Program) (name keep keep' : List ℕ) (words lent : ℕ) (some : 0 < length p.charstrings) (same : (x : ℕ) → keeps keep x ≡ keeps keep' x) where
  abbrev n : ℕ
  n = length p.charstrings

  same_tests : (a b : Bool) → (a ≡ true → b ≡ true) → (b ≡ true → a ≡ true) → a ≡ b
  same_tests true b f g = sym (f refl)
  same_tests false true f g = g refl
  same_tests false false f g = refl

  below : all_below n keep ≡ all_below n keep'
  below = same_tests (all_below n keep) (all_below n keep') (λ h. below_as keep' keep (λ g. sym (same g)) n some h) (λ h. below_as keep keep' same n some h)

  kept : kept_of n keep ≡ kept_of n keep'
  kept = kept_same keep keep' same n

  trace_same : trace_program p keep lent ≡ trace_program p keep' lent
  trace_same =
      ap (λ (t : Bool). pick t (pick (all_found_lem p (kept_of n keep)) (answered lent (met_all p (kept_of n keep))) (refusedTrace NotFound)) (refusedTrace NoSuchNumber)) below
      ∙ ap (λ (l : List ℕ). pick (all_below n keep') (pick (all_found_lem p l) (answered lent (met_all p l)) (refusedTrace NotFound)) (refusedTrace NoSuchNumber)) kept

  cut-same : (t : Traced) → cut_traced p name keep words t ≡ cut_traced p name keep' words t
  cut-same (refusedTrace m) = refl
  cut-same (traced flag rec) = rw (below, kept)

  pub cut_keeps : traced_cut p name keep words lent ≡ traced_cut p name keep' words lent
  unfolding traced_cut
  cut_keeps =
      ap (λ (o : Outcome). pick (unsupported_in false p) (refused Unsupported) (pick (pick (cid_keyed p.top) (has_ros_lem (ros_in p.top)) true) (pick (ltb 65535 (length name)) (refused TooLong) o) (refused Malformed)))
      (cut-same (trace_program p keep lent) ∙ ap (cut_traced p name keep' words) trace_same)

-- ---- the first that passes

module _ (test : ℕ → Bool) where
  -- one that fails at g and behind it
  from_next : (g h : ℕ) → g ≤ h → test g ≡ false → (g + 1 ≤ h → test h ≡ false) → test h ≡ false
  from_next g h l a f = at (eqb g h) refl
    where
      at : (t : Bool) → eqb g h ≡ t → test h ≡ false
      at true q = ap test (sym (eqb-true g h q)) ∙ a
      at false q = let d = eqb-false g h q in f (omega arith)

  -- it passes, and none before it does
  pub first_is : (n g k : ℕ) → first_of (those test n g) ≡ Some k → (g ≤ k) × (k < g + n) × (test k ≡ true) × ((h : ℕ) → g ≤ h → h < k → test h ≡ false)
  unfolding those
  first_is zero g k e = absurd (zero_one cc)
  first_is (suc n) g k e =
      pick_ind (λ l. first_of l ≡ Some k → (g ≤ k) × (k < g + suc n) × (test k ≡ true) × ((h : ℕ) → g ≤ h → h < k → test h ≡ false))
      (test g) (g ∷ those test n (g + 1)) (those test n (g + 1))
      (λ a f. let z : g ≡ k = cc in (omega arith, omega arith, ap test (sym z) ∙ a, λ h l m. absurd (omega arith)))
      (λ a f. let r = first_is n (g + 1) k f in (omega arith, omega arith, r.2, λ h l m. from_next g h l a (λ b. r.3 h b m)))
      e

  -- none of them passes
  pub first-none : (n g : ℕ) → first_of (those test n g) ≡ None → (h : ℕ) → g ≤ h → h < g + n → test h ≡ false
  unfolding those
  first-none zero g e h l m = absurd (omega arith)
  first-none (suc n) g e h l m =
      pick_ind (λ x. first_of x ≡ None → test h ≡ false) (test g) (g ∷ those test n (g + 1)) (those test n (g + 1))
      (λ a f. absurd (zero_one cc))
      (λ a f. from_next g h l a (λ b. first-none n (g + 1) f h b (omega arith)))
      e

  -- where none passes there is no first
  pub none_first : (n g : ℕ) → ((h : ℕ) → g ≤ h → h < g + n → test h ≡ false) → first_of (those test n g) ≡ None
  unfolding those
  none_first zero g f = refl
  none_first (suc n) g f = rw (f g (omega arith) (omega arith)) (none_first n (g + 1) (λ h l m. f h (omega arith) (omega arith)))
