-- What glyphs meet together (document 02, Wish 1): each row of theirs, and no other; or one of them is not plain. And which glyphs are kept.
use Rattle.std.specs.Prelude.{ℕ, zero, suc, ◌+◌, ◌<◌, ◌≡◌, Bool, true, false, ◌⊎◌, eqb, length, None, Option, Some}
use Rattle.std.proofs.Math.Path.{refl}
use Rattle.std.proofs.Common.{sym, ap, ◌∙◌, subst, inl, inr, arith, eqb-true, lt-ltb}
use mathlib.Core.List.{List, [], ◌∷◌, ◌++◌}
use Rattle.std.proofs.Math.Logic.{⊎_elim}
use Rattle.octets.specs.Pick.{pick, pick_ind}
use Rattle.octets.specs.Lists.{all_below}
use Rattle.octets.specs.ListLaws.{below_at}
use Rattle.octets.specs.Steps.{and}
use Rattle.unfold.specs.Unfold.{Tok, Row, Glyph, not_plain_lem, plain}
use Rattle.prune.specs.StepLaws.{zero_one}
use Rattle.cff.specs.Font.{Program}
use Rattle.subset.specs.Kept.{is_in, those, keeps, kept_of}
use Rattle.subset.specs.KeptListLaws.{in_head, in_more, in_cases, in_none, in_place, those_in}
use Rattle.faithful.specs.Faithful.{unfolded, IsKept}
use Rattle.traced.specs.Traced.{met_by, met_all}
use Rattle.traced.specs.Has.{Has}
use Rattle.traced.specs.HasLaws.{has-none, has_left, has_right, has_either}

-- ---- what glyphs meet

-- a plain glyph that meets a row
pub record Meets (p : Program) (g : ℕ) (r : Row) : Type 0 where
  pub tokens : List Tok
  pub met : List Row
  pub plainly : unfolded p g ≡ plain tokens met
  pub has : Has Row r met

-- a plain glyph whose rows are all among some
pub record Within (p : Program) (g : ℕ) (rows : List Row) : Type 0 where
  pub tokens : List Tok
  pub met : List Row
  pub plainly : unfolded p g ≡ plain tokens met
  pub inside : (r : Row) → Has Row r met → Has Row r rows

module _ (p : Program) where
  -- the first glyph and the others
  pub record Split (g : ℕ) (gs : List ℕ) (rows : List Row) : Type 0 where
    pub tokens : List Tok
    pub met : List Row
    pub rest : List Row
    pub first : unfolded p g ≡ plain tokens met
    pub others : met_all p gs ≡ Some rest
    pub all : met ++ rest ≡ rows

  pub split : (g : ℕ) (gs : List ℕ) (rows : List Row) → met_all p (g ∷ gs) ≡ Some rows → Split g gs rows
  unfolding met_all
  split g gs rows e = by (unfolded p g) refl (met_all p gs) refl e
    where
      by : (u : Glyph) → unfolded p g ≡ u → (m : Option (List Row)) → met_all p gs ≡ m → and (met_by u) (λ met. and m (λ rest. Some (met ++ rest))) ≡ Some rows → Split g gs rows
      by not_plain_lem a m b h = absurd (zero_one cc)
      by (plain ts met) a None b h = absurd (zero_one cc)
      by (plain ts met) a (Some rest) b h = record { tokens = ts; met = met; rest = rest; first = a; others = b; all = cc }

  -- each glyph's rows are there
  pub met-within : (gs : List ℕ) (rows : List Row) → met_all p gs ≡ Some rows → (g : ℕ) → is_in g gs ≡ true → Within p g rows
  met-within [] rows e g h = absurd (in_none g h)
  met-within (x ∷ gs) rows e g h =
      let s = split x gs rows e in
      ⊎_elim
      (λ i. record {
        tokens = s.tokens;
        met = s.met;
        plainly = ap (unfolded p) (sym i) ∙ s.first;
        inside = λ r a. subst (Has Row r) s.all (has_left Row r s.met s.rest a);
      })
      (λ i. let w = met-within gs s.rest s.others g i in
      record {
        tokens = w.tokens;
        met = w.met;
        plainly = w.plainly;
        inside = λ r a. subst (Has Row r) s.all (has_right Row r s.met s.rest (w.inside r a));
      })
      (in_cases x g gs h)

  -- and no other
  pub met-from : (gs : List ℕ) (rows : List Row) → met_all p gs ≡ Some rows → (r : Row) → Has Row r rows → (g : ℕ) × (is_in g gs ≡ true) × Meets p g r
  unfolding met_all
  met-from [] rows e r h = let z : [] ≡ rows = cc in absurd (has-none Row r (subst (Has Row r) (sym z) h))
  met-from (x ∷ gs) rows e r h =
      let s = split x gs rows e in
      ⊎_elim
      (λ a. (x, in_head x x gs refl, record { tokens = s.tokens; met = s.met; plainly = s.first; has = a }))
      (λ b. let m = met-from gs s.rest s.others r b in (m.0, in_more x m.0 gs m.1, m.2))
      (has_either Row r s.met s.rest (subst (Has Row r) (sym s.all) h))

  -- where it fails one is not plain
  pub met-fails : (gs : List ℕ) → met_all p gs ≡ None → (g : ℕ) × (is_in g gs ≡ true) × (unfolded p g ≡ not_plain_lem)
  unfolding met_all
  met-fails [] e = absurd (zero_one cc)
  met-fails (x ∷ gs) e = by (unfolded p x) refl (met_all p gs) refl e (met-fails gs)
    where
      by : (u : Glyph) → unfolded p x ≡ u → (m : Option (List Row)) → met_all p gs ≡ m → and (met_by u) (λ met. and m (λ rest. Some (met ++ rest))) ≡ None
          → (met_all p gs ≡ None → (g : ℕ) × (is_in g gs ≡ true) × (unfolded p g ≡ not_plain_lem)) → (g : ℕ) × (is_in g (x ∷ gs) ≡ true) × (unfolded p g ≡ not_plain_lem)
      by not_plain_lem a m b h f = (x, in_head x x gs refl, a)
      by (plain ts met) a None b h f = let q = f b in (q.0, in_more x q.0 gs q.1, q.2)
      by (plain ts met) a (Some rest) b h f = absurd (zero_one cc)

-- ---- the kept glyphs

-- glyph 0, or one of the keep list
pub asked_for : (keep : List ℕ) (g : ℕ) → keeps keep g ≡ true → (g ≡ 0) ⊎ (is_in g keep ≡ true)
asked_for keep g e = by (eqb g 0) refl e
  where
    by : (t : Bool) → eqb g 0 ≡ t → pick t true (is_in g keep) ≡ true → (g ≡ 0) ⊎ (is_in g keep ≡ true)
    by true a h = inl (eqb-true g 0 a)
    by false a h = inr h

pub in_kept : (p : Program) (keep : List ℕ) (g : ℕ) → is_in g (kept_of (length p.charstrings) keep) ≡ true → IsKept p keep g
in_kept p keep g h =
    let t = those_in (keeps keep) (length p.charstrings) 0 g h in
    record { there = omega (arith, t.1); asked = asked_for keep g t.2 }

-- ---- keep lists with the same glyphs

those-same : (s t : ℕ → Bool) → ((g : ℕ) → s g ≡ t g) → (n g : ℕ) → those s n g ≡ those t n g
unfolding those
those-same s t e zero g = refl
those-same s t e (suc n) g =
    ap (λ (b : Bool). pick b (g ∷ those s n (g + 1)) (those s n (g + 1))) (e g)
    ∙ ap (λ (l : List ℕ). pick (t g) (g ∷ l) l) (those-same s t e n (g + 1))

below-from : (n : ℕ) (l : List ℕ) → ((g : ℕ) → is_in g l ≡ true → g < n) → all_below n l ≡ true
unfolding all_below
below-from n [] f = refl
below-from n (x ∷ l) f = rw (lt-ltb x n (f x (in_head x x l refl))) (below-from n l (λ g h. f g (in_more x g l h)))

below_in : (n : ℕ) (l : List ℕ) → all_below n l ≡ true → (g : ℕ) → is_in g l ≡ true → g < n
below_in n l e g h = let i = in_place l g h in subst (λ (x : ℕ). x < n) i.2 (below_at n l e i.0 i.1)

module _ (keep keep' : List ℕ) (same : (g : ℕ) → keeps keep g ≡ keeps keep' g) where
  pub kept_same : (n : ℕ) → kept_of n keep ≡ kept_of n keep'
  kept_same n = those-same (keeps keep) (keeps keep') same n 0

  pub below_as : (n : ℕ) → 0 < n → all_below n keep' ≡ true → all_below n keep ≡ true
  below_as n any e = below-from n keep (λ g h. ⊎_elim (λ z. omega (arith, z)) (λ i. below_in n keep' e g i) (asked_for keep' g (sym (same g) ∙ kept g h)))
    where
      kept : (g : ℕ) → is_in g keep ≡ true → keeps keep g ≡ true
      kept g h = pick_ind (λ (t : Bool). t ≡ true) (eqb g 0) true (is_in g keep) (λ t. refl) (λ t. h)
