-- The rows that a glyph meets (document 01, 'Plain glyphs'): each subroutine that it enters exists, and the body of each mask is its own charstring or a
-- subroutine that it enters.
use Rattle.std.specs.Prelude.{ℤ, ◌≡◌, length, get_or, None, Option, Some}
use Prim.Native.Nat.{ℕ, zero, suc, ◌+◌, ◌<◌}
use Rattle.std.proofs.Math.Path.{refl, subst}
use Rattle.std.proofs.Common.{sym, ⊎_elim}
use mathlib.Core.List.{List, [], ◌∷◌, ◌++◌}
use Rattle.unfold.specs.Unfold.{Tok, Row, Site, glyph, local, global, entered, masked, State, Run, broken, returned, ended, calling, after, walk, run_body, plain, glyph_of, fresh, unfold_glyph}
use Rattle.prune.specs.StepLaws.{zero_one, mask_now, Step, reads, calls_local, calls_global, returns, ends, escapes, masks, clears, walk_was}
use Rattle.traced.specs.Has.{Has, here, there}
use Rattle.traced.specs.HasLaws.{has-none, has_left, has_right, has_either}
use Rattle.traced.proofs.RunLaws.{target_below}

module _ (globals locals : List (List ℕ)) (fd g : ℕ) where
  -- a body that runs: the glyph's own charstring, or a subroutine that exists and was entered
  abbrev pub Runs : List Row → Site → Type 0
  Runs met (glyph h) = h ≡ g
  Runs met (local f i) = (f ≡ fd) × (i < length locals) × Has Row (entered (local f i)) met
  Runs met (global i) = (i < length globals) × Has Row (entered (global i)) met

  -- what a row is that was met among others
  pub data Known (met : List Row) (r : Row) : Type 0 where
    enters_local : (i : ℕ) → i < length locals → r ≡ entered (local fd i) → Known met r
    enters_global : (i : ℕ) → i < length globals → r ≡ entered (global i) → Known met r
    masks_in : (site : Site) (offset len : ℕ) → Runs met site → r ≡ masked site offset len → Known met r

  -- ---- rows as they grow

  abbrev Grows : List Row → List Row → Type 0
  Grows a b = (r : Row) → Has Row r a → Has Row r b

  abbrev Sound : List Row → Type 0
  Sound met = (r : Row) → Has Row r met → Known met r

  runs_grow : (a b : List Row) → Grows a b → (site : Site) → Runs a site → Runs b site
  runs_grow a b f (glyph h) e = e
  runs_grow a b f (local k i) e = (e.0, e.1, f (entered (local k i)) e.2)
  runs_grow a b f (global i) e = (e.0, f (entered (global i)) e.1)

  known_grows : (a b : List Row) → Grows a b → (r : Row) → Known a r → Known b r
  known_grows a b f r (enters_local i h e) = enters_local i h e
  known_grows a b f r (enters_global i h e) = enters_global i h e
  known_grows a b f r (masks_in site o l h e) = masks_in site o l (runs_grow a b f site h) e

  abbrev with : List Row → Row → List Row
  with met r = met ++ (r ∷ [])

  one_grows : (met : List Row) (r : Row) → Grows met (with met r)
  one_grows met r q h = has_left Row q met (r ∷ []) h

  new-one : (met : List Row) (r : Row) → Has Row r (with met r)
  new-one met r = has_right Row r met (r ∷ []) (here refl)

  sound_more : (met : List Row) (r : Row) → Sound met → Known (with met r) r → Sound (with met r)
  sound_more met r s k q h =
      ⊎_elim (λ a. known_grows met (with met r) (one_grows met r) q (s q a)) (λ b. subst (Known (with met r)) (only b) k) (has_either Row q met (r ∷ []) h)
    where
      only : Has Row q (r ∷ []) → r ≡ q
      only (here e) = e
      only (there b) = absurd (has-none Row q b)

  -- ---- a run

  -- the rows of a run that began with some
  record Going (base met : List Row) : Type 0 where
    sound : Sound met
    grows : Grows base met

  abbrev Good : List Row → Run → Type 0
  Good base broken = Unit
  Good base (returned st) = Going base st.met
  Good base (ended st) = Going base st.met

  going_on : (a b c : List Row) → Grows a b → Going b c → Going a c
  going_on a b c f x = record { sound = x.sound; grows = λ r h. x.grows r (f r h) }

  good-after : (base mid : List Row) → Grows base mid → (x : Run) (on : State → Run) (r : Run) → after x on ≡ r → Good mid x
      → ((st : State) → Going base st.met → on st ≡ r → Good base r) → Good base r
  good-after base mid f broken on r e x rest = subst (Good base) e tt
  good-after base mid f (returned st) on r e x rest = rest st (going_on base mid st.met f x) e
  good-after base mid f (ended st) on r e x rest = subst (Good base) e (going_on base mid st.met f x)

  -- entering a body
  abbrev Enters : (Site → List ℕ → State → Run) → Type 0
  Enters enter = (site : Site) (s : List ℕ) (st : State) → Runs st.met site → Sound st.met → (r : Run) → enter site s st ≡ r → Good st.met r

  module _ (enter : Site → List ℕ → State → Run) (enters : Enters enter) (site : Site) (s : List ℕ) (base : List Row) (here-runs : Runs base site) where
    abbrev Walks : ℕ → Type 0
    Walks k = (at : ℕ) (l : Option ℤ) (st : State) (r : Run) → Going base st.met → walk globals locals fd enter k site s at l st ≡ r → Good base r

    module _ (k : ℕ) (next : Walks k) (at : ℕ) (l : Option ℤ) (st : State) (r : Run) (own : Going base st.met) where
      more : (q : Row) → Known (with st.met q) q → Going base (with st.met q)
      more q h = record { sound = sound_more st.met q own.sound h; grows = λ x y. one_grows st.met q x (own.grows x y) }

      good_call : (which : Site) (body : List ℕ) → Runs (with st.met (entered which)) which → Known (with st.met (entered which)) (entered which)
          → after (enter which body (calling which st)) (walk globals locals fd enter k site s (at + 1) None) ≡ r → Good base r
      good_call which body runs known e =
          let m = more (entered which) known in
          good-after base (with st.met (entered which)) m.grows (enter which body (calling which st)) (walk globals locals fd enter k site s (at + 1) None) r e
          (enters which body (calling which st) runs m.sound _ refl)
          (λ x a q. next (at + 1) None x r a q)

      good-step : Step globals locals fd enter k site s at l st r → Good base r
      good-step (reads z n f a b e) = next n (Some z) _ r own e
      good-step (calls_local i o f e) =
          let h = target_below (length locals) l i f in
          good_call (local fd i) (get_or locals i []) (refl, h, new-one st.met (entered (local fd i))) (enters_local i h refl) e
      good-step (calls_global i o f e) =
          let h = target_below (length globals) l i f in
          good_call (global i) (get_or globals i []) (h, new-one st.met (entered (global i))) (enters_global i h refl) e
      good-step (returns o f e) = subst (Good base) e own
      good-step (ends o f a e) = subst (Good base) e own
      good-step (escapes x o f a b c d e) = next (at + 2) None _ r own e
      good-step (masks b o c m a d f e) =
          let row = masked site at (mask_now st) in
          let runs = runs_grow base (with st.met row) (λ x y. one_grows st.met row x (own.grows x y)) site here-runs in
          next (at + 1 + mask_now st) None _ r (more row (masks_in site at (mask_now st) runs refl)) e
      good-step (clears b n o c m a d e) = next (at + 1) None _ r own e

    good-walk : (k : ℕ) → Walks k
    unfolding walk
    good-walk zero at l st r own e = subst (Good base) e tt
    good-walk (suc k) at l st broken own e = tt
    good-walk (suc k) at l st (returned x) own e =
        good-step k (good-walk k) at l st (returned x) own (walk_was globals locals fd enter k site s at l st (returned x) tt e).1
    good-walk (suc k) at l st (ended x) own e =
        good-step k (good-walk k) at l st (ended x) own (walk_was globals locals fd enter k site s at l st (ended x) tt e).1

  start : (met : List Row) → Sound met → Going met met
  start met s = record { sound = s; grows = λ r h. h }

  good-body : (d : ℕ) → Enters (run_body globals locals fd d)
  unfolding run_body
  good-body zero site s st runs own r e =
      good-walk (λ t b x. broken) (λ t b x f a q u. subst (Good x.met) u tt) site s st.met runs (length s) 0 None st r (start st.met own) e
  good-body (suc d) site s st runs own r e =
      good-walk (run_body globals locals fd d) (good-body d) site s st.met runs (length s) 0 None st r (start st.met own) e

  good_glyph : (r : Run) (ts : List Tok) (rows : List Row) → glyph_of r ≡ plain ts rows → Good [] r → Sound rows
  good_glyph broken ts rows e x = absurd (zero_one cc)
  good_glyph (returned st) ts rows e x = absurd (zero_one cc)
  good_glyph (ended st) ts rows e x = let m : st.met ≡ rows = cc in subst Sound m x.sound

  -- what each row is that a plain glyph meets
  pub met-known : (s : List ℕ) (ts : List Tok) (rows : List Row) → unfold_glyph globals locals fd g s ≡ plain ts rows → (r : Row) → Has Row r rows → Known rows r
  unfolding unfold_glyph
  met-known [] ts rows e r h = let m : [] ≡ rows = cc in absurd (has-none Row r (subst (Has Row r) (sym m) h))
  met-known (b ∷ bs) ts rows e r h =
      good_glyph (run_body globals locals fd 10 (glyph g) (b ∷ bs) fresh) ts rows e
      (good-body 10 (glyph g) (b ∷ bs) fresh refl (λ q i. absurd (has-none Row q i)) _ refl) r h
