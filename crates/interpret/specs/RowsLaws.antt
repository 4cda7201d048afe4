-- Every row of a run is one that it can meet, and what that says of its fields.
use Prim.Native.Nat.{ℕ, zero, suc, ◌+◌, ◌≤◌, ◌<◌}
use Rattle.std.specs.Prelude.{◌≡◌, refl, false, List, [], ◌∷◌, ◌++◌, ltb, length}
use Rattle.std.proofs.Common.{true≢false, arith, ltb-true}
use Rattle.octets.specs.Pick.{pick_ind}
use Rattle.unfold.specs.Unfold.{Row, Site, glyph, entered, masked, is_glyph}
use Rattle.prune.specs.Bodies.{All, empty, one}
use Rattle.turns.specs.Turns.{Few, of_kind, turn_at_lem}
use Rattle.turns.specs.TurnLaws.{Sound, turn_sound, FewAfter, turn_few}
use Rattle.turns.specs.declared.Counts.{Counts}
use Rattle.turns.specs.declared.Turn.TheVariants.{Breaks, Returns, Ends, Goes, Masks, Calls}
use Rattle.turns.specs.declared.Turn.{Turn}
use Rattle.turns.specs.declared.Kind.{Kind}
use Rattle.turns.specs.declared.Kind.TheVariants.{Local, Global}
use Rattle.interpret.specs.Trace.{Trace, broken, returned, ended, meets, afterwards, site_for, body_for, turned, trace_walk, trace_body, enter_at, trace_call}
use Rattle.interpret.specs.Rows.{Runs, own, in_local, in_global, RowMet, entering, masking, Proper, RowGood}

all_both : {P : Row → Type 0} (a b : List Row) → All P a → All P b → All P (a ++ b)
all_both [] b p q = q
all_both (r ∷ a) b (one h p) q = one h (all_both a b p q)

module _ (globals locals : List (List ℕ)) (fd g : ℕ) (code : List ℕ) where
  abbrev P : Trace → Type 0
  P t = Proper globals locals fd g code t

  abbrev R : Site → List ℕ → Type 0
  R t s = Runs globals locals fd g code t s

  proper_meets : (rows : List Row) (t : Trace) → All (RowMet globals locals fd g code) rows → P t → P (meets rows t)
  proper_meets rows broken a p = tt
  proper_meets rows (returned x rs) a p = (p.0, all_both rows rs a p.1)
  proper_meets rows (ended rs) a p = all_both rows rs a p

  proper_after : (t : Trace) (on : Counts → Trace) → P t → ((x : Counts) → Few x → P (on x)) → P (afterwards t on)
  proper_after broken on p f = tt
  proper_after (returned x rs) on p f = proper_meets rs (on x) p.1 (f x p.0)
  proper_after (ended rs) on p f = p

  -- a subroutine that is there
  runs_for : (kind : Kind) (i : ℕ) → i < of_kind kind (length locals) (length globals) → R (site_for fd kind i) (body_for globals locals kind i)
  runs_for Local i h = in_local i h
  runs_for Global i h = in_global i h

  no_glyph : (kind : Kind) (i : ℕ) → is_glyph (site_for fd kind i) ≡ false
  no_glyph Local i = refl
  no_glyph Global i = refl

  module _ (enter : Site → List ℕ → Counts → Trace) (enters : (t : Site) (s : List ℕ) (x : Counts) → R t s → Few x → P (enter t s x))
      (site : Site) (s : List ℕ) (run : R site s) where
    proper_turn : (on : ℕ → ℕ → Counts → Trace) → ((n p : ℕ) (x : Counts) → Few x → P (on n p x)) → (at : ℕ) (t : Turn)
        → Sound (length locals) (length globals) s at t → FewAfter t → P (turned globals locals fd enter on site at t)
    proper_turn on ons at Breaks k f = tt
    proper_turn on ons at (Returns x) k f = (f, empty)
    proper_turn on ons at Ends k f = empty
    proper_turn on ons at (Goes n p x) k f = ons n p x f
    proper_turn on ons at (Masks len x) k f =
        proper_meets (masked site at len ∷ []) (on (at + 1 + len) (at + 1 + len) x) (one (masking at len run k.1 k.0) empty) (ons (at + 1 + len) (at + 1 + len) x f)
    proper_turn on ons at (Calls kind i x) k f =
        let r = runs_for kind i k in
        let t = site_for fd kind i in
        proper_meets (entered t ∷ []) (afterwards (enter t (body_for globals locals kind i) x) (on (at + 1) (at + 1))) (one (entering r (no_glyph kind i)) empty)
        (proper_after (enter t (body_for globals locals kind i) x) (on (at + 1) (at + 1)) (enters t (body_for globals locals kind i) x r f) (λ y g. ons (at + 1) (at + 1) y g))

    proper_walk : (k at prev : ℕ) (x : Counts) → Few x → P (trace_walk globals locals fd enter k site s at prev x)
    unfolding trace_walk
    proper_walk zero at prev x f = tt
    proper_walk (suc k) at prev x f =
        pick_ind P (ltb at (length s)) _ broken
        (λ e. proper_turn (λ n p y. trace_walk globals locals fd enter k site s n p y) (λ n p y h. proper_walk k n p y h) at (turn_at_lem (length locals) (length globals) (is_glyph site) s at prev x)
        (turn_sound (length locals) (length globals) s at (ltb-true at (length s) e) (is_glyph site) prev x)
        (turn_few s at (length locals) (length globals) (is_glyph site) prev x f)) (λ e. tt)

  pub proper_body : (d : ℕ) (site : Site) (s : List ℕ) (x : Counts) → R site s → Few x → P (trace_body globals locals fd d site s x)
  unfolding trace_body
  proper_body zero site s x r f = proper_walk (λ t b y. broken) (λ t b y q h. tt) site s r (length s) 0 0 x f
  proper_body (suc d) site s x r f = proper_walk (trace_body globals locals fd d) (λ t b y q h. proper_body d t b y q h) site s r (length s) 0 0 x f

  pub proper_call : (d : ℕ) (kind : Kind) (i : ℕ) (x : Counts) → i < of_kind kind (length locals) (length globals) → Few x → P (trace_call globals locals fd d kind i x)
  unfolding enter_at
  proper_call d kind i x h f =
      proper_meets (entered (site_for fd kind i) ∷ []) (enter_at globals locals fd d (site_for fd kind i) (body_for globals locals kind i) x)
      (one (entering (runs_for kind i h) (no_glyph kind i)) empty) (by d)
    where
      by : (k : ℕ) → P (enter_at globals locals fd k (site_for fd kind i) (body_for globals locals kind i) x)
      by zero = tt
      by (suc k) = proper_body k (site_for fd kind i) (body_for globals locals kind i) x (runs_for kind i h) f

  -- ---- what a row that is met says

  -- a row of kind 2 is a mask of the glyph itself
  pub own-number : {r : Row} → RowMet globals locals fd g code r → r.kind ≡ 2 → r.number ≡ g
  own-number (entering own e) k = absurd (true≢false e)
  own-number (entering (in_local i h) e) k = absurd (omega arith)
  own-number (entering (in_global i h) e) k = absurd (omega arith)
  own-number (masking offset len own h l) k = refl
  own-number (masking offset len (in_local i h) m l) k = absurd (omega arith)
  own-number (masking offset len (in_global i h) m l) k = absurd (omega arith)

  -- a subroutine that is entered is there
  pub local_there : {r : Row} → RowMet globals locals fd g code r → r.kind ≡ 0 → (r.fd ≡ fd) × (r.number < length locals)
  local_there (entering own e) k = absurd (true≢false e)
  local_there (entering (in_local i h) e) k = (refl, h)
  local_there (entering (in_global i h) e) k = absurd (omega arith)
  local_there (masking offset len own h l) k = absurd (omega arith)
  local_there (masking offset len (in_local i h) m l) k = absurd (omega arith)
  local_there (masking offset len (in_global i h) m l) k = absurd (omega arith)

  pub global_there : {r : Row} → RowMet globals locals fd g code r → r.kind ≡ 1 → r.number < length globals
  global_there (entering own e) k = absurd (true≢false e)
  global_there (entering (in_local i h) e) k = absurd (omega arith)
  global_there (entering (in_global i h) e) k = h
  global_there (masking offset len own h l) k = absurd (omega arith)
  global_there (masking offset len (in_local i h) m l) k = absurd (omega arith)
  global_there (masking offset len (in_global i h) m l) k = absurd (omega arith)

  module _ (few : fd < 256) (numbered : g < 65536) (many_locals : length locals < 65536) (manyGlobals : length globals < 65536)
      (short : (t : Site) (s : List ℕ) → R t s → length s ≤ 67108864) where
    pub row-good : {r : Row} → RowMet globals locals fd g code r → RowGood r
    row-good (entering own e) = absurd (true≢false e)
    row-good (entering (in_local i h) e) = record { kind = omega arith; fd = few; number = omega arith; offset = omega arith; len = omega arith }
    row-good (entering (in_global i h) e) = record { kind = omega arith; fd = omega arith; number = omega arith; offset = omega arith; len = omega arith }
    row-good (masking offset len own h l) =
        let k = short (glyph g) code own in record { kind = omega arith; fd = omega arith; number = numbered; offset = omega arith; len = l }
    row-good (masking offset len (in_local i h) m l) =
        let k = short _ _ (in_local i h) in record { kind = omega arith; fd = few; number = omega arith; offset = omega arith; len = l }
    row-good (masking offset len (in_global i h) m l) =
        let k = short _ _ (in_global i h) in record { kind = omega arith; fd = omega arith; number = omega arith; offset = omega arith; len = l }
