-- The rows that a glyph meets (document 01, 'Plain glyphs' and 'Reach record') fit their bytes and are of the right form: refusal 8 does not meet them.
use Prim.Native.Nat.{ℕ, zero, suc, ◌+◌, ◌≤◌, ◌<◌}
use Rattle.std.specs.Prelude.{◌≡◌, refl, Bool, true, false, ltb, ℤ, length, get_or, None, Option, Some}
use Rattle.std.proofs.Math.Path.{subst}
use mathlib.Core.List.{List, [], ◌∷◌}
use Rattle.std.proofs.Common.{arith, eq-eqb, ltb-true, ltb-false}
use Rattle.octets.specs.Pick.{pick}
use Rattle.octets.specs.Steps.{and}
use Rattle.charstring.specs.Bias.{bias_of, numbered}
use Rattle.unfold.specs.Unfold.{Tok, Row, Site, glyph, local, global, entered, masked, State, Run, broken, returned, ended, calling, target_of, after, walk, run_body, plain, glyph_of, fresh, unfold_glyph}
use Rattle.prune.specs.Bodies.{All, empty as nothing}
use Rattle.prune.specs.StepLaws.{zero_one, stems_now, mask_now, Step, reads, calls_local, calls_global, returns, ends, escapes, masks, clears, walk_was}
use Rattle.record.specs.Record.{row_fine_lem}
use Rattle.traced.specs.RowLaws.{RowFits}
use Rattle.traced.specs.BodyLaws.{Short}
use Rattle.traced.specs.HasLaws.{all_more}

-- a row that fits its bytes and is of the right form
pub record Proper (cid : Bool) (r : Row) : Type 0 where
  pub fits : RowFits r
  pub fine : row_fine_lem cid r ≡ true

-- a body whose number and FD fit; in a name-keyed font the FD is 0
pub record FdFits (cid : Bool) (fd : ℕ) : Type 0 where
  pub byte : fd < 256
  pub one : cid ≡ false → fd ≡ 0

abbrev pub SiteFits : Bool → Site → Type 0
SiteFits cid (glyph g) = g < 65536
SiteFits cid (local fd k) = FdFits cid fd × (k < 65536)
SiteFits cid (global k) = k < 65536

-- ---- rows of a body

enters_local : (cid : Bool) (fd k : ℕ) → FdFits cid fd → k < 65536 → Proper cid (entered (local fd k))
enters_local cid fd k f h =
    record { fits = record { kind = omega arith; fd = f.byte; number = h; offset = omega arith; len = omega arith }; fine = by cid f }
  where
    by : (c : Bool) → FdFits c fd → row_fine_lem c (entered (local fd k)) ≡ true
    by true g = refl
    by false g = rw (eq-eqb fd 0 (g.one refl))

enters_global : (cid : Bool) (k : ℕ) → k < 65536 → Proper cid (entered (global k))
enters_global cid k h =
    record { fits = record { kind = omega arith; fd = omega arith; number = h; offset = omega arith; len = omega arith }; fine = by cid }
  where
    by : (c : Bool) → row_fine_lem c (entered (global k)) ≡ true
    by true = refl
    by false = refl

masks_in : (cid : Bool) (site : Site) (offset len : ℕ) → SiteFits cid site → offset < 67108864 → len < 16 → Proper cid (masked site offset len)
masks_in cid (glyph g) offset len s o l =
    record { fits = record { kind = omega arith; fd = omega arith; number = s; offset = o; len = l }; fine = by cid }
  where
    by : (c : Bool) → row_fine_lem c (masked (glyph g) offset len) ≡ true
    by true = refl
    by false = refl
masks_in cid (local fd k) offset len s o l =
    record { fits = record { kind = omega arith; fd = s.0.byte; number = s.1; offset = o; len = l }; fine = by cid s.0 }
  where
    by : (c : Bool) → FdFits c fd → row_fine_lem c (masked (local fd k) offset len) ≡ true
    by true g = refl
    by false g = rw (eq-eqb fd 0 (g.one refl))
masks_in cid (global k) offset len s o l =
    record { fits = record { kind = omega arith; fd = omega arith; number = s; offset = o; len = l }; fine = by cid }
  where
    by : (c : Bool) → row_fine_lem c (masked (global k) offset len) ≡ true
    by true = refl
    by false = refl

-- a mask of at most 96 stems has at most 12 bytes
mask-short : (st : State) → ltb 96 (stems_now st) ≡ false → mask_now st < 16
mask-short st h = omega (arith, ltb-false 96 (stems_now st) h)

-- the subroutine that a call names is one of them
tested : (u : Bool) (count n i : ℕ) → pick u (Some n) None ≡ Some i → (u ≡ true → n < count) → i < count
tested true count n i e f = let s : n ≡ i = cc in subst (λ (k : ℕ). k < count) s (f refl)
tested false count n i e f = absurd (zero_one cc)

pub target_below : (count : ℕ) (l : Option ℤ) (i : ℕ) → target_of count l ≡ Some i → i < count
unfolding target_of
target_below count l i e = go (and l (numbered (bias_of count))) e
  where
    go : (o : Option ℕ) → and o (λ (k : ℕ). pick (ltb k count) (Some k) None) ≡ Some i → i < count
    go None h = absurd (zero_one cc)
    go (Some k) h = tested (ltb k count) count k i h (λ t. ltb-true k count t)

-- ---- a run

module _ (cid : Bool) (globals locals : List (List ℕ)) (fd : ℕ) (fd_fits : FdFits cid fd) (few_globals : length globals < 65536) (few_locals : length locals < 65536)
    (shortGlobals : Short 67108864 globals) (shortLocals : Short 67108864 locals) where
  abbrev P : Row → Type 0
  P r = Proper cid r

  -- a run whose rows are proper; one that is broken has none
  abbrev Good : Run → Type 0
  Good broken = Unit
  Good (returned st) = All P st.met
  Good (ended st) = All P st.met

  good-after : (x : Run) (on : State → Run) (r : Run) → after x on ≡ r → Good x → ((st : State) → All P st.met → on st ≡ r → Good r) → Good r
  good-after broken on r e g rest = subst Good e tt
  good-after (returned st) on r e g rest = rest st g e
  good-after (ended st) on r e g rest = subst Good e g

  -- entering a body
  abbrev Enters : (Site → List ℕ → State → Run) → Type 0
  Enters enter = (site : Site) (s : List ℕ) (st : State) → SiteFits cid site → length s ≤ 67108864 → All P st.met → (r : Run) → enter site s st ≡ r → Good r

  module _ (enter : Site → List ℕ → State → Run) (enters : Enters enter) (site : Site) (s : List ℕ) (fits : SiteFits cid site) (short : length s ≤ 67108864) where
    abbrev Walks : ℕ → Type 0
    Walks k = (at : ℕ) (l : Option ℤ) (st : State) (r : Run) → All P st.met → walk globals locals fd enter k site s at l st ≡ r → Good r

    module _ (k : ℕ) (next : Walks k) (at : ℕ) (l : Option ℤ) (st : State) (r : Run) (own : All P st.met) (inside : at < length s) where
      good_call : (which : Site) (body : List ℕ) → SiteFits cid which → length body ≤ 67108864 → P (entered which)
          → after (enter which body (calling which st)) (walk globals locals fd enter k site s (at + 1) None) ≡ r → Good r
      good_call which body f h p e =
          good-after (enter which body (calling which st)) (walk globals locals fd enter k site s (at + 1) None) r e
          (enters which body (calling which st) f h (all_more P st.met (entered which) own p) _ refl)
          (λ x a g. next (at + 1) None x r a g)

      good-step : Step globals locals fd enter k site s at l st r → Good r
      good-step (reads z n f a b e) = next n (Some z) _ r own e
      good-step (calls_local i o f e) =
          let h : i < 65536 = omega (arith, target_below (length locals) l i f, few_locals) in
          good_call (local fd i) (get_or locals i []) (fd_fits, h) (shortLocals i) (enters_local cid fd i fd_fits h) e
      good-step (calls_global i o f e) =
          let h : i < 65536 = omega (arith, target_below (length globals) l i f, few_globals) in
          good_call (global i) (get_or globals i []) h (shortGlobals i) (enters_global cid i h) e
      good-step (returns o f e) = subst Good e own
      good-step (ends o f a e) = subst Good e own
      good-step (escapes x o f a b c d e) = next (at + 2) None _ r own e
      good-step (masks b o c m a d f e) =
          let row = masked site at (mask_now st) in
          next (at + 1 + mask_now st) None _ r (all_more P st.met row own (masks_in cid site at (mask_now st) fits (omega (arith, inside, short)) (mask-short st a))) e
      good-step (clears b n o c m a d e) = next (at + 1) None _ r own e

    good-walk : (k : ℕ) → Walks k
    unfolding walk
    good-walk zero at l st r own e = subst Good e tt
    good-walk (suc k) at l st broken own e = tt
    good-walk (suc k) at l st (returned x) own e =
        let w = walk_was globals locals fd enter k site s at l st (returned x) tt e in
        good-step k (good-walk k) at l st (returned x) own (ltb-true at (length s) w.0) w.1
    good-walk (suc k) at l st (ended x) own e =
        let w = walk_was globals locals fd enter k site s at l st (ended x) tt e in
        good-step k (good-walk k) at l st (ended x) own (ltb-true at (length s) w.0) w.1

  good-body : (d : ℕ) → Enters (run_body globals locals fd d)
  unfolding run_body
  good-body zero site s st f h own r e =
      good-walk (λ t b x. broken) (λ t b x g i a q u. subst Good u tt) site s f h (length s) 0 None st r own e
  good-body (suc d) site s st f h own r e =
      good-walk (run_body globals locals fd d) (good-body d) site s f h (length s) 0 None st r own e

  good_glyph : (r : Run) (ts : List Tok) (rows : List Row) → glyph_of r ≡ plain ts rows → Good r → All P rows
  good_glyph broken ts rows e g = absurd (zero_one cc)
  good_glyph (returned st) ts rows e g = absurd (zero_one cc)
  good_glyph (ended st) ts rows e g = let m : st.met ≡ rows = cc in subst (All P) m g

  -- the rows that a plain glyph meets are proper
  pub rows_proper : (g : ℕ) (s : List ℕ) (ts : List Tok) (rows : List Row) → g < 65536 → length s ≤ 67108864 → unfold_glyph globals locals fd g s ≡ plain ts rows
      → All (Proper cid) rows
  unfolding unfold_glyph
  rows_proper g [] ts rows h i e = let m : [] ≡ rows = cc in subst (All P) m nothing
  rows_proper g (b ∷ bs) ts rows h i e =
      good_glyph (run_body globals locals fd 10 (glyph g) (b ∷ bs) fresh) ts rows e (good-body 10 (glyph g) (b ∷ bs) fresh h i nothing _ refl)
