-- Laws of a body that is run turn by turn: the rows noted so far and what is left to run are the whole run.
use Prim.Native.Nat.{ℕ, zero, suc, ◌+◌, ◌-◌, ◌≤◌, ◌<◌}
use Rattle.std.specs.Prelude.{◌≡◌, Bool, List, [], ◌∷◌, ◌++◌, map, length, Ok, Err}
use Rattle.std.proofs.Math.Path.{refl, ap, subst}
use Rattle.std.proofs.Common.{sym, ◌∙◌, append-nil, lt-ltb, le-ltb}
use Rattle.std.proofs.lemmas.List.{map-append}
use native.Mathlib.Omega.{arith}
use Rattle.index.specs.IndexLaws.{items-length}
use Rattle.unfold.specs.Unfold.{Row, Site, entered, masked, is_glyph}
use Rattle.row_window.specs.Window.{within}
use Rattle.row_window.specs.Filled.{adds_none, adds_as, adds_then}
use Rattle.row_window.specs.declared.filling.Filling.{Filling}
use Rattle.turns.specs.Turns.{turn_at_lem}
use Rattle.turns.specs.TargetLaws.{zero_one}
use Rattle.turns.specs.TurnLaws.{Sound, turn_sound}
use Rattle.turns.specs.declared.Counts.{Counts}
use Rattle.turns.specs.declared.Turn.TheVariants.{Breaks, Returns, Ends, Goes, Masks, Calls}
use Rattle.turns.specs.declared.Turn.{Turn}
use Rattle.turns.specs.declared.Kind.{Kind}
use Rattle.turns.specs.declared.Kind.TheVariants.{Local, Global}
use Rattle.interpret.specs.Trace.{Trace, broken, returned, ended, meets, afterwards, site_for, body_for, turned, trace_walk, trace_body, enter_at, trace_call}
use Rattle.interpret.specs.TraceLaws.{meets-none, meets-both, meets-after}
use Rattle.unfold.specs.Sites.{site_of}
use Rattle.interpret.specs.Run.{site_in, globals_in, locals_in, key_for, Notes, Ran, Telling}
use Rattle.interpret.specs.declared.Subrs.{Subrs}
use Rattle.interpret.specs.declared.Range.{Range}
use Rattle.unfold.specs.declared.Site.{Site as Body}
use Rattle.interpret.specs.declared.End.TheVariants.{Returned, Ended}

-- what a run that is not plain answers
abbrev pub nothing : Ran
nothing = Err (record {})

-- ---- rows noted one after the other

module _ (range : Range) where
  pub notes_none : (w : Filling) → Notes range [] w w
  unfolding within
  notes_none w = adds_none w

  pub notes_both : (a b : List Row) {u v w : Filling} → Notes range a u v → Notes range b v w → Notes range (a ++ b) u w
  notes_both a b f g = adds_as (adds_then range.low range.high (map key_for a) (map key_for b) f g) (ap (within range.low range.high) (sym (map-append key_for a b)))

  notes_as : {a b : List Row} {u v : Filling} → Notes range a u v → a ≡ b → Notes range b u v
  notes_as {a} {b} {u} {v} f e = subst (λ (l : List Row). Notes range l u v) e f

-- ---- what the code asks of its parts

-- the turn at a place, by the counts of subroutines and the kind of the body
pub turn-told : (font : List ℕ) (q : Subrs) (site : Body) (own : Bool) → own ≡ is_glyph (site_of site) → (s : List ℕ) (at prev : ℕ) (x : Counts) (r : Turn)
    → r ≡ turn_at_lem q.locals.count q.globals.count own s at prev x
    → r ≡ turn_at_lem (length (locals_in font q)) (length (globals_in font q)) (is_glyph (site_of site)) s at prev x
turn-told font q site own e s at prev x r f =
    f ∙ ap (λ (n : ℕ). turn_at_lem n q.globals.count own s at prev x) (sym (items-length font q.locals))
    ∙ ap (λ (n : ℕ). turn_at_lem (length (locals_in font q)) n own s at prev x) (sym (items-length font q.globals))
    ∙ ap (λ (t : Bool). turn_at_lem (length (locals_in font q)) (length (globals_in font q)) t s at prev x) e

-- the body that a call enters
pub site_as : (fd : ℕ) (kind : Kind) (i : ℕ) (t : Body) → t ≡ site_in fd kind i → site_of t ≡ site_for fd kind i
site_as fd kind i t e = ap site_of e ∙ by kind
  where
    by : (k : Kind) → site_of (site_in fd k i) ≡ site_for fd k i
    by Local = refl
    by Global = refl

pub entered_as : (a b : Body) → a ≡ b → (k : ℕ) → k ≡ key_for (entered (site_of b)) → k ≡ key_for (entered (site_of a))
entered_as a b e k f = f ∙ ap (λ (t : Body). key_for (entered (site_of t))) (sym e)

pub masked_as : (a b : Body) → a ≡ b → (offset len k : ℕ) → k ≡ key_for (masked (site_of b) offset len) → k ≡ key_for (masked (site_of a) offset len)
masked_as a b e offset len k f = f ∙ ap (λ (t : Body). key_for (masked (site_of t) offset len)) (sym e)

-- ---- where a run stands

module _ (globals locals : List (List ℕ)) (fd d : ℕ) (site : Site) (s : List ℕ) where
  abbrev rest : ℕ → ℕ → ℕ → Counts → Trace
  rest k at prev x = trace_walk globals locals fd (enter_at globals locals fd d) k site s at prev x

  run_walks : (x : Counts) → trace_body globals locals fd d site s x ≡ rest (length s) 0 0 x
  unfolding trace_body enter_at
  run_walks x = by d
    where
      by : (k : ℕ) → trace_body globals locals fd k site s x ≡ trace_walk globals locals fd (enter_at globals locals fd k) (length s) site s 0 0 x
      by zero = refl
      by (suc k) = refl

  pub record Going (whole : Trace) (range : Range) (old now : Filling) (at prev : ℕ) (x : Counts) : Type 0 where
    pub fuel : ℕ
    pub enough : length s ≤ at + fuel
    pub rows : List Row
    pub noting : Notes range rows old now
    pub left : whole ≡ meets rows (rest fuel at prev x)

  pub going_start : (range : Range) (w : Filling) (x : Counts) → Going (trace_body globals locals fd d site s x) range w w 0 0 x
  going_start range w x =
      record { fuel = length s; enough = omega arith; rows = []; noting = notes_none range w; left = run_walks x ∙ sym (meets-none _) }

  -- a turn inside a body
  turn_at : (k at prev : ℕ) (x : Counts) → at < length s → length s ≤ at + k
      → (n : ℕ) × (length s ≤ at + 1 + n)
      × (rest k at prev x ≡ turned globals locals fd (enter_at globals locals fd d) (λ m p y. rest n m p y) site at (turn_at_lem (length locals) (length globals) (is_glyph site) s at prev x))
  unfolding trace_walk
  turn_at zero at prev x h e = absurd (omega arith)
  turn_at (suc k) at prev x h e = (k, omega arith, rw (lt-ltb at (length s) h))

  module _ (whole : Trace) (range : Range) (old now : Filling) (at prev : ℕ) (x : Counts)
      (g : Going whole range old now at prev x) (h : at < length s)
      (r : Turn) (e : r ≡ turn_at_lem (length locals) (length globals) (is_glyph site) s at prev x) where
    turn : (k : ℕ) × (length s ≤ at + 1 + k)
        × (rest g.fuel at prev x ≡ turned globals locals fd (enter_at globals locals fd d) (λ m p y. rest k m p y) site at (turn_at_lem (length locals) (length globals) (is_glyph site) s at prev x))
    turn = turn_at g.fuel at prev x h g.enough

    abbrev on : ℕ → ℕ → Counts → Trace
    on m p y = rest turn.0 m p y

    whole_is : (t : Turn) → r ≡ t → whole ≡ meets g.rows (turned globals locals fd (enter_at globals locals fd d) (λ m p y. rest turn.0 m p y) site at t)
    whole_is t f = g.left ∙ ap (meets g.rows) (turn.2 ∙ ap (turned globals locals fd (enter_at globals locals fd d) (λ m p y. rest turn.0 m p y) site at) (sym e ∙ f))

    pub sound : (t : Turn) → r ≡ t → Sound (length locals) (length globals) s at t
    sound t f = subst (Sound (length locals) (length globals) s at) (sym e ∙ f) (turn_sound (length locals) (length globals) s at h (is_glyph site) prev x)

    -- it Breaks, returns, ends
    pub going_breaks : r ≡ Breaks → Telling whole range old now nothing
    going_breaks f = subst (λ (t : Trace). Telling t range old now nothing) (sym (whole_is Breaks f)) refl

    noted : Notes range (g.rows ++ []) old now
    noted = notes_as range g.noting (sym (append-nil g.rows))

    pub going_returns : (y : Counts) → r ≡ Returns y → Telling whole range old now (Ok (Returned y))
    going_returns y f = subst (λ (t : Trace). Telling t range old now (Ok (Returned y))) (sym (whole_is (Returns y) f)) (refl, noted)

    pub going-ends : r ≡ Ends → Telling whole range old now (Ok Ended)
    going-ends f = subst (λ (t : Trace). Telling t range old now (Ok Ended)) (sym (whole_is Ends f)) (refl, noted)

    -- it goes on
    pub going_on : (m p : ℕ) (y : Counts) → r ≡ Goes m p y → Going whole range old now m p y
    going_on m p y f =
        let k = sound (Goes m p y) f in
        record { fuel = turn.0; enough = omega (arith, turn.1); rows = g.rows; noting = g.noting; left = whole_is (Goes m p y) f }

    -- a mask is met
    pub going-mask : (len : ℕ) (y : Counts) → r ≡ Masks len y → (new : Filling) → Notes range (masked site at len ∷ []) now new
        → (m : ℕ) → m ≡ at + 1 + len → Going whole range old new m m y
    going-mask len y f new t m q =
        subst (λ (k : ℕ). Going whole range old new k k y) (sym q)
        (record {
          fuel = turn.0;
          enough = omega (arith, turn.1);
          rows = g.rows ++ (masked site at len ∷ []);
          noting = notes_both range g.rows (masked site at len ∷ []) g.noting t;
          left = whole_is (Masks len y) f ∙ meets-both g.rows (masked site at len ∷ []) (rest turn.0 (at + 1 + len) (at + 1 + len) y);
        })

    -- a call, and how it ended
    module _ (kind : Kind) (i : ℕ) (y : Counts) (f : r ≡ Calls kind i y) (new : Filling) (a : Ran)
        (u : Telling (trace_call globals locals fd d kind i y) range now new a) where
      abbrev called : Trace
      called = trace_call globals locals fd d kind i y

      whole-calls : (v : Trace) → called ≡ v → whole ≡ meets g.rows (afterwards v (λ z. rest turn.0 (at + 1) (at + 1) z))
      whole-calls v j =
          whole_is (Calls kind i y) f
          ∙ ap (meets g.rows) (meets-after (entered (site_for fd kind i) ∷ []) (enter_at globals locals fd d (site_for fd kind i) (body_for globals locals kind i) y) (λ z. rest turn.0 (at + 1) (at + 1) z)
          ∙ ap (λ (t : Trace). afterwards t (λ z. rest turn.0 (at + 1) (at + 1) z)) j)

      told : (v : Trace) → called ≡ v → Telling v range now new a
      told v j = subst (λ (t : Trace). Telling t range now new a) j u

      -- it returned
      pub going-returned : (z : Counts) → a ≡ Ok (Returned z) → Going whole range old new (at + 1) (at + 1) z
      going-returned z q = by called refl
        where
          same : (v : Counts) → ◌≡◌ {A = Ran} (Ok (Returned v)) (Ok (Returned z)) → v ≡ z
          same v j = cc

          by : (v : Trace) → called ≡ v → Going whole range old new (at + 1) (at + 1) z
          by broken j = let k : a ≡ nothing = told broken j in absurd (zero_one cc)
          by (ended rs) j = let k : a ≡ Ok Ended = (told (ended rs) j).0 in absurd (zero_one cc)
          by (returned v rs) j =
              let k = told (returned v rs) j in
              let w = same v (sym k.0 ∙ q) in
              record {
                fuel = turn.0;
                enough = omega (arith, turn.1);
                rows = g.rows ++ rs;
                noting = notes_both range g.rows rs g.noting k.1;
                left = whole-calls (returned v rs) j ∙ meets-both g.rows rs (rest turn.0 (at + 1) (at + 1) v)
                    ∙ ap (λ (c : Counts). meets (g.rows ++ rs) (rest turn.0 (at + 1) (at + 1) c)) w;
              }

      -- it ended all
      pub going_ended : a ≡ Ok Ended → Telling whole range old new (Ok Ended)
      going_ended q = by called refl
        where
          by : (v : Trace) → called ≡ v → Telling whole range old new (Ok Ended)
          by broken j = let k : a ≡ nothing = told broken j in absurd (zero_one cc)
          by (returned v rs) j = let k : a ≡ Ok (Returned v) = (told (returned v rs) j).0 in absurd (zero_one cc)
          by (ended rs) j =
              subst (λ (c : Trace). Telling c range old new (Ok Ended)) (sym (whole-calls (ended rs) j))
              (refl, notes_both range g.rows rs g.noting (told (ended rs) j).1)

      -- it broke
      pub going_broken : a ≡ nothing → Telling whole range old new nothing
      going_broken q = by called refl
        where
          by : (v : Trace) → called ≡ v → Telling whole range old new nothing
          by broken j = subst (λ (c : Trace). Telling c range old new nothing) (sym (whole-calls broken j)) refl
          by (returned v rs) j = let k : a ≡ Ok (Returned v) = (told (returned v rs) j).0 in absurd (zero_one cc)
          by (ended rs) j = let k : a ≡ Ok Ended = (told (ended rs) j).0 in absurd (zero_one cc)

  -- past the end
  pub going_off : (whole : Trace) (range : Range) (old now : Filling) (at prev : ℕ) (x : Counts)
      → Going whole range old now at prev x → length s ≤ at → Telling whole range old now nothing
  unfolding trace_walk
  going_off whole range old now at prev x g h =
      subst (λ (t : Trace). Telling t range old now nothing) (sym (g.left ∙ ap (meets g.rows) (by g.fuel))) refl
    where
      by : (k : ℕ) → rest k at prev x ≡ broken
      by zero = refl
      by (suc k) = rw (le-ltb at (length s) h)

-- ---- a call

-- a subroutine that is not too deep
deeper : (globals locals : List (List ℕ)) (fd k : ℕ) (t : Site) (s : List ℕ) (x : Counts) → (k ≡ 0 → ⊥) → enter_at globals locals fd k t s x ≡ trace_body globals locals fd (k - 1) t s x
unfolding enter_at
deeper globals locals fd zero t s x l = absurd (l refl)
deeper globals locals fd (suc k) t s x l = let z : suc k - 1 ≡ k = omega arith in rw z

module _ (globals locals : List (List ℕ)) (fd d : ℕ) (kind : Kind) (i : ℕ) (x : Counts) (range : Range) (old : Filling) where
  abbrev which : Site
  which = site_for fd kind i

  abbrev body : List ℕ
  body = body_for globals locals kind i

  -- too deep
  pub call_deep : d ≡ 0 → Telling (trace_call globals locals fd d kind i x) range old old nothing
  unfolding enter_at
  call_deep z = subst (λ (k : ℕ). Telling (trace_call globals locals fd k kind i x) range old old nothing) (sym z) refl

  -- its row, and then the subroutine's
  pub call_runs : (d ≡ 0 → ⊥) → (mid : Filling) → Notes range (entered which ∷ []) old mid → (new : Filling) (a : Ran)
      → Telling (trace_body globals locals fd (d - 1) which body x) range mid new a → Telling (trace_call globals locals fd d kind i x) range old new a
  call_runs deep mid t new a u =
      subst (λ (c : Trace). Telling (meets (entered which ∷ []) c) range old new a) (sym (enters d deep)) (by (trace_body globals locals fd (d - 1) which body x) u)
    where
      enters : (k : ℕ) → (k ≡ 0 → ⊥) → enter_at globals locals fd k which body x ≡ trace_body globals locals fd (k - 1) which body x
      enters k l = deeper globals locals fd k which body x l

      by : (v : Trace) → Telling v range mid new a → Telling (meets (entered which ∷ []) v) range old new a
      by broken p = p
      by (returned z rs) p = (p.0, notes_both range (entered which ∷ []) rs t p.1)
      by (ended rs) p = (p.0, notes_both range (entered which ∷ []) rs t p.1)
