-- A run turn by turn is the unfolding's, but for the tokens: it Breaks where that does, and meets the same rows.
use Prim.Native.Nat.{ℕ, zero, suc, ◌+◌, ◌-◌, ◌/◌, ◌<◌}
use Rattle.std.specs.Prelude.{◌≡◌, Bool, List, [], ◌∷◌, ◌++◌, eqb, ℤ, length, take, drop, get_or, None, Option, Some}
use Rattle.std.proofs.Math.Path.{refl}
use Rattle.std.proofs.Common.{sym, ap, ◌∙◌, append-nil, append_assoc, arith, lt-ltb, le-ltb, ltb-true}
use Rattle.std.proofs.Math.Bool.{true, false}
use Rattle.std.proofs.Math.Dec.{ltb}
use Rattle.octets.specs.Pick.{pick}
use Rattle.type2_number.specs.Number.{Read, cut, operator, number as a_number, number_at}
use Rattle.type2_number.specs.NumberLaws.{Further, further}
use Rattle.charstring.specs.Bias.{last_of, last_at}
use Rattle.charstring.specs.Token.{is_mask}
use Rattle.unfold.specs.Unfold.{Tok, num, op, esc, mask, Row, Site, local, global, entered, masked, is_glyph, State, Run, broken as broke, returned as back, ended as done, leave, calling, target_of, after, is_stem, is_path, meeting, call_to, stem_at, mask_at, escape_at, operator_at, step_at, walk, run_body}
use Rattle.turns.specs.Turns.{leaves, call_turn, mask_turn, stem_turn, escape_turn, clearing_turn_lem, operator_turn_lem, turn_by}
use Rattle.turns.specs.TargetLaws.{zero_one}
use Rattle.turns.specs.declared.Counts.{Counts}
use Rattle.turns.specs.declared.Turn.{Turn}
use Rattle.turns.specs.declared.Turn.TheVariants.{Breaks, Returns, Ends, Goes, Masks, Calls}
use Rattle.turns.specs.declared.Kind.{Kind}
use Rattle.turns.specs.declared.Kind.TheVariants.{Local, Global}
use Rattle.interpret.specs.Trace.{Trace, broken, returned, ended, meets, afterwards, site_for, body_for, turned, trace_walk, trace_body}

-- the counts of a state
abbrev pub lean : State → Counts
lean st = record { args = st.args; stems = st.stems; spent = st.spent }

-- what is left of a run without its tokens
abbrev pub tell : Run → Trace
tell broke = broken
tell (back st) = returned (lean st) st.met
tell (done st) = ended st.met

pub meets-none : (r : Trace) → meets [] r ≡ r
meets-none broken = refl
meets-none (returned x rs) = refl
meets-none (ended rs) = refl

pub meets-both : (a b : List Row) (r : Trace) → meets a (meets b r) ≡ meets (a ++ b) r
meets-both a b broken = refl
meets-both a b (returned x rs) = ap (returned x) (sym (append_assoc a b rs))
meets-both a b (ended rs) = ap ended (sym (append_assoc a b rs))

-- rows before a subroutine's
pub meets-after : (a : List Row) (t : Trace) (on : Counts → Trace) → meets a (afterwards t on) ≡ afterwards (meets a t) on
meets-after a broken on = refl
meets-after a (returned x rs) on = meets-both a rs (on x)
meets-after a (ended rs) on = refl

module _ (globals locals : List (List ℕ)) (fd : ℕ) (enter : Site → List ℕ → State → Run) (enter' : Site → List ℕ → Counts → Trace)
    (enters : (site : Site) (s : List ℕ) (st : State) → tell (enter site s st) ≡ meets st.met (enter' site s (lean st))) where
  module _ (site : Site) (s : List ℕ) (on : ℕ → Option ℤ → State → Run) (on' : ℕ → ℕ → Counts → Trace)
      (ons : (n p : ℕ) (st : State) → tell (on n (last_at s p n) st) ≡ meets st.met (on' n p (lean st))) (at prev : ℕ) (st : State) where
    abbrev T : Turn → Trace
    T t = meets st.met (turned globals locals fd enter' on' site at t)

    split : (t : Bool) (a b : Run) (a' b' : Turn) → tell a ≡ T a' → tell b ≡ T b' → tell (pick t a b) ≡ T (pick t a' b')
    split true a b a' b' e f = e
    split false a b a' b' e f = f

    left : (t : Tok) (args stems : ℕ) (x : State) (go : State → Run) (go' : Counts → Turn)
        → ((y : State) → y.met ≡ x.met → tell (go y) ≡ T (go' (lean y))) → tell (leave t args stems x go) ≡ T (leaves args stems x.spent go')
    unfolding leave
    left t args stems x go go' h = split (ltb x.spent 65536) _ broke _ Breaks (h _ refl) refl

    -- no number stands just before a place
    after_none : (n : ℕ) (y : State) → tell (on n None y) ≡ meets y.met (on' n n (lean y))
    after_none n y =
        let e : last_at s n n ≡ None = rw (le-ltb n n (omega arith)) in
        ap (λ (l : Option ℤ). tell (on n l y)) (sym e) ∙ ons n n y

    ends_as : (y : State) → y.met ≡ st.met → tell (done y) ≡ T Ends
    ends_as y q = ap ended (q ∙ sym (append-nil st.met))

    goes_as : (n : ℕ) (y : State) → y.met ≡ st.met → tell (on n None y) ≡ T (Goes n n (lean y))
    goes_as n y q = after_none n y ∙ ap (λ (r : List Row). meets r (on' n n (lean y))) q

    number_as : (z : ℤ) (n : ℕ) → number_at s at ≡ a_number z n → at < n → (y : State) → y.met ≡ st.met → tell (on n (Some z) y) ≡ T (Goes n at (lean y))
    number_as z n e h y q =
        let f : last_at s at n ≡ Some z = rw (lt-ltb at n h) (ap last_of e) in
        ap (λ (l : Option ℤ). tell (on n l y)) (sym f) ∙ ons n at y ∙ ap (λ (r : List Row). meets r (on' n at (lean y))) q

    masks_as : (len : ℕ) (y : State) → y.met ≡ st.met ++ (masked site at len ∷ []) → tell (on (at + 1 + len) None y) ≡ T (Masks len (lean y))
    masks_as len y q =
        after_none (at + 1 + len) y ∙ ap (λ (r : List Row). meets r (on' (at + 1 + len) (at + 1 + len) (lean y))) q
        ∙ sym (meets-both st.met (masked site at len ∷ []) (on' (at + 1 + len) (at + 1 + len) (lean y)))

    -- a subroutine's run, and what follows
    after_as : (m : List Row) (r : Run) (r' : Trace) → tell r ≡ meets m r' → tell (after r (on (at + 1) None)) ≡ meets m (afterwards r' (on' (at + 1) (at + 1)))
    after_as m broke broken e = refl
    after_as m broke (returned x rs) e = absurd (zero_one cc)
    after_as m broke (ended rs) e = absurd (zero_one cc)
    after_as m (back y) broken e = absurd (zero_one cc)
    after_as m (back y) (returned x rs) e =
        let a : lean y ≡ x = cc in
        let b : y.met ≡ m ++ rs = cc in
        after_none (at + 1) y ∙ ap (λ (r : List Row). meets r (on' (at + 1) (at + 1) (lean y))) b ∙ ap (λ (z : Counts). meets (m ++ rs) (on' (at + 1) (at + 1) z)) a
        ∙ sym (meets-both m rs (on' (at + 1) (at + 1) x))
    after_as m (back y) (ended rs) e = absurd (zero_one cc)
    after_as m (done y) broken e = absurd (zero_one cc)
    after_as m (done y) (returned x rs) e = absurd (zero_one cc)
    after_as m (done y) (ended rs) e = e

    calls_as : (kind : Kind) (i : ℕ) → tell (after (enter (site_for fd kind i) (body_for globals locals kind i) (calling (site_for fd kind i) st)) (on (at + 1) None))
        ≡ T (Calls kind i (lean (calling (site_for fd kind i) st)))
    calls_as kind i =
        let which = site_for fd kind i in
        after_as (st.met ++ (entered which ∷ [])) (enter which (body_for globals locals kind i) (calling which st)) (enter' which (body_for globals locals kind i) (lean (calling which st))) (enters which (body_for globals locals kind i) (calling which st))
        ∙ sym (meets-both st.met (entered which ∷ []) (afterwards (enter' which (body_for globals locals kind i) (lean (calling which st))) (on' (at + 1) (at + 1))))

    local_as : (q : Option ℕ) → tell (call_to enter on (local fd) locals (at + 1) st q) ≡ T (call_turn Local (lean st) q)
    local_as None = refl
    local_as (Some i) = calls_as Local i

    global_as : (q : Option ℕ) → tell (call_to enter on global globals (at + 1) st q) ≡ T (call_turn Global (lean st) q)
    global_as None = refl
    global_as (Some i) = calls_as Global i

    mask_as : (b n : ℕ) → tell (mask_at on site s b at n st) ≡ T (mask_turn s at n st.spent)
    mask_as b n =
        split (ltb 96 n) broke _ Breaks _ refl
        (split (ltb (length s - (at + 1)) ((n + 7) / 8)) broke _ Breaks _ refl
        (left (mask b (take ((n + 7) / 8) (drop (at + 1) s))) 0 n (meeting (masked site at ((n + 7) / 8)) st) (on (at + 1 + (n + 7) / 8) None) (Masks ((n + 7) / 8))
        (λ y q. masks_as ((n + 7) / 8) y q)))

    stem_as : (b n : ℕ) → tell (stem_at on b at n st) ≡ T (stem_turn at n st.spent)
    stem_as b n =
        split (ltb 96 n) broke _ Breaks _ refl (left (op b) 0 n st (on (at + 1) None) (Goes (at + 1) (at + 1)) (λ y q. goes_as (at + 1) y q))

    escape_as : tell (escape_at on s at st) ≡ T (escape_turn s at (lean st))
    escape_as =
        let e = get_or s (at + 1) 0 in
        split (ltb (length s - at) 2) broke _ Breaks _ refl
        (split (ltb e 34) broke _ Breaks _ refl
        (split (ltb 37 e) broke _ Breaks _ refl
        (left (esc e) 0 st.stems st (on (at + 2) None) (Goes (at + 2) (at + 2)) (λ y q. goes_as (at + 2) y q))))

    returns_as : tell (pick (is_glyph site) broke (back st)) ≡ T (pick (is_glyph site) Breaks (Returns (lean st)))
    returns_as = split (is_glyph site) broke (back st) Breaks (Returns (lean st)) refl (ap (returned (lean st)) (sym (append-nil st.met)))

    operator_as : (b : ℕ) → tell (operator_at globals locals fd enter on site s at (last_at s prev at) st b) ≡ T (operator_turn_lem (length locals) (length globals) (is_glyph site) s at prev (lean st) b)
    unfolding operator_at operator_turn_lem clearing_turn_lem
    operator_as b =
        split (eqb b 10) _ _ _ _ (local_as (target_of (length locals) (last_at s prev at)))
        (split (eqb b 29) _ _ _ _ (global_as (target_of (length globals) (last_at s prev at)))
        (split (eqb b 11) _ _ _ _ returns_as
        (split (eqb b 14) _ _ _ _ (split (ltb 1 st.args) broke _ Breaks _ refl (left (op 14) 0 st.stems st done (λ y. Ends) ends_as))
        (split (eqb b 12) _ _ _ _ escape_as
        (split (is_mask b) _ _ _ _ (mask_as b (st.stems + st.args / 2))
        (split (is_stem b) _ _ _ _ (stem_as b (st.stems + st.args / 2))
        (split (is_path b) _ broke _ Breaks (left (op b) 0 st.stems st (on (at + 1) None) (Goes (at + 1) (at + 1)) (λ y q. goes_as (at + 1) y q)) refl)))))))

    step_as : (r : Read) → number_at s at ≡ r → Further s at r
        → tell (step_at globals locals fd enter on site s at (last_at s prev at) st r) ≡ T (turn_by (length locals) (length globals) (is_glyph site) s at prev (lean st) r)
    unfolding step_at turn_by
    step_as cut e f = refl
    step_as (a_number z n) e f =
        split (ltb st.args 48) _ broke _ Breaks (left (num z) (st.args + 1) st.stems st (on n (Some z)) (Goes n at) (λ y q. number_as z n e f.0 y q)) refl
    step_as operator e f = operator_as (get_or s at 0)

  walk_as : (k : ℕ) (site : Site) (s : List ℕ) (at prev : ℕ) (st : State)
      → tell (walk globals locals fd enter k site s at (last_at s prev at) st) ≡ meets st.met (trace_walk globals locals fd enter' k site s at prev (lean st))
  unfolding walk trace_walk
  walk_as zero site s at prev st = refl
  walk_as (suc k) site s at prev st = by (λ n p x. walk_as k site s n p x) (ltb at (length s)) refl
    where
      by : ((n p : ℕ) (x : State) → tell (walk globals locals fd enter k site s n (last_at s p n) x) ≡ meets x.met (trace_walk globals locals fd enter' k site s n p (lean x)))
          → (t : Bool) → ltb at (length s) ≡ t → tell (pick t (step_at globals locals fd enter (λ n m x. walk globals locals fd enter k site s n m x) site s at (last_at s prev at) st (number_at s at)) broke)
          ≡ meets st.met (pick t (turned globals locals fd enter' (λ n p y. trace_walk globals locals fd enter' k site s n p y) site at (turn_by (length locals) (length globals) (is_glyph site) s at prev (lean st) (number_at s at))) broken)
      by next true e = step_as site s (λ n m x. walk globals locals fd enter k site s n m x) (λ n p y. trace_walk globals locals fd enter' k site s n p y) next at prev st (number_at s at) refl (further s at (ltb-true at (length s) e))
      by next false e = refl

  start_as : (site : Site) (s : List ℕ) (st : State)
      → tell (walk globals locals fd enter (length s) site s 0 None st) ≡ meets st.met (trace_walk globals locals fd enter' (length s) site s 0 0 (lean st))
  start_as site s st = walk_as (length s) site s 0 0 st

-- THE LAW: a body's run
pub body_as : (globals locals : List (List ℕ)) (fd d : ℕ) (site : Site) (s : List ℕ) (st : State)
    → tell (run_body globals locals fd d site s st) ≡ meets st.met (trace_body globals locals fd d site s (lean st))
unfolding run_body trace_body
body_as globals locals fd zero site s st = start_as globals locals fd (λ t b x. broke) (λ t b y. broken) (λ t b x. refl) site s st
body_as globals locals fd (suc d) site s st =
    start_as globals locals fd (run_body globals locals fd d) (trace_body globals locals fd d) (λ t b x. body_as globals locals fd d t b x) site s st
