-- One step of a walk (document 01, 'Plain glyphs'), by its cases: what a step that is plain was, and that a step of such a case is taken.
use Rattle.std.specs.Prelude.{ℕ, suc, ◌+◌, ◌-◌, ◌/◌, ◌≡◌, Bool, true, false, List, [], ◌∷◌, ◌++◌, ltb, eqb, ℤ, length, take, drop, get_or, None, Option, Some}
use Rattle.std.proofs.Math.Path.{refl, ap}
use Rattle.std.proofs.Common.{sym, ◌∙◌, subst, arith, eqb-true}
use Rattle.octets.specs.Pick.{pick}
use Rattle.type2_number.specs.Number.{Read, cut, operator, number as a_number, number_at}
use Rattle.charstring.specs.Token.{is_mask}
use Rattle.unfold.specs.Unfold.{Tok, num, op, esc, mask, Site, local, global, masked, is_glyph, State, Run, broken, returned, ended, leave, calling, target_of, after, is_stem, is_path, meeting, call_to, stem_at, mask_at, escape_at, operator_at, step_at, walk}

-- two constructors that would be equal
pub zero_one : ◌≡◌ {A = ℕ} 0 1 → ⊥
zero_one h = omega arith

-- a run that is not broken
abbrev pub Unbroken : Run → Type 0
Unbroken broken = ⊥
Unbroken (returned st) = Unit
Unbroken (ended st) = Unit

-- the state with one token more
abbrev pub leaving : Tok → ℕ → ℕ → State → State
leaving t args stems st = record { args = args; stems = stems; spent = st.spent + 1; out = st.out ++ (t ∷ []); met = st.met }

-- the stems at a stem operator or a mask, its own included, and the bytes of a mask then
abbrev pub stems_now : State → ℕ
stems_now st = st.stems + st.args / 2

abbrev pub mask_now : State → ℕ
mask_now st = (stems_now st + 7) / 8

-- an operator that is no call, return, endchar or escape
pub record Clearing (b : ℕ) : Type 0 where
  pub not10 : eqb b 10 ≡ false
  pub not29 : eqb b 29 ≡ false
  pub not11 : eqb b 11 ≡ false
  pub not14 : eqb b 14 ≡ false
  pub not12 : eqb b 12 ≡ false

-- an operator that is a stem or a path operator, and the stems after it
pub data Stems (b args stems : ℕ) : ℕ → Type 0 where
  stem : is_stem b ≡ true → ltb 96 (stems + args / 2) ≡ false → Stems b args stems (stems + args / 2)
  path : is_stem b ≡ false → is_path b ≡ true → Stems b args stems stems

-- the operator b stands at a place
pub record Operator (s : List ℕ) (at b : ℕ) : Type 0 where
  pub here : number_at s at ≡ operator
  pub byte : get_or s at 0 ≡ b

-- the test of a choice that is not broken
taken : (t : Bool) (a r : Run) → Unbroken r → pick t a broken ≡ r → (t ≡ true) × (a ≡ r)
taken true a r u e = (refl, e)
taken false a r u e = absurd (subst Unbroken (sym e) u)

passed : (t : Bool) (b r : Run) → Unbroken r → pick t broken b ≡ r → (t ≡ false) × (b ≡ r)
passed true b r u e = absurd (subst Unbroken (sym e) u)
passed false b r u e = (refl, e)

choose : {P : Type 0} (t : Bool) (a b r : Run) → pick t a b ≡ r → (t ≡ true → a ≡ r → P) → (t ≡ false → b ≡ r → P) → P
choose true a b r e f g = f refl e
choose false a b r e f g = g refl e

module _ (globals locals : List (List ℕ)) (fd : ℕ) (enter : Site → List ℕ → State → Run) (on : ℕ → Option ℤ → State → Run)
    (site : Site) (s : List ℕ) (at : ℕ) (l : Option ℤ) (st : State) where
  -- the cases of a step that is not broken, and what it comes to
  pub data Stepped (r : Run) : Type 0 where
    reads : (z : ℤ) (n : ℕ) → number_at s at ≡ a_number z n → ltb st.args 48 ≡ true → ltb st.spent 65536 ≡ true
        → on n (Some z) (leaving (num z) (st.args + 1) st.stems st) ≡ r → Stepped r
    calls_local : (i : ℕ) → Operator s at 10 → target_of (length locals) l ≡ Some i
        → after (enter (local fd i) (get_or locals i []) (calling (local fd i) st)) (on (at + 1) None) ≡ r → Stepped r
    calls_global : (i : ℕ) → Operator s at 29 → target_of (length globals) l ≡ Some i
        → after (enter (global i) (get_or globals i []) (calling (global i) st)) (on (at + 1) None) ≡ r → Stepped r
    returns : Operator s at 11 → is_glyph site ≡ false → returned st ≡ r → Stepped r
    ends : Operator s at 14 → ltb 1 st.args ≡ false → ltb st.spent 65536 ≡ true → ended (leaving (op 14) 0 st.stems st) ≡ r → Stepped r
    escapes : (e : ℕ) → Operator s at 12 → get_or s (at + 1) 0 ≡ e → ltb (length s - at) 2 ≡ false → ltb e 34 ≡ false → ltb 37 e ≡ false
        → ltb st.spent 65536 ≡ true → on (at + 2) None (leaving (esc e) 0 st.stems st) ≡ r → Stepped r
    masks : (b : ℕ) → Operator s at b → Clearing b → is_mask b ≡ true → ltb 96 (stems_now st) ≡ false → ltb (length s - (at + 1)) (mask_now st) ≡ false
        → ltb st.spent 65536 ≡ true
        → on (at + 1 + mask_now st) None (leaving (mask b (take (mask_now st) (drop (at + 1) s))) 0 (stems_now st) (meeting (masked site at (mask_now st)) st)) ≡ r
        → Stepped r
    clears : (b n : ℕ) → Operator s at b → Clearing b → is_mask b ≡ false → Stems b st.args st.stems n → ltb st.spent 65536 ≡ true
        → on (at + 1) None (leaving (op b) 0 n st) ≡ r → Stepped r

  -- an operator that clears the operands
  abbrev clear_at : ℕ → Run
  clear_at b =
      pick (is_mask b) (mask_at on site s b at (stems_now st) st)
      (pick (is_stem b) (stem_at on b at (stems_now st) st) (pick (is_path b) (leave (op b) 0 st.stems st (on (at + 1) None)) broken))

  -- ---- what a step was

  left : (t : Tok) (args stems : ℕ) (x : State) (go : State → Run) (r : Run) → Unbroken r → leave t args stems x go ≡ r
      → (ltb x.spent 65536 ≡ true) × (go (leaving t args stems x) ≡ r)
  unfolding leave
  left t args stems x go r u e = taken (ltb x.spent 65536) _ r u e

  called_local : (o : Operator s at 10) (q : Option ℕ) → target_of (length locals) l ≡ q → (r : Run) → Unbroken r
      → call_to enter on (local fd) locals (at + 1) st q ≡ r → Stepped r
  called_local o None f r u e = absurd (subst Unbroken (sym e) u)
  called_local o (Some i) f r u e = calls_local i o f e

  called_global : (o : Operator s at 29) (q : Option ℕ) → target_of (length globals) l ≡ q → (r : Run) → Unbroken r
      → call_to enter on global globals (at + 1) st q ≡ r → Stepped r
  called_global o None f r u e = absurd (subst Unbroken (sym e) u)
  called_global o (Some i) f r u e = calls_global i o f e

  escaped : Operator s at 12 → (r : Run) → Unbroken r → escape_at on s at st ≡ r → Stepped r
  escaped o r u e =
      let p = passed (ltb (length s - at) 2) _ r u e in
      let q = passed (ltb (get_or s (at + 1) 0) 34) _ r u p.1 in
      let v = passed (ltb 37 (get_or s (at + 1) 0)) _ r u q.1 in
      let w = left (esc (get_or s (at + 1) 0)) 0 st.stems st (on (at + 2) None) r u v.1 in
      escapes (get_or s (at + 1) 0) o refl p.0 q.0 v.0 w.0 w.1

  masked-at : (b : ℕ) → Operator s at b → Clearing b → is_mask b ≡ true → (r : Run) → Unbroken r
      → mask_at on site s b at (stems_now st) st ≡ r → Stepped r
  masked-at b o c m r u e =
      let p = passed (ltb 96 (stems_now st)) _ r u e in
      let q = passed (ltb (length s - (at + 1)) (mask_now st)) _ r u p.1 in
      let w = left (mask b (take (mask_now st) (drop (at + 1) s))) 0 (stems_now st) (meeting (masked site at (mask_now st)) st) (on (at + 1 + mask_now st) None) r u q.1 in
      masks b o c m p.0 q.0 w.0 w.1

  cleared : (b n : ℕ) → Operator s at b → Clearing b → is_mask b ≡ false → Stems b st.args st.stems n → (r : Run) → Unbroken r
      → leave (op b) 0 n st (on (at + 1) None) ≡ r → Stepped r
  cleared b n o c m h r u e = let w = left (op b) 0 n st (on (at + 1) None) r u e in clears b n o c m h w.0 w.1

  clearing : (b : ℕ) → Operator s at b → Clearing b → (r : Run) → Unbroken r → clear_at b ≡ r → Stepped r
  clearing b o c r u e =
      choose (is_mask b) _ _ r e (λ m f. masked-at b o c m r u f)
      (λ m f. choose (is_stem b) _ _ r f
      (λ h g. let p = passed (ltb 96 (stems_now st)) _ r u g in cleared b (stems_now st) o c m (stem h p.0) r u p.1)
      (λ h g. let p = taken (is_path b) _ r u g in cleared b st.stems o c m (path h p.0) r u p.1))

  operator_was : (b : ℕ) → Operator s at b → (r : Run) → Unbroken r → operator_at globals locals fd enter on site s at l st b ≡ r → Stepped r
  unfolding operator_at
  operator_was b o r u e =
      choose (eqb b 10) _ _ r e (λ t f. called_local (subst (Operator s at) (eqb-true b 10 t) o) (target_of (length locals) l) refl r u f)
      (λ n10 f. choose (eqb b 29) _ _ r f (λ t g. called_global (subst (Operator s at) (eqb-true b 29 t) o) (target_of (length globals) l) refl r u g)
      (λ n29 g. choose (eqb b 11) _ _ r g
      (λ t h. let p = passed (is_glyph site) _ r u h in returns (subst (Operator s at) (eqb-true b 11 t) o) p.0 p.1)
      (λ n11 h. choose (eqb b 14) _ _ r h
      (λ t i. let p = passed (ltb 1 st.args) _ r u i in
      let w = left (op 14) 0 st.stems st ended r u p.1 in
      ends (subst (Operator s at) (eqb-true b 14 t) o) p.0 w.0 w.1)
      (λ n14 i. choose (eqb b 12) _ _ r i (λ t j. escaped (subst (Operator s at) (eqb-true b 12 t) o) r u j)
      (λ n12 j. clearing b o (record { not10 = n10; not29 = n29; not11 = n11; not14 = n14; not12 = n12 }) r u j)))))

  step_was : (q : Read) → number_at s at ≡ q → (r : Run) → Unbroken r → step_at globals locals fd enter on site s at l st q ≡ r → Stepped r
  unfolding step_at
  step_was cut f r u e = absurd (subst Unbroken (sym e) u)
  step_was (a_number z n) f r u e =
      let p = taken (ltb st.args 48) _ r u e in
      let w = left (num z) (st.args + 1) st.stems st (on n (Some z)) r u p.1 in
      reads z n f p.0 w.0 w.1
  step_was operator f r u e = operator_was (get_or s at 0) (record { here = f; byte = refl }) r u e

  -- ---- that a step is taken

  goes : (t : Tok) (args stems : ℕ) (x : State) (go : State → Run) → ltb x.spent 65536 ≡ true → leave t args stems x go ≡ go (leaving t args stems x)
  unfolding leave
  goes t args stems x go h = rw h

  at-operator : (b : ℕ) (r : Run) → Operator s at b → operator_at globals locals fd enter on site s at l st b ≡ r
      → step_at globals locals fd enter on site s at l st (number_at s at) ≡ r
  unfolding step_at
  at-operator b r o e =
      ap (step_at globals locals fd enter on site s at l st) o.here ∙ ap (operator_at globals locals fd enter on site s at l st) o.byte ∙ e

  at_clearing : (b : ℕ) (r : Run) → Operator s at b → Clearing b → clear_at b ≡ r → step_at globals locals fd enter on site s at l st (number_at s at) ≡ r
  unfolding operator_at
  at_clearing b r o c e = at-operator b r o (rw (c.not10, c.not29, c.not11, c.not14, c.not12) e)

  clear_stems : (b n : ℕ) → is_mask b ≡ false → Stems b st.args st.stems n → clear_at b ≡ leave (op b) 0 n st (on (at + 1) None)
  clear_stems b n m (stem h k) = rw (m, h, k)
  clear_stems b n m (path h k) = rw (m, h, k)

  step-taken : (r : Run) → Stepped r → step_at globals locals fd enter on site s at l st (number_at s at) ≡ r
  unfolding step_at operator_at
  step-taken r (reads z n f h k e) =
      ap (step_at globals locals fd enter on site s at l st) f ∙ rw h (goes (num z) (st.args + 1) st.stems st (on n (Some z)) k ∙ e)
  step-taken r (calls_local i o f e) = at-operator 10 r o (ap (call_to enter on (local fd) locals (at + 1) st) f ∙ e)
  step-taken r (calls_global i o f e) = at-operator 29 r o (ap (call_to enter on global globals (at + 1) st) f ∙ e)
  step-taken r (returns o f e) = at-operator 11 r o (rw f e)
  step-taken r (ends o f h e) = at-operator 14 r o (rw f (goes (op 14) 0 st.stems st ended h ∙ e))
  step-taken r (escapes x o f h i j k e) = at-operator 12 r o (rw (h, f, i, j) (goes (esc x) 0 st.stems st (on (at + 2) None) k ∙ e))
  step-taken r (masks b o c m h i k e) =
      at_clearing b r o c
      (rw (m, h, i) (goes (mask b (take (mask_now st) (drop (at + 1) s))) 0 (stems_now st) (meeting (masked site at (mask_now st)) st) (on (at + 1 + mask_now st) None) k ∙ e))
  step-taken r (clears b n o c m h k e) = at_clearing b r o c (clear_stems b n m h ∙ goes (op b) 0 n st (on (at + 1) None) k ∙ e)

module _ (globals locals : List (List ℕ)) (fd : ℕ) (enter : Site → List ℕ → State → Run) (k : ℕ) (site : Site) (s : List ℕ) (at : ℕ) (l : Option ℤ)
    (st : State) (r : Run) where
  -- a step of a walk
  abbrev pub Step : Type 0
  Step = Stepped globals locals fd enter (walk globals locals fd enter k site s) site s at l st r

  -- a walk that is not broken took a step
  pub walk_was : Unbroken r → walk globals locals fd enter (suc k) site s at l st ≡ r → (ltb at (length s) ≡ true) × Step
  unfolding walk
  walk_was u e =
      let p = taken (ltb at (length s)) _ r u e in
      (p.0, step_was globals locals fd enter (walk globals locals fd enter k site s) site s at l st (number_at s at) refl r u p.1)

  -- and a step is taken
  pub walk_goes : ltb at (length s) ≡ true → Step → walk globals locals fd enter (suc k) site s at l st ≡ r
  unfolding walk
  walk_goes h x = rw h (step-taken globals locals fd enter (walk globals locals fd enter k site s) site s at l st r x)
