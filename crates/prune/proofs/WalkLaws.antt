-- A body and the same body renumbered run alike, for a glyph whose rows are listed: step by step, the renumbered body a number behind
-- where one waits, and call by call.
use Prim.Native.Nat.{ℕ, zero, suc, ◌+◌, ◌-◌, ◌≤◌, ◌<◌}
use Rattle.std.specs.Prelude.{◌≡◌, refl, true, false, List, [], ◌∷◌, ◌++◌, ltb, eqb, ℤ, length, get_or, None, Option, Some}
use Rattle.std.proofs.Common.{sym, ap, ◌∙◌, subst, arith, lt-ltb, ltb-true}
use Rattle.octets.specs.Octets.{Octets}
use Rattle.charstring.specs.declared.MaskLen.{MaskLen}
use Rattle.charstring.specs.Token.{is_mask}
use Rattle.unfold.specs.Unfold.{Tok, num, op, mask, Row, Site, local, global, entered, masked, is_glyph, State, Run, broken, returned, ended, but, calling, meeting, target_of, after, walk, run_body}
use Rattle.prune.specs.Renumber.{Calls, is_call, renumber_charstring}
use Rattle.prune.specs.Bodies.{All, Renumbers}
use Rattle.prune.specs.StepLaws.{zero_one, leaving, stems_now, mask_now, Clearing, Operator, Step, reads, calls_local, calls_global, returns, ends, escapes, masks, clears, walk_was, walk_goes}
use Rattle.prune.specs.AlikeLaws.{rowed, Listed, Alike, Follows, unbroken, all-front, all-last, follows-after}
use Rattle.prune.specs.SameLaws.{Backs, backs_none, backs_body}
use Rattle.prune.proofs.BesideLaws.{Beside, Caught, Met, beside-start, beside-number, beside-operator, beside-escape, beside-mask, beside_call}

-- the state with the number that waits, and what a call finds before it
abbrev waiting : Option ℤ → State → State
waiting None st = st
waiting (Some z) st = leaving (num z) (st.args + 1) st.stems st

abbrev last_of : Option ℤ → Option ℤ
last_of None = None
last_of (Some z) = Some z

abbrev last_after : Option ℤ → Option ℤ → Option ℤ
last_after None l = l
last_after (Some z) l = Some z

-- the number that waits had room
abbrev Room : Option ℤ → State → Type 0
Room None st = Unit
Room (Some z) st = (ltb st.args 48 ≡ true) × (ltb st.spent 65536 ≡ true)

-- a call's operand is gone, whichever it was
but_last : (ts : List Tok) (t : Tok) → but (ts ++ (t ∷ [])) ≡ ts
unfolding but
but_last [] t = refl
but_last (u ∷ []) t = refl
but_last (u ∷ v ∷ ts) t = ap (λ (l : List Tok). u ∷ l) (but_last (v ∷ ts) t)

called-alike : (z y : ℤ) (which which' : Site) (rows : List Row) (st : State)
    → rowed (rows ++ (entered which' ∷ [])) (calling which (waiting (Some z) st)) ≡ calling which' (rowed rows (waiting (Some y) st))
called-alike z y which which' rows st =
    ap (λ (o : List Tok). record { args = st.args + 1 - 1; stems = st.stems; spent = st.spent + 1; out = o; met = rows ++ (entered which' ∷ []) })
    (but_last st.out (num z) ∙ sym (but_last st.out (num y)))

no_call : (b : ℕ) → Clearing b → is_call b ≡ false
no_call b c = rw c.not10 c.not29

no_target : (n i : ℕ) → target_of n None ≡ Some i → ⊥
unfolding target_of
no_target n i e = zero_one cc

module _ (globals locals globals' locals' : List (List ℕ)) (fd fd' : ℕ) (listed : Row → Type 0) (given : Site → ℕ → MaskLen) (calls : Site → Calls)
    (is_local isGlobal : ℕ → ℕ → Type 0) (renumbers : Renumbers globals locals globals' locals' fd listed given calls is_local isGlobal) where
  -- a body and the same body renumbered
  pub record Bodies (site site' : Site) (s s' : List ℕ) : Type 0 where
    pub kind : is_glyph site' ≡ is_glyph site
    pub octets : Octets s
    pub is : renumber_charstring (calls site) (given site) s ≡ Some s'

  -- entering such bodies goes alike
  abbrev Enters : (Site → List ℕ → State → Run) → (Site → List ℕ → State → Run) → Type 0
  Enters enter enter' =
      (site site' : Site) (s s' : List ℕ) → Bodies site site' s s' → (st : State) (r : Run) → enter site s st ≡ r → Listed listed r
      → Follows listed st.met r (λ rows. enter' site' s' (rowed rows st))

  module _ (enter enter' : Site → List ℕ → State → Run) (enters : Enters enter enter') (backs : Backs globals locals fd listed enter)
      (site site' : Site) (s s' : List ℕ) (bodies : Bodies site site' s s') where
    abbrev walk' : ℕ → ℕ → Option ℤ → State → Run
    walk' k at l st = walk globals' locals' fd' enter' k site' s' at l st

    abbrev Step' : ℕ → ℕ → Option ℤ → State → Run → Type 0
    Step' k at l st r = Step globals' locals' fd' enter' k site' s' at l st r

    abbrev Place : Option ℤ → ℕ → ℕ → Type 0
    Place w at at' = Beside (given site) (calls site) s s' w at at'

    abbrev Walks : ℕ → Type 0
    Walks k =
        (at : ℕ) (w : Option ℤ) (st : State) (r : Run) (at' k' : ℕ) (l' : Option ℤ) → Place w at at' → Room w st → length s' ≤ at' + k'
        → walk globals locals fd enter k site s at (last_of w) (waiting w st) ≡ r → Listed listed r
        → Follows listed (waiting w st).met r (λ rows. walk' k' at' l' (rowed rows st))

    -- the renumbered body catches up
    caught_up : (w : Option ℤ) (st : State) (at' p k' : ℕ) (l' : Option ℤ) → Caught (given site) (calls site) s s' w at' p → Room w st → length s' ≤ at' + k'
        → (j : ℕ) × (length s' ≤ p + j) × ((rows : List Row) → walk' k' at' l' (rowed rows st) ≡ walk' j p (last_after w l') (rowed rows (waiting w st)))
    caught_up None st at' p k' l' c room h = (k', omega arith, λ rows. ap (λ (n : ℕ). walk' k' n l' (rowed rows st)) c)
    caught_up (Some z) st at' p zero l' c room h = absurd (zero_one (omega (arith, c.inside)))
    caught_up (Some z) st at' p (suc j) l' c room h = (
      j,
      omega (arith, c.further),
      λ rows. walk_goes globals' locals' fd' enter' j site' s' at' l' (rowed rows st) _ (lt-ltb at' (length s') c.inside) (reads z p c.read room.0 room.1 refl),
    )

    fuelled : (p j : ℕ) → p < length s' → length s' ≤ p + j → (i : ℕ) × (j ≡ suc i) × (length s' ≤ p + 1 + i)
    fuelled p zero h k = absurd (zero_one (omega arith))
    fuelled p (suc i) h k = (i, refl, omega arith)

    -- and takes a step
    ready : (w : Option ℤ) (st : State) (at' p k' : ℕ) (l' : Option ℤ) → Caught (given site) (calls site) s s' w at' p → Room w st → p < length s' → length s' ≤ at' + k'
        → (i : ℕ) × (length s' ≤ p + 1 + i)
        × ((rows : List Row) (y : Run) → Step' i p (last_after w l') (rowed rows (waiting w st)) y → walk' k' at' l' (rowed rows st) ≡ y)
    ready w st at' p k' l' c room inside h =
        let u = caught_up w st at' p k' l' c room h in
        let f = fuelled p u.0 inside u.1 in (
          f.0,
          f.2,
          λ rows y t. u.2 rows ∙ ap (λ (j : ℕ). walk' j p (last_after w l') (rowed rows (waiting w st))) f.1
              ∙ walk_goes globals' locals' fd' enter' f.0 site' s' p (last_after w l') (rowed rows (waiting w st)) y (lt-ltb p (length s') inside) t,
        )

    module _ (k : ℕ) (next : Walks k) (at : ℕ) (inside : at < length s) (st : State) (r : Run) (h : Listed listed r) (at' k' : ℕ) (l' : Option ℤ)
        (fuel : length s' ≤ at' + k') where
      abbrev Result : Option ℤ → Type 0
      Result w = Follows listed (waiting w st).met r (λ rows. walk' k' at' l' (rowed rows st))

      -- an operator after which the body goes on
      goes_on : (w : Option ℤ) → Room w st → (b p : ℕ) → Met (given site) (calls site) s s' w at' b p → (n p' : ℕ) (x : State) → Place None n p' → p + 1 ≤ p'
          → walk globals locals fd enter k site s n None x ≡ r → (All listed x.met → All listed (waiting w st).met)
          → ((rows : List Row) → (rows' : List Row) × ((i : ℕ) → Step' i p (last_after w l') (rowed rows (waiting w st)) (walk' i p' None (rowed rows' x)))) → Result w
      goes_on w room b p m n p' x q g e back t =
          let c = ready w st at' p k' l' m.caught room m.inside fuel in
          let f = next n None x r p' c.0 None q tt (omega (arith, c.1)) e h in
          record { before = back f.before; alike = λ rows. subst (Alike r) (sym (c.2 rows _ ((t rows).1 c.0))) (f.alike (t rows).0) }

      -- an operator that ends the body
      stops : (w : Option ℤ) → Room w st → (b p : ℕ) → Met (given site) (calls site) s s' w at' b p → (x : Run) → x ≡ r → (Listed listed x → All listed (waiting w st).met)
          → ((rows : List Row) → (y : Run) × Alike x y × ((i : ℕ) → Step' i p (last_after w l') (rowed rows (waiting w st)) y)) → Result w
      stops w room b p m x e back t =
          let c = ready w st at' p k' l' m.caught room m.inside fuel in
          record {
            before = back (subst (Listed listed) (sym e) h);
            alike = λ rows. let u = t rows in subst (Alike r) (sym (c.2 rows u.0 (u.2 c.0))) (subst (λ (y : Run). Alike y u.0) e u.1);
          }

      -- a call of a subroutine, which is another one in the subset
      calls-on : (z : ℤ) → Place (Some z) at at' → Room (Some z) st → (b : ℕ) → Operator s at b → eqb b 12 ≡ false → is_call b ≡ true → is_mask b ≡ false
          → (which : Site) (body : List ℕ)
          → after (enter which body (calling which (waiting (Some z) st))) (walk globals locals fd enter k site s (at + 1) None) ≡ r
          → ((y : ℤ) → calls site b z ≡ Some y
          → (which' : Site) × (body' : List ℕ) × Bodies which which' body body'
          × ((p i : ℕ) (rows : List Row) → Operator s' p b → Step' i p (Some y) (rowed rows (waiting (Some y) st))
          (after (enter' which' body' (calling which' (rowed rows (waiting (Some y) st)))) (walk' i (p + 1) None))))
          → Result (Some z)
      calls-on z x room b o n c f which body e to =
          let q = beside_call (given site) (calls site) s s' bodies.octets (renumbers.operand site) z at at' x inside b o n c f in
          let y = q.0 in
          let p = q.2 in
          let t = to y q.1 in
          let d = ready (Some y) st at' p k' l' q.3.caught room q.3.inside fuel in
          let g = follows-after listed _ _ (walk' d.0 (p + 1) None) r _ _ e h (λ v a. next (at + 1) None v r (p + 1) d.0 None q.4 tt d.1 a h)
          (λ a. enters which t.0 body t.1 t.2 (calling which (waiting (Some z) st)) _ refl a) in
          record {
            before = all-front listed st.met (entered which) g.before;
            alike = λ rows. subst (Alike r) (sym (d.2 rows _ (t.3 p d.0 rows q.3.operates)))
                (subst (λ (v : State). Alike r (after (enter' t.0 t.1 v) (walk' d.0 (p + 1) None))) (called-alike z y which t.0 rows st)
                (g.alike (rows ++ (entered t.0 ∷ []))));
          }

      renumbered-step : (w : Option ℤ) → Place w at at' → Room w st → Step globals locals fd enter k site s at (last_of w) (waiting w st) r → Result w
      renumbered-step w x room (reads z n f a b e) =
          let q = beside-number (given site) (calls site) s s' bodies.octets w at at' x inside z n f in
          let c = caught_up w st at' q.0 k' l' q.1 room fuel in
          let p = next n (Some z) (waiting w st) r q.0 c.0 (last_after w l') q.2 (a, b) c.1 e h in
          record { before = p.before; alike = λ rows. subst (Alike r) (sym (c.2 rows)) (p.alike rows) }
      renumbered-step None x room (calls_local i o f e) = absurd (no_target (length locals) i f)
      renumbered-step (Some z) x room (calls_local i o f e) =
          calls-on z x room 10 o refl refl refl (local fd i) (get_or locals i []) e
          (λ y g. let c = renumbers.local_call site z y i g f in (
            local fd' c.0,
            get_or locals' c.0 [],
            record { kind = refl; octets = renumbers.local_octets i; is = renumbers.local_body i c.0 c.2 },
            λ p j rows t. calls_local c.0 t c.1 refl,
          ))
      renumbered-step None x room (calls_global i o f e) = absurd (no_target (length globals) i f)
      renumbered-step (Some z) x room (calls_global i o f e) =
          calls-on z x room 29 o refl refl refl (global i) (get_or globals i []) e
          (λ y g. let c = renumbers.global_call site z y i g f in (
            global c.0,
            get_or globals' c.0 [],
            record { kind = refl; octets = renumbers.global_octets i; is = renumbers.global_body i c.0 c.2 },
            λ p j rows t. calls_global c.0 t c.1 refl,
          ))
      renumbered-step w x room (returns o f e) =
          let q = beside-operator (given site) (calls site) s s' bodies.octets w at at' x inside 11 o refl refl refl in
          stops w room 11 q.0 q.1 (returned (waiting w st)) e (λ a. a)
          (λ rows. (returned (rowed rows (waiting w st)), (rows, refl), λ i. returns q.1.operates (bodies.kind ∙ f) refl))
      renumbered-step w x room (ends o f a e) =
          let q = beside-operator (given site) (calls site) s s' bodies.octets w at at' x inside 14 o refl refl refl in
          stops w room 14 q.0 q.1 (ended (leaving (op 14) 0 (waiting w st).stems (waiting w st))) e (λ l. l)
          (λ rows. (ended (rowed rows (leaving (op 14) 0 (waiting w st).stems (waiting w st))), (rows, refl), λ i. ends q.1.operates f a refl))
      renumbered-step w x room (escapes v o f a b c d e) =
          let q = beside-escape (given site) (calls site) s s' bodies.octets w at at' x inside v o f a in
          goes_on w room 12 q.0 q.1 (at + 2) (q.0 + 2) _ q.4 (omega arith) e (λ l. l)
          (λ rows. (rows, λ i. escapes v q.1.operates q.2 q.3 b c d refl))
      renumbered-step w x room (masks b o c m a d f e) =
          let now = waiting w st in
          let row = masked site at (mask_now now) in
          let l = renumbers.lengths site at (mask_now now) (all-last listed now.met row (backs k site s (at + 1 + mask_now now) None _ r e h)) in
          let q = beside-mask (given site) (calls site) s s' bodies.octets w at at' x inside b (mask_now now) o c.not12 (no_call b c) m l d in
          goes_on w room b q.0 q.1 (at + 1 + mask_now now) (q.0 + 1 + mask_now now) _ q.4 (omega arith) e (λ t. all-front listed now.met row t)
          (λ rows. (
            rows ++ (masked site' q.0 (mask_now now) ∷ []),
            λ i. masks b q.1.operates c m a q.3 f
                (ap (λ (bs : List ℕ). walk' i (q.0 + 1 + mask_now now) None
                (leaving (mask b bs) 0 (stems_now now) (meeting (masked site' q.0 (mask_now now)) (rowed rows now)))) q.2),
          ))
      renumbered-step w x room (clears b n o c m a d e) =
          let q = beside-operator (given site) (calls site) s s' bodies.octets w at at' x inside b o c.not12 (no_call b c) m in
          goes_on w room b q.0 q.1 (at + 1) (q.0 + 1) _ q.2 (omega arith) e (λ l. l) (λ rows. (rows, λ i. clears b n q.1.operates c m a d refl))

    renumbered-walk : (k : ℕ) → Walks k
    unfolding walk
    renumbered-walk zero at w st r at' k' l' x room fuel e h = absurd (subst (Listed listed) (sym e) h)
    renumbered-walk (suc k) at w st r at' k' l' x room fuel e h =
        let v = walk_was globals locals fd enter k site s at (last_of w) (waiting w st) r (unbroken listed r h) e in
        renumbered-step k (renumbered-walk k) at (ltb-true at (length s) v.0) st r h at' k' l' fuel w x room v.1

  -- a body from its start
  renumbered-start : (enter enter' : Site → List ℕ → State → Run) → Enters enter enter' → Backs globals locals fd listed enter
      → (site site' : Site) (s s' : List ℕ) → Bodies site site' s s' → (st : State) (r : Run) → walk globals locals fd enter (length s) site s 0 None st ≡ r → Listed listed r
      → Follows listed st.met r (λ rows. walk globals' locals' fd' enter' (length s') site' s' 0 None (rowed rows st))
  renumbered-start enter enter' enters backs site site' s s' b st r e h =
      renumbered-walk enter enter' enters backs site site' s s' b (length s) 0 None st r 0 (length s') None
      (beside-start (given site) (calls site) s s' b.octets b.is) tt (omega arith) e h

  pub renumbered-body : (d : ℕ) → Enters (run_body globals locals fd d) (run_body globals' locals' fd' d)
  unfolding run_body
  renumbered-body zero site site' s s' b st r e h =
      renumbered-start (λ t b x. broken) (λ t b x. broken) (λ t t' u u' c x q f g. absurd (subst (Listed listed) (sym f) g)) (backs_none globals locals fd listed)
      site site' s s' b st r e h
  renumbered-body (suc d) site site' s s' b st r e h =
      renumbered-start (run_body globals locals fd d) (run_body globals' locals' fd' d) (renumbered-body d) (backs_body globals locals fd listed d)
      site site' s s' b st r e h
