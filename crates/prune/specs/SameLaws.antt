-- Subroutines that stay as they are, where the record lists them: a walk goes the same way over them. For stubbed and copied subroutines.
use Rattle.std.specs.Prelude.{ℤ, ◌≡◌, refl, true, List, [], ◌∷◌, ◌++◌, ltb, length, get_or, None, Option, Some}
use Prim.Native.Nat.{ℕ, zero, suc, ◌+◌}
use Rattle.std.proofs.Common.{sym, ap, ◌∙◌, subst}
use Rattle.unfold.specs.Unfold.{op, Row, Site, local, global, entered, is_glyph, State, Run, broken, returned, ended, calling, target_of, after, masked, walk, run_body}
use Rattle.prune.specs.Bodies.{All}
use Rattle.prune.specs.StepLaws.{leaving, mask_now, Step, reads, calls_local, calls_global, returns, ends, escapes, masks, clears, walk_was, walk_goes}
use Rattle.prune.specs.AlikeLaws.{rowed, Listed, Alike, Follows, unbroken, all-front, all-last, follows-after}

-- the subroutines of a font and of its subset: as many, and those that are listed are the same
pub record Same (globals locals globals' locals' : List (List ℕ)) (fd : ℕ) (listed : Row → Type 0) : Type 0 where
  pub locals-length : length locals' ≡ length locals
  pub globals-length : length globals' ≡ length globals
  pub local_body : (i : ℕ) → listed (entered (local fd i)) → get_or locals' i [] ≡ get_or locals i []
  pub global_body : (i : ℕ) → listed (entered (global i)) → get_or globals' i [] ≡ get_or globals i []

module _ (globals locals globals' locals' : List (List ℕ)) (fd fd' : ℕ) (listed : Row → Type 0) (same : Same globals locals globals' locals' fd listed) where
  -- entering a subroutine goes the same way
  abbrev Enters : (Site → List ℕ → State → Run) → (Site → List ℕ → State → Run) → Type 0
  Enters enter enter' =
      (site site' : Site) (s : List ℕ) (st : State) (r : Run) → is_glyph site' ≡ is_glyph site → enter site s st ≡ r → Listed listed r
      → Follows listed st.met r (λ rows. enter' site' s (rowed rows st))

  module _ (enter enter' : Site → List ℕ → State → Run) (enters : Enters enter enter') (site site' : Site) (kind : is_glyph site' ≡ is_glyph site) (s : List ℕ) where
    abbrev Walks : ℕ → Type 0
    Walks k =
        (at : ℕ) (l : Option ℤ) (st : State) (r : Run) → walk globals locals fd enter k site s at l st ≡ r → Listed listed r
        → Follows listed st.met r (λ rows. walk globals' locals' fd' enter' k site' s at l (rowed rows st))

    module _ (k : ℕ) (next : Walks k) (at : ℕ) (inside : ltb at (length s) ≡ true) (l : Option ℤ) (st : State) (r : Run) (h : Listed listed r) where
      goes_as : (rows : List Row) (x : Run) → Step globals' locals' fd' enter' k site' s at l (rowed rows st) x → Alike r x
          → Alike r (walk globals' locals' fd' enter' (suc k) site' s at l (rowed rows st))
      goes_as rows x t a = subst (Alike r) (sym (walk_goes globals' locals' fd' enter' k site' s at l (rowed rows st) x inside t)) a

      -- a call of a subroutine whose body stays as it is, if it is listed
      same_call : (which which' : Site) (body body' : List ℕ) → is_glyph which' ≡ is_glyph which → (listed (entered which) → body' ≡ body)
          → after (enter which body (calling which st)) (walk globals locals fd enter k site s (at + 1) None) ≡ r
          → ((rows : List Row) → Step globals' locals' fd' enter' k site' s at l (rowed rows st)
          (after (enter' which' body' (calling which' (rowed rows st))) (walk globals' locals' fd' enter' k site' s (at + 1) None)))
          → Follows listed st.met r (λ rows. walk globals' locals' fd' enter' (suc k) site' s at l (rowed rows st))
      same_call which which' body body' q b e t =
          let p = follows-after listed _ _ (walk globals' locals' fd' enter' k site' s (at + 1) None) r _ _ e h (λ x d. next (at + 1) None x r d h)
          (λ g. enters which which' body (calling which st) _ q refl g) in
          let c = b (all-last listed st.met (entered which) p.before) in
          record {
            before = all-front listed st.met (entered which) p.before;
            alike = λ rows. goes_as rows _ (t rows)
                (subst (λ (x : List ℕ). Alike r (after (enter' which' x (calling which' (rowed rows st))) (walk globals' locals' fd' enter' k site' s (at + 1) None)))
                (sym c) (p.alike (rows ++ (entered which' ∷ []))));
          }

      same_step : Step globals locals fd enter k site s at l st r
          → Follows listed st.met r (λ rows. walk globals' locals' fd' enter' (suc k) site' s at l (rowed rows st))
      same_step (reads z n f a b e) =
          let p = next n (Some z) _ r e h in
          record { before = p.before; alike = λ rows. goes_as rows _ (reads z n f a b refl) (p.alike rows) }
      same_step (calls_local i o f e) =
          same_call (local fd i) (local fd' i) (get_or locals i []) (get_or locals' i []) refl (same.local_body i) e
          (λ rows. calls_local i o (ap (λ (n : ℕ). target_of n l) same.locals-length ∙ f) refl)
      same_step (calls_global i o f e) =
          same_call (global i) (global i) (get_or globals i []) (get_or globals' i []) refl (same.global_body i) e
          (λ rows. calls_global i o (ap (λ (n : ℕ). target_of n l) same.globals-length ∙ f) refl)
      same_step (returns o f e) =
          record {
            before = subst (Listed listed) (sym e) h;
            alike = λ rows. goes_as rows _ (returns o (kind ∙ f) refl) (subst (λ (x : Run). Alike x (returned (rowed rows st))) e (rows, refl));
          }
      same_step (ends o f a e) =
          record {
            before = subst (Listed listed) (sym e) h;
            alike = λ rows. goes_as rows _ (ends o f a refl)
                (subst (λ (x : Run). Alike x (ended (leaving (op 14) 0 st.stems (rowed rows st)))) e (rows, refl));
          }
      same_step (escapes x o f a b c d e) =
          let p = next (at + 2) None _ r e h in
          record { before = p.before; alike = λ rows. goes_as rows _ (escapes x o f a b c d refl) (p.alike rows) }
      same_step (masks b o c m a d f e) =
          let p = next (at + 1 + mask_now st) None _ r e h in
          record {
            before = all-front listed st.met (masked site at (mask_now st)) p.before;
            alike = λ rows. goes_as rows _ (masks b o c m a d f refl) (p.alike (rows ++ (masked site' at (mask_now st) ∷ [])));
          }
      same_step (clears b n o c m a d e) =
          let p = next (at + 1) None _ r e h in
          record { before = p.before; alike = λ rows. goes_as rows _ (clears b n o c m a d refl) (p.alike rows) }

    same-walk : (k : ℕ) → Walks k
    unfolding walk
    same-walk zero at l st r e h = absurd (subst (Listed listed) (sym e) h)
    same-walk (suc k) at l st r e h =
        let w = walk_was globals locals fd enter k site s at l st r (unbroken listed r h) e in
        same_step k (same-walk k) at w.0 l st r h w.1

  pub same_body : (d : ℕ) → Enters (run_body globals locals fd d) (run_body globals' locals' fd' d)
  unfolding run_body
  same_body zero site site' s st r kind e h =
      same-walk (λ t b x. broken) (λ t b x. broken) (λ t t' b x q i f g. absurd (subst (Listed listed) (sym f) g)) site site' kind s (length s) 0 None st r e h
  same_body (suc d) site site' s st r kind e h =
      same-walk (run_body globals locals fd d) (run_body globals' locals' fd' d) (same_body d) site site' kind s (length s) 0 None st r e h

-- ---- a font beside itself: the rows with which a walk starts are among those it ends with

module _ (globals locals : List (List ℕ)) (fd : ℕ) (listed : Row → Type 0) where
  itself : Same globals locals globals locals fd listed
  itself = record { locals-length = refl; globals-length = refl; local_body = λ i h. refl; global_body = λ i h. refl }

  -- walks that end with listed rows start with listed rows
  abbrev pub Backs : (Site → List ℕ → State → Run) → Type 0
  Backs enter =
      (k : ℕ) (site : Site) (s : List ℕ) (at : ℕ) (l : Option ℤ) (st : State) (r : Run) → walk globals locals fd enter k site s at l st ≡ r → Listed listed r → All listed st.met

  pub backs_none : Backs (λ t b x. broken)
  backs_none k site s at l st r e h =
      (same-walk globals locals globals locals fd fd listed itself (λ t b x. broken) (λ t b x. broken)
      (λ t t' b x q i f g. absurd (subst (Listed listed) (sym f) g)) site site refl s k at l st r e h).before

  pub backs_body : (d : ℕ) → Backs (run_body globals locals fd d)
  backs_body d k site s at l st r e h =
      (same-walk globals locals globals locals fd fd listed itself (run_body globals locals fd d) (run_body globals locals fd d)
      (same_body globals locals globals locals fd fd listed itself d) site site refl s k at l st r e h).before

  -- and so do bodies
  pub body-starts : (d : ℕ) (site : Site) (s : List ℕ) (st : State) (r : Run) → run_body globals locals fd d site s st ≡ r → Listed listed r → All listed st.met
  body-starts d site s st r e h = (same_body globals locals globals locals fd fd listed itself d site site s st r refl e h).before
