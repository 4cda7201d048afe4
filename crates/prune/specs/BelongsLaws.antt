-- The rows that a glyph meets are its own (document 01, 'Plain glyphs' and 'Reach record'): a mask stands in the glyph itself or in a subroutine
-- that it enters. So a record may say what it likes of the masks of other bodies, which are not rewritten.
use Rattle.std.specs.Prelude.{ℤ, ◌≡◌, length, get_or, None, Option, Some}
use Prim.Native.Nat.{ℕ, zero, suc, ◌+◌}
use Rattle.std.proofs.Math.Path.{refl, subst}
use Rattle.std.proofs.Common.{sym, arith}
use mathlib.Core.List.{List, [], ◌∷◌, ◌++◌}
use Rattle.unfold.specs.Unfold.{Tok, Row, Site, glyph, local, global, entered, masked, State, Run, broken, returned, ended, calling, after, walk, run_body, plain, glyph_of, fresh, unfold_glyph}
use Rattle.prune.specs.Bodies.{All, empty as nothing, one}
use Rattle.prune.specs.StepLaws.{zero_one, mask_now, Step, reads, calls_local, calls_global, returns, ends, escapes, masks, clears, walk_was}
use Rattle.prune.specs.AlikeLaws.{Listed, unbroken, all-last}
use Rattle.prune.specs.SameLaws.{Backs, backs_none, backs_body, body-starts}

-- a listed row that glyph g of FD fd can meet: if it is a mask's, then in g or in a subroutine that is listed as entered
pub record Belongs (listed : Row → Type 0) (fd g : ℕ) (r : Row) : Type 0 where
  pub is : listed r
  pub in_glyph : r.kind ≡ 2 → r.number ≡ g
  pub in_local : r.kind ≡ 3 → (r.fd ≡ fd) × listed (entered (local fd r.number))
  pub in_global : r.kind ≡ 4 → listed (entered (global r.number))

all_more : (listed : Row → Type 0) (rows : List Row) (r : Row) → All listed rows → listed r → All listed (rows ++ (r ∷ []))
all_more listed [] r h p = one p nothing
all_more listed (x ∷ rows) r (one q h) p = one q (all_more listed rows r h p)

module _ (globals locals : List (List ℕ)) (fd g : ℕ) (listed : Row → Type 0) where
  abbrev Own : Row → Type 0
  Own r = Belongs listed fd g r

  -- a body that glyph g runs
  abbrev Runs : Site → Type 0
  Runs (glyph n) = n ≡ g
  Runs (local f k) = (f ≡ fd) × listed (entered (local fd k))
  Runs (global k) = listed (entered (global k))

  own-mask : (site : Site) (offset len : ℕ) → Runs site → listed (masked site offset len) → Own (masked site offset len)
  own-mask (glyph n) offset len o l = record { is = l; in_glyph = λ e. o; in_local = λ e. absurd (zero_one (omega arith)); in_global = λ e. absurd (zero_one (omega arith)) }
  own-mask (local f k) offset len o l = record { is = l; in_glyph = λ e. absurd (zero_one (omega arith)); in_local = λ e. o; in_global = λ e. absurd (zero_one (omega arith)) }
  own-mask (global k) offset len o l = record { is = l; in_glyph = λ e. absurd (zero_one (omega arith)); in_local = λ e. absurd (zero_one (omega arith)); in_global = λ e. o }

  own_local : (i : ℕ) → listed (entered (local fd i)) → Own (entered (local fd i))
  own_local i l =
      record { is = l; in_glyph = λ e. absurd (zero_one (omega arith)); in_local = λ e. absurd (zero_one (omega arith)); in_global = λ e. absurd (zero_one (omega arith)) }

  own_global : (i : ℕ) → listed (entered (global i)) → Own (entered (global i))
  own_global i l =
      record { is = l; in_glyph = λ e. absurd (zero_one (omega arith)); in_local = λ e. absurd (zero_one (omega arith)); in_global = λ e. absurd (zero_one (omega arith)) }

  own-after : (x : Run) (on : State → Run) (r : Run) → after x on ≡ r → Listed listed r → ((st : State) → on st ≡ r → All listed st.met)
      → (Listed listed x → Listed Own x) → ((st : State) → All Own st.met → on st ≡ r → Listed Own r) → Listed Own r
  own-after broken on r e h back callee rest = absurd (subst (Listed listed) (sym e) h)
  own-after (returned st) on r e h back callee rest = rest st (callee (back st e)) e
  own-after (ended st) on r e h back callee rest = subst (Listed Own) e (callee (subst (Listed listed) (sym e) h))

  -- entering a body
  abbrev Enters : (Site → List ℕ → State → Run) → Type 0
  Enters enter = (site : Site) (s : List ℕ) (st : State) (r : Run) → Runs site → All Own st.met → enter site s st ≡ r → Listed listed r → Listed Own r

  -- the rows with which a body starts are listed
  abbrev Starts : (Site → List ℕ → State → Run) → Type 0
  Starts enter = (site : Site) (s : List ℕ) (st : State) (r : Run) → enter site s st ≡ r → Listed listed r → All listed st.met

  module _ (enter : Site → List ℕ → State → Run) (backs : Backs globals locals fd listed enter) (starts : Starts enter) (enters : Enters enter)
      (site : Site) (s : List ℕ) (runs : Runs site) where
    abbrev Walks : ℕ → Type 0
    Walks k =
        (at : ℕ) (l : Option ℤ) (st : State) (r : Run) → All Own st.met → walk globals locals fd enter k site s at l st ≡ r → Listed listed r → Listed Own r

    module _ (k : ℕ) (next : Walks k) (at : ℕ) (l : Option ℤ) (st : State) (r : Run) (own : All Own st.met) (h : Listed listed r) where
      own_call : (which : Site) (body : List ℕ) → (listed (entered which) → Runs which × Own (entered which))
          → after (enter which body (calling which st)) (walk globals locals fd enter k site s (at + 1) None) ≡ r → Listed Own r
      own_call which body o e =
          own-after (enter which body (calling which st)) (walk globals locals fd enter k site s (at + 1) None) r e h
          (λ x f. backs k site s (at + 1) None x r f h)
          (λ a. let p = o (all-last listed st.met (entered which) (starts which body (calling which st) _ refl a)) in
          enters which body (calling which st) _ p.0 (all_more Own st.met (entered which) own p.1) refl a)
          (λ x p f. next (at + 1) None x r p f h)

      own-step : Step globals locals fd enter k site s at l st r → Listed Own r
      own-step (reads z n f a b e) = next n (Some z) _ r own e h
      own-step (calls_local i o f e) = own_call (local fd i) (get_or locals i []) (λ p. ((refl, p), own_local i p)) e
      own-step (calls_global i o f e) = own_call (global i) (get_or globals i []) (λ p. (p, own_global i p)) e
      own-step (returns o f e) = subst (Listed Own) e own
      own-step (ends o f a e) = subst (Listed Own) e own
      own-step (escapes x o f a b c d e) = next (at + 2) None _ r own e h
      own-step (masks b o c m a d f e) =
          let row = masked site at (mask_now st) in
          let p = all-last listed st.met row (backs k site s (at + 1 + mask_now st) None _ r e h) in
          next (at + 1 + mask_now st) None _ r (all_more Own st.met row own (own-mask site at (mask_now st) runs p)) e h
      own-step (clears b n o c m a d e) = next (at + 1) None _ r own e h

    own-walk : (k : ℕ) → Walks k
    unfolding walk
    own-walk zero at l st r own e h = absurd (subst (Listed listed) (sym e) h)
    own-walk (suc k) at l st r own e h =
        own-step k (own-walk k) at l st r own h (walk_was globals locals fd enter k site s at l st r (unbroken listed r h) e).1

  own_body : (d : ℕ) → Enters (run_body globals locals fd d)
  unfolding run_body
  own_body zero site s st r runs own e h =
      own-walk (λ t b x. broken) (backs_none globals locals fd listed) (λ t b x q f a. absurd (subst (Listed listed) (sym f) a))
      (λ t b x q o p f a. absurd (subst (Listed listed) (sym f) a)) site s runs (length s) 0 None st r own e h
  own_body (suc d) site s st r runs own e h =
      own-walk (run_body globals locals fd d) (backs_body globals locals fd listed d) (body-starts globals locals fd listed d) (own_body d)
      site s runs (length s) 0 None st r own e h

  own_glyph : (r : Run) (ts : List Tok) (rows : List Row) → glyph_of r ≡ plain ts rows → All listed rows → (Listed listed r → Listed Own r) → All Own rows
  own_glyph broken ts rows e h o = absurd (zero_one cc)
  own_glyph (returned st) ts rows e h o = absurd (zero_one cc)
  own_glyph (ended st) ts rows e h o =
      let m : st.met ≡ rows = cc in
      subst (All Own) m (o (subst (All listed) (sym m) h))

  -- the rows that a plain glyph meets, if they are listed, belong to it
  pub rows_belong : (s : List ℕ) (ts : List Tok) (rows : List Row) → unfold_glyph globals locals fd g s ≡ plain ts rows → All listed rows → All (Belongs listed fd g) rows
  unfolding unfold_glyph
  rows_belong [] ts rows e h = let m : [] ≡ rows = cc in subst (All (Belongs listed fd g)) m nothing
  rows_belong (b ∷ bs) ts rows e h =
      own_glyph (run_body globals locals fd 10 (glyph g) (b ∷ bs) fresh) ts rows e h (λ l. own_body 10 (glyph g) (b ∷ bs) fresh _ refl nothing refl l)
