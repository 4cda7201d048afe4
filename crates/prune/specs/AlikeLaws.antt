-- Two runs that end the same way, in states that differ in the rows met only: how this goes through a call.
use Rattle.std.specs.Prelude.{◌≡◌, List, [], ◌∷◌, ◌++◌}
use Rattle.std.proofs.Common.{sym, ap, subst}
use Rattle.unfold.specs.Unfold.{Row, State, Run, broken, returned, ended, after}
use Rattle.prune.specs.Bodies.{All, empty, one}
use Rattle.prune.specs.StepLaws.{Unbroken}

-- a state with other rows
abbrev pub rowed : List Row → State → State
rowed rows st = record { args = st.args; stems = st.stems; spent = st.spent; out = st.out; met = rows }

-- a run that is not broken and meets listed rows only
abbrev pub Listed : (Row → Type 0) → Run → Type 0
Listed listed broken = ⊥
Listed listed (returned st) = All listed st.met
Listed listed (ended st) = All listed st.met

-- the other run ends as the first, but for the rows
abbrev pub Alike : Run → Run → Type 0
Alike broken x = ⊥
Alike (returned st) x = (rows : List Row) × (x ≡ returned (rowed rows st))
Alike (ended st) x = (rows : List Row) × (x ≡ ended (rowed rows st))

-- what is shown of a run r from a state with the rows met: they are listed, and the other run is alike from whatever rows it starts with
pub record Follows (listed : Row → Type 0) (met : List Row) (r : Run) (other : List Row → Run) : Type 0 where
  pub before : All listed met
  pub alike : (rows : List Row) → Alike r (other rows)

module _ (listed : Row → Type 0) where
  pub unbroken : (r : Run) → Listed listed r → Unbroken r
  unbroken broken h = absurd h
  unbroken (returned st) h = tt
  unbroken (ended st) h = tt

  pub all-front : (rows : List Row) (r : Row) → All listed (rows ++ (r ∷ [])) → All listed rows
  all-front [] r h = empty
  all-front (x ∷ rows) r (one p h) = one p (all-front rows r h)

  pub all-last : (rows : List Row) (r : Row) → All listed (rows ++ (r ∷ [])) → listed r
  all-last [] r (one p h) = p
  all-last (x ∷ rows) r (one p h) = all-last rows r h

  -- a call: a subroutine's run, and what follows it in the caller
  pub follows-after : (x : Run) (on on' : State → Run) (r : Run) (met : List Row) (other : List Row → Run) → after x on ≡ r → Listed listed r
      → ((st : State) → on st ≡ r → Follows listed st.met r (λ rows. on' (rowed rows st))) → (Listed listed x → Follows listed met x other)
      → Follows listed met r (λ rows. after (other rows) on')
  follows-after broken on on' r met other e h rest callee = absurd (subst (Listed listed) (sym e) h)
  follows-after (returned st) on on' r met other e h rest callee =
      let f = rest st e in
      let g = callee f.before in
      record { before = g.before; alike = λ rows. let a = g.alike rows in subst (λ (y : Run). Alike r (after y on')) (sym a.1) (f.alike a.0) }
  follows-after (ended st) on on' r met other e h rest callee =
      let g = callee (subst (Listed listed) (sym e) h) in
      record {
        before = g.before;
        alike = λ rows. let a = g.alike rows in subst (λ (y : Run). Alike y (after (other rows) on')) e (a.0, ap (λ (y : Run). after y on') a.1);
      }
