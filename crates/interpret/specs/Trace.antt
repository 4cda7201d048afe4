-- A body run turn by turn (document 01, 'Plain glyphs'; crates/unfold), without the tokens that it leaves: how the run ends, and the rows that
-- it meets as its answer.
use Rattle.std.specs.Prelude.{ℕ, zero, suc, ◌+◌, List, [], ◌∷◌, ◌++◌, ltb, length, get_or}
use Rattle.octets.specs.Pick.{pick}
use Rattle.unfold.specs.Unfold.{Row, Site, local, global, entered, masked, is_glyph}
use Rattle.turns.specs.Turns.{turn_at_lem}
use Rattle.turns.specs.declared.Counts.{Counts}
use Rattle.turns.specs.declared.Turn.TheVariants.{Breaks, Returns, Ends, Goes, Masks, Calls}
use Rattle.turns.specs.declared.Turn.{Turn}
use Rattle.turns.specs.declared.Kind.{Kind}
use Rattle.turns.specs.declared.Kind.TheVariants.{Local, Global}

-- how a body's run ends: in what is not plain, by return, or by endchar; and the rows that it met
pub data Trace : Type 0 where
  broken : Trace
  returned : Counts → List Row → Trace
  ended : List Row → Trace

-- rows met before
abbrev pub meets : List Row → Trace → Trace
meets rows broken = broken
meets rows (returned x rs) = returned x (rows ++ rs)
meets rows (ended rs) = ended (rows ++ rs)

-- after a subroutine: on in the caller, or the end
abbrev pub afterwards : Trace → (Counts → Trace) → Trace
afterwards broken on = broken
afterwards (returned x rs) on = meets rs (on x)
afterwards (ended rs) on = ended rs

-- entering a subroutine one call deeper; going on in the same body, at a place, by where the number before it starts
abbrev Enter : Type 0
Enter = Site → List ℕ → Counts → Trace

abbrev On : Type 0
On = ℕ → ℕ → Counts → Trace

-- the subroutine that a call enters, and its bytes
abbrev pub site_for : ℕ → Kind → ℕ → Site
site_for fd Local i = local fd i
site_for fd Global i = global i

abbrev pub body_for : List (List ℕ) → List (List ℕ) → Kind → ℕ → List ℕ
body_for globals locals Local i = get_or locals i []
body_for globals locals Global i = get_or globals i []

module _ (globals locals : List (List ℕ)) (fd : ℕ) where
  -- what a turn leads to
  abbrev pub turned : Enter → On → Site → ℕ → Turn → Trace
  turned enter on site at Breaks = broken
  turned enter on site at (Returns x) = returned x []
  turned enter on site at Ends = ended []
  turned enter on site at (Goes n p x) = on n p x
  turned enter on site at (Masks len x) = meets (masked site at len ∷ []) (on (at + 1 + len) (at + 1 + len) x)
  turned enter on site at (Calls kind i x) =
      meets (entered (site_for fd kind i) ∷ []) (afterwards (enter (site_for fd kind i) (body_for globals locals kind i) x) (on (at + 1) (at + 1)))

  -- a body from a place on, k tokens at most; running off its end is not plain
  unfoldable pub trace_walk : Enter → ℕ → Site → List ℕ → ℕ → ℕ → Counts → Trace
  trace_walk enter zero site s at prev x = broken
  trace_walk enter (suc k) site s at prev x =
      pick (ltb at (length s))
      (turned enter (λ n p y. trace_walk enter k site s n p y) site at (turn_at_lem (length locals) (length globals) (is_glyph site) s at prev x)) broken

  -- a body from its start, with calls d deep at most
  unfoldable pub trace_body : ℕ → Site → List ℕ → Counts → Trace
  trace_body zero site s x = trace_walk (λ t b y. broken) (length s) site s 0 0 x
  trace_body (suc d) site s x = trace_walk (trace_body d) (length s) site s 0 0 x

  -- a subroutine one call deeper, where that is not too deep; and a call, its row before the subroutine's
  unfoldable pub enter_at : ℕ → Site → List ℕ → Counts → Trace
  enter_at zero t s x = broken
  enter_at (suc d) t s x = trace_body d t s x

  abbrev pub trace_call : ℕ → Kind → ℕ → Counts → Trace
  trace_call d kind i x = meets (entered (site_for fd kind i) ∷ []) (enter_at d (site_for fd kind i) (body_for globals locals kind i) x)

abbrev pub fresh : Counts
fresh = record { args = 0; stems = 0; spent = 0 }
