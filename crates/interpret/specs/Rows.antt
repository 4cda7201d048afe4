-- The rows that a run can meet (document 01, 'Reach record'): subroutines that are there, entered, and masks within the body that runs, of at
-- most 12 bytes. A row of kind 2 has the glyph's own number.
use Rattle.std.specs.Prelude.{ℕ, ◌+◌, ◌≤◌, ◌<◌, ◌≡◌, false, List, [], length, get_or}
use Rattle.unfold.specs.Unfold.{Row, Site, glyph, local, global, entered, masked, is_glyph}
use Rattle.prune.specs.Bodies.{All}
use Rattle.turns.specs.Turns.{Few}
use Rattle.interpret.specs.Trace.{Trace, broken, returned, ended}

module _ (globals locals : List (List ℕ)) (fd g : ℕ) (code : List ℕ) where
  -- a body that can run while glyph g does, with its bytes
  pub data Runs : Site → List ℕ → Type 0 where
    own : Runs (glyph g) code
    in_local : (i : ℕ) → i < length locals → Runs (local fd i) (get_or locals i [])
    in_global : (i : ℕ) → i < length globals → Runs (global i) (get_or globals i [])

  -- a row that it can meet
  pub data RowMet : Row → Type 0 where
    entering : {t : Site} {s : List ℕ} → Runs t s → is_glyph t ≡ false → RowMet (entered t)
    masking : {t : Site} {s : List ℕ} (offset len : ℕ) → Runs t s → offset + 1 + len ≤ length s → len ≤ 12 → RowMet (masked t offset len)

  -- a run that meets such rows alone, and leaves few operands and stems
  abbrev pub Proper : Trace → Type 0
  Proper broken = Unit
  Proper (returned x rows) = (Few x) × (All RowMet rows)
  Proper (ended rows) = All RowMet rows

-- a row whose fields a key can hold: a font has at most 67,108,864 bytes, a mask at most 12
pub record RowGood (r : Row) : Type 0 where
  pub kind : r.kind ≤ 4
  pub fd : r.fd < 256
  pub number : r.number < 65536
  pub offset : r.offset < 67108864
  pub len : r.len ≤ 12
