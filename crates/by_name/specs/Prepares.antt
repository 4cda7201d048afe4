-- What is prepared for the cut of the kept glyphs of a name-keyed font.
use Rattle.std.specs.Prelude.{ℕ, ◌≤◌, Bool, List, length, Option, Result, Ok, Err}
use Rattle.record.specs.Record.{rows_of}
use Rattle.cff.specs.Reads.{program_of}
use Rattle.order_window.specs.declared.Order.{Order}
use Rattle.order_window.specs.Window.{glyphs_of, Gathered}
use Rattle.own_strings.specs.declared.slots.Slot.{Slot}
use Rattle.parts.specs.Ready.{bodies_for}
use Rattle.named_parts.specs.Named.{named_outcome, NamedPlan, NamedStrings, NamedCodes}
use Rattle.named_parts.specs.declared.named.NamedSubset.{NamedSubset}
use Rattle.named_parts.specs.Subset.{outcome_in}
use Rattle.encoding.specs.Encoded.{coded_in, Past}
use Rattle.outcome.specs.Entry.{Cut}
use Rattle.subset.specs.Cut.{Outcome}
use Rattle.outcome.specs.declared.Subsetted.{Subsetted}
use Rattle.outcome.specs.declared.tables.Tables.{Tables}
use Rattle.refusal.specs.declared.Refusal.{Refusal}
use Rattle.by_name.specs.declared.CodedCut.{CodedCut}
use Rattle.by_name.specs.NamedKeptLaws.{cut_ordered}

module _ (ask : Bool) (b rec : List ℕ) (flag : ℕ) (o : Order) (ws : List ℕ) (slots : List Slot) (held : List (Option ℕ)) (new window : List ℕ) (t : Tables) where
  -- the slots, the work words, the window and the tables are ready for a cut, and its outcome is that of the kept glyphs
  pub record IsPrepared (c : CodedCut) : Type 0 where
    pub plan : NamedPlan b (rows_of rec) t.used new c.cut.plan t.table t.totals
    pub strings : (m : ℕ) → m ≤ 65535 → NamedStrings (program_of b c.cut.plan.order.f) (glyphs_of b c.cut.plan.order.f new) slots c.cut.own m
    pub codes : NamedCodes c.encoding held
    pub gathered : Gathered b new window c.cut.plan.order
    pub cuts : (name out out' : List ℕ) (a : Result Subsetted Refusal)
        → Cut (named_outcome (program_of b c.cut.plan.order.f) (coded_in c.encoding held) name (glyphs_of b c.cut.plan.order.f new) (length out)
        (record { way = c.cut.plan.how.way; bodies = bodies_for b (rows_of rec) t.used new c.cut.plan })) out out' a
        → Cut (cut_ordered ask b rec name flag o ws (length out)) out out' a

  -- or the cut is refused, whatever the new name and the output are
  abbrev pub Prepares : Result CodedCut Refusal → Type 0
  Prepares (Ok c) = IsPrepared c
  Prepares (Err e) = (name out : List ℕ) → Cut (cut_ordered ask b rec name flag o ws (length out)) out out (Err e)

-- a cut by what a subset is written from is one of an outcome; or the cut is refused
abbrev pub CutsAs : (ℕ → Outcome) → Result NamedSubset Refusal → Type 0
CutsAs o (Ok c) = (out out' : List ℕ) (a : Result Subsetted Refusal) → Cut (outcome_in c (length out)) out out' a → Cut (o (length out)) out out' a
CutsAs o (Err e) = (out : List ℕ) → Cut (o (length out)) out out (Err e)

-- the new ids that the codes have in it fit four bytes, where all that was lent do, so that a caller may keep them as u32
abbrev pub CodesFit : List (Option ℕ) → Result NamedSubset Refusal → Type 0
CodesFit codes (Ok c) = Past codes 256 4294967296 → Past c.codes.now 256 4294967296
CodesFit codes (Err e) = Unit
