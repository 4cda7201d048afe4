-- The cut of a name-keyed font (document 01, 'Layout'; crates/subset, subset_by_name), over what the code holds when its bodies are planned.
use Rattle.std.specs.Prelude.{ℕ, ◌≤◌, ◌<◌, ◌≡◌, false, List, [], ◌∷◌, ◌++◌, length, set, take, replicate, Option}
use Rattle.index.specs.Write.{index_bytes}
use Rattle.charset.specs.CharsetBytes.{charset_bytes}
use Rattle.unfold.specs.Unfold.{Row}
use Rattle.dict.specs.Lookup.{cid_keyed}
use Rattle.cff.specs.Font.{Program}
use Rattle.cff.specs.Reads.{program_of}
use Rattle.subset.specs.Kept.{private_of}
use Rattle.subset.specs.Texts.{names_of}
use Rattle.subset.specs.Pruned.{Bodies, Pruned}
use Rattle.subset.specs.Codes.{Coded, coded_bytes, coded_at}
use Rattle.subset.specs.Subset.{private_dict, private_part, own_by_name, new_ids, one_local_lem}
use Rattle.subset.specs.Cut.{Outcome, written}
use Rattle.small.specs.Small.{small_size}
use Rattle.order_window.specs.declared.Order.{Order}
use Rattle.order_window.specs.Window.{glyphs_of, Gathered}
use Rattle.record.specs.Record.{rows_of}
use Rattle.own_strings.specs.declared.Own.{Own}
use Rattle.own_strings.specs.declared.slots.Slot.{Slot}
use Rattle.name_strings.specs.Names.{NamesApart}
use Rattle.renumber.specs.declared.Ranks.{Ranks}
use Rattle.fds.specs.Locals.{fds_in}
use Rattle.front.specs.Front.{SlotsReady, Measured}
use Rattle.faithful.specs.FontHeld.{FontHeld}
use Rattle.parts.specs.Ready.{Ready, Summed}
use Rattle.parts.specs.declared.Planned.{Planned}
use Rattle.outcome.specs.declared.tables.Parts.{Parts}
use Rattle.outcome.specs.Walked.{Walked}
use Rattle.outcome.specs.Layout.{named_charset, named_codes, named_charstrings, named_private, named_end}
use Rattle.front.specs.declared.NamedPlaces.{NamedPlaces}
use Rattle.encoding.specs.Encoded.{pairs_of, coded_in, Encodes}
use Rattle.encoding.specs.declared.Encoding.{Encoding}

-- charset and encoding of the kept glyphs
abbrev pub named_tables : Program → List ℕ → Coded → List ℕ
named_tables p order coded = charset_bytes (new_ids (own_by_name p order) (names_of p order)) ++ coded_bytes coded

-- charstrings and Private
abbrev pub named_glyphs : Program → Bodies → List ℕ
named_glyphs p b = index_bytes b.charstrings ++ private_part (private_of p 0) (one_local_lem b)

-- the outcome by the glyphs in the order in which they are written, which in a name-keyed font is that of the kept ones
abbrev pub named_outcome : Program → Coded → List ℕ → List ℕ → ℕ → Pruned → Outcome
named_outcome p coded name order room q = written p coded name order order room q

-- the bodies are planned, those of FD 0 alone, and the names of the kept glyphs differ
pub record NamedPlan (b : List ℕ) (rows : List Row) (used ws : List ℕ) (r : Planned) (table : List Ranks) (totals : List ℕ) : Type 0 where
  pub keyed : cid_keyed (program_of b r.order.f).top ≡ false
  pub some : 0 < r.order.count
  pub ready : Ready b rows used ws r table
  pub summed : Summed b rows used ws r table totals
  pub only : fds_in used ≡ 0 ∷ []
  pub apart : NamesApart b r.order.f ws

-- the table of the FDs in use: FD 0 is
abbrev pub first_fd : List ℕ
first_fd = set (replicate 256 0) 0 1

-- the own strings are counted and few, and the new name is short
pub record NamedStrings (p : Program) (order : List ℕ) (slots : List Slot) (own : Own) (name : ℕ) : Type 0 where
  pub ready : SlotsReady p false slots
  pub measured : Measured (own_by_name p order) own
  pub few : own.count ≤ 64609
  pub short : name ≤ 65535

-- its encoding: there are not too many pairs
pub record NamedCodes (e : Encoding) (codes : List (Option ℕ)) : Type 0 where
  pub is : Encodes (coded_in e codes) codes e
  pub few : pairs_of e ≤ 255

-- what a subset is written from: the bodies are planned, the strings counted, the codes few, and it is the plan's glyphs that are kept
pub record NamedReady (b ws : List ℕ) (o : Order) (parts : Parts) (e : Encoding) (held : List (Option ℕ)) : Type 0 where
  pub plan : NamedPlan b (rows_of parts.rows.now) parts.used.now ws parts.cut.plan parts.table.now parts.totals.now
  pub strings : NamedStrings (program_of b parts.cut.plan.order.f) (glyphs_of b parts.cut.plan.order.f ws) (take 8 parts.slots.now) parts.cut.own (length parts.name.now)
  pub codes : NamedCodes e held
  pub walked : Walked o parts.cut.plan.order

-- the places of the parts, and the size of the Private DICT
pub record PlacedNamed (p : Program) (coded : Coded) (name order : List ℕ) (b : Bodies) (at : NamedPlaces) : Type 0 where
  pub charset : at.charset ≡ named_charset p coded name order b
  pub encoding : at.encoding ≡ coded_at coded (named_codes p coded name order b)
  pub charstrings : at.charstrings ≡ named_charstrings p coded name order b
  pub size : at.size ≡ length (private_dict (private_of p 0) (one_local_lem b))
  pub private : at.private ≡ named_private p coded name order b
  pub end : at.end ≡ named_end p coded name order b

-- the kept glyphs of a name-keyed font, whose names differ, and words for the bits of all subroutines
pub record NamedCut (b : List ℕ) (o : Order) (ws window : List ℕ) : Type 0 where
  pub read : FontHeld b o.f
  pub keyed : cid_keyed (program_of b o.f).top ≡ false
  pub ordered : Gathered b ws window o
  pub apart : NamesApart b o.f ws
  pub room : small_size (program_of b o.f) ≤ length ws
