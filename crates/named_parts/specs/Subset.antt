-- What the subset of a name-keyed font is written from, by what it holds: its parts, its bytes, and its outcome.
use Rattle.std.specs.Prelude.{ℕ, ◌≡◌, refl, List, Option}
use Rattle.std.proofs.Common.{◌∙◌}
use Rattle.record.specs.Record.{rows_of}
use Rattle.cff.specs.Font.{Program}
use Rattle.cff.specs.Reads.{program_of}
use Rattle.subset.specs.Pruned.{Bodies}
use Rattle.subset.specs.Codes.{Coded}
use Rattle.subset.specs.Cut.{Outcome}
use Rattle.subset.specs.Subset.{subset_by_name}
use Rattle.order_window.specs.Window.{glyphs_of}
use Rattle.order_window.specs.Stays.{Stays, stays-then}
use Rattle.order_window.specs.declared.window.Kept.{Kept}
use Rattle.parts.specs.Ready.{bodies_for}
use Rattle.front.specs.declared.NamedPlaces.{NamedPlaces}
use Rattle.encoding.specs.Encoded.{coded_in}
use Rattle.encoding.specs.declared.Encoding.{Encoding}
use Rattle.outcome.specs.declared.tables.Parts.{Parts}
use Rattle.named_parts.specs.declared.named.NamedSubset.{NamedSubset}
use Rattle.named_parts.specs.Named.{named_tables, named_glyphs, named_outcome, NamedReady, PlacedNamed}

-- the outcome of a cut, by the font, the work words and what is prepared
abbrev pub outcome_by : List ℕ → List ℕ → Parts → Encoding → List (Option ℕ) → ℕ → Outcome
outcome_by b ws parts e codes room =
    named_outcome (program_of b parts.cut.plan.order.f) (coded_in e codes) parts.name.now (glyphs_of b parts.cut.plan.order.f ws) room
    (record { way = parts.cut.plan.how.way; bodies = bodies_for b (rows_of parts.rows.now) parts.used.now ws parts.cut.plan })

-- where its parts stand
abbrev pub PlacedBy : List ℕ → List ℕ → Parts → Encoding → List (Option ℕ) → NamedPlaces → Type 0
PlacedBy b ws parts e codes at =
    PlacedNamed (program_of b parts.cut.plan.order.f) (coded_in e codes) parts.name.now (glyphs_of b parts.cut.plan.order.f ws)
    (bodies_for b (rows_of parts.rows.now) parts.used.now ws parts.cut.plan) at

module _ (c : NamedSubset) where
  abbrev pub program_in : Program
  program_in = program_of c.kept.font.now c.parts.cut.plan.order.f

  abbrev pub order_in : List ℕ
  order_in = glyphs_of c.kept.font.now c.parts.cut.plan.order.f c.kept.words.now

  abbrev pub codes_in : Coded
  codes_in = coded_in c.encoding c.codes.now

  abbrev pub bodies_in : Bodies
  bodies_in = bodies_for c.kept.font.now (rows_of c.parts.rows.now) c.parts.used.now c.kept.words.now c.parts.cut.plan

  -- charset and encoding, charstrings and Private, and the subset
  abbrev pub tables_in : List ℕ
  tables_in = named_tables program_in order_in codes_in

  abbrev pub glyphs_in : List ℕ
  glyphs_in = named_glyphs program_in bodies_in

  abbrev pub subset_in : List ℕ
  subset_in = subset_by_name program_in codes_in c.parts.name.now order_in bodies_in

  -- where its parts stand
  abbrev pub PlacedIn : NamedPlaces → Type 0
  PlacedIn at = PlacedBy c.kept.font.now c.kept.words.now c.parts c.encoding c.codes.now at

  -- the outcome of its cut, by the room of the output
  abbrev pub outcome_in : ℕ → Outcome
  outcome_in room = outcome_by c.kept.font.now c.kept.words.now c.parts c.encoding c.codes.now room

-- it is ready for the plan's glyphs, whatever of them the window holds
pub ready_planned : (c : NamedSubset) → NamedReady c.kept.font.now c.kept.words.now c.parts.cut.plan.order c.parts c.encoding c.codes.now
ready_planned c = record { plan = c.ready.plan; strings = c.ready.strings; codes = c.ready.codes; walked = record { f = refl; count = refl } }

-- all but what the window holds
pub record Remains (old new : NamedSubset) : Type 0 where
  pub kept : Stays old.kept new.kept
  pub parts : new.parts ≡ old.parts
  pub encoding : new.encoding ≡ old.encoding
  pub codes : new.codes ≡ old.codes

-- so what is read of the rest is the same: the tables where the window of the kept glyphs alone moved
pub tables-remain : (x : NamedSubset) (k : Kept) → Stays x.kept k
    → named_tables (program_of k.font.now x.parts.cut.plan.order.f) (glyphs_of k.font.now x.parts.cut.plan.order.f k.words.now) (codes_in x) ≡ tables_in x
tables-remain x k s = λ i. named_tables (program_of (s.font i) x.parts.cut.plan.order.f) (glyphs_of (s.font i) x.parts.cut.plan.order.f (s.words i)) (codes_in x)

pub glyphs-remain : (x y : NamedSubset) → Remains x y → glyphs_in y ≡ glyphs_in x
glyphs-remain x y s = λ i.
    named_glyphs (program_of (s.kept.font i) (s.parts i).cut.plan.order.f)
    (bodies_for (s.kept.font i) (rows_of (s.parts i).rows.now) (s.parts i).used.now (s.kept.words i) (s.parts i).cut.plan)

pub remains-then : {x y z : NamedSubset} → Remains y z → Stays x.kept y.kept → y.parts ≡ x.parts → y.encoding ≡ x.encoding → y.codes ≡ x.codes → Remains x z
remains-then {x} {y} {z} t kept parts encoding codes =
    record { kept = stays-then x.kept y.kept z.kept kept t.kept; parts = t.parts ∙ parts; encoding = t.encoding ∙ encoding; codes = t.codes ∙ codes }

-- the outcome is that of what the subset was made of
pub made-outcome : (c : NamedSubset) (b ws : List ℕ) (parts : Parts) (e : Encoding) (codes : List (Option ℕ))
    → (c.kept.font.now ≡ b) × (c.kept.words.now ≡ ws) × (c.parts ≡ parts) × (c.encoding ≡ e) × (c.codes.now ≡ codes)
    → (room : ℕ) → outcome_in c room ≡ outcome_by b ws parts e codes room
made-outcome c b ws parts e codes h room = λ i. outcome_by (h.0 i) (h.1 i) (h.2 i) (h.3 i) (h.4 i) room
