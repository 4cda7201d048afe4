-- What the subset of a CID-keyed font is written from, by what it holds: its parts, their places, and its bytes.
use Rattle.std.specs.Prelude.{ℕ, ◌≡◌, List, length}
use Rattle.std.proofs.Common.{ap, ◌∙◌, subst, arith}
use Rattle.unfold.specs.Unfold.{Row}
use Rattle.subset.specs.Subset.{private_parts}
use Rattle.fds.specs.Locals.{fds_in}
use Rattle.parts.specs.declared.Planned.{Planned}
use Rattle.record.specs.Record.{rows_of}
use Rattle.front.specs.declared.CidPlaces.{CidPlaces}
use Rattle.order_window.specs.Stays.{Stays, stays-then}
use Rattle.outcome.specs.declared.tables.Parts.{Parts}
use Rattle.cid_parts.specs.declared.cid.CidSubset.{CidSubset}
use Rattle.cid_parts.specs.Cid.{program_in, bodies_in, PrivatesEnd, cid_bytes, cid_places, head_bytes, glyph_bytes, tail_bytes}

-- its Private parts
abbrev privates_by : List ℕ → List Row → List ℕ → List ℕ → Planned → List ℕ
privates_by b rows used ws r = private_parts (program_in b rows used ws r) (fds_in used) (bodies_in b rows used ws r).locals

-- the bytes of a subset, by the font, the work words and what is prepared
abbrev pub subset_by : List ℕ → List ℕ → Parts → List ℕ
subset_by b ws p = cid_bytes b (rows_of p.rows.now) p.used.now ws p.cut.plan p.name.now

module _ (c : CidSubset) where
  abbrev pub places_in : CidPlaces
  places_in = cid_places c.kept.font.now (rows_of c.parts.rows.now) c.parts.used.now c.kept.words.now c.parts.cut.plan c.parts.name.now

  abbrev pub subset_in : List ℕ
  subset_in = subset_by c.kept.font.now c.kept.words.now c.parts

  -- front, globals and charset; FDSelect and charstrings
  abbrev pub head_in : List ℕ
  head_in = head_bytes c.kept.font.now (rows_of c.parts.rows.now) c.parts.used.now c.kept.words.now c.parts.cut.plan c.parts.name.now

  abbrev pub glyphs_in : List ℕ
  glyphs_in = glyph_bytes c.kept.font.now (rows_of c.parts.rows.now) c.parts.used.now c.kept.words.now c.parts.cut.plan

  -- the FD INDEX and the Private parts, by the place of the first; and that they end within what a subset may have
  abbrev pub tail_in : ℕ → List ℕ
  tail_in from = tail_bytes c.kept.font.now (rows_of c.parts.rows.now) c.parts.used.now c.kept.words.now c.parts.cut.plan from

  abbrev privates_in : List ℕ
  privates_in = privates_by c.kept.font.now (rows_of c.parts.rows.now) c.parts.used.now c.kept.words.now c.parts.cut.plan

  abbrev pub EndsIn : ℕ → Type 0
  EndsIn from = PrivatesEnd c.kept.font.now (rows_of c.parts.rows.now) c.parts.used.now c.kept.words.now c.parts.cut.plan from

-- all but what the window holds
pub record Remains (old new : CidSubset) : Type 0 where
  pub kept : Stays old.kept new.kept
  pub parts : new.parts ≡ old.parts

-- so what is read of the rest is the same
pub glyphs-remain : (x y : CidSubset) → Remains x y → glyphs_in y ≡ glyphs_in x
glyphs-remain x y s = λ i. glyph_bytes (s.kept.font i) (rows_of (s.parts i).rows.now) (s.parts i).used.now (s.kept.words i) (s.parts i).cut.plan

pub tail-remain : (from : ℕ) (x y : CidSubset) → Remains x y → tail_in y from ≡ tail_in x from
tail-remain from x y s = λ i. tail_bytes (s.kept.font i) (rows_of (s.parts i).rows.now) (s.parts i).used.now (s.kept.words i) (s.parts i).cut.plan from

pub subset-remains : (x y : CidSubset) → Remains x y → subset_in y ≡ subset_in x
subset-remains x y s = λ i. subset_by (s.kept.font i) (s.kept.words i) (s.parts i)

pub places-remain : (x y : CidSubset) → Remains x y → places_in y ≡ places_in x
places-remain x y s = λ i. cid_places (s.kept.font i) (rows_of (s.parts i).rows.now) (s.parts i).used.now (s.kept.words i) (s.parts i).cut.plan (s.parts i).name.now

privates-remain : (x y : CidSubset) → Remains x y → privates_in y ≡ privates_in x
privates-remain x y s = λ i. privates_by (s.kept.font i) (rows_of (s.parts i).rows.now) (s.parts i).used.now (s.kept.words i) (s.parts i).cut.plan

pub ends-remain : (from : ℕ) (x y : CidSubset) → Remains x y → EndsIn x from → EndsIn y from
ends-remain from x y s h = omega (arith, h, ap length (privates-remain x y s))

pub remains-then : {x y z : CidSubset} → Remains y z → Remains x y → Remains x z
remains-then {x} {y} {z} t s = record { kept = stays-then x.kept y.kept z.kept s.kept t.kept; parts = t.parts ∙ s.parts }

-- what holds of the bytes of a subset holds of what it was made of
pub made-subset : (c : CidSubset) (b ws : List ℕ) (parts : Parts) → (c.kept.font.now ≡ b) × (c.kept.words.now ≡ ws) × (c.parts ≡ parts) → (P : Parts → List ℕ → Type 0)
    → P c.parts (subset_in c) → P parts (subset_by b ws parts)
made-subset c b ws parts h P x =
    subst (λ (p : Parts). P p (subset_by b ws p)) h.2
    (subst (λ (l : List ℕ). P c.parts (subset_by b l c.parts)) h.1 (subst (λ (l : List ℕ). P c.parts (subset_by l c.kept.words.now c.parts)) h.0 x))
