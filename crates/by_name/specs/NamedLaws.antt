-- Laws of a planned cut of a name-keyed font: its outcome by the tests of the code.
use Rattle.std.specs.Prelude.{ℕ, ◌≤◌, ◌<◌, ◌≡◌, refl, Bool, false, List, length, Option, Err}
use Rattle.std.proofs.Common.{sym, ◌∙◌, subst, arith}
use Rattle.std.proofs.Math.Path.{ap}
use Rattle.octets.specs.Pick.{pick}
use Rattle.octets.specs.Octets.{put, Wrote}
use Rattle.unfold.specs.Unfold.{Row}
use Rattle.dict.specs.Lookup.{cid_keyed}
use Rattle.cff.specs.Font.{Program}
use Rattle.cff.specs.Reads.{program_of}
use Rattle.subset.specs.Kept.{used_fds}
use Rattle.subset.specs.Pruned.{Bodies, Pruned}
use Rattle.subset.specs.Codes.{Coded, pair_count}
use Rattle.subset.specs.Subset.{own_by_name, own_by_cid, subset_by_name, subset_by_cid, subset_bytes}
use Rattle.subset.specs.Cut.{own_of}
use Rattle.order_window.specs.Window.{glyphs_of}
use Rattle.own_strings.specs.declared.Own.{Own}
use Rattle.own_strings.specs.declared.slots.Slot.{Slot}
use Rattle.renumber.specs.declared.Ranks.{Ranks}
use Rattle.parts.specs.Ready.{bodies_for}
use Rattle.parts.specs.declared.Planned.{Planned}
use Rattle.outcome.specs.Layout.{named-length}
use Rattle.outcome.specs.OutcomeLaws.{cut_long, cut-room, cut-written}
use Rattle.outcome.specs.Entry.{Cut, a_cut}
use Rattle.named_parts.specs.Named.{named_outcome, NamedPlan, NamedStrings, NamedCodes, PlacedNamed}
use Rattle.encoding.specs.Encoded.{coded_in}
use Rattle.encoding.specs.declared.Encoding.{Encoding}
use Rattle.front.specs.declared.NamedPlaces.{NamedPlaces}
use Rattle.refusal.specs.declared.Refusal.TheVariants.{Subset, Output}

-- ---- name-keyed

module _ (p : Program) (keyed : cid_keyed p.top ≡ false) where
  pub named-bytes : (coded : Coded) (name kept order : List ℕ) (b : Bodies) → subset_bytes p coded name kept order b ≡ subset_by_name p coded name order b
  unfolding subset_bytes
  named-bytes coded name kept order b = ap (λ (t : Bool). pick t (subset_by_cid p name (used_fds p kept) order b) (subset_by_name p coded name order b)) keyed

  pub named-strings : (order : List ℕ) → own_of p order ≡ own_by_name p order
  named-strings order = ap (λ (t : Bool). pick t (own_by_cid p) (own_by_name p order)) keyed

-- ---- measured, tested and written

module _ (b : List ℕ) (rows : List Row) (used ws : List ℕ) (r : Planned) (table : List Ranks) (totals : List ℕ)
    (g : NamedPlan b rows used ws r table totals) (name : List ℕ) (slots : List Slot) (own : Own)
    (t : NamedStrings (program_of b r.order.f) (glyphs_of b r.order.f ws) slots own (length name)) (e : Encoding) (codes : List (Option ℕ)) (coding : NamedCodes e codes) (at : NamedPlaces)
    (placed : PlacedNamed (program_of b r.order.f) (coded_in e codes) name (glyphs_of b r.order.f ws) (bodies_for b rows used ws r) at) (out : List ℕ) where
  abbrev p : Program
  p = program_of b r.order.f

  abbrev coded : Coded
  coded = coded_in e codes

  abbrev order : List ℕ
  order = glyphs_of b r.order.f ws

  abbrev bodies : Bodies
  bodies = bodies_for b rows used ws r

  abbrev q : Pruned
  q = record { way = r.how.way; bodies = bodies }

  bytes : subset_bytes p coded name order order bodies ≡ subset_by_name p coded name order bodies
  bytes = named-bytes p g.keyed coded name order order bodies

  long : at.end ≡ length (subset_bytes p coded name order order bodies)
  long = placed.end ∙ sym (named-length p coded name order bodies) ∙ sym (ap length bytes)

  few : length (own_of p order) ≤ 64609
  few = omega (arith, ap length (named-strings p g.keyed order), ap (λ (o : Own). o.count) t.measured.is, t.few)

  pairs : pair_count coded ≤ 255
  pairs = omega (arith, coding.is.many, coding.few)

  -- too long, and too little room
  pub planned_long : 67108864 < at.end → Cut (named_outcome p coded name order (length out) q) out out (Err Subset)
  planned_long h = cut_long p coded name order order (length out) q out few pairs (subst (λ (m : ℕ). 67108864 < m) long h)

  module _ (short : at.end ≤ 67108864) where
    small : length (subset_bytes p coded name order order bodies) ≤ 67108864
    small = subst (λ (m : ℕ). m ≤ 67108864) long short

    pub planned-room : length out < at.end → Cut (named_outcome p coded name order (length out) q) out out (Err Output)
    planned-room h = cut-room p coded name order order (length out) q out few pairs small (subst (λ (m : ℕ). length out < m) long h)

    -- written
    pub planned-written : at.end ≤ length out → (out' : List ℕ) (z : ℕ) → Wrote out 0 (subset_by_name p coded name order bodies) out' z
        → Cut (named_outcome p coded name order (length out) q) out out' (a_cut r.how.way at.end)
    planned-written h out' z w =
        cut-written p coded name order order (length out) q out few pairs small (subst (λ (m : ℕ). m ≤ length out) long h) r.how.way at.end out' refl long
        (w.is ∙ ap (put out 0) (sym bytes))
