-- Laws of the measuring functions: the length that was measured decides, and the plan's bodies are the subset's.
use Rattle.std.specs.Prelude.{ℕ, ◌+◌, ◌≤◌, ◌<◌, ◌≡◌, refl, List, length, Option, Err}
use Rattle.octets.specs.Octets.{put}
use Rattle.unfold.specs.Unfold.{Row}
use Rattle.cff.specs.Reads.{program_of}
use Rattle.subset.specs.Pruned.{Pruned}
use Rattle.subset.specs.Subset.{subset_by_name}
use Rattle.order_window.specs.Window.{glyphs_of}
use Rattle.own_strings.specs.declared.Own.{Own}
use Rattle.own_strings.specs.declared.slots.Slot.{Slot}
use Rattle.renumber.specs.declared.Ranks.{Ranks}
use Rattle.parts.specs.Ready.{bodies_for}
use Rattle.parts.specs.declared.Planned.{Planned}
use Rattle.outcome.specs.Entry.{a_cut, answer_of}
use Rattle.named_parts.specs.Named.{named_outcome, NamedPlan, NamedStrings, NamedCodes, PlacedNamed}
use Rattle.encoding.specs.Encoded.{coded_in}
use Rattle.encoding.specs.declared.Encoding.{Encoding}
use Rattle.front.specs.declared.NamedPlaces.{NamedPlaces}
use Rattle.by_name.specs.NamedLaws.{planned_long, planned-written}
use Rattle.cid_parts.specs.Cid.{sized}
use Rattle.cid_parts.specs.CidPlacesLaws.{sized_long, sized-written}
use Rattle.measure.specs.RoomLaws.{lent, lent-room, as_measured}
use Rattle.refusal.specs.declared.Refusal.TheVariants.{Subset}
use Rattle.subset.specs.declared.Way.{Way}

-- ---- name-keyed

module _ (b : List ℕ) (rows : List Row) (used ws : List ℕ) (r : Planned) (table : List Ranks) (totals : List ℕ)
    (g : NamedPlan b rows used ws r table totals) (name : List ℕ) (slots : List Slot) (own : Own)
    (t : NamedStrings (program_of b r.order.f) (glyphs_of b r.order.f ws) slots own (length name)) (e : Encoding) (codes : List (Option ℕ)) (coding : NamedCodes e codes) (at : NamedPlaces)
    (placed : PlacedNamed (program_of b r.order.f) (coded_in e codes) name (glyphs_of b r.order.f ws) (bodies_for b rows used ws r) at) where
  abbrev q : Pruned
  q = record { way = r.how.way; bodies = bodies_for b rows used ws r }

  -- too long
  pub named_long : 67108864 < at.end
      → Err Subset ≡ answer_of (named_outcome (program_of b r.order.f) (coded_in e codes) name (glyphs_of b r.order.f ws) 67108864 q)
  named_long h =
      as_measured (λ (m : ℕ). named_outcome (program_of b r.order.f) (coded_in e codes) name (glyphs_of b r.order.f ws) m q) lent (Err Subset)
      (planned_long b rows used ws r table totals g name slots own t e codes coding at placed lent h)

  -- measured
  pub named-fits : at.end ≤ 67108864
      → a_cut r.how.way at.end ≡ answer_of (named_outcome (program_of b r.order.f) (coded_in e codes) name (glyphs_of b r.order.f ws) 67108864 q)
  named-fits h =
      let bs = subset_by_name (program_of b r.order.f) (coded_in e codes) name (glyphs_of b r.order.f ws) (bodies_for b rows used ws r) in
      as_measured (λ (m : ℕ). named_outcome (program_of b r.order.f) (coded_in e codes) name (glyphs_of b r.order.f ws) m q) (put lent 0 bs) (a_cut r.how.way at.end)
      (planned-written b rows used ws r table totals g name slots own t e codes coding at placed lent h (lent-room at.end h) (put lent 0 bs) (0 + length bs)
      (record { is = refl; behind = refl }))

-- ---- CID-keyed

module _ (way : Way) (bs : List ℕ) (end : ℕ) (is : length bs ≡ end) where
  -- too long
  pub cid_long : 67108864 < end → Err Subset ≡ answer_of (sized way bs 67108864)
  cid_long h = as_measured (λ (m : ℕ). sized way bs m) lent (Err Subset) (sized_long way bs lent end is h)

  -- measured
  pub cid_fits : end ≤ 67108864 → a_cut way end ≡ answer_of (sized way bs 67108864)
  cid_fits h =
      as_measured (λ (m : ℕ). sized way bs m) (put lent 0 bs) (a_cut way end)
      (sized-written way bs lent end is h (lent-room end h) {q = 0 + length bs} (record { is = refl; behind = refl }))
