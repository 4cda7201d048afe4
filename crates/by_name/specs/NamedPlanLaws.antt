-- Laws of the planning of a name-keyed cut: FD 0 alone is in use, what planning asks, and what it leaves.
use Rattle.std.specs.Prelude.{ℕ, zero, suc, ◌≤◌, ◌<◌, ◌≡◌, refl, true, false, not, List, [], ◌∷◌, eqb, length, get_or, replicate, Result}
use Rattle.std.proofs.Common.{sym, ap, ◌∙◌, subst, ⊎_elim, arith}
use Rattle.octets.specs.ListLaws.{zeros-at}
use Rattle.unfold.specs.Unfold.{Row}
use Rattle.dict.specs.Lookup.{cid_keyed}
use Rattle.cff.specs.Font.{Program}
use Rattle.cff.specs.Reads.{program_of}
use Rattle.cff.specs.declared.font.Font.{Font}
use Rattle.index.specs.IndexLaws.{items-length}
use Rattle.prune.specs.StepLaws.{zero_one}
use Rattle.subset.specs.Kept.{is_in, those}
use Rattle.subset.specs.Pruned.{Pruned, pruned}
use Rattle.subset.specs.KeptListLaws.{in_cases, in_none, in_head, those-has, those_in}
use Rattle.kept.specs.Packed.{packed}
use Rattle.faithful.specs.UsedLaws.{fd_there}
use Rattle.glyph_tables.specs.ThoseLaws.{those-none}
use Rattle.order_window.specs.declared.Order.{Order}
use Rattle.order_window.specs.Window.{glyphs_of}
use Rattle.order_window.specs.OrderLaws.{order_below}
use Rattle.order_window.specs.GatheredLaws.{glyphs_many}
use Rattle.own_strings.specs.declared.Own.{Own}
use Rattle.own_strings.specs.declared.slots.Slot.{Slot}
use Rattle.own_strings.specs.Slots.{word_names, Different}
use Rattle.name_strings.specs.Names.{NamesApart}
use Rattle.fds.specs.Locals.{in_use_lem, fds_in}
use Rattle.renumber.specs.declared.Ranks.{Ranks}
use Rattle.parts.specs.Ready.{PlanIn, bodies_for, Ready, Summed}
use Rattle.parts.specs.declared.Planned.{Planned}
use Rattle.subset.specs.Codes.{Coded}
use Rattle.outcome.specs.Entry.{Cut}
use Rattle.named_parts.specs.Named.{named_outcome, NamedPlan, NamedStrings, NamedCut, first_fd}
use Rattle.outcome.specs.declared.Subsetted.{Subsetted}
use Rattle.refusal.specs.declared.Refusal.{Refusal}

-- ---- FD 0 alone

one-used : (l : List ℕ) (n : ℕ) → get_or l 0 0 ≡ 1 → ((d : ℕ) → in_use_lem l d ≡ true → d < 1) → those (in_use_lem l) (suc n) 0 ≡ 0 ∷ []
unfolding those
one-used l n e low = rw e (ap (λ (x : List ℕ). 0 ∷ x) (those-none (in_use_lem l) n 1 low))

first-low : (n d : ℕ) → in_use_lem (1 ∷ replicate n 0) d ≡ true → d < 1
first-low n zero u = omega arith
first-low n (suc d) u = let w : false ≡ true = ap (λ (x : ℕ). not (eqb x 0)) (sym (zeros-at n d)) ∙ u in absurd (zero_one cc)

pub first-only : fds_in first_fd ≡ 0 ∷ []
first-only = one-used (1 ∷ replicate 255 0) 255 refl (first-low 255)

-- ---- planned

module _ (b : List ℕ) (o : Order) (ws window : List ℕ) (h : NamedCut b o ws window) (used : List ℕ) (only : fds_in used ≡ 0 ∷ []) where
  abbrev p : Program
  p = program_of b o.f

  abbrev order : List ℕ
  order = glyphs_of b o.f ws

  -- FD 0 alone is in use, and is every glyph's
  only-used : (d : ℕ) → d < 256 → in_use_lem used d ≡ true → d ≡ 0
  only-used d l u =
      let i : is_in d (fds_in used) ≡ true = those-has (in_use_lem used) 256 0 d (omega arith) (omega arith) u in
      ⊎_elim (λ e. sym e) (λ e. absurd (in_none d e)) (in_cases 0 d [] (ap (is_in d) (sym only) ∙ i))

  zero-used : in_use_lem used 0 ≡ true
  zero-used = (those_in (in_use_lem used) 256 0 0 (ap (is_in 0) only ∙ in_head 0 0 [] refl)).2

  one : length p.privates ≡ 1
  one = h.read.program.one_private h.keyed

  there : (i : ℕ) → i < length order → get_or order i 0 < length p.charstrings
  there i l = omega (arith, order_below b o.f ws h.read.font.glyphs.held.few i (omega (arith, glyphs_many b o.f ws)), items-length b o.f.charstrings)

  zero-fd : (g : ℕ) → g < length p.charstrings → get_or p.fds g 0 ≡ 0
  zero-fd g l = omega (arith, one, fd_there p g h.read.program l)

  pub plan_in : 256 ≤ length used → PlanIn b o used ws window
  plan_in long =
      record {
        read = h.read;
        used_long = long;
        fds = λ d l u. omega (arith, one, only-used d l u);
        ordered = h.ordered;
        within = λ i l. ap (in_use_lem used) (zero-fd (get_or order i 0) (there i l)) ∙ zero-used;
        room = h.room;
      }

  -- what planning leaves
  module _ (ws' : List ℕ) (r : Planned) (same : r.order.f ≡ o.f) (count : r.order.count ≡ o.count) (stays : glyphs_of b o.f ws' ≡ order) where
    -- the names are those of the same glyphs
    apart_stays : NamesApart b r.order.f ws'
    apart_stays =
        subst (λ (f : Font). NamesApart b f ws') (sym same)
        (record { apart = subst (λ (l : List ℕ). Different (word_names p.strings (packed p l))) (sym stays) h.apart.apart })

    pub prepared_plan : (rows : List Row) (table : List Ranks) (totals : List ℕ) → Ready b rows used ws' r table → Summed b rows used ws' r table totals
        → NamedPlan b rows used ws' r table totals
    prepared_plan rows table totals ready summed =
        record {
          keyed = ap (λ (f : Font). cid_keyed (program_of b f).top) same ∙ h.keyed;
          some = omega (arith, count, h.ordered.one);
          ready = ready;
          summed = summed;
          only = only;
          apart = apart_stays;
        }

    pub prepared_strings : (slots : List Slot) (own : Own) (m : ℕ) → NamedStrings p order slots own m
        → NamedStrings (program_of b r.order.f) (glyphs_of b r.order.f ws') slots own m
    prepared_strings slots own m s =
        subst (λ (f : Font). NamedStrings (program_of b f) (glyphs_of b f ws') slots own m) (sym same)
        (subst (λ (l : List ℕ). NamedStrings p l slots own m) (sym stays) s)

    pub prepared_cut : (rows : List Row) (traced : ℕ) → record { way = r.how.way; bodies = bodies_for b rows used ws' r } ≡ pruned p rows (fds_in used) order traced
        → (coded : Coded) (name out out' : List ℕ) (a : Result Subsetted Refusal)
        → Cut (named_outcome (program_of b r.order.f) coded name (glyphs_of b r.order.f ws') (length out) (record { way = r.how.way; bodies = bodies_for b rows used ws' r }))
        out out' a
        → Cut (named_outcome p coded name order (length out) (pruned p rows (0 ∷ []) order traced)) out out' a
    prepared_cut rows traced e coded name out out' a c =
        let q : Pruned = record { way = r.how.way; bodies = bodies_for b rows used ws' r } in
        subst (λ (fs : List ℕ). Cut (named_outcome p coded name order (length out) (pruned p rows fs order traced)) out out' a) only
        (subst (λ (x : Pruned). Cut (named_outcome p coded name order (length out) x) out out' a) e
        (subst (λ (l : List ℕ). Cut (named_outcome p coded name l (length out) q) out out' a) stays
        (subst (λ (f : Font). Cut (named_outcome (program_of b f) coded name (glyphs_of b f ws') (length out) q) out out' a) same c)))
