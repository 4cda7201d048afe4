-- What is prepared for the cut of the kept glyphs of a name-keyed font is there once its steps are done, while the window moves.
use Rattle.std.specs.Prelude.{ℕ, ◌≤◌, ◌≡◌, Bool, false, List, [], ◌∷◌, length, Option, Result, Ok, Err}
use Rattle.std.proofs.Common.{sym, subst}
use Rattle.record.specs.Record.{rows_of}
use Rattle.cff.specs.Reads.{program_of}
use Rattle.cff.specs.declared.font.Font.{Font}
use Rattle.subset.specs.Codes.{Coded, coded_if}
use Rattle.subset.specs.Cut.{Outcome}
use Rattle.subset.specs.Pruned.{pruned}
use Rattle.subset.specs.Subset.{own_by_name}
use Rattle.order_window.specs.declared.Order.{Order}
use Rattle.order_window.specs.declared.window.Kept.{Kept}
use Rattle.order_window.specs.Window.{glyphs_of, Gathered}
use Rattle.order_window.specs.Stays.{kept_glyphs, Stays, stays-of}
use Rattle.own_strings.specs.declared.Own.{Own}
use Rattle.own_strings.specs.declared.slots.Slot.{Slot}
use Rattle.front.specs.Front.{SlotsReady, Measured}
use Rattle.fds.specs.Locals.{fds_in}
use Rattle.encoding.specs.Encoded.{pairs_of, coded_in, Encodes, CanRename}
use Rattle.encoding.specs.declared.Encoding.{Encoding}
use Rattle.parts.specs.Ready.{PlanIn, bodies_for, Ready, Summed}
use Rattle.parts.specs.declared.Planned.{Planned}
use Rattle.named_parts.specs.Named.{named_outcome, NamedStrings, NamedCut}
use Rattle.outcome.specs.Entry.{Cut}
use Rattle.outcome.specs.declared.tables.Tables.{Tables}
use Rattle.refusal.specs.declared.Refusal.{Refusal}
use Rattle.by_name.specs.NamedKeptLaws.{cut_ordered, cut_moved, strings_there, codes_there, named-cut}
use Rattle.by_name.specs.NamedPlanLaws.{plan_in, prepared_plan, prepared_strings, prepared_cut}
use Rattle.by_name.specs.declared.CodedCut.{CodedCut}
use Rattle.by_name.specs.Prepares.{IsPrepared, Prepares}

-- ---- where the window moved

module _ (k l : Kept) (s : Stays k l) where
  pub rename-stays : (slots : List Slot) → CanRename k.font.now k.o.f k.words.now slots → CanRename l.font.now l.o.f l.words.now slots
  rename-stays slots h =
      subst (λ (ws : List ℕ). CanRename l.font.now l.o.f ws slots) (sym s.words)
      (subst (λ (f : Font). CanRename l.font.now f k.words.now slots) (sym s.f) (subst (λ (b : List ℕ). CanRename b k.o.f k.words.now slots) (sym s.font) h))

  pub codes-stay : (ask : Bool) (codes : List (Option ℕ)) (e : Encoding)
      → Encodes (coded_if ask (program_of l.font.now l.o.f) (kept_glyphs l) (own_by_name (program_of l.font.now l.o.f) (kept_glyphs l))) codes e
      → Encodes (coded_if ask (program_of k.font.now k.o.f) (kept_glyphs k) (own_by_name (program_of k.font.now k.o.f) (kept_glyphs k))) codes e
  codes-stay ask codes e h =
      subst (λ (c : Coded). Encodes c codes e)
      (stays-of (λ b f ws. coded_if ask (program_of b f) (glyphs_of b f ws) (own_by_name (program_of b f) (glyphs_of b f ws))) k l s) h

-- ---- the steps

module _ (ask : Bool) (b rec : List ℕ) (flag : ℕ) (o : Order) (ws window : List ℕ) (h : NamedCut b o ws window) (u : Order) (window₂ : List ℕ) (same : u.f ≡ o.f)
    (ordered : Gathered b ws window₂ u) where
  -- what the plan asks
  pub plan-asked : (used : List ℕ) → fds_in used ≡ 0 ∷ [] → 256 ≤ length used → PlanIn b u used ws window₂
  plan-asked used only = plan_in b u ws window₂ (cut_moved b o u ws window window₂ same h ordered) used only

  -- by the font that is walked then
  abbrev outcome_of : Font → Encoding → List (Option ℕ) → List ℕ → ℕ → Outcome
  outcome_of f e codes name room =
      named_outcome (program_of b f) (coded_in e codes) name (glyphs_of b f ws) room (pruned (program_of b f) (rows_of rec) (0 ∷ []) (glyphs_of b f ws) flag)

  module _ (own : Own) (slots : List Slot) (measured : Measured (own_by_name (program_of b o.f) (glyphs_of b o.f ws)) own) (ready : SlotsReady (program_of b o.f) false slots)
      (few : own.count ≤ 64609) (codes : List (Option ℕ)) (e : Encoding)
      (made : Encodes (coded_if ask (program_of b o.f) (glyphs_of b o.f ws) (own_by_name (program_of b o.f) (glyphs_of b o.f ws))) codes e)
      (fit : pairs_of e ≤ 255) (t : Tables) (only : fds_in t.used ≡ 0 ∷ []) (new : List ℕ) (r : Planned) (planned : r.order.f ≡ u.f)
      (count : r.order.count ≡ u.count) (stays : glyphs_of b u.f new ≡ glyphs_of b u.f ws) where
    moved : NamedCut b u ws window₂
    moved = cut_moved b o u ws window window₂ same h ordered

    -- all is prepared
    pub all_prepared : (last : List ℕ) → Ready b (rows_of rec) t.used new r t.table → Summed b (rows_of rec) t.used new r t.table t.totals → Gathered b new last r.order
        → record { way = r.how.way; bodies = bodies_for b (rows_of rec) t.used new r } ≡ pruned (program_of b u.f) (rows_of rec) (fds_in t.used) (glyphs_of b u.f ws) flag
        → IsPrepared ask b rec flag o ws slots codes new last t (record { cut = record { plan = r; own = own; count = 1 }; encoding = e })
    all_prepared last bodies summed left is =
        record {
          plan = prepared_plan b u ws window₂ moved t.used only new r planned count stays (rows_of rec) t.table t.totals bodies summed;
          strings = λ m short. prepared_strings b u ws window₂ moved t.used only new r planned count stays slots own m
              (subst (λ (f : Font). NamedStrings (program_of b f) (glyphs_of b f ws) slots own m) (sym same)
              (strings_there ask b rec flag o ws window h own slots measured ready few codes e made fit m short));
          codes = codes_there ask b rec flag o ws window h own slots measured ready few codes e made fit;
          gathered = left;
          cuts = λ name out out' a x. named-cut ask b rec flag o ws window h own slots measured ready few codes e made fit name out out' a
              (subst (λ (f : Font). Cut (outcome_of f e codes name (length out)) out out' a) same
              (prepared_cut b u ws window₂ moved t.used only new r planned count stays (rows_of rec) flag is (coded_in e codes) name out out' a x));
        }

-- ---- prepared, or refused

module _ (ask : Bool) (b rec : List ℕ) (flag : ℕ) (o : Order) (ws : List ℕ) (slots : List Slot) (codes : List (Option ℕ)) (new last : List ℕ) (t : Tables) (r : Result CodedCut Refusal)
    (h : Prepares ask b rec flag o ws slots codes new last t r) where
  pub prepared_ok : (c : CodedCut) → r ≡ Ok c → IsPrepared ask b rec flag o ws slots codes new last t c
  prepared_ok c e = subst (Prepares ask b rec flag o ws slots codes new last t) e h

  pub prepared-err : (e : Refusal) → r ≡ Err e → (name out : List ℕ) → Cut (cut_ordered ask b rec name flag o ws (length out)) out out (Err e)
  prepared-err e i = subst (Prepares ask b rec flag o ws slots codes new last t) i h
