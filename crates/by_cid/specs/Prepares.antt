-- What is prepared for the cut of the kept glyphs of a CID-keyed font.
use Rattle.std.specs.Prelude.{ℕ, ◌≤◌, ◌≡◌, true, List, length, Result}
use Rattle.std.proofs.Common.{sym, ap, ◌∙◌, subst}
use Rattle.record.specs.Record.{rows_of}
use Rattle.bits.specs.Bits.{count_below}
use Rattle.octets.specs.Octets.{put}
use Rattle.cff.specs.Reads.{program_of}
use Rattle.cff.specs.declared.font.Font.{Font}
use Rattle.subset.specs.Kept.{is_in}
use Rattle.subset.specs.Pruned.{pruned}
use Rattle.subset.specs.Subset.{own_by_cid}
use Rattle.reach.specs.Reach.{ranks_of}
use Rattle.order_window.specs.declared.Order.{Order}
use Rattle.order_window.specs.Window.{glyphs_of, Gathered}
use Rattle.own_strings.specs.declared.Own.{Own}
use Rattle.own_strings.specs.declared.slots.Slot.{Slot}
use Rattle.glyph_tables.specs.Tables.{kept_fds}
use Rattle.front.specs.Front.{SlotsReady, Measured}
use Rattle.fds.specs.Locals.{fds_in}
use Rattle.parts.specs.Ready.{bodies_for, Ready, Summed}
use Rattle.parts.specs.declared.Planned.{Planned}
use Rattle.outcome.specs.Entry.{Cut}
use Rattle.outcome.specs.declared.Prepared.{Prepared}
use Rattle.outcome.specs.declared.Subsetted.{Subsetted}
use Rattle.outcome.specs.declared.tables.Tables.{Tables}
use Rattle.refusal.specs.declared.Refusal.{Refusal}
use Rattle.cid_parts.specs.Cid.{sized, StringsReady, CidReady, cid_bytes}
use Rattle.cid_parts.specs.CidPlacesLaws.{strings_ready, own-few}
use Rattle.by_cid.specs.CidKeptLaws.{CidOrdered, cut_ordered, fds_counted, cid_ready, cut-planned}

-- the slots, the work words, the window and the tables are ready for a cut, and its outcome is that of the kept glyphs
pub record Prepares (b rec : List ℕ) (flag : ℕ) (o : Order) (ws : List ℕ) (slots : List Slot) (new window : List ℕ) (t : Tables) (c : Prepared) : Type 0 where
  pub cid : CidReady b (rows_of rec) t.used new c.plan t.table
  pub summed : Summed b (rows_of rec) t.used new c.plan t.table t.totals
  pub strings : StringsReady (program_of b c.plan.order.f) slots c.own
  pub counted : c.count ≡ length (fds_in t.used)
  pub gathered : Gathered b new window c.plan.order
  pub cuts : (name out out' : List ℕ) (room : ℕ) (a : Result Subsetted Refusal)
      → Cut (sized c.plan.how.way (cid_bytes b (rows_of rec) t.used new c.plan name) room) out out' a → Cut (cut_ordered b rec name flag o ws room) out out' a

module _ (b rec : List ℕ) (flag : ℕ) (o : Order) (ws window : List ℕ) (h : CidOrdered b o ws window) (slots : List Slot) (own : Own) (measured : Measured (own_by_cid (program_of b o.f)) own)
    (ready : SlotsReady (program_of b o.f) true slots) (table : List ℕ) (long : 256 ≤ length table) (t : Tables)
    (ranks : t.used ≡ put table 0 (ranks_of (λ d. is_in d (kept_fds b o.f ws)) 0 256)) (count : ℕ) (counted : count ≡ count_below (λ d. is_in d (kept_fds b o.f ws)) 256)
    (u : Order) (same : u.f ≡ o.f) (walked : u.count ≡ o.count) (new : List ℕ) (r : Planned) (planned : r.order.f ≡ u.f) (many : r.order.count ≡ u.count)
    (stays : glyphs_of b u.f new ≡ glyphs_of b u.f ws) where
  stayed : glyphs_of b o.f new ≡ glyphs_of b o.f ws
  stayed = subst (λ (f : Font). glyphs_of b f new ≡ glyphs_of b f ws) same stays

  strings : StringsReady (program_of b o.f) slots own
  strings = strings_ready b o.f h.read slots own measured ready

  -- all is prepared
  pub all_prepared : (last : List ℕ) → Ready b (rows_of rec) t.used new r t.table → Summed b (rows_of rec) t.used new r t.table t.totals → Gathered b new last r.order
      → record { way = r.how.way; bodies = bodies_for b (rows_of rec) t.used new r } ≡ pruned (program_of b u.f) (rows_of rec) (fds_in t.used) (glyphs_of b u.f ws) flag
      → Prepares b rec flag o ws slots new last t (record { plan = r; own = own; count = count })
  all_prepared last bodies summed left is =
      let e : record { way = r.how.way; bodies = bodies_for b (rows_of rec) t.used new r } ≡ pruned (program_of b o.f) (rows_of rec) (fds_in t.used) (glyphs_of b o.f ws) flag
      = is ∙ ap (λ (f : Font). pruned (program_of b f) (rows_of rec) (fds_in t.used) (glyphs_of b f ws) flag) same in
      record {
        cid = cid_ready b o h.read ws table t.used long ranks (rows_of rec) new r (planned ∙ same) (many ∙ walked) stayed t.table bodies h.ordered.one (h.read.font.cid ∙ h.keyed);
        summed = summed;
        strings = subst (λ (f : Font). StringsReady (program_of b f) slots own) (sym (planned ∙ same)) strings;
        counted = fds_counted b o h.read ws table t.used long ranks count counted;
        gathered = left;
        cuts = λ name out out' room a x. cut-planned b o h.read ws table t.used long ranks (rows_of rec) new r (planned ∙ same) (many ∙ walked) stayed name room flag h.keyed
            (own-few _ _ _ strings) e x;
      }
