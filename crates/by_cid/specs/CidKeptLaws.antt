-- The kept glyphs of a CID-keyed subset and their FDs, from the order to the plan (document 01, 'Layout'): what each step asks, and what is ready
-- when the plan is made.
use Rattle.std.specs.Prelude.{ℕ, suc, ◌≤◌, ◌<◌, ◌≡◌, refl, Bool, true, false, not, eqb, length, get_or, Result}
use Rattle.std.proofs.Math.Path.{sym, ap, subst, fun_ext}
use Rattle.std.proofs.Common.{◌∙◌, arith}
use mathlib.Core.List.{List, [], ◌∷◌}
use Rattle.octets.specs.Pick.{pick}
use Rattle.octets.specs.Octets.{put}
use Rattle.octets.specs.PutLaws.{put-length}
use Rattle.index.specs.IndexLaws.{items-length}
use Rattle.record.specs.Record.{rows_of}
use Rattle.unfold.specs.Unfold.{Row}
use Rattle.dict.specs.Lookup.{cid_keyed}
use Rattle.cff.specs.Font.{Program}
use Rattle.cff.specs.Reads.{program_of}
use Rattle.cff.specs.declared.font.Font.{Font}
use Rattle.subset.specs.Kept.{is_in, those, kept_of, written_order, fds_of, used_fds}
use Rattle.subset.specs.KeptListLaws.{those-has}
use Rattle.bits.specs.Bits.{count_below}
use Rattle.subset.specs.Pruned.{pruned}
use Rattle.subset.specs.Subset.{own_by_cid, new_fds, subset_by_cid}
use Rattle.subset.specs.Codes.{none}
use Rattle.subset.specs.Cut.{Outcome, written}
use Rattle.faithful.specs.KeptLaws.{order_same}
use Rattle.faithful.specs.UsedLaws.{used_there}
use Rattle.small.specs.Small.{small_size}
use Rattle.order.specs.Order.{kept_in}
use Rattle.order.specs.Walks.{many_in}
use Rattle.order_window.specs.declared.Order.{Order}
use Rattle.order_window.specs.Window.{glyphs_of, Gathered}
use Rattle.order_window.specs.OrderLaws.{order_below}
use Rattle.order_window.specs.GatheredLaws.{glyphs_many}
use Rattle.reach.specs.Reach.{ranks_of}
use Rattle.reach.specs.CountLaws.{length-ranks}
use Rattle.glyph_tables.specs.Tables.{new_fds_by, Numbered}
use Rattle.glyph_tables.specs.UsedTableLaws.{table-used, table-count, table-numbered, table-new_fds}
use Rattle.fds.specs.Locals.{in_use_lem, fds_in, UsedOf}
use Rattle.fds.specs.UsedLaws.{is_used}
use Rattle.plan.specs.Sizes.{FdsUsed}
use Rattle.plan.specs.FontLaws.{fds_at}
use Rattle.faithful.specs.FontHeld.{FontHeld}
use Rattle.renumber.specs.declared.Ranks.{Ranks}
use Rattle.parts.specs.Ready.{PlanIn, bodies_for, Ready}
use Rattle.parts.specs.declared.Planned.{Planned}
use Rattle.outcome.specs.Entry.{cut_behind, Cut}
use Rattle.cid_parts.specs.Cid.{sized, CidReady, cid_bytes}
use Rattle.cid_parts.specs.CidPlacesLaws.{cut-sized}
use Rattle.outcome.specs.declared.Subsetted.{Subsetted}
use Rattle.refusal.specs.declared.Refusal.{Refusal}

-- an FD for each glyph
fds_length : (p : Program) (gs : List ℕ) → length (fds_of p gs) ≡ length gs
unfolding fds_of
fds_length p [] = refl
fds_length p (g ∷ gs) = ap suc (fds_length p gs)

module _ (b : List ℕ) (o : Order) (held : FontHeld b o.f) (ws : List ℕ) where
  abbrev p : Program
  p = program_of b o.f

  abbrev kept : List ℕ
  kept = kept_in (many_in o.f) ws

  abbrev order : List ℕ
  order = glyphs_of b o.f ws

  -- each is a glyph of the font
  below : (i : ℕ) → i < length order → get_or order i 0 < length p.charstrings
  below i h = omega (arith, order_below b o.f ws held.font.glyphs.held.few i (omega (arith, glyphs_many b o.f ws)), items-length b o.f.charstrings)

  -- ---- the FDs in use

  module _ (table used : List ℕ) (long : 256 ≤ length table) (ranks : used ≡ put table 0 (ranks_of (λ d. is_in d (fds_of p order)) 0 256)) where
    use-mark : (t : Bool) → not t ≡ pick t false true
    use-mark true = refl
    use-mark false = refl

    -- they are the subset's
    pub fds_used : fds_in used ≡ used_fds p kept
    fds_used =
        ap (λ (t : ℕ → Bool). those t 256 0) (fun_ext (λ d. use-mark (eqb (get_or used d 0) 0)))
        ∙ sym (table-used p kept order held.program (order_same p kept) below table used long ranks)

    pub fds_counted : (count : ℕ) → count ≡ count_below (λ d. is_in d (fds_of p order)) 256 → count ≡ length (fds_in used)
    fds_counted count e = e ∙ table-count p kept order held.program (order_same p kept) below table used long ranks ∙ ap length (sym fds_used)

    there_used : UsedOf (length p.privates) used
    there_used d h u = used_there p kept d (ap (is_in d) (sym fds_used) ∙ those-has (in_use_lem used) 256 0 d (omega arith) (omega arith) u)

    use-of : FdsUsed p used order
    use-of i h =
        let l : i < length (fds_of p order) = omega (arith, fds_length p order) in
        ap (in_use_lem used) (sym (fds_at p order i h))
        ∙ is_used used (get_or (fds_of p order) i 0) (λ z. omega (arith, (table-numbered p kept order held.program (order_same p kept) below table used long ranks i l).in_use_lem))

    -- what the plan asks
    pub plan_asked : (u : Order) → u.f ≡ o.f → (window : List ℕ) → Gathered b ws window u → small_size p ≤ length ws → PlanIn b u used ws window
    plan_asked u same window ordered room =
        let m = length-ranks (λ d. is_in d (fds_of p order)) 0 256 in
        record {
          read = subst (FontHeld b) (sym same) held;
          used_long = omega (arith, long, m, ap length ranks, put-length table 0 (ranks_of (λ d. is_in d (fds_of p order)) 0 256) (omega (arith, m, long)));
          fds = subst (λ (f : Font). UsedOf (length (program_of b f).privates) used) (sym same) there_used;
          ordered = ordered;
          within = subst (λ (f : Font). FdsUsed (program_of b f) used (glyphs_of b f ws)) (sym same) use-of;
          room = subst (λ (f : Font). small_size (program_of b f) ≤ length ws) (sym same) room;
        }

    -- ---- behind the plan

    module _ (rows : List Row) (new : List ℕ) (r : Planned) (same : r.order.f ≡ o.f) (count : r.order.count ≡ o.count) (stays : glyphs_of b o.f new ≡ order) where
      -- the FDs of the glyphs stay
      fds_stay : fds_of (program_of b r.order.f) (glyphs_of b r.order.f new) ≡ fds_of p order
      fds_stay = ap (λ (f : Font). fds_of (program_of b f) (glyphs_of b f new)) same ∙ ap (fds_of p) stays

      pub cid_ready : (tables : List Ranks) → Ready b rows used new r tables → 0 < o.count → o.f.cid ≡ true → CidReady b rows used new r tables
      cid_ready tables ready one keyed =
          record {
            ready = ready;
            keyed = ap (λ (f : Font). f.cid) same ∙ keyed;
            some = omega (arith, count, one);
            numbered = subst (Numbered used) (sym fds_stay) (table-numbered p kept order held.program (order_same p kept) below table used long ranks);
            news = ap (new_fds_by used) fds_stay ∙ table-new_fds p kept order held.program (order_same p kept) below table used long ranks
                ∙ ap (λ (l : List ℕ). new_fds p l order) (sym fds_used)
                ∙ sym (ap (λ (f : Font). new_fds (program_of b f) (fds_in used) (glyphs_of b f new)) same ∙ ap (new_fds p (fds_in used)) stays);
          }

      -- the outcome of the cut is that of the subset from its plan
      pub cut-planned : (name : List ℕ) (room flag : ℕ) → cid_keyed p.top ≡ true → length (own_by_cid p) ≤ 64609
          → record { way = r.how.way; bodies = bodies_for b rows used new r } ≡ pruned p rows (fds_in used) order flag
          → {out out' : List ℕ} {a : Result Subsetted Refusal} → Cut (sized r.how.way (cid_bytes b rows used new r name) room) out out' a
          → Cut (written p none name kept order room (pruned p rows (used_fds p kept) order flag)) out out' a
      unfolding cid_bytes
      cut-planned name room flag keyed few plans {out} {out'} {a} x =
          let bodies = bodies_for b rows used new r in
          let q : pruned p rows (used_fds p kept) order flag ≡ record { way = r.how.way; bodies = bodies }
          = ap (λ (l : List ℕ). pruned p rows l order flag) (sym fds_used) ∙ sym plans in
          let e : written p none name kept order room (pruned p rows (used_fds p kept) order flag)
          ≡ sized r.how.way (subset_by_cid (program_of b r.order.f) name (fds_in used) (glyphs_of b r.order.f new) bodies) room
          = ap (written p none name kept order room) q ∙ cut-sized p name kept order room (record { way = r.how.way; bodies = bodies }) (sym keyed) few
          ∙ ap (λ (l : List ℕ). sized r.how.way (subset_by_cid p name l order bodies) room) (sym fds_used)
          ∙ ap (λ (l : List ℕ). sized r.how.way (subset_by_cid p name (fds_in used) l bodies) room) (sym stays)
          ∙ ap (λ (f : Font). sized r.how.way (subset_by_cid (program_of b f) name (fds_in used) (glyphs_of b f new) bodies) room) (sym same) in
          subst (λ (z : Outcome). Cut z out out' a) (sym e) x

-- what the cut of the kept glyphs of a CID-keyed font asks
pub record CidOrdered (b : List ℕ) (o : Order) (ws window : List ℕ) : Type 0 where
  pub read : FontHeld b o.f
  pub keyed : cid_keyed (program_of b o.f).top ≡ true
  pub ordered : Gathered b ws window o
  pub room : small_size (program_of b o.f) ≤ length ws

-- ---- the cut of the glyphs that were gathered is the cut

module _ (b rec name : List ℕ) (flag : ℕ) where
  -- by the kept glyphs of an order
  abbrev pub cut_ordered : Order → List ℕ → ℕ → Outcome
  cut_ordered o ws room =
      written (program_of b o.f) none name (kept_in (many_in o.f) ws) (glyphs_of b o.f ws) room
      (pruned (program_of b o.f) (rows_of rec) (used_fds (program_of b o.f) (kept_in (many_in o.f) ws)) (glyphs_of b o.f ws) flag)

  pub gathered-cut : (f : Font) (keep : List ℕ) (o : Order) (ws : List ℕ) → o.f ≡ f → kept_in (many_in f) ws ≡ kept_of (many_in f) keep → (room : ℕ)
      → cut_ordered o ws room ≡ cut_behind false (program_of b f) name keep rec flag room
  gathered-cut f keep o ws same is room =
      ap (λ (g : Font). written (program_of b g) none name (kept_in (many_in g) ws) (glyphs_of b g ws) room
      (pruned (program_of b g) (rows_of rec) (used_fds (program_of b g) (kept_in (many_in g) ws)) (glyphs_of b g ws) flag)) same
      ∙ ap (λ (l : List ℕ). written (program_of b f) none name l (written_order (program_of b f) l) room
      (pruned (program_of b f) (rows_of rec) (used_fds (program_of b f) l) (written_order (program_of b f) l) flag))
      (is ∙ ap (λ (m : ℕ). kept_of m keep) (sym (items-length b f.charstrings)))

  -- what it asks is there
  pub gathered-asked : (f : Font) → FontHeld b f → true ≡ cid_keyed (program_of b f).top → (o : Order) → o.f ≡ f → (old ws window : List ℕ) → small_size (program_of b f) ≤ length old
      → length ws ≡ length old → Gathered b ws window o → CidOrdered b o ws window
  gathered-asked f held keyed o same old ws window room size ordered =
      record {
        read = subst (FontHeld b) (sym same) held;
        keyed = ap (λ (g : Font). cid_keyed (program_of b g).top) same ∙ sym keyed;
        ordered = ordered;
        room = subst (λ (g : Font). small_size (program_of b g) ≤ length ws) (sym same) (omega (arith, room, size));
      }
