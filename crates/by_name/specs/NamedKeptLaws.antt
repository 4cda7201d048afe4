-- Laws of the kept glyphs of a name-keyed cut: what each step asks of them, and that the cut of the glyphs that were gathered is the cut.
use Rattle.std.specs.Prelude.{ℕ, ◌≤◌, ◌<◌, ◌≡◌, Bool, false, List, [], ◌∷◌, length, get_or, Option, Result, Err}
use Rattle.std.proofs.Common.{sym, ap, ◌∙◌, subst, arith}
use Rattle.octets.specs.Pick.{pick}
use Rattle.dict.specs.Lookup.{cid_keyed}
use Rattle.cff.specs.Font.{Program}
use Rattle.cff.specs.Reads.{program_of}
use Rattle.cff.specs.declared.font.Font.{Font}
use Rattle.index.specs.IndexLaws.{items-length}
use Rattle.subset.specs.Kept.{kept_of, sorted_by, written_order, used_fds, keeps}
use Rattle.subset.specs.Pruned.{pruned}
use Rattle.subset.specs.Codes.{Coded, pairs, coded_if}
use Rattle.subset.specs.Subset.{own_by_name}
use Rattle.subset.specs.Cut.{Outcome, own_of, all_found_lem, written}
use Rattle.faithful.specs.UsedLaws.{used-one}
use Rattle.faithful.specs.KeptLaws.{kept-some}
use Rattle.kept.specs.OrderLaws.{those-at}
use Rattle.order.specs.Order.{kept_in}
use Rattle.order.specs.Walks.{many_in}
use Rattle.order_window.specs.declared.Order.{Order}
use Rattle.order_window.specs.Window.{glyphs_of, Gathered}
use Rattle.record.specs.Record.{rows_of}
use Rattle.small.specs.Small.{small_size}
use Rattle.front.specs.Front.{SlotsReady, Measured}
use Rattle.front.specs.ApartLaws.{names_apart}
use Rattle.own_strings.specs.declared.Own.{Own}
use Rattle.own_strings.specs.declared.slots.Slot.{Slot}
use Rattle.name_strings.specs.Names.{NamesApart}
use Rattle.faithful.specs.FontHeld.{FontHeld}
use Rattle.outcome.specs.OutcomeLaws.{cut-strings, cut-pairs}
use Rattle.outcome.specs.Entry.{cut_behind, Cut, Passed}
use Rattle.named_parts.specs.Named.{named_outcome, NamedStrings, NamedCodes, NamedCut}
use Rattle.named_parts.specs.NamedPutLaws.{can_rename}
use Rattle.encoding.specs.Encoded.{pairs_of, coded_in, Encodes, CanRename}
use Rattle.encoding.specs.EncodedLaws.{encodes_self}
use Rattle.encoding.specs.declared.Encoding.{Encoding}
use Rattle.by_name.specs.NamedLaws.{named-strings}
use Rattle.outcome.specs.declared.Subsetted.{Subsetted}
use Rattle.refusal.specs.declared.Refusal.{Refusal}
use Rattle.refusal.specs.declared.Refusal.TheVariants.{StringId, Pairs}

-- ---- the cut of the kept glyphs

-- the outcome by an order
abbrev pub cut_ordered : Bool → List ℕ → List ℕ → List ℕ → ℕ → Order → List ℕ → ℕ → Outcome
cut_ordered ask b rec name flag o ws room =
    let p = program_of b o.f in
    let order = glyphs_of b o.f ws in
    named_outcome p (coded_if ask p order (own_by_name p order)) name order room (pruned p (rows_of rec) (0 ∷ []) order flag)

-- the glyphs are kept still where the window moves
pub cut_moved : (b : List ℕ) (o u : Order) (ws window window₂ : List ℕ) → u.f ≡ o.f → NamedCut b o ws window → Gathered b ws window₂ u → NamedCut b u ws window₂
cut_moved b o u ws window window₂ same h ordered =
    record {
      read = subst (FontHeld b) (sym same) h.read;
      keyed = ap (λ (f : Font). cid_keyed (program_of b f).top) same ∙ h.keyed;
      ordered = ordered;
      apart = subst (λ (f : Font). NamesApart b f ws) (sym same) h.apart;
      room = subst (λ (f : Font). small_size (program_of b f) ≤ length ws) (sym same) h.room;
    }

module _ (ask : Bool) (b rec : List ℕ) (flag : ℕ) (o : Order) (ws window : List ℕ) (h : NamedCut b o ws window) where
  abbrev p : Program
  p = program_of b o.f

  abbrev order : List ℕ
  order = glyphs_of b o.f ws

  abbrev coded : Coded
  coded = coded_if ask p order (own_by_name p order)

  module _ (own : Own) (slots : List Slot) (measured : Measured (own_by_name p order) own) (ready : SlotsReady p false slots) where
    counted : own.count ≡ length (own_of p order)
    counted = ap (λ (x : Own). x.count) measured.is ∙ sym (ap length (named-strings p h.keyed order))

    -- too many own strings
    pub named_refused : 64609 < own.count → (name out : List ℕ) → Cut (cut_ordered ask b rec name flag o ws (length out)) out out (Err StringId)
    named_refused l name out =
        cut-strings p coded name order order (length out) (pruned p (rows_of rec) (0 ∷ []) order flag) out (subst (λ (m : ℕ). 64609 < m) counted l)

    -- what encoding asks
    pub names-rename : CanRename b o.f ws slots
    names-rename = can_rename b o.f ws slots (record { good = h.read.font; small = h.read.size }) ready h.apart

    module _ (few : own.count ≤ 64609) (codes : List (Option ℕ)) (e : Encoding) (made : Encodes coded codes e) where
      -- too many pairs
      pub pairs_refused : 255 < pairs_of e → (name out : List ℕ) → Cut (cut_ordered ask b rec name flag o ws (length out)) out out (Err Pairs)
      pairs_refused l name out =
          cut-pairs p coded name order order (length out) (pruned p (rows_of rec) (0 ∷ []) order flag) out (omega (arith, few, counted))
          (omega (arith, l, made.many))

      module _ (fit : pairs_of e ≤ 255) where
        pub strings_there : (m : ℕ) → m ≤ 65535 → NamedStrings p order slots own m
        strings_there m short =
            record {
              ready = ready;
              measured = measured;
              few = few;
              short = short;
            }

        pub codes_there : NamedCodes e codes
        codes_there = record { is = encodes_self _ codes e made; few = fit }

        pub named-cut : (name out out' : List ℕ) (a : Result Subsetted Refusal)
            → Cut (named_outcome p (coded_in e codes) name order (length out) (pruned p (rows_of rec) (0 ∷ []) order flag)) out out' a
            → Cut (cut_ordered ask b rec name flag o ws (length out)) out out' a
        named-cut name out out' a c =
            subst (λ (x : Coded). Cut (named_outcome p x name order (length out) (pruned p (rows_of rec) (0 ∷ []) order flag)) out out' a) made.is c

-- ---- the cut of the glyphs that were gathered is the cut

module _ (ask : Bool) (b rec name : List ℕ) (flag : ℕ) (f : Font) (read : FontHeld b f) (keep old : List ℕ)
    (passed : Passed false ask (program_of b f) (length name) keep rec flag (length old)) where
  abbrev program : Program
  program = program_of b f

  abbrev kept : List ℕ
  kept = kept_of (length program.charstrings) keep

  many : length program.charstrings ≡ many_in f
  many = items-length b f.charstrings

  keyed : cid_keyed program.top ≡ false
  keyed = sym passed.keying

  as_kept : written_order program kept ≡ kept
  as_kept = ap (λ (t : Bool). pick t (sorted_by (λ g. get_or program.ids g 0) kept) kept) keyed

  below : (i : ℕ) → i < length kept → get_or kept i 0 < length program.charstrings
  below i l = omega (arith, (those-at (keeps keep) (length program.charstrings) 0 i l).1)

  one-used : used_fds program kept ≡ 0 ∷ []
  one-used = used-one program kept read.program keyed (kept-some (length program.charstrings) keep read.program.some).0 below

  module _ (o : Order) (ws window : List ℕ) (ordered : Gathered b ws window o) (same : o.f ≡ f) (is : kept_in (many_in f) ws ≡ kept_of (many_in f) keep) where
    -- what it asks is there
    pub gathered-asked : length ws ≡ length old → NamedCut b o ws window
    gathered-asked size =
        record {
          read = subst (FontHeld b) (sym same) read;
          keyed = ap (λ (g : Font). cid_keyed (program_of b g).top) same ∙ keyed;
          ordered = ordered;
          apart =
              subst (λ (g : Font). NamesApart b g ws) (sym same)
              (names_apart b f ws read.font keyed
              (ap (all_found_lem program) is ∙ ap (λ (m : ℕ). all_found_lem program (kept_of m keep)) (sym many) ∙ passed.found));
          room = subst (λ (g : Font). small_size (program_of b g) ≤ length ws) (sym same) (omega (arith, passed.room, size));
        }

    gathered-kept : glyphs_of b f ws ≡ kept
    gathered-kept = ap (written_order program) (is ∙ ap (λ (m : ℕ). kept_of m keep) (sym many)) ∙ as_kept

    pub gathered_is : (room : ℕ) → cut_ordered ask b rec name flag o ws room ≡ cut_behind ask program name keep rec flag room
    gathered_is room =
        ap (λ (g : Font). named_outcome (program_of b g) (coded_if ask (program_of b g) (glyphs_of b g ws) (own_by_name (program_of b g) (glyphs_of b g ws))) name (glyphs_of b g ws) room
        (pruned (program_of b g) (rows_of rec) (0 ∷ []) (glyphs_of b g ws) flag)) same
        ∙ ap (λ (l : List ℕ). named_outcome program (coded_if ask program l (own_by_name program l)) name l room (pruned program (rows_of rec) (0 ∷ []) l flag)) gathered-kept
        ∙ ap (λ (c : List (List ℕ)). written program (coded_if ask program kept c) name kept kept room (pruned program (rows_of rec) (0 ∷ []) kept flag))
        (sym (named-strings program keyed kept))
        ∙ ap (λ (fs : List ℕ). written program (coded_if ask program kept (own_of program kept)) name kept kept room (pruned program (rows_of rec) fs kept flag)) (sym one-used)
        ∙ ap (λ (l : List ℕ). written program (coded_if ask program kept (own_of program l)) name kept l room (pruned program (rows_of rec) (used_fds program kept) l flag)) (sym as_kept)

    pub gathered-cut : (out out' : List ℕ) (a : Result Subsetted Refusal) → Cut (cut_ordered ask b rec name flag o ws (length out)) out out' a
        → Cut (cut_behind ask program name keep rec flag (length out)) out out' a
    gathered-cut out out' a c = subst (λ (x : Outcome). Cut x out out' a) (gathered_is (length out)) c
