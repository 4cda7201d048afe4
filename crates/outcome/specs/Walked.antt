-- The order that is walked is that of the plan, whatever part of it the window holds.
use Rattle.std.specs.Prelude.{ℕ, ◌<◌, ◌≡◌, List, get_or, Option}
use Rattle.std.proofs.Common.{sym, ap, ◌∙◌, subst}
use Rattle.unfold.specs.Unfold.{Row}
use Rattle.cff.specs.Reads.{program_of}
use Rattle.cff.specs.declared.font.Font.{Font}
use Rattle.index.specs.Index.{items_of}
use Rattle.order_window.specs.declared.Order.{Order}
use Rattle.order_window.specs.declared.window.Kept.{Kept}
use Rattle.order_window.specs.Stays.{Stays}
use Rattle.order_window.specs.Window.{glyphs_of, Gathered}
use Rattle.renumber.specs.Ranks.{Ranked}
use Rattle.renumber.specs.declared.Ranks.{Ranks}
use Rattle.bodies.specs.Ways.{ranks_in, Room}
use Rattle.bodies.specs.declared.Manner.{Manner}
use Rattle.glyph_bodies.specs.Charstrings.{CharstringsIn, charstrings_of, charstrings_from}
use Rattle.parts.specs.declared.Planned.{Planned}

-- the same font, and as many glyphs
pub record Walked (o planned : Order) : Type 0 where
  pub f : o.f ≡ planned.f
  pub count : o.count ≡ planned.count

-- what the charstrings ask, and what they are, of a font and so many glyphs
module _ (b : List ℕ) (rows : List Row) (ws : List ℕ) (table : List Ranks) (o : Order) (r : Planned) (walked : Walked o r.order) where
  abbrev with_font : Font → Option (List (List ℕ))
  with_font f = charstrings_of r.how.way rows (program_of b f).fds ws table r.how.globals (items_of b f.charstrings) (glyphs_of b f ws)

  pub same-charstrings : charstrings_from r.how o rows ws table b ≡ charstrings_from r.how r.order rows ws table b
  same-charstrings = ap with_font walked.f

  abbrev fd_of_glyph : Font → ℕ → ℕ
  fd_of_glyph f i = get_or (program_of b f).fds (get_or (glyphs_of b f ws) i 0) 0

  abbrev FdsBelow : Font → ℕ → Type 0
  FdsBelow f k = (i : ℕ) → i < k → fd_of_glyph f i < 256

  abbrev FdsRanked : Font → ℕ → Type 0
  FdsRanked f k = (i : ℕ) → i < k → Ranked ws (ranks_in table (fd_of_glyph f i))

  same-charstrings-in : CharstringsIn b ws table r.order r.how rows → CharstringsIn b ws table o r.how rows
  same-charstrings-in h =
      record {
        size = h.size;
        table_long = h.table_long;
        fds = subst (λ (k : ℕ). FdsBelow o.f k) (sym walked.count) (subst (λ (f : Font). FdsBelow f r.order.count) (sym walked.f) h.fds);
        local_ranks = subst (λ (k : ℕ). FdsRanked o.f k) (sym walked.count) (subst (λ (f : Font). FdsRanked f r.order.count) (sym walked.f) h.local_ranks);
        global_ranks = h.global_ranks;
        order = h.order;
      }

  pub charstrings-walked : (at room : ℕ) → CharstringsIn b ws table r.order r.how rows × Room (charstrings_from r.how r.order rows ws table b) r.glyphs_total at room
      → CharstringsIn b ws table o r.how rows × Room (charstrings_from r.how o rows ws table b) r.glyphs_total at room
  charstrings-walked at room h =
      (same-charstrings-in h.0, subst (λ (l : Option (List (List ℕ))). Room l r.glyphs_total at room) (sym same-charstrings) h.1)

-- the same after the window moved
pub walked-stays : (k l : Kept) → Stays k l → (planned : Order) → Walked k.o planned → Walked l.o planned
walked-stays k l s planned w = record { f = s.f ∙ w.f; count = s.count ∙ w.count }

module _ (k l : Kept) (s : Stays k l) (how : Manner) (rows : List Row) (table : List Ranks) where
  pub charstrings-stay : (total at room : ℕ)
      → CharstringsIn k.font.now k.words.now table l.o how rows × Room (charstrings_from how l.o rows k.words.now table k.font.now) total at room
      → CharstringsIn l.font.now l.words.now table l.o how rows × Room (charstrings_from how l.o rows l.words.now table l.font.now) total at room
  charstrings-stay total at room h =
      subst (λ (b : List ℕ). CharstringsIn b l.words.now table l.o how rows × Room (charstrings_from how l.o rows l.words.now table b) total at room) (sym s.font)
      (subst (λ (ws : List ℕ). CharstringsIn k.font.now ws table l.o how rows × Room (charstrings_from how l.o rows ws table k.font.now) total at room) (sym s.words) h)

  pub charstrings-stayed : charstrings_from how l.o rows l.words.now table l.font.now ≡ charstrings_from how l.o rows k.words.now table k.font.now
  charstrings-stayed = λ i. charstrings_from how l.o rows (s.words i) table (s.font i)

-- what the window holds now, of the font and the words as they were
pub gathered-stays : (k l : Kept) → Stays k l → Gathered k.font.now k.words.now l.window.now l.o
gathered-stays k l s =
    subst (λ (ws : List ℕ). Gathered k.font.now ws l.window.now l.o) s.words (subst (λ (b : List ℕ). Gathered b l.words.now l.window.now l.o) s.font l.gathered)
