-- The names of the kept glyphs in the terms of the subset: by the words of the order they are those of its glyphs, and the own strings and the new ids
-- that the slots and these names give are the subset's.
use Rattle.std.specs.Prelude.{ℕ, zero, suc, ◌+◌, ◌*◌, ◌/◌, ◌<◌, ◌≡◌, refl, false, List, [], ◌∷◌, length, get_or, Option}
use Rattle.std.proofs.Common.{sym, ap, ◌∙◌, arith}
use Rattle.strings.specs.Strings.{string_text}
use Rattle.cff.specs.Font.{Program}
use Rattle.cff.specs.Reads.{program_of}
use Rattle.cff.specs.declared.font.Font.{Font}
use Rattle.subset.specs.Texts.{texts_of, name_of, names_of, own_strings_lem, new_id}
use Rattle.subset.specs.Subset.{named, own_by_name, new_ids}
use Rattle.subset.specs.Pruned.{mapped}
use Rattle.kept.specs.Packed.{packed}
use Rattle.order.specs.Walks.{many_in, order_in}
use Rattle.order_window.specs.Window.{glyphs_of}
use Rattle.order_window.specs.OrderLaws.{order_below}
use Rattle.order_window.specs.GatheredLaws.{glyphs_many}
use Rattle.own_strings.specs.declared.slots.Slot.{Slot}
use Rattle.own_strings.specs.Slots.{sids_of, slots_of, slot_texts, word_names, all_own}
use Rattle.own_strings.specs.SlotTexts.{name-texts}
use Rattle.own_strings.specs.OwnLaws.{own-append}
use Rattle.name_strings.specs.Names.{new_names}

-- the names by words that hold glyphs and their ids
words-names : (p : Program) (gs : List ℕ) → ((i : ℕ) → i < length gs → get_or gs i 0 < 65536) → word_names p.strings (packed p gs) ≡ names_of p gs
unfolding word_names names_of mapped
words-names p [] small = refl
words-names p (g ∷ gs) small =
    let s : g < 65536 = small 0 (omega arith) in
    let e : (get_or p.ids g 0 * 65536 + g) / 65536 ≡ get_or p.ids g 0 = omega arith in
    ap (λ (x : ℕ). string_text p.strings x ∷ word_names p.strings (packed p gs)) e
    ∙ ap (λ (l : List (List ℕ)). name_of p g ∷ l) (words-names p gs (λ i h. small (suc i) (omega arith)))

pub new-ids-at : (own : List (List ℕ)) (p : Program) (gs : List ℕ) (i : ℕ) → i < length gs → get_or (new_ids own (names_of p gs)) i 0 ≡ new_id own (name_of p (get_or gs i 0))
unfolding new_ids names_of
new-ids-at own p [] i h = absurd (omega arith)
new-ids-at own p (g ∷ gs) zero h = refl
new-ids-at own p (g ∷ gs) (suc i) h = new-ids-at own p gs i (omega arith)

module _ (b : List ℕ) (f : Font) (ws : List ℕ) (few : many_in f < 65536) where
  abbrev p : Program
  p = program_of b f

  -- the names by the words of the order
  pub order-names : word_names p.strings (order_in b f ws) ≡ names_of p (glyphs_of b f ws)
  order-names = words-names p (glyphs_of b f ws) (λ i h. omega (arith, order_below b f ws few i (omega (arith, glyphs_many b f ws))))

  module _ (slots : List Slot) (front : sids_of slots ≡ slots_of false p.top) where
    -- the own strings of the slots and of these names
    pub order-own : all_own p.strings slots (order_in b f ws) ≡ own_by_name p (glyphs_of b f ws)
    order-own =
        ap (λ (l : List (Option ℕ)). own_strings_lem (own_strings_lem [] (slot_texts p.strings l)) (word_names p.strings (order_in b f ws))) front
        ∙ ap (λ (l : List (List ℕ)). own_strings_lem (own_strings_lem [] l) (word_names p.strings (order_in b f ws))) (name-texts p)
        ∙ ap (own_strings_lem (own_strings_lem [] (texts_of (named p)))) order-names
        ∙ sym (own-append [] (texts_of (named p)) (names_of p (glyphs_of b f ws)))

    -- and the new ids of the names
    pub order-ids : new_names b f ws slots ≡ new_ids (own_by_name p (glyphs_of b f ws)) (names_of p (glyphs_of b f ws))
    order-ids =
        ap (λ (l : List (List ℕ)). new_ids l (word_names p.strings (order_in b f ws))) order-own
        ∙ ap (new_ids (own_by_name p (glyphs_of b f ws))) order-names

    pub order_id : (i : ℕ) → i < length (order_in b f ws)
        → get_or (new_names b f ws slots) i 0 ≡ new_id (own_by_name p (glyphs_of b f ws)) (name_of p (get_or (glyphs_of b f ws) i 0))
    order_id i h =
        ap (λ (l : List ℕ). get_or l i 0) order-ids
        ∙ new-ids-at (own_by_name p (glyphs_of b f ws)) p (glyphs_of b f ws) i (omega (arith, glyphs_many b f ws))
