-- Laws of the front of a name-keyed subset: what its writers ask is there, and what they write is the subset's.
use Rattle.std.specs.Prelude.{ℕ, ◌+◌, ◌≤◌, ◌<◌, ◌≡◌, false, List, [], ◌∷◌, ◌++◌, length}
use Rattle.std.proofs.Common.{sym, ap, ◌∙◌}
use Rattle.octets.specs.declared.out.Out.{Out}
use Rattle.octets.specs.Out.{Writes}
use Rattle.octets.specs.OutLaws.{writes_as}
use Rattle.index.specs.Write.{index_bytes}
use Rattle.cff.specs.Font.{Program}
use Rattle.cff.specs.Reads.{GoodFont, program_of}
use Rattle.cff.specs.declared.font.Font.{Font}
use Rattle.subset.specs.Subset.{own_by_name, top_by_name}
use Rattle.order.specs.Walks.{order_in}
use Rattle.order_window.specs.declared.window.Kept.{Kept}
use Rattle.order_window.specs.Window.{glyphs_of}
use Rattle.order_window.specs.Stays.{order_of, kept_glyphs}
use Rattle.own_strings.specs.declared.Own.{Own}
use Rattle.own_strings.specs.Slots.{word_names, own_of, all_own}
use Rattle.own_strings.specs.Ready.{IndexRoom}
use Rattle.name_strings.specs.Names.{strings_of, NamesReady}
use Rattle.name_strings.specs.NamesLaws.{order-own}
use Rattle.top_dict.specs.Top.{top_len, top_named}
use Rattle.top_dict.specs.TopLaws.{named-measured}
use Rattle.top_dict.specs.Slotted.{top-named_is}
use Rattle.front.specs.Front.{kept_program, SlotsReady, front_len, header_bytes, front_bytes, NamedFront}
use Rattle.own_strings.specs.declared.slots.Slot.{Slot}
use Rattle.front.specs.SlotLaws.{slots_slotted}
use Rattle.front.specs.FrontLaws.{front-sum, names-room, top-room, front-wrote, measured-front, front-room, top-short, strings-asked}

module _ (b : List ℕ) (f : Font) (ws : List ℕ) (good : GoodFont b f) (slots : List Slot) (ready : SlotsReady (program_of b f) false slots) where
  abbrev program : Program
  program = program_of b f

  abbrev own : List (List ℕ)
  own = all_own program.strings slots (order_in b f ws)

  abbrev its : List (List ℕ)
  its = own_by_name program (glyphs_of b f ws)

  own_is : own ≡ its
  own_is = order-own b f ws good.glyphs.held.few slots ready.front

  -- the top DICT that is written is the subset's
  named-top : (at₁ v at₂ size at₃ : ℕ) → top_named program.top slots at₁ v at₂ size at₃ ≡ top_by_name program its at₁ v at₂ size at₃
  named-top at₁ v at₂ size at₃ =
      top-named_is program own slots false (slots_slotted program false slots ready (word_names program.strings (order_in b f ws))) at₁ v at₂ size at₃
      ∙ ap (λ (o : List (List ℕ)). top_by_name program o at₁ v at₂ size at₃) own_is

  -- and so is the front
  pub named-front : (all : ℕ) (name : List ℕ) (at₁ v at₂ size at₃ : ℕ)
      → front_bytes all name (top_named program.top slots at₁ v at₂ size at₃) own ≡ front_bytes all name (top_by_name program its at₁ v at₂ size at₃) its
  named-front all name at₁ v at₂ size at₃ =
      ap (λ (t : List ℕ). front_bytes all name t own) (named-top at₁ v at₂ size at₃) ∙ ap (front_bytes all name (top_by_name program its at₁ v at₂ size at₃)) own_is

  pub named-own-of : (o : Own) → o ≡ own_of its → o ≡ own_of own
  named-own-of o e = e ∙ ap own_of (sym own_is)

  -- the length that is measured is that of the subset's front, whatever the offsets are
  pub named-front_len : (o : Own) → o ≡ own_of its → (all : ℕ) (name : List ℕ) (at₁ v at₂ size at₃ : ℕ)
      → length (front_bytes all name (top_by_name program its at₁ v at₂ size at₃) its) ≡ front_len false v program.top slots (length name) o
  named-front_len o e all name at₁ v at₂ size at₃ =
      ap length (sym (named-front all name at₁ v at₂ size at₃))
      ∙ measured-front program false v slots o all name (top_named program.top slots at₁ v at₂ size at₃) own (named-measured program.top slots at₁ v at₂ size at₃) (named-own-of o e)

  pub named-front-sum : (o : Own) → o ≡ own_of its → (name : List ℕ) (at₁ v at₂ size at₃ : ℕ)
      → front_len false v program.top slots (length name) o
      ≡ 4 + length (index_bytes (name ∷ [])) + length (index_bytes (top_by_name program its at₁ v at₂ size at₃ ∷ [])) + length (index_bytes its)
  named-front-sum o e name at₁ v at₂ size at₃ =
      sym (named-front_len o e 0 name at₁ v at₂ size at₃) ∙ front-sum 0 name (top_by_name program its at₁ v at₂ size at₃) its

-- ---- what the writers ask, and what they write

module _ (k : Kept) (slots : List Slot) (own : Own) (name : List ℕ) (out : Out)
    (all at₁ v at₂ size at₃ : ℕ) (z : out.at ≡ 0) (g : NamedFront k.font.now k.o.f v slots own k.words.now (length name) (length out.bytes.now)) where
  abbrev p : Program
  p = kept_program k

  abbrev top : List ℕ
  top = top_named p.top slots at₁ v at₂ size at₃

  abbrev strings : List (List ℕ)
  strings = all_own (strings_of k) slots (order_of k)

  abbrev theirs : List (List ℕ)
  theirs = own_by_name p (kept_glyphs k)

  measured : top_len false v p.top slots ≡ length top
  measured = named-measured p.top slots at₁ v at₂ size at₃

  counted : own ≡ own_of strings
  counted = named-own-of k.font.now k.o.f k.words.now g.font.good slots g.ready own g.is

  room : out.at + length (front_bytes all name top strings) ≤ length out.bytes.now
  room = front-room p false v slots own name out z g.fits all top strings measured counted

  pub names-asked : (length name ≤ 65535) × (out.at + length (header_bytes all ++ index_bytes (name ∷ [])) ≤ length out.bytes.now)
  names-asked = (g.fits.short, names-room all name top strings out room)

  module _ {mid : Out} (w : Writes out (header_bytes all ++ index_bytes (name ∷ [])) mid) where
    pub top-asked : (top_len false v p.top slots < 4294967295) × (mid.at + length (index_bytes (top ∷ [])) ≤ length mid.bytes.now)
    top-asked = (
      top-short p false v slots own name out z g.fits all top strings measured counted,
      top-room all name top strings out room w,
    )

    module _ {mid2 : Out} (x : Writes mid (index_bytes (top ∷ [])) mid2) where
      pub own-asked : NamesReady k slots × IndexRoom mid2.bytes.now mid2.at strings own
      own-asked = (
        record { small = g.font.small; given = g.ready.given; apart = g.apart },
        strings-asked p false v slots own name out z g.fits all top strings measured counted w x,
      )

      pub all-wrote : {new : Out} → Writes mid2 (index_bytes strings) new → Writes out (front_bytes all name (top_by_name p theirs at₁ v at₂ size at₃) theirs) new
      all-wrote u =
          writes_as (front-wrote all name top strings out room w x u) (named-front k.font.now k.o.f k.words.now g.font.good slots g.ready all name at₁ v at₂ size at₃)
