-- Laws of the front of a CID-keyed subset: what its writers ask is there, and what they write is the subset's.
use Rattle.std.specs.Prelude.{ℕ, ◌+◌, ◌≤◌, ◌<◌, ◌≡◌, length}
use Rattle.std.proofs.Common.{sym, ◌∙◌}
use Rattle.std.proofs.Math.Path.{ap}
use Rattle.std.proofs.Math.Bool.{true}
use mathlib.Core.List.{List, [], ◌∷◌, ◌++◌}
use Rattle.octets.specs.declared.out.Out.{Out}
use Rattle.octets.specs.Out.{Writes}
use Rattle.octets.specs.OutLaws.{writes_as}
use Rattle.index.specs.Write.{index_bytes}
use Rattle.cff.specs.Font.{Program}
use Rattle.cff.specs.Loaded.{program}
use Rattle.cff.specs.declared.loaded.Loaded.{Loaded}
use Rattle.subset.specs.Texts.{own_strings_lem}
use Rattle.subset.specs.Subset.{own_by_cid, top_by_cid}
use Rattle.own_strings.specs.declared.Own.{Own}
use Rattle.own_strings.specs.declared.slots.Slot.{Slot}
use Rattle.own_strings.specs.Slots.{own_of, slots_own}
use Rattle.own_strings.specs.Ready.{IndexRoom}
use Rattle.top_dict.specs.Top.{top_len, top_cid}
use Rattle.top_dict.specs.TopLaws.{cid_measured}
use Rattle.top_dict.specs.Slotted.{top_cid_is}
use Rattle.front.specs.Front.{SlotsReady, front_len, header_bytes, front_bytes, CidFront}
use Rattle.front.specs.SlotLaws.{slots_slotted}
use Rattle.front.specs.PrepareLaws.{cid_own}
use Rattle.front.specs.FrontLaws.{front-sum, names-room, top-room, front-wrote, measured-front, front-room, top-short, strings-asked}

module _ (p : Program) (slots : List Slot) (ready : SlotsReady p true slots) where
  abbrev own : List (List ℕ)
  own = slots_own p.strings slots

  own_is : own ≡ own_by_cid p
  own_is = cid_own p slots ready

  -- the top DICT that is written is the subset's
  cid_top : (at₁ at₂ at₃ at₄ : ℕ) → top_cid p.top slots at₁ at₂ at₃ at₄ ≡ top_by_cid p (own_by_cid p) at₁ at₂ at₃ at₄
  unfolding own_strings_lem
  cid_top at₁ at₂ at₃ at₄ =
      top_cid_is p own slots (slots_slotted p true slots ready []) at₁ at₂ at₃ at₄
      ∙ ap (λ (o : List (List ℕ)). top_by_cid p o at₁ at₂ at₃ at₄) own_is

  -- and so is the front
  pub cid_front : (all : ℕ) (name : List ℕ) (at₁ at₂ at₃ at₄ : ℕ)
      → front_bytes all name (top_cid p.top slots at₁ at₂ at₃ at₄) own ≡ front_bytes all name (top_by_cid p (own_by_cid p) at₁ at₂ at₃ at₄) (own_by_cid p)
  cid_front all name at₁ at₂ at₃ at₄ =
      ap (λ (t : List ℕ). front_bytes all name t own) (cid_top at₁ at₂ at₃ at₄) ∙ ap (front_bytes all name (top_by_cid p (own_by_cid p) at₁ at₂ at₃ at₄)) own_is

  pub cid_own-of : (o : Own) → o ≡ own_of (own_by_cid p) → o ≡ own_of own
  cid_own-of o e = e ∙ ap own_of (sym own_is)

  -- the length that is measured is that of the subset's front, whatever the offsets are
  pub cid_front_len : (o : Own) → o ≡ own_of (own_by_cid p) → (all : ℕ) (name : List ℕ) (at₁ at₂ at₃ at₄ : ℕ)
      → length (front_bytes all name (top_by_cid p (own_by_cid p) at₁ at₂ at₃ at₄) (own_by_cid p)) ≡ front_len true 0 p.top slots (length name) o
  cid_front_len o e all name at₁ at₂ at₃ at₄ =
      ap length (sym (cid_front all name at₁ at₂ at₃ at₄))
      ∙ measured-front p true 0 slots o all name (top_cid p.top slots at₁ at₂ at₃ at₄) own (cid_measured p.top slots 0 at₁ at₂ at₃ at₄) (cid_own-of o e)

  pub cid_front-sum : (o : Own) → o ≡ own_of (own_by_cid p) → (name : List ℕ) (at₁ at₂ at₃ at₄ : ℕ)
      → front_len true 0 p.top slots (length name) o
      ≡ 4 + length (index_bytes (name ∷ [])) + length (index_bytes (top_by_cid p (own_by_cid p) at₁ at₂ at₃ at₄ ∷ [])) + length (index_bytes (own_by_cid p))
  cid_front-sum o e name at₁ at₂ at₃ at₄ =
      sym (cid_front_len o e 0 name at₁ at₂ at₃ at₄) ∙ front-sum 0 name (top_by_cid p (own_by_cid p) at₁ at₂ at₃ at₄) (own_by_cid p)

-- ---- what the writers ask, and what they write

module _ (font : Loaded) (slots : List Slot) (own : Own) (name : List ℕ) (out : Out)
    (z : out.at ≡ 0) (g : CidFront font.bytes.now font.f slots own (length name) (length out.bytes.now)) (all at₁ at₂ at₃ at₄ : ℕ) where
  abbrev p : Program
  p = program font

  abbrev top : List ℕ
  top = top_cid p.top slots at₁ at₂ at₃ at₄

  abbrev strings : List (List ℕ)
  strings = slots_own p.strings slots

  measured : top_len true 0 p.top slots ≡ length top
  measured = cid_measured p.top slots 0 at₁ at₂ at₃ at₄

  counted : own ≡ own_of strings
  counted = cid_own-of p slots g.ready own g.is

  room : out.at + length (front_bytes all name top strings) ≤ length out.bytes.now
  room = front-room p true 0 slots own name out z g.fits all top strings measured counted

  pub names-asked : (length name ≤ 65535) × (out.at + length (header_bytes all ++ index_bytes (name ∷ [])) ≤ length out.bytes.now)
  names-asked = (g.fits.short, names-room all name top strings out room)

  module _ {mid : Out} (w : Writes out (header_bytes all ++ index_bytes (name ∷ [])) mid) where
    pub top-asked : (top_len true 0 p.top slots < 4294967295) × (mid.at + length (index_bytes (top ∷ [])) ≤ length mid.bytes.now)
    top-asked = (
      top-short p true 0 slots own name out z g.fits all top strings measured counted,
      top-room all name top strings out room w,
    )

    module _ {mid2 : Out} (v : Writes mid (index_bytes (top ∷ [])) mid2) where
      pub own-asked : IndexRoom mid2.bytes.now mid2.at strings own
      own-asked = strings-asked p true 0 slots own name out z g.fits all top strings measured counted w v

      pub all-wrote : {new : Out} → Writes mid2 (index_bytes strings) new
          → Writes out (front_bytes all name (top_by_cid p (own_by_cid p) at₁ at₂ at₃ at₄) (own_by_cid p)) new
      all-wrote u = writes_as (front-wrote all name top strings out room w v u) (cid_front p slots g.ready all name at₁ at₂ at₃ at₄)
