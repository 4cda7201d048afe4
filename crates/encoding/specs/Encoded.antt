-- The encoding of a subset as the code holds it (document 02, Wish 4): a table of all codes, with the new id of a code's glyph where the subset has a pair.
use Rattle.std.specs.Prelude.{ℕ, zero, suc, ◌+◌, ◌*◌, ◌≤◌, ◌<◌, ◌≡◌, Bool, false, List, [], ◌∷◌, ◌++◌, eqb, take, get_or, None, Option, Some}
use Rattle.octets.specs.Pick.{pick}
use Rattle.cff.specs.Font.{Program}
use Rattle.cff.specs.Reads.{program_of}
use Rattle.cff.specs.declared.font.Font.{Font}
use Rattle.subset.specs.Texts.{name_of, new_id}
use Rattle.subset.specs.Subset.{own_by_name}
use Rattle.subset.specs.Codes.{Pair, Coded, none, predefined, pairs, pair_count}
use Rattle.order_window.specs.declared.window.Kept.{Kept}
use Rattle.order_window.specs.Window.{glyphs_of}
use Rattle.own_strings.specs.declared.slots.Slot.{Slot}
use Rattle.own_strings.specs.Slots.{sids_of, slots_of}
use Rattle.own_strings.specs.Ready.{HasStrings, SlotsGiven}
use Rattle.name_strings.specs.Names.{NamesApart}
use Rattle.encoding.specs.declared.Encoding.{Encoding}
use Rattle.encoding.specs.declared.Encoding.TheVariants.{Absent, Expert, Pairs}

-- ---- pairs

-- the pair of a code, by what the table holds of it
abbrev pub pair_in : ℕ → Option ℕ → List Pair
pair_in code None = []
pair_in code (Some id) = record { code = code; id = id } ∷ []

-- the pairs of n codes from one on
unfoldable pub pairs_in : List (Option ℕ) → ℕ → ℕ → List Pair
pairs_in table zero code = []
pairs_in table (suc n) code = pair_in code (get_or table code None) ++ pairs_in table n (code + 1)

-- what a subset has: no encoding, the Expert one, or the pairs of the table; and how many pairs
abbrev pub coded_in : Encoding → List (Option ℕ) → Coded
coded_in Absent table = none
coded_in Expert table = predefined
coded_in (Pairs n) table = pairs (pairs_in table 256 0)

abbrev pub pairs_of : Encoding → ℕ
pairs_of Absent = 0
pairs_of Expert = 0
pairs_of (Pairs n) = n

pub record Encodes (coded : Coded) (table : List (Option ℕ)) (e : Encoding) : Type 0 where
  pub is : coded_in e table ≡ coded
  pub many : pairs_of e ≡ pair_count coded
  pub small : pairs_of e ≤ 256

-- how many bytes it has, and its offset where they stand at a place
abbrev pub encoding_len : Encoding → ℕ
encoding_len Absent = 0
encoding_len Expert = 0
encoding_len (Pairs n) = 3 + 3 * n

abbrev pub offset_for : Encoding → ℕ → ℕ
offset_for Absent at = 0
offset_for Expert at = 1
offset_for (Pairs n) at = at

-- ---- new ids

-- the own strings of the subset of a name-keyed font, by the bits of its kept glyphs
abbrev pub kept_own : List ℕ → Font → List ℕ → List (List ℕ)
kept_own b f ws = own_by_name (program_of b f) (glyphs_of b f ws)

abbrev pub own_kept : Kept → List (List ℕ)
own_kept k = kept_own k.font.now k.o.f k.words.now

-- the names of the kept glyphs can be given their new ids: the strings can be read, the slots hold those of the top DICT with their new ids,
-- and the names differ
pub record CanRename (b : List ℕ) (f : Font) (ws : List ℕ) (slots : List Slot) : Type 0 where
  pub has : HasStrings b f.strings
  pub front : sids_of slots ≡ slots_of false (program_of b f).top
  pub given : SlotsGiven (program_of b f).strings slots
  pub apart : NamesApart b f ws

-- whether a code has this glyph
abbrev pub has_glyph : Option ℕ → ℕ → Bool
has_glyph None g = false
has_glyph (Some x) g = eqb x g

-- a number is above all glyphs, or ids, that a table has of the codes below one
pub record Past (named : List (Option ℕ)) (below past : ℕ) : Type 0 where
  pub each : (c g : ℕ) → c < below → get_or named c None ≡ Some g → g < past

-- the places of a glyph's codes hold its new id, and the others what they held
pub record Puts (named old : List (Option ℕ)) (glyph id : ℕ) (new : List (Option ℕ)) : Type 0 where
  pub each : (c : ℕ) → c < 256 → get_or new c None ≡ pick (has_glyph (get_or named c None) glyph) (Some id) (get_or old c None)

-- what the place of a code holds once these glyphs came by, by its glyph and what it held before
unfoldable pub held_after : Program → List (List ℕ) → List ℕ → Option ℕ → Option ℕ → Option ℕ
held_after p own [] glyph held = held
held_after p own (g ∷ gs) glyph held = held_after p own gs glyph (pick (has_glyph glyph g) (Some (new_id own (name_of p g))) held)

-- the table holds that of each code
pub record Renames (p : Program) (own : List (List ℕ)) (gs : List ℕ) (named table : List (Option ℕ)) : Type 0 where
  pub each : (c : ℕ) → c < 256 → get_or table c None ≡ held_after p own gs (get_or named c None) None
