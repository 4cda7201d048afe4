-- Document 01, refusal 7, by sorted ids: three glyphs, of which the first and the last have the name b and the second has the name a.
use Rattle.std.specs.Prelude.{ℕ, ◌≡◌, refl, true, false, List, [], ◌∷◌, replicate}
use Rattle.strings.specs.Text.{same_text_lem, order_of}
use Rattle.strings.specs.Strings.{string_text}
use Rattle.find.specs.Find.{glyph_with_id}
use Rattle.subset.specs.Pruned.{mapped}
use Rattle.kept.specs.Packed.{all_of, cid_found}
use Rattle.name_order.specs.Sorted.{before, from_left, merged, sorted}
use Rattle.first_glyphs.specs.Lead.{leading, lead_ids}

abbrev strings : List (List ℕ)
strings = (0x62 ∷ []) ∷ (0x61 ∷ []) ∷ (0x62 ∷ []) ∷ []

-- the ids of glyphs 0, 1 and 2
abbrev ids : List ℕ
ids = 393 ∷ 392 ∷ 391 ∷ []

-- by text, and of one text in the order that they had
the_order : sorted strings 2 ids ≡ 392 ∷ 393 ∷ 391 ∷ []
unfolding sorted merged from_left before order_of string_text
the_order = refl

-- one leads those with the name b
the_leads : lead_ids (leading strings 392 (sorted strings 2 ids) (replicate 394 0)) ids ≡ 393 ∷ 392 ∷ 393 ∷ []
unfolding sorted merged from_left before order_of string_text same_text_lem leading mapped
the_leads = refl

-- the last glyph is not found by its name, the others are
the_last : cid_found (393 ∷ 392 ∷ 393 ∷ []) 2 ≡ false
unfolding glyph_with_id
the_last = refl

the_others : all_of (cid_found (393 ∷ 392 ∷ 393 ∷ [])) (0 ∷ 1 ∷ []) ≡ true
unfolding glyph_with_id all_of
the_others = refl
