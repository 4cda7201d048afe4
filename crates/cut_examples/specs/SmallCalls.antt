-- The small call (document 02, Wish 10) on the font of Encoded, which has three glyphs and no subroutine: with one work word it gives the subset
-- that the larger one gives, which asks for six; with none it is refused.
use Rattle.std.specs.Prelude.{ℕ, ◌≤◌, ◌≡◌, refl, true, false, [], ◌∷◌, Result}
use Rattle.std.proofs.Common.{ap, ◌∙◌, subst, arith}
use Rattle.octets.specs.Lists.{all_below}
use Rattle.strings.specs.Table.{standard_names}
use Rattle.strings.specs.Text.{codes, same_text_lem}
use Rattle.strings.specs.Strings.{string_text, standard_string, standard_strings}
use Rattle.dict.specs.Lookup.{last_from, last_of}
use Rattle.find.specs.Find.{glyph_with_text}
use Rattle.record.specs.Record.{rows_from, rows_of, rows_fine_lem, record_fine}
use Rattle.cff.specs.Font.{Program}
use Rattle.cff.specs.Find.{locals_words, work_size}
use Rattle.subset.specs.Kept.{is_in, those}
use Rattle.subset.specs.Cut.{refused, subset, all_found_lem, cut_read, cut_with}
use Rattle.small.specs.Small.{small_size, cut_small, Enough}
use Rattle.small.specs.Theorem.{small_same}
use Rattle.cut_examples.specs.Encoded.{custom_font, custom_program, custom_reads, custom_subset, custom_cut}
use Rattle.refusal.specs.declared.Refusal.{Refusal}
use Rattle.refusal.specs.declared.Refusal.TheVariants.{Work}
use Rattle.subset.specs.declared.Way.TheVariants.{Renumbered}

-- what each asks for
large : work_size custom_program ≡ 6
unfolding locals_words
large = refl

small : small_size custom_program ≡ 1
unfolding locals_words
small = refl

enough : (size : Program → ℕ) (n : ℕ) → size custom_program ≤ n → Enough size custom_font n
enough size n h p e = let z : custom_program ≡ p = let r = custom_reads in cc in subst (λ (q : Program). size q ≤ n) z h

-- one word is enough
one_word : cut_small false true custom_font (0x4e ∷ []) (1 ∷ []) [] 1 1 32768 ≡ subset Renumbered custom_subset
one_word =
    small_same false true custom_font (0x4e ∷ []) (1 ∷ []) [] 1 8192 1 32768 (enough work_size 8192 (omega (arith, large))) (enough small_size 1 (omega (arith, small))) ∙ custom_cut

-- none is refused
no_word : cut_small false true custom_font (0x4e ∷ []) (1 ∷ []) [] 1 0 32768 ≡ refused Work
unfolding
    cut_with all_below all_found_lem those is_in record_fine rows_fine_lem rows_of rows_from glyph_with_text string_text standard_string standard_strings codes same_text_lem standard_names last_of last_from locals_words
no_word = ap (λ (g : Result Program Refusal). cut_read small_size false true g (0x4e ∷ []) (1 ∷ []) [] 1 0 32768) custom_reads
