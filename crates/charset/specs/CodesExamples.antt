-- Worked examples, computed.
use Rattle.std.specs.Prelude.{◌≡◌, refl, [], ◌∷◌}
use Rattle.octets.specs.Octets.{be}
use Rattle.charset.specs.Codes.{by_number, by_string, codes_from, range_from, ranges_from, supplied_from, namings_by, namings_at}

-- format 0: two codes
format_0 : namings_at (0x00 ∷ 0x02 ∷ 0x41 ∷ 0x42 ∷ []) 0 ≡ by_number 0x41 1 ∷ by_number 0x42 2 ∷ []
unfolding be codes_from range_from ranges_from supplied_from namings_by namings_at
format_0 = refl

-- format 1: a range past 255, then another; the glyphs of codes above 255 count
format_1 : namings_at (0x01 ∷ 0x02 ∷ 0xff ∷ 0x01 ∷ 0x41 ∷ 0x00 ∷ []) 0 ≡ by_number 255 1 ∷ by_number 256 2 ∷ by_number 0x41 3 ∷ []
unfolding be codes_from range_from ranges_from supplied_from namings_by namings_at
format_1 = refl

-- supplements after the rest, in both formats
supplements_0 : namings_at (0x80 ∷ 0x01 ∷ 0x41 ∷ 0x02 ∷ 0x41 ∷ 0x00 ∷ 0x22 ∷ 0x07 ∷ 0x01 ∷ 0x87 ∷ []) 0 ≡ by_number 0x41 1 ∷ by_string 0x41 34 ∷ by_string 7 391 ∷ []
unfolding be codes_from range_from ranges_from supplied_from namings_by namings_at
supplements_0 = refl

supplements_1 : namings_at (0x81 ∷ 0x01 ∷ 0x30 ∷ 0x01 ∷ 0x01 ∷ 0x41 ∷ 0x00 ∷ 0x00 ∷ []) 0 ≡ by_number 0x30 1 ∷ by_number 0x31 2 ∷ by_string 0x41 0 ∷ []
unfolding be codes_from range_from ranges_from supplied_from namings_by namings_at
supplements_1 = refl
