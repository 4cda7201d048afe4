-- Worked examples, computed: every format, and each way to be refused.
use Rattle.std.specs.Prelude.{◌≡◌, refl, true, false, [], ◌∷◌, Ok, Err}
use Rattle.octets.specs.Octets.{be, bytes_of}
use Rattle.octets.specs.Lists.{all_below}
use Rattle.charset.specs.Listed.{list_of}
use Rattle.charset.specs.Charset.{ids_from, charset_at, iso_adobe}
use Rattle.charset.specs.FdSelect.{range_end, fd_in, ranges_refusal, range_fds, fd_select_at, no_fds}
use Rattle.charset.specs.Encoding.{encoding_at}
use Rattle.charset.specs.CharsetBytes.{id_bytes, charset_bytes}
use Rattle.charset.specs.FdSelectBytes.{changes, entry_bytes, fd_select_bytes}
use Rattle.refusal.specs.declared.Refusal.TheVariants.{Truncated, Malformed}

-- ---- charsets

format_0 : charset_at (0x00 ∷ 0x00 ∷ 0x05 ∷ 0x00 ∷ 0x07 ∷ []) 0 3 ≡ Ok (0 ∷ 5 ∷ 7 ∷ [])
unfolding charset_at ids_from be
format_0 = refl

format_1 : charset_at (0x01 ∷ 0x00 ∷ 0x05 ∷ 0x02 ∷ 0x00 ∷ 0x10 ∷ 0x00 ∷ []) 0 5 ≡ Ok (0 ∷ 5 ∷ 6 ∷ 7 ∷ 16 ∷ [])
unfolding charset_at ids_from be
format_1 = refl

-- behind two other bytes
format_2 : charset_at (0xaa ∷ 0xaa ∷ 0x02 ∷ 0x00 ∷ 0x05 ∷ 0x00 ∷ 0x02 ∷ 0x00 ∷ 0x10 ∷ 0x00 ∷ 0x00 ∷ []) 2 5 ≡ Ok (0 ∷ 5 ∷ 6 ∷ 7 ∷ 16 ∷ [])
unfolding charset_at ids_from be
format_2 = refl

-- glyph 0 alone takes the format byte
glyph_0 : charset_at (0x02 ∷ []) 0 1 ≡ Ok (0 ∷ [])
unfolding charset_at ids_from be
glyph_0 = refl

-- a range may run past the last glyph
range-cut : charset_at (0x01 ∷ 0x00 ∷ 0x05 ∷ 0xff ∷ []) 0 3 ≡ Ok (0 ∷ 5 ∷ 6 ∷ [])
unfolding charset_at ids_from be
range-cut = refl

-- and past the last id, if no glyph reaches it
last_id : charset_at (0x01 ∷ 0xff ∷ 0xff ∷ 0x01 ∷ []) 0 2 ≡ Ok (0 ∷ 65535 ∷ [])
unfolding charset_at ids_from be
last_id = refl

past-last_id : charset_at (0x01 ∷ 0xff ∷ 0xff ∷ 0x01 ∷ []) 0 3 ≡ Err Malformed
unfolding charset_at ids_from be
past-last_id = refl

-- the ids of a range come before the next range
past-before_lost : charset_at (0x01 ∷ 0xff ∷ 0xff ∷ 0x01 ∷ []) 0 4 ≡ Err Malformed
unfolding charset_at ids_from be
past-before_lost = refl

lost_format : charset_at (0x00 ∷ []) 1 1 ≡ Err Truncated
unfolding charset_at ids_from be
lost_format = refl

lost_far : charset_at (0x00 ∷ []) 9 1 ≡ Err Truncated
unfolding charset_at ids_from be
lost_far = refl

lost_id : charset_at (0x00 ∷ 0x00 ∷ 0x05 ∷ 0x00 ∷ []) 0 3 ≡ Err Truncated
unfolding charset_at ids_from be
lost_id = refl

lost_left : charset_at (0x01 ∷ 0x00 ∷ 0x05 ∷ []) 0 2 ≡ Err Truncated
unfolding charset_at ids_from be
lost_left = refl

lost_left-half : charset_at (0x02 ∷ 0x00 ∷ 0x05 ∷ 0x00 ∷ 0x00 ∷ 0x06 ∷ 0x00 ∷ []) 0 3 ≡ Err Truncated
unfolding charset_at ids_from be
lost_left-half = refl

lost_range : charset_at (0x01 ∷ 0x00 ∷ 0x05 ∷ 0x00 ∷ []) 0 3 ≡ Err Truncated
unfolding charset_at ids_from be
lost_range = refl

unknown_format : charset_at (0x03 ∷ []) 0 1 ≡ Err Malformed
unfolding charset_at ids_from be
unknown_format = refl

predefined-charset : iso_adobe 4 ≡ 0 ∷ 1 ∷ 2 ∷ 3 ∷ []
unfolding list_of
predefined-charset = refl

-- ---- FDSelects

-- format 0
each : fd_select_at (0xaa ∷ 0x00 ∷ 0x01 ∷ 0x00 ∷ 0x02 ∷ 0x00 ∷ []) 1 4 ≡ Ok (1 ∷ 0 ∷ 2 ∷ 0 ∷ [])
unfolding fd_select_at fd_in ranges_refusal range_fds range_end list_of be
each = refl

each_lost : fd_select_at (0x00 ∷ 0x01 ∷ []) 0 2 ≡ Err Truncated
unfolding fd_select_at fd_in ranges_refusal range_fds range_end list_of be
each_lost = refl

-- format 3
ranges : fd_select_at (0x03 ∷ 0x00 ∷ 0x02 ∷ 0x00 ∷ 0x00 ∷ 0x00 ∷ 0x00 ∷ 0x02 ∷ 0x01 ∷ 0x00 ∷ 0x03 ∷ []) 0 3 ≡ Ok (0 ∷ 0 ∷ 1 ∷ [])
unfolding fd_select_at fd_in ranges_refusal range_fds range_end list_of be
ranges = refl

no_range : fd_select_at (0x03 ∷ 0x00 ∷ 0x00 ∷ 0x00 ∷ 0x00 ∷ []) 0 2 ≡ Ok (0 ∷ 0 ∷ [])
unfolding fd_select_at fd_in ranges_refusal range_fds range_end list_of be
no_range = refl

-- glyphs before the first range and behind the last
uncovered : fd_select_at (0x03 ∷ 0x00 ∷ 0x01 ∷ 0x00 ∷ 0x01 ∷ 0x05 ∷ 0x00 ∷ 0x02 ∷ []) 0 4 ≡ Ok (0 ∷ 5 ∷ 0 ∷ 0 ∷ [])
unfolding fd_select_at fd_in ranges_refusal range_fds range_end list_of be
uncovered = refl

empty-range : fd_select_at (0x03 ∷ 0x00 ∷ 0x02 ∷ 0x00 ∷ 0x00 ∷ 0x07 ∷ 0x00 ∷ 0x00 ∷ 0x01 ∷ 0x00 ∷ 0x02 ∷ []) 0 2 ≡ Ok (1 ∷ 1 ∷ [])
unfolding fd_select_at fd_in ranges_refusal range_fds range_end list_of be
empty-range = refl

-- a range may run past the last glyph
range-past : fd_select_at (0x03 ∷ 0x00 ∷ 0x01 ∷ 0x00 ∷ 0x00 ∷ 0x04 ∷ 0xff ∷ 0xff ∷ []) 0 2 ≡ Ok (4 ∷ 4 ∷ [])
unfolding fd_select_at fd_in ranges_refusal range_fds range_end list_of be
range-past = refl

falling : fd_select_at (0x03 ∷ 0x00 ∷ 0x01 ∷ 0x00 ∷ 0x02 ∷ 0x04 ∷ 0x00 ∷ 0x01 ∷ []) 0 3 ≡ Err Malformed
unfolding fd_select_at fd_in ranges_refusal range_fds range_end list_of be
falling = refl

falls_before_lost : fd_select_at (0x03 ∷ 0x00 ∷ 0x02 ∷ 0x00 ∷ 0x02 ∷ 0x04 ∷ 0x00 ∷ 0x01 ∷ 0x01 ∷ []) 0 3 ≡ Err Malformed
unfolding fd_select_at fd_in ranges_refusal range_fds range_end list_of be
falls_before_lost = refl

select_lost : fd_select_at (0x00 ∷ []) 1 1 ≡ Err Truncated
unfolding fd_select_at fd_in ranges_refusal range_fds range_end list_of be
select_lost = refl

count_lost : fd_select_at (0x03 ∷ 0x00 ∷ []) 0 1 ≡ Err Truncated
unfolding fd_select_at fd_in ranges_refusal range_fds range_end list_of be
count_lost = refl

first_lost : fd_select_at (0x03 ∷ 0x00 ∷ 0x01 ∷ 0x00 ∷ []) 0 1 ≡ Err Truncated
unfolding fd_select_at fd_in ranges_refusal range_fds range_end list_of be
first_lost = refl

end_lost : fd_select_at (0x03 ∷ 0x00 ∷ 0x01 ∷ 0x00 ∷ 0x00 ∷ 0x04 ∷ 0x00 ∷ []) 0 1 ≡ Err Truncated
unfolding fd_select_at fd_in ranges_refusal range_fds range_end list_of be
end_lost = refl

select_unknown : fd_select_at (0x01 ∷ []) 0 1 ≡ Err Malformed
unfolding fd_select_at fd_in ranges_refusal range_fds range_end list_of be
select_unknown = refl

no_fd-select : no_fds 3 ≡ 0 ∷ 0 ∷ 0 ∷ []
unfolding list_of
no_fd-select = refl

-- whether each FD is below a count
below : all_below 2 (0 ∷ 1 ∷ 0 ∷ []) ≡ true
unfolding all_below
below = refl

not_below : all_below 2 (0 ∷ 2 ∷ 0 ∷ []) ≡ false
unfolding all_below
not_below = refl

-- ---- encodings

codes : encoding_at (0x00 ∷ 0x02 ∷ 0x41 ∷ 0x42 ∷ []) 0 ≡ Ok tt
unfolding encoding_at
codes = refl

codes_lost : encoding_at (0x00 ∷ 0x02 ∷ 0x41 ∷ []) 0 ≡ Err Truncated
unfolding encoding_at
codes_lost = refl

code-ranges : encoding_at (0xaa ∷ 0x01 ∷ 0x01 ∷ 0x41 ∷ 0x02 ∷ []) 1 ≡ Ok tt
unfolding encoding_at
code-ranges = refl

code-ranges_lost : encoding_at (0x01 ∷ 0x01 ∷ 0x41 ∷ []) 0 ≡ Err Truncated
unfolding encoding_at
code-ranges_lost = refl

count-of-codes_lost : encoding_at (0x00 ∷ []) 0 ≡ Err Truncated
unfolding encoding_at
count-of-codes_lost = refl

supplements : encoding_at (0x80 ∷ 0x00 ∷ 0x01 ∷ 0x41 ∷ 0x00 ∷ 0x05 ∷ []) 0 ≡ Ok tt
unfolding encoding_at
supplements = refl

supplements_lost : encoding_at (0x80 ∷ 0x00 ∷ 0x01 ∷ 0x41 ∷ 0x00 ∷ []) 0 ≡ Err Truncated
unfolding encoding_at
supplements_lost = refl

count-of-supplements_lost : encoding_at (0x81 ∷ 0x00 ∷ []) 0 ≡ Err Truncated
unfolding encoding_at
count-of-supplements_lost = refl

encoding_lost : encoding_at (0x00 ∷ []) 1 ≡ Err Truncated
unfolding encoding_at
encoding_lost = refl

-- malformed before anything more is read
encoding_unknown : encoding_at (0x02 ∷ []) 0 ≡ Err Malformed
unfolding encoding_at
encoding_unknown = refl

supplements_unknown : encoding_at (0xff ∷ []) 0 ≡ Err Malformed
unfolding encoding_at
supplements_unknown = refl

-- ---- written

charset-written : charset_bytes (0 ∷ 5 ∷ 258 ∷ []) ≡ 0x00 ∷ 0x00 ∷ 0x05 ∷ 0x01 ∷ 0x02 ∷ []
unfolding charset_bytes id_bytes bytes_of
charset-written = refl

glyph_0_written : charset_bytes (0 ∷ []) ≡ 0 ∷ []
unfolding charset_bytes id_bytes
glyph_0_written = refl

-- document 01, 'Corners in write.rs': FDs 0 0 1
fd-select-written : fd_select_bytes (0 ∷ 0 ∷ 1 ∷ []) ≡ 0x03 ∷ 0x00 ∷ 0x02 ∷ 0x00 ∷ 0x00 ∷ 0x00 ∷ 0x00 ∷ 0x02 ∷ 0x01 ∷ 0x00 ∷ 0x03 ∷ []
unfolding fd_select_bytes changes entry_bytes bytes_of
fd-select-written = refl

fd-select-changes : fd_select_bytes (7 ∷ 0 ∷ 0 ∷ 7 ∷ []) ≡ 0x03 ∷ 0x00 ∷ 0x03 ∷ 0x00 ∷ 0x00 ∷ 0x07 ∷ 0x00 ∷ 0x01 ∷ 0x00 ∷ 0x00 ∷ 0x03 ∷ 0x07 ∷ 0x00 ∷ 0x04 ∷ []
unfolding fd_select_bytes changes entry_bytes bytes_of
fd-select-changes = refl
