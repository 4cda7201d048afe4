-- Worked examples, computed.
use Rattle.std.specs.Prelude.{◌≡◌, refl, ℕ, List, [], ◌∷◌, Ok}
use Rattle.octets.specs.Octets.{be, num_at, bytes_of, put}
use Rattle.octets.specs.Lists.{joined}
use Rattle.index.specs.Index.{offsets, run_of, judged, data_at, table_at, index_at, pieces, items_of, refused, found, told, read_index}
use Rattle.index.specs.Write.{total, size_for, ends, table_bytes, head_bytes, items_bytes, index_bytes, index_len_lem, index_for_lem}
use Rattle.refusal.specs.declared.Refusal.TheVariants.{Truncated, Malformed}

-- ---- read

-- 'ABCDEF+Times-Roman'
abbrev times_roman : List ℕ
times_roman =
    0x41 ∷ 0x42 ∷ 0x43 ∷ 0x44 ∷ 0x45 ∷ 0x46 ∷ 0x2b ∷ 0x54 ∷ 0x69 ∷ 0x6d ∷ 0x65 ∷ 0x73 ∷ 0x2d ∷ 0x52 ∷ 0x6f ∷ 0x6d ∷ 0x61 ∷ 0x6e ∷ []

-- the header and the Name INDEX of TN5176's example font (appendix D)
times-roman : read_index (0x01 ∷ 0x00 ∷ 0x04 ∷ 0x01 ∷ 0x00 ∷ 0x01 ∷ 0x01 ∷ 0x01 ∷ 0x13 ∷ times_roman) 4 ≡ found (times_roman ∷ []) 27
unfolding be num_at offsets run_of judged data_at table_at index_at pieces items_of told read_index
times-roman = refl

-- no item: the count alone
no_item : read_index (0x09 ∷ 0x00 ∷ 0x00 ∷ 0x07 ∷ []) 1 ≡ found [] 3
unfolding be num_at offsets run_of judged data_at table_at index_at pieces items_of told read_index
no_item = refl

-- an item of no byte between two others, offsets of two bytes
empty-item : read_index (0x00 ∷ 0x03 ∷ 0x02 ∷ 0x00 ∷ 0x01 ∷ 0x00 ∷ 0x02 ∷ 0x00 ∷ 0x02 ∷ 0x00 ∷ 0x03 ∷ 0x41 ∷ 0x42 ∷ []) 0 ≡ found ((0x41 ∷ []) ∷ [] ∷ (0x42 ∷ []) ∷ []) 13
unfolding be num_at offsets run_of judged data_at table_at index_at pieces items_of told read_index
empty-item = refl

-- offsets that start above 1 are malformed
starts-above-one : read_index (0x00 ∷ 0x01 ∷ 0x01 ∷ 0x03 ∷ 0x04 ∷ 0x41 ∷ 0x42 ∷ 0x43 ∷ 0x44 ∷ []) 0 ≡ refused Malformed
unfolding be num_at offsets run_of judged data_at table_at index_at pieces items_of told read_index
starts-above-one = refl

-- before the pairs are looked at: here the first one's end is past the font
starts-at-two : read_index (0x00 ∷ 0x01 ∷ 0x01 ∷ 0x02 ∷ 0x09 ∷ 0x41 ∷ []) 0 ≡ refused Malformed
unfolding be num_at offsets run_of judged data_at table_at index_at pieces items_of told read_index
starts-at-two = refl

-- so are offsets that start at 0
starts-at-zero : read_index (0x00 ∷ 0x01 ∷ 0x01 ∷ 0x00 ∷ 0x09 ∷ 0x41 ∷ []) 0 ≡ refused Malformed
unfolding be num_at offsets run_of judged data_at table_at index_at pieces items_of told read_index
starts-at-zero = refl

-- the first offset is read in all its bytes
starts-at_257 : read_index (0x00 ∷ 0x01 ∷ 0x02 ∷ 0x01 ∷ 0x01 ∷ 0x01 ∷ 0x02 ∷ 0x41 ∷ []) 0 ≡ refused Malformed
unfolding be num_at offsets run_of judged data_at table_at index_at pieces items_of told read_index
starts-at_257 = refl

-- a falling pair is malformed
falls : read_index (0x00 ∷ 0x02 ∷ 0x01 ∷ 0x01 ∷ 0x03 ∷ 0x02 ∷ 0x41 ∷ 0x42 ∷ []) 0 ≡ refused Malformed
unfolding be num_at offsets run_of judged data_at table_at index_at pieces items_of told read_index
falls = refl

-- an item past the end is truncated
past_the_end : read_index (0x00 ∷ 0x01 ∷ 0x01 ∷ 0x01 ∷ 0x03 ∷ 0x41 ∷ []) 0 ≡ refused Truncated
unfolding be num_at offsets run_of judged data_at table_at index_at pieces items_of told read_index
past_the_end = refl

-- and one that ends there is not
at_the_end : read_index (0x00 ∷ 0x01 ∷ 0x01 ∷ 0x01 ∷ 0x02 ∷ 0x41 ∷ []) 0 ≡ found ((0x41 ∷ []) ∷ []) 6
unfolding be num_at offsets run_of judged data_at table_at index_at pieces items_of told read_index
at_the_end = refl

-- the first bad pair decides: past the end, and then falling
pairs_in_order : read_index (0x00 ∷ 0x02 ∷ 0x01 ∷ 0x01 ∷ 0x09 ∷ 0x08 ∷ 0x41 ∷ []) 0 ≡ refused Truncated
unfolding be num_at offsets run_of judged data_at table_at index_at pieces items_of told read_index
pairs_in_order = refl

-- truncated in the count, the offset size and the offsets
no_count : read_index (0x00 ∷ []) 0 ≡ refused Truncated
unfolding be num_at offsets run_of judged data_at table_at index_at pieces items_of told read_index
no_count = refl

far_away : read_index (0x00 ∷ 0x00 ∷ []) 7 ≡ refused Truncated
unfolding be num_at offsets run_of judged data_at table_at index_at pieces items_of told read_index
far_away = refl

no_size : read_index (0x00 ∷ 0x01 ∷ []) 0 ≡ refused Truncated
unfolding be num_at offsets run_of judged data_at table_at index_at pieces items_of told read_index
no_size = refl

-- all offsets are read before the first is judged
no_offsets : read_index (0x00 ∷ 0x02 ∷ 0x01 ∷ 0x02 ∷ 0x01 ∷ []) 0 ≡ refused Truncated
unfolding be num_at offsets run_of judged data_at table_at index_at pieces items_of told read_index
no_offsets = refl

-- an offset size of 0 or 5 is malformed, also where the offsets are not there
size-zero : read_index (0x00 ∷ 0x01 ∷ 0x00 ∷ []) 0 ≡ refused Malformed
unfolding be num_at offsets run_of judged data_at table_at index_at pieces items_of told read_index
size-zero = refl

size_five : read_index (0x00 ∷ 0x01 ∷ 0x05 ∷ []) 0 ≡ refused Malformed
unfolding be num_at offsets run_of judged data_at table_at index_at pieces items_of told read_index
size_five = refl

-- ---- written

written : index_bytes ((1 ∷ 2 ∷ []) ∷ [] ∷ (3 ∷ []) ∷ []) ≡ 0 ∷ 3 ∷ 1 ∷ 1 ∷ 3 ∷ 3 ∷ 4 ∷ 1 ∷ 2 ∷ 3 ∷ []
unfolding bytes_of total joined size_for ends table_bytes head_bytes items_bytes index_bytes
written = refl

written_none : index_bytes [] ≡ 0 ∷ 0 ∷ []
unfolding bytes_of total joined size_for ends table_bytes head_bytes items_bytes index_bytes
written_none = refl

-- offset sizes of document 01
one_byte : size_for 255 ≡ 1
unfolding size_for
one_byte = refl

two_bytes : size_for 256 ≡ 2
unfolding size_for
two_bytes = refl

three-bytes : size_for 65536 ≡ 3
unfolding size_for
three-bytes = refl

four_bytes : size_for 16777216 ≡ 4
unfolding size_for
four_bytes = refl

length-of-three : index_len_lem 3 3 ≡ 10
unfolding index_len_lem size_for
length-of-three = refl

-- 255 bytes of data need an offset of 256, in two bytes
large_data : index_len_lem 1 255 ≡ 262
unfolding index_len_lem size_for
large_data = refl

-- what index_for has for an INDEX is what reading it finds
laid_out : index_at (0 ∷ 3 ∷ 1 ∷ 1 ∷ 3 ∷ 3 ∷ 4 ∷ 1 ∷ 2 ∷ 3 ∷ []) 0 ≡ Ok (index_for_lem 0 3 3)
unfolding be num_at offsets run_of judged data_at table_at index_at size_for index_for_lem
laid_out = refl

-- the first two of three items: the last offset is still to come, and its place is as it was
begun : put (put (0 ∷ 3 ∷ 1 ∷ 1 ∷ 9 ∷ 9 ∷ 9 ∷ 9 ∷ 9 ∷ 9 ∷ []) 4 (table_bytes 1 (ends 1 ((1 ∷ 2 ∷ []) ∷ [] ∷ [])))) 7 (1 ∷ 2 ∷ []) ≡ 0 ∷ 3 ∷ 1 ∷ 1 ∷ 3 ∷ 3 ∷ 9 ∷ 1 ∷ 2 ∷ 9 ∷ []
unfolding put bytes_of ends table_bytes
begun = refl
