-- Worked examples, computed.
use Rattle.std.specs.Prelude.{◌≡◌, refl, [], ◌∷◌, pos, negsuc}
use Rattle.octets.specs.Octets.{bytes_of}
use Rattle.type2_number.specs.Number.{keep24, rounded, cut, operator, number, number_at}
use Rattle.type2_number.specs.Encoding.{integer_bytes, fixed_bytes, number_bytes, encoded}

-- 25 digits: a tie goes to the even neighbour, down and up
tie_down : keep24 16777217 ≡ 16777216
unfolding keep24
tie_down = refl

tie_up : keep24 16777219 ≡ 16777220
unfolding keep24
tie_up = refl

-- 26 digits: one quarter down, three quarters up
quarter : keep24 33554433 ≡ 33554432
unfolding keep24
quarter = refl

three_quarters : keep24 33554435 ≡ 33554436
unfolding keep24
three_quarters = refl

-- TN5177, table 1: the ends of each form
first_form : number_at (0x20 ∷ []) 0 ≡ number (negsuc 7012351) 1
unfolding number_at rounded keep24
first_form = refl

second_form : number_at (0xf7 ∷ 0x00 ∷ []) 0 ≡ number (pos 7077888) 2
unfolding number_at rounded keep24
second_form = refl

third_form : number_at (0xfe ∷ 0xff ∷ []) 0 ≡ number (negsuc 74121215) 2
unfolding number_at rounded keep24
third_form = refl

sixteen_bits : number_at (0x1c ∷ 0xff ∷ 0xff ∷ []) 0 ≡ number (negsuc 65535) 3
unfolding number_at rounded keep24
sixteen_bits = refl

-- -1 and 65535 65536ths
below-zero : number_at (0xff ∷ 0xff ∷ 0xff ∷ 0xff ∷ 0xff ∷ []) 0 ≡ number (negsuc 0) 5
unfolding number_at rounded keep24
below-zero = refl

cut_off : number_at (0xff ∷ 0x00 ∷ 0x05 ∷ 0x00 ∷ []) 0 ≡ cut
unfolding number_at rounded keep24
cut_off = refl

an_operator : number_at (0x0e ∷ []) 0 ≡ operator
unfolding number_at
an_operator = refl

-- the largest 16.16 reads as 32768 and is written as itself
largest : number_at (0xff ∷ 0x7f ∷ 0xff ∷ 0xff ∷ 0xff ∷ []) 0 ≡ number (pos 2147483648) 5
unfolding number_at rounded keep24
largest = refl

largest_stays : encoded (pos 2147483648) ≡ 0xff ∷ 0x7f ∷ 0xff ∷ 0xff ∷ 0xff ∷ []
unfolding number_bytes integer_bytes fixed_bytes bytes_of
largest_stays = refl

-- the shortest form changes at 107 and 1131
one_byte : encoded (pos 7012352) ≡ 0xf6 ∷ []
unfolding number_bytes integer_bytes fixed_bytes bytes_of
one_byte = refl

two_bytes : encoded (pos 74121216) ≡ 0xfa ∷ 0xff ∷ []
unfolding number_bytes integer_bytes fixed_bytes bytes_of
two_bytes = refl

three-bytes : encoded (negsuc 74186751) ≡ 0x1c ∷ 0xfb ∷ 0x94 ∷ []
unfolding number_bytes integer_bytes fixed_bytes bytes_of
three-bytes = refl
