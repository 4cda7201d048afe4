-- The cases that document 01 marks with a star, each a theorem about the definitions. Bytes are hexadecimal, as there.
use Rattle.std.specs.Prelude.{◌≡◌, refl, true, false, List, [], ◌∷◌, ℕ, eqb, None, Option, Some}
use Rattle.octets.specs.Octets.{bytes_of}
use Rattle.type2_number.specs.Number.{keep24, rounded, number_at}
use Rattle.type2_number.specs.Encoding.{integer_bytes, fixed_bytes, number_bytes}
use Rattle.charstring.specs.Bias.{bias_of}
use Rattle.charstring.specs.Token.{token_at, tokens_from, tokens_of}
use Rattle.charstring.specs.Encode.{encode, body_bytes}
use Rattle.charstring.specs.declared.MaskLen.TheVariants.{Own}
use Rattle.decimal.specs.Decimal.{zeros_of, zeros, stripped, normal}
use Rattle.decimal.specs.Values.{trunc_of}
use Rattle.decimal.specs.Written.{int5_bytes, int_bytes, digits_of, width_in, width_of, real_text, packed, real_bytes}
use Rattle.decimal.specs.Written as written
use Rattle.charset.specs.FdSelectBytes.{changes, entry_bytes, fd_select_bytes}
use Rattle.prune.specs.Renumber.{operand_of, renumber, renumber_charstring}
use Rattle.octets.specs.Pick.{pick}

-- ---- 'Corners in charstring.rs'

bias_1239 : bias_of 1239 ≡ 107
bias_1239 = refl

bias_1240 : bias_of 1240 ≡ 1131
bias_1240 = refl

-- a body through its tokens and back
abbrev rewritten : List ℕ → List ℕ
rewritten code = body_bytes (tokens_of (λ o. Own) code)

number_1c_80_00 : rewritten (0x1c ∷ 0x80 ∷ 0x00 ∷ []) ≡ 0xff ∷ 0x80 ∷ 0x00 ∷ 0x00 ∷ 0x00 ∷ []
unfolding tokens_of tokens_from token_at number_at rounded keep24 encode number_bytes integer_bytes fixed_bytes bytes_of
number_1c_80_00 = refl

number_ff_00_05_00_00 : rewritten (0xff ∷ 0x00 ∷ 0x05 ∷ 0x00 ∷ 0x00 ∷ []) ≡ 0x90 ∷ []
unfolding tokens_of tokens_from token_at number_at rounded keep24 encode number_bytes integer_bytes fixed_bytes bytes_of
number_ff_00_05_00_00 = refl

number_ff_01_00_00_01 : rewritten (0xff ∷ 0x01 ∷ 0x00 ∷ 0x00 ∷ 0x01 ∷ []) ≡ 0xf7 ∷ 0x94 ∷ []
unfolding tokens_of tokens_from token_at number_at rounded keep24 encode number_bytes integer_bytes fixed_bytes bytes_of
number_ff_01_00_00_01 = refl

-- ---- 'Corners in write.rs'

-- three local subroutines, the third reached: it is the first of one
abbrev third : ℕ → Option ℕ
third i = pick (eqb i 2) (Some 0) None

renumbered-third : renumber_charstring (λ b z. operand_of third (bias_of 3) (bias_of 1) z) (λ o. Own) (0x22 ∷ 0x0a ∷ 0x0e ∷ []) ≡ Some (0x20 ∷ 0x0a ∷ 0x0e ∷ [])
unfolding renumber_charstring renumber tokens_of tokens_from token_at number_at rounded keep24 encode number_bytes integer_bytes fixed_bytes bytes_of
renumbered-third = refl

-- DICT integers; 2147483647 is a real

dict_108 : written.number_bytes (normal false 108 0 0) ≡ 0xf7 ∷ 0x00 ∷ []
unfolding written.number_bytes int_bytes int5_bytes real_bytes packed real_text width_of width_in digits_of trunc_of normal stripped zeros zeros_of bytes_of
dict_108 = refl

dict_1131 : written.number_bytes (normal false 1131 0 0) ≡ 0xfa ∷ 0xff ∷ []
unfolding written.number_bytes int_bytes int5_bytes real_bytes packed real_text width_of width_in digits_of trunc_of normal stripped zeros zeros_of bytes_of
dict_1131 = refl

dict_1132 : written.number_bytes (normal false 1132 0 0) ≡ 0x1c ∷ 0x04 ∷ 0x6c ∷ []
unfolding written.number_bytes int_bytes int5_bytes real_bytes packed real_text width_of width_in digits_of trunc_of normal stripped zeros zeros_of bytes_of
dict_1132 = refl

dict-minus_1132 : written.number_bytes (normal true 1132 0 0) ≡ 0x1c ∷ 0xfb ∷ 0x94 ∷ []
unfolding written.number_bytes int_bytes int5_bytes real_bytes packed real_text width_of width_in digits_of trunc_of normal stripped zeros zeros_of bytes_of
dict-minus_1132 = refl

dict_2147483647 : written.number_bytes (normal false 2147483647 0 0) ≡ 0x1e ∷ 0x21 ∷ 0x47 ∷ 0x48 ∷ 0x36 ∷ 0x47 ∷ 0xff ∷ []
unfolding written.number_bytes int_bytes int5_bytes real_bytes packed real_text width_of width_in digits_of trunc_of normal stripped zeros zeros_of bytes_of
dict_2147483647 = refl

-- reals carry no exponent
real_thousandth : written.number_bytes (normal false 1 0 3) ≡ 0x1e ∷ 0x0a ∷ 0x00 ∷ 0x1f ∷ []
unfolding written.number_bytes int_bytes int5_bytes real_bytes packed real_text width_of width_in digits_of trunc_of normal stripped zeros zeros_of bytes_of
real_thousandth = refl

-- FDSelect format 3 of FDs 0 0 1
fd-select : fd_select_bytes (0 ∷ 0 ∷ 1 ∷ []) ≡ 0x03 ∷ 0x00 ∷ 0x02 ∷ 0x00 ∷ 0x00 ∷ 0x00 ∷ 0x00 ∷ 0x02 ∷ 0x01 ∷ 0x00 ∷ 0x03 ∷ []
unfolding fd_select_bytes entry_bytes changes bytes_of
fd-select = refl
