-- One worked case of each kind (tools/oracle/README.md, 'format').
use Rattle.std.specs.Prelude.{◌≡◌, refl, [], ◌∷◌, None, Some}
use Rattle.octets.specs.Octets.{be, num_at, bytes_of}
use Rattle.index.specs.Index.{index_at, table_at, data_at, judged, run_of, offsets}
use Rattle.index.specs.Write.{table_bytes}
use Rattle.decimal.specs.Decimal.{zeros_of, zeros, stripped, normal}
use Rattle.decimal.specs.Number.{real_at, number_at}
use Rattle.decimal.specs.Real.{nibbles, text_of, exp_digits, exponent, mantissa, form_of, value_of}
use Rattle.decimal.specs.Values.{trunc_of}
use Rattle.decimal.specs.Written.{int_bytes, number_bytes}
use Rattle.dict.specs.Dict.{operator_at, token_at, entry_from, entry_at, readings_from, readings_at, gathered, dict_of}
use Rattle.charset.specs.Charset.{ids_from, charset_at}
use Rattle.charset.specs.FdSelect.{fd_select_at}
use Rattle.format_cases.specs.Indexes.{item_bytes, items_bytes, head_bytes, index_answer}
use Rattle.format_cases.specs.Dicts.{decimal_bytes, operands_bytes, entry_bytes, entries_bytes, dict_answer, decimal_at, is_decimal, number_answer}
use Rattle.format_cases.specs.Glyphs.{charset_answer, fd_select_answer}

-- kind x: an INDEX of one item of one byte, at 0; it ends at 6, and the item is byte 5
pub one-item : index_answer (0 ∷ 0 ∷ 0 ∷ 1 ∷ 1 ∷ 1 ∷ 2 ∷ 65 ∷ []) ≡ Some (0 ∷ 0 ∷ 0 ∷ 0 ∷ 6 ∷ 0 ∷ 1 ∷ 0 ∷ 0 ∷ 0 ∷ 5 ∷ 0 ∷ 1 ∷ [])
unfolding index_answer index_at table_at data_at judged run_of offsets be num_at bytes_of item_bytes items_bytes head_bytes
one-item = refl

-- kind x: a count alone is no position and font
pub no_position : index_answer (0 ∷ []) ≡ None
unfolding index_answer
no_position = refl

-- kind d: CharStrings at 1
pub one_entry : dict_answer (140 ∷ 17 ∷ []) ≡ Some (0 ∷ 0 ∷ 17 ∷ 1 ∷ 0 ∷ 0 ∷ 0 ∷ 0 ∷ 0 ∷ 0 ∷ 0 ∷ 0 ∷ 1 ∷ 0 ∷ 0 ∷ [])
unfolding be num_at bytes_of zeros_of zeros stripped normal nibbles text_of exp_digits exponent mantissa form_of value_of real_at number_at
    operator_at token_at entry_from entry_at readings_from readings_at gathered dict_of decimal_bytes operands_bytes entry_bytes entries_bytes dict_answer
one_entry = refl

-- kind w: 108 is `f7 00`; 10 with a power of ten 0 is not as it is written in a case
pub number_108 : number_answer (0 ∷ 0 ∷ 0 ∷ 0 ∷ 0 ∷ 0 ∷ 0 ∷ 0 ∷ 108 ∷ 0 ∷ 0 ∷ []) ≡ Some (247 ∷ 0 ∷ [])
unfolding number_answer decimal_at is_decimal be num_at trunc_of int_bytes number_bytes
number_108 = refl

pub number_10 : number_answer (0 ∷ 0 ∷ 0 ∷ 0 ∷ 0 ∷ 0 ∷ 0 ∷ 0 ∷ 10 ∷ 0 ∷ 0 ∷ []) ≡ None
unfolding number_answer decimal_at is_decimal be num_at
number_10 = refl

-- kind c: format 0, two glyphs, the second with id 258
pub one_id : charset_answer (0 ∷ 0 ∷ 0 ∷ 2 ∷ 0 ∷ 1 ∷ 2 ∷ []) ≡ Some (0 ∷ 0 ∷ 0 ∷ 1 ∷ 2 ∷ [])
unfolding charset_answer charset_at ids_from be num_at bytes_of table_bytes
one_id = refl

-- kind s: format 0 of two glyphs
pub two_fds : fd_select_answer (0 ∷ 0 ∷ 0 ∷ 2 ∷ 0 ∷ 3 ∷ 4 ∷ []) ≡ Some (0 ∷ 3 ∷ 4 ∷ [])
unfolding fd_select_answer fd_select_at be num_at bytes_of table_bytes
two_fds = refl
