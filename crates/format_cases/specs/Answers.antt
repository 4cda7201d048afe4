-- The answer to the input of a stored case of the format's parts (tools/oracle/README.md, 'format'), by its kind.
use Rattle.std.specs.Prelude.{ℕ, List, [], ◌∷◌, eqb, None, Option}
use Rattle.octets.specs.Pick.{pick}
use Rattle.format_cases.specs.Indexes.{index_answer}
use Rattle.format_cases.specs.Dicts.{dict_answer, number_answer}
use Rattle.format_cases.specs.Glyphs.{charset_answer, fd_select_answer}

-- the kinds' letters: x, d, w, c, s
abbrev pub kinds : List ℕ
kinds = 120 ∷ 100 ∷ 119 ∷ 99 ∷ 115 ∷ []

-- by the kind's letter
unfoldable pub answer_to : ℕ → List ℕ → Option (List ℕ)
answer_to kind s =
    pick (eqb kind 120) (index_answer s)
    (pick (eqb kind 100) (dict_answer s)
    (pick (eqb kind 119) (number_answer s)
    (pick (eqb kind 99) (charset_answer s)
    (pick (eqb kind 115) (fd_select_answer s) None))))
