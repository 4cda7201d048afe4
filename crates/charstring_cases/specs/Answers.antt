-- The answer to the input of a stored case of charstring.rs (tools/oracle/README.md, 'charstring'), by its kind.
use Rattle.std.specs.Prelude.{ℕ, true, false, List, [], ◌∷◌, eqb, None, Option}
use Rattle.octets.specs.Pick.{pick}
use Rattle.charstring_cases.specs.Numbers.{number_answer, integer_answer, fixed_answer, bias_answer}
use Rattle.charstring_cases.specs.Streams.{stream_answer}

-- the kinds' letters: n, i, f, t, e, b
abbrev pub kinds : List ℕ
kinds = 110 ∷ 105 ∷ 102 ∷ 116 ∷ 101 ∷ 98 ∷ []

-- by the kind's letter
unfoldable pub answer_to : ℕ → List ℕ → Option (List ℕ)
answer_to kind s =
    pick (eqb kind 110) (number_answer s)
    (pick (eqb kind 105) (integer_answer s)
    (pick (eqb kind 102) (fixed_answer s)
    (pick (eqb kind 116) (stream_answer true s)
    (pick (eqb kind 101) (stream_answer false s)
    (pick (eqb kind 98) (bias_answer s) None)))))
