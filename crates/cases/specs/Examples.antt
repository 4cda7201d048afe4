-- Worked examples: the lines of a text, lines that agree and lines that do not, and rows of a report.
use Rattle.std.specs.Prelude.{ℕ, ◌≡◌, refl, true, false, List, [], ◌∷◌, replicate, Some}
use Rattle.octets.specs.Lists.{before}
use Rattle.hexlines.specs.Hexlines.{hex_value_lem, octet_of, field_end_lem, is_hex_lem, spelt, hex_bytes, room_for}
use Rattle.strings.specs.Text.{same_text_lem}
use Rattle.cases.specs.Fields.{is_dash, field_bytes}
use Rattle.cases.specs.Lines.{Answering, lines_of, agrees}
use Rattle.cases.specs.Tally.{place_of, counted, counted_all, first_failed}
use Rattle.cases.specs.Report.{decimal}

-- the answer to an input is the input
abbrev echo : Answering
echo kind s = Some s

-- the lines of `a`, an empty line and `b`, the last without its line feed
pub three-lines : lines_of (97 ∷ 10 ∷ 10 ∷ 98 ∷ []) ≡ (97 ∷ []) ∷ [] ∷ (98 ∷ []) ∷ []
unfolding lines_of
three-lines = refl

-- `x 2a 2a`
abbrev agreeing : List ℕ
agreeing = 120 ∷ 32 ∷ 50 ∷ 97 ∷ 32 ∷ 50 ∷ 97 ∷ []

-- `y 2a 2b`
abbrev differing : List ℕ
differing = 121 ∷ 32 ∷ 50 ∷ 97 ∷ 32 ∷ 50 ∷ 98 ∷ []

-- `x 2a`, with no answer
abbrev unanswered : List ℕ
unanswered = 120 ∷ 32 ∷ 50 ∷ 97 ∷ []

-- `x - -`, an empty input with an empty answer
abbrev empty : List ℕ
empty = 120 ∷ 32 ∷ 45 ∷ 32 ∷ 45 ∷ []

pub lines-judged : (agrees echo agreeing ≡ true) × (agrees echo differing ≡ false) × (agrees echo unanswered ≡ false) × (agrees echo empty ≡ true)
unfolding agrees field_bytes is_dash same_text_lem hex_bytes is_hex_lem spelt octet_of hex_value_lem room_for field_end_lem before
lines-judged = (refl, refl, refl, refl)

-- three lines by the kinds x and y: one x agreed and one failed, one y failed; the second line is the first that failed
pub lines-counted : (counted_all (agrees echo) (120 ∷ 121 ∷ []) (replicate 6 0) (agreeing ∷ differing ∷ unanswered ∷ []) ≡ 1 ∷ 1 ∷ 0 ∷ 1 ∷ 0 ∷ 0 ∷ [])
    × (first_failed (agrees echo) 0 (agreeing ∷ differing ∷ unanswered ∷ []) ≡ Some 2)
unfolding counted_all counted place_of first_failed agrees field_bytes is_dash same_text_lem hex_bytes is_hex_lem spelt octet_of hex_value_lem room_for field_end_lem before
lines-counted = (refl, refl)

pub digits-of_4745 : decimal 20 4745 ≡ 52 ∷ 55 ∷ 52 ∷ 53 ∷ []
unfolding decimal
digits-of_4745 = refl
