-- String ids of TN5176, section 10: 0 to 390 name the standard strings of Appendix A, the ids above them the font's own strings
-- in the order of its String INDEX. Document 01: ids above the font's strings name the empty string.
use Rattle.std.specs.Prelude.{ℕ, suc, ◌-◌, List, [], ◌∷◌, map, ltb, get_or, None, Option, Some}
use Rattle.octets.specs.Pick.{pick}
use Rattle.octets.specs.Lists.{joined}
use Rattle.strings.specs.Table.{standard_names}
use Rattle.strings.specs.Text.{codes, same_text_lem}

-- the standard strings in the order of their ids
unfoldable pub standard_strings : List (List ℕ)
standard_strings = map codes standard_names

-- the standard string of an id below 391
unfoldable pub standard_string : ℕ → List ℕ
standard_string k = get_or standard_strings k []

-- all standard strings one behind the other: the text that the code holds
unfoldable pub standard_text : List ℕ
standard_text = joined standard_strings

-- the text of a string id in a font with these own strings
unfoldable pub string_text : List (List ℕ) → ℕ → List ℕ
string_text own sid = pick (ltb sid 391) (standard_string sid) (get_or own (sid - 391) [])

-- the id of a text in a list of strings whose first has the id k
unfoldable pub sid_in : ℕ → List (List ℕ) → List ℕ → Option ℕ
sid_in k [] text = None
sid_in k (s ∷ ss) text = pick (same_text_lem s text) (Some k) (sid_in (suc k) ss text)

-- the id of a text among the standard strings
unfoldable pub sid_of : List ℕ → Option ℕ
sid_of text = sid_in 0 standard_strings text
