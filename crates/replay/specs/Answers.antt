-- The answer to the input of a stored case (tools/oracle/README.md, 'Lines'; tools/compare/README.md, 'Stored cases' and 'Stored subsets'), by the crate that has its kind's letter; none for other letters.
use Rattle.std.specs.Prelude.{ℕ, List, None, Option}
use Rattle.octets.specs.Pick.{pick}
use Rattle.cases.specs.Tally.{is_one_of}
use Rattle.charstring_cases.specs.Answers.{kinds as charstringKinds, answer_to as charstringAnswer}
use Rattle.format_cases.specs.Answers.{kinds as formatKinds, answer_to as formatAnswer}
use Rattle.cff_cases.specs.CffCases.{kinds as cffKinds, cff_answer}
use Rattle.subset_cases.specs.SubsetCases.{kinds as subsetKinds, subset_answer}

unfoldable pub answer_to : ℕ → List ℕ → Option (List ℕ)
answer_to kind s =
    pick (is_one_of charstringKinds kind) (charstringAnswer kind s)
    (pick (is_one_of formatKinds kind) (formatAnswer kind s)
    (pick (is_one_of cffKinds kind) (cff_answer kind s)
    (pick (is_one_of subsetKinds kind) (subset_answer kind s) None)))
