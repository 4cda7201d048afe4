-- The answer by the code's tests of a kind's letter.
use Rattle.std.specs.Prelude.{ℕ, ◌≡◌, true, false, List, None}
use Rattle.cases.specs.Tally.{is_one_of}
use Rattle.charstring_cases.specs.Answers.{kinds as charstringKinds, answer_to as charstringAnswer}
use Rattle.format_cases.specs.Answers.{kinds as formatKinds, answer_to as formatAnswer}
use Rattle.cff_cases.specs.CffCases.{kinds as cffKinds, cff_answer}
use Rattle.subset_cases.specs.SubsetCases.{kinds as subsetKinds, subset_answer}
use Rattle.replay.specs.Answers.{answer_to}

module _ (kind : ℕ) (s : List ℕ) where
  pub answer_charstring : is_one_of charstringKinds kind ≡ true → answer_to kind s ≡ charstringAnswer kind s
  unfolding answer_to
  answer_charstring e = rw e

  module _ (n : is_one_of charstringKinds kind ≡ false) where
    pub answer-format : is_one_of formatKinds kind ≡ true → answer_to kind s ≡ formatAnswer kind s
    unfolding answer_to
    answer-format e = rw (n, e)

    module _ (m : is_one_of formatKinds kind ≡ false) where
      pub answer_cff : is_one_of cffKinds kind ≡ true → answer_to kind s ≡ cff_answer kind s
      unfolding answer_to
      answer_cff e = rw (n, m, e)

      module _ (l : is_one_of cffKinds kind ≡ false) where
        pub answer-subset : is_one_of subsetKinds kind ≡ true → answer_to kind s ≡ subset_answer kind s
        unfolding answer_to
        answer-subset e = rw (n, m, l, e)

        pub answer-none : is_one_of subsetKinds kind ≡ false → answer_to kind s ≡ None
        unfolding answer_to
        answer-none e = rw (n, m, l, e)
