-- What `cff_blocking_glyph` answers (document 02, Wish 12), and what it leaves in all that is lent: the definition of the answer says it.
use Rattle.std.specs.Prelude.{ℕ, ◌≡◌, List, ◌++◌, length, drop, Option, Result}
use Rattle.octets.specs.Pick.{pick}
use Rattle.refusal.specs.declared.Refusal.{Refusal}
use Rattle.cff.specs.Font.{read_font}
use Rattle.subset.specs.Cut.{zeros}
use Rattle.culprit.specs.Culprit.{culprit_of, uses_lent, words_in}
use Rattle.capi.specs.Capi.{Answer, found_answer, Answers}

-- the word: as that of finding, the glyph, 65536 where there is none
abbrev pub culprit_answer : Result (Option ℕ) Refusal → Answer
culprit_answer c = found_answer c

-- a call's number, and what was lent to it before and after
pub record AnswersBlocking (font name keep work slice answer work' slice' answer' : List ℕ) (r : ℕ) : Type 0 where
  pub answers : Answers (culprit_answer (culprit_of font name keep (length work) (length slice))) answer answer' r
  pub words :
      work' ≡ pick (uses_lent font name keep (length work) (length slice)) (zeros (words_in (read_font font)) ++ drop (words_in (read_font font)) work) work
  pub bytes : slice' ≡ pick (uses_lent font name keep (length work) (length slice)) (zeros (length slice)) slice
