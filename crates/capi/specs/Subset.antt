-- What the entries of subsetting for C answer (document 01, 'Entries and their refusals'), and what they leave in all that is lent: the
-- outcome of the call says it, with no room where fewer than two words are lent for the answer.
use Rattle.std.specs.Prelude.{ℕ, ◌≡◌, Bool, List, [], ◌∷◌, ltb, length, Result, Ok, Err}
use Rattle.octets.specs.Pick.{pick}
use Rattle.refusal.specs.Refusal.{number_of}
use Rattle.refusal.specs.declared.Refusal.{Refusal}
use Rattle.cff.specs.Font.{Program, read_font}
use Rattle.subset.specs.Cut.{Outcome, cut_with, leaves_out, leaves_work}
use Rattle.faithful.specs.Faithful.{Faithful}
use Rattle.faithful.specs.Codes.{KeepsCodes}
use Rattle.outcome.specs.Entry.{answer_of, work_in}
use Rattle.outcome.specs.declared.Subsetted.{Subsetted}
use Rattle.capi.specs.Capi.{Answer, refused, given, Answers}
use Rattle.subset.specs.Way.{way_number}

-- the room for a subset, by the words that are lent for its answer: so 11, the last refusal, stands for too few of them too
abbrev pub room_for : ℕ → ℕ → ℕ
room_for words room = pick (ltb words 2) 0 room

-- the two words of a subset: the way and its length
abbrev pub cut_answer : Result Subsetted Refusal → Answer
cut_answer (Err n) = refused (number_of n)
cut_answer (Ok c) = given (way_number c.way ∷ c.len ∷ [])

module _ (size : Program → ℕ) (cid ask : Bool) (font name keep rec : List ℕ) (flag : ℕ) (work out answer : List ℕ) where
  -- the outcome of a call that asks for so many words, to which this is lent
  abbrev pub outcome_for : Outcome
  outcome_for = cut_with size cid ask font name keep rec flag (length work) (room_for (length answer) (length out))

  -- a call's number, and what was lent to it afterwards; demand 3, and the codes of a font whose encoding is asked for
  pub record AnswersCut (work' out' answer' : List ℕ) (r : ℕ) : Type 0 where
    pub answers : Answers (cut_answer (answer_of outcome_for)) answer answer' r
    pub output : out' ≡ leaves_out outcome_for out
    pub words : work' ≡ leaves_work outcome_for (work_in size (read_font font)) work
    pub faithful : Faithful font keep rec flag outcome_for
    pub codes : KeepsCodes ask font keep outcome_for
