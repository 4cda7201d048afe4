-- What the tracer for C answers (document 02, Wish 1), and what it leaves in all that is lent: the outcome of the call says it, with no room for the record
-- where fewer than two words are lent for the answer.
use Rattle.std.specs.Prelude.{ℕ, ◌≡◌, List, [], ◌∷◌, length, Result, Ok, Err}
use Rattle.refusal.specs.Refusal.{number_of}
use Rattle.refusal.specs.declared.Refusal.{Refusal}
use Rattle.traced.specs.Traced.{Traced, trace_of, traced_as, leaves_record}
use Rattle.traced.specs.declared.Recorded.{Recorded}
use Rattle.capi.specs.Capi.{Answer, refused, given, Answers}
use Rattle.capi.specs.Subset.{room_for}

-- the two words of a record: the flag and its length
abbrev pub traced_answer : Result Recorded Refusal → Answer
traced_answer (Err n) = refused (number_of n)
traced_answer (Ok t) = given (t.flag ∷ t.len ∷ [])

module _ (font keep out answer : List ℕ) where
  -- the outcome of a call to which this is lent
  abbrev pub trace_for : Traced
  trace_for = trace_of font keep (room_for (length answer) (length out))

  -- a call's number, and what was lent to it afterwards
  pub record AnswersTrace (out' answer' : List ℕ) (r : ℕ) : Type 0 where
    pub answers : Answers (traced_answer (traced_as trace_for)) answer answer' r
    pub output : out' ≡ leaves_record trace_for out
