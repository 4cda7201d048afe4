-- `short_charstrings::next_charstring` meets its contract: it is written where there is room for it.
use Rattle.std.proofs.Common.{ap, Ok, Option, Result, Some, ◌∙◌, ◌≡◌, ℕ}
use Rattle.refusal.specs.declared.Refusal.{Refusal}
use Rattle.refusal.specs.HandedOn.{handed_on}
use Rattle.short_charstrings.specs.Next.{next_of, Answers}
use Rattle.short_charstrings.specs.AnswerLaws.{answers_refused, answers_none, answers_room, answers_next}
use Rattle.short_charstrings.proofs.next_charstring.Goals as goal
use Rattle.short_charstrings.proofs.next_charstring.Goals.{In-Some}

-- where the next one is
at : (c : In-Some) → c.place_next.result ≡ Ok (Some c.in-Some.k)
at c = c.in_ok-place_next.was ∙ ap Ok c.in-Some.is

pub returns-in_err-place_next : goal.returns-in_err-place_next
returns-in_err-place_next c =
    handed_on _ _ (λ (r : Result (Option ℕ) Refusal). Answers (next_of c.args.code.now) c.args.out.now c.args.out.now r) c.from_residual.ensures.1
    (answers_refused _ _ _ c.place_next.ensures.0 _ c.in_err-place_next.was)

pub returns-then-out-size_of : goal.returns-then-out-size_of
returns-then-out-size_of c = answers_room _ _ _ c.place_next.ensures.0 _ (at (goal.at.returns-then-out-size_of c).In-Some) _ c.size_of.ensures c.if-out-size_of.true

pub returns-in-None : goal.returns-in-None
returns-in-None c = answers_none _ _ _ c.place_next.ensures.0 (c.in_ok-place_next.was ∙ ap Ok c.in-None.is)

pub returns-else-out-size_of : goal.returns-else-out-size_of
returns-else-out-size_of c =
    answers_next _ _ _ c.place_next.ensures.0 _ (at (goal.at.returns-else-out-size_of c).In-Some) _ c.size_of.ensures c.if-out-size_of.false _ _ c.put_candidate.ensures
