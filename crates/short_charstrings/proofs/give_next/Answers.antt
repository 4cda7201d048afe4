-- `short_charstrings::give_next` meets its contract: it and its length are written where there is room for both.
use Rattle.std.proofs.Common.{ap, Ok, Result, Some, ◌∙◌, ◌≡◌}
use Rattle.refusal.specs.declared.Refusal.{Refusal}
use Rattle.refusal.specs.HandedOn.{handed_on}
use Rattle.short_charstrings.specs.Next.{next_of, Gives}
use Rattle.short_charstrings.specs.AnswerLaws.{gives_refused, gives_no_word, gives_none, gives_no_room, gives_room-only, gives_next}
use Rattle.short_charstrings.proofs.give_next.Goals as goal
use Rattle.short_charstrings.proofs.give_next.Goals.{In-Some}

-- where the next one is
at : (c : In-Some) → c.place_next.result ≡ Ok (Some c.in-Some.k)
at c = c.in_ok-place_next.was ∙ ap Ok c.in-Some.is

pub returns-in_err-place_next : goal.returns-in_err-place_next
returns-in_err-place_next c =
    handed_on _ _ (λ (r : Result Unit Refusal). Gives (next_of c.args.code.now) c.args.out.now c.args.out.now c.args.size.now c.args.size.now r) c.from_residual.ensures.1
    (gives_refused _ _ _ c.place_next.ensures.0 _ _ c.in_err-place_next.was)

pub returns-then-size-lt1 : goal.returns-then-size-lt1
returns-then-size-lt1 c = gives_no_word _ _ _ c.place_next.ensures.0 _ (c.in_ok-place_next.was ∙ ap Ok c.in-None.is) c.if-size-lt1.true

pub returns-then-out-size_of : goal.returns-then-out-size_of
returns-then-out-size_of c =
    gives_no_room _ _ _ c.place_next.ensures.0 _ _ (at (goal.at.returns-then-out-size_of c).In-Some) _ c.size_of.ensures c.if-out-size_of.true

pub returns-then-size-lt1-2 : goal.returns-then-size-lt1-2
returns-then-size-lt1-2 c =
    gives_room-only _ _ _ c.place_next.ensures.0 _ _ (at (goal.at.returns-then-size-lt1-2 c).In-Some) _ c.size_of.ensures c.if-out-size_of.false c.if-size-lt1-2.true

pub returns-else-size-lt1 : goal.returns-else-size-lt1
returns-else-size-lt1 c = gives_none _ _ _ c.place_next.ensures.0 _ (c.in_ok-place_next.was ∙ ap Ok c.in-None.is) c.if-size-lt1.false

pub returns-else-size-lt1-2 : goal.returns-else-size-lt1-2
returns-else-size-lt1-2 c =
    gives_next _ _ _ c.place_next.ensures.0 _ _ (at (goal.at.returns-else-size-lt1-2 c).In-Some) _ c.size_of.ensures c.if-out-size_of.false c.if-size-lt1-2.false
    _ _ c.put_candidate-n.ensures
