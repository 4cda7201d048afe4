-- `short_charstrings::place_next` meets its contract: behind what is given, or from the first on.
use Rattle.std.proofs.Common.{ap, Ok, refl, sym, ◌∙◌}
use Rattle.short_charstrings.specs.AnswerLaws.{short-size, place-nothing, place-behind, place_refused}
use Rattle.short_charstrings.proofs.place_next.Goals as goal

pub returns-then-code-lt1 : goal.returns-then-code-lt1
returns-then-code-lt1 c = (ap Ok c.first_from.ensures.0 ∙ place-nothing _ c.if-code-lt1.true, c.first_from.ensures.1)

pub place_of-requires : goal.place_of-requires
place_of-requires c = (c.if-code-lt1.false, short-size _ (sym c.is_short.ensures ∙ c.if-is_short.true))

pub returns-then-is_short : goal.returns-then-is_short
returns-then-is_short c = (ap Ok c.first_from-then-is_short.ensures.0 ∙ place-behind _ c.if-code-lt1.false (sym c.is_short.ensures ∙ c.if-is_short.true) _ c.place_of.ensures.0, c.first_from-then-is_short.ensures.1)

pub returns : goal.returns
returns c = (place_refused _ c.if-code-lt1.false (sym c.is_short.ensures ∙ c.if-is_short.false), refl)
