-- `encode` meets its contract: by the request.
use Rattle.std.proofs.Common.{ap, length, length-take-le, ◌∙◌}
use Rattle.order_window.specs.Stays.{stays-refl}
use Rattle.encoding.specs.EncodedLaws.{asked_for, encodes_front, not_asked_for}
use Rattle.encoding.specs.IdLaws.{past_first, past_front}
use Rattle.encoding.proofs.encode.Goals as goal

pub returns-then-ask : goal.returns-then-ask
returns-then-ask c =
    let e = c.encode_asked.ensures in
    (asked_for _ _ _ _ c.if-ask.true (encodes_front _ _ _ _ e.2 e.0), e.1, λ l. past_front _ _ _ e.2 (e.3 (past_first c.args.table.now _ _ c.in-Some.ensures.cases.same l)))

pub returns : goal.returns
returns c =
    let same = c.in-Some.ensures.cases.same in
    (not_asked_for _ _ _ c.if-ask.false, stays-refl _, λ l. past_front _ _ _ (ap length same ∙ length-take-le 256 c.args.table.now c.requires.1) (past_first c.args.table.now _ _ same l))
