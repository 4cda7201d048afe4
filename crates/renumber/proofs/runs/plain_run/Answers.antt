-- `renumber::runs::plain_run` meets its contract: a turn takes one plain token.
use Rattle.std.proofs.Common.{arith, false, sym, ◌+◌, ◌∙◌}
use Rattle.octets.specs.Octets.{Octets}
use Rattle.renumber.specs.Turn.{cursor}
use Rattle.renumber.specs.ShortLaws.{ShortAt, short-at}
use Rattle.renumber.specs.RunLaws.{Running, run_of, running_start, running_operator, running_number}
use Rattle.renumber.proofs.runs.plain_run.Goals as goal
use Rattle.renumber.proofs.runs.plain_run.Lts.View as view
use Rattle.renumber.proofs.runs.plain_run.Goals.{At-loop-at, Else-is_operator}

-- the body's bytes
bytes : (c : At-loop-at) → Octets c.args.code.now
bytes c i = (c.type_inv.code i).fits

pub loop-at-init : goal.loop-at-init
loop-at-init c = running_start _ _ _ _ c.requires

pub loop-at-preserved-then-is_operator : goal.loop-at-preserved-then-is_operator
loop-at-preserved-then-is_operator c = running_operator _ (bytes (goal.at.loop-at-preserved-then-is_operator c).At-loop-at) _ _ _ _ _ c.loop-at.invariant (omega arith) _ (sym c.in-Some.is ∙ c.plain_len.ensures) (sym c.is_operator.ensures ∙ c.if-is_operator.true) _ c.stems_after-stems.ensures

-- that number, and the run with it
short : (c : Else-is_operator) → ShortAt c.args.code.now c.loop-at.at (c.loop-at.at + c.in-Some.n)
short c =
    short-at _ _ (bytes (view.up-At-loop-at _ _ _ _ _ c.before.before.before.before.before.before.before.before.before)) (omega arith)
    (sym c.is_operator.ensures ∙ c.if-is_operator.false) _ (sym c.in-Some.is ∙ c.plain_len.ensures)

onward : (c : Else-is_operator)
    → Running c.args.code.now (cursor c.args.from c.args.args c.args.stems false)
    (run_of (c.loop-at.at + c.in-Some.n) c.loop-at.at (c.loop-at.args + 1) c.loop-at.stems)
onward c = running_number _ (bytes (view.up-At-loop-at _ _ _ _ _ c.before.before.before.before.before.before.before.before.before)) _ _ _ _ _ c.loop-at.invariant (omega arith) _ (sym c.in-Some.is ∙ c.plain_len.ensures) (sym c.is_operator.ensures ∙ c.if-is_operator.false)

pub overflow_add-at-in-loop-at : goal.overflow_add-at-in-loop-at
overflow_add-at-in-loop-at c = let m = onward c in omega (arith, m.run.inside)

pub overflow_add-args : goal.overflow_add-args
overflow_add-args c = let m = onward c in omega (arith, m.run.inside, m.within.counted)

pub loop-at-preserved : goal.loop-at-preserved
loop-at-preserved c = onward c

pub loop-at-smaller : goal.loop-at-smaller
loop-at-smaller c = let s = short c in omega (arith, s.further, s.inside)
