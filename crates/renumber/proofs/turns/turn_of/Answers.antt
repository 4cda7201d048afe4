-- `renumber::turns::turn_of` meets its contract: the cases of `turn_of`.
use Rattle.std.proofs.Common.{sym, ◌∙◌}
use Rattle.renumber.specs.CodeLaws.{called-ranked, turn-called, turn_other, turn-num, turn-esc, turn-mask}
use Rattle.renumber.proofs.turns.turn_of.Goals as goal

pub invariant_of-of : goal.invariant_of-of
invariant_of-of c = record { ranked = called-ranked _ _ _ c.requires.0 c.requires.1 _ _ c.in-Op.is _ c.called-q.ensures }

pub returns-then-is_call : goal.returns-then-is_call
returns-then-is_call c =
    turn-called c.args.words.now c.args.locals c.args.globals c.args.h _ _ c.in-Op.is (sym c.is_call.ensures ∙ c.if-is_call.true) _ c.called-q.ensures _ c.call.ensures

pub returns-else-is_call : goal.returns-else-is_call
returns-else-is_call c =
    turn_other c.args.words.now c.args.locals c.args.globals c.args.h _ _ c.in-Op.is (sym c.is_call.ensures ∙ c.if-is_call.false)

pub returns-in-Num : goal.returns-in-Num
returns-in-Num c = turn-num c.args.words.now c.args.locals c.args.globals c.args.h _ _ c.in-Num.is

pub returns-in-Esc : goal.returns-in-Esc
returns-in-Esc c = turn-esc c.args.words.now c.args.locals c.args.globals c.args.h _ _ c.in-Esc.is

pub returns-in-Mask : goal.returns-in-Mask
returns-in-Mask c = turn-mask c.args.words.now c.args.locals c.args.globals c.args.h _ _ _ c.in-Mask.is
