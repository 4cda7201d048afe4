-- `put_token` meets its contract: each token by its constructor.
use Rattle.std.proofs.Common.{append_assoc}
use Rattle.charstring.specs.TokenLaws.{measurable_as}
use Rattle.charstring.specs.declared.Token.TheVariants.{Num, Op, Esc, Mask}
use Rattle.charstring_cases.specs.AnswersLaws.{token_put}
use Rattle.charstring_cases.proofs.put_token.Goals as goal

pub of-requires : goal.of-requires
of-requires c = measurable_as _ _ c.in-Num.is c.requires.0

pub returns-in-Num : goal.returns-in-Num
returns-in-Num c = token_put _ (Num _) c.in-Num.is _ (simp (c.put_count.ensures.0, c.of.ensures, c.byte.ensures.0, append_assoc))

pub returns-in-Op : goal.returns-in-Op
returns-in-Op c = token_put _ (Op _) c.in-Op.is _ (simp (c.byte-in-Op-2.ensures.0, c.byte-in-Op.ensures.0, append_assoc))

pub returns-in-Esc : goal.returns-in-Esc
returns-in-Esc c = token_put _ (Esc _) c.in-Esc.is _ (simp (c.byte-in-Esc-2.ensures.0, c.byte-in-Esc.ensures.0, append_assoc))

pub returns-in-Mask : goal.returns-in-Mask
returns-in-Mask c = token_put _ (Mask _ _) c.in-Mask.is _ (simp (c.num.ensures.0, c.num-in-Mask.ensures.0, c.byte-in-Mask.ensures.0, append_assoc))
