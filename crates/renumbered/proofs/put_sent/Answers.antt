-- `renumbered::put_sent` meets its contract: one part after the other.
use Rattle.std.proofs.Common.{arith, refl, subst, sym, ⊎_elim, ◌≡◌}
use Rattle.octets.specs.OutLaws.{writes_then, writes_as}
use Rattle.charstring.specs.Answers.{token_bytes}
use Rattle.charstring.specs.declared.Token.{Token}
use Rattle.charstring.specs.declared.Token.TheVariants.{Op, Esc, Mask}
use Rattle.renumber.specs.Turn.{own_bytes}
use Rattle.renumbered.proofs.put_sent.Goals as goal
use Rattle.renumbered.proofs.put_sent.Goals.{In-Op}

-- a token other than a number has its own bytes
own : (c : In-Op) → token_bytes c.args.code.now c.args.t ≡ own_bytes c.args.code.now c.args.t
own c = ⊎_elim (λ e. by (Op e.0) e.1 refl) (⊎_elim (λ e. by (Esc e.0) e.1 refl) (λ e. by (Mask e.0 e.1) e.2 refl)) c.in-Op.is
  where
    by : (u : Token) → c.args.t ≡ u → token_bytes c.args.code.now u ≡ own_bytes c.args.code.now u → token_bytes c.args.code.now c.args.t ≡ own_bytes c.args.code.now c.args.t
    by u e = subst (λ (x : Token). token_bytes c.args.code.now x ≡ own_bytes c.args.code.now x) (sym e)

pub returns-in-Op : goal.returns-in-Op
returns-in-Op c = writes_then (omega (arith, c.requires.1)) c.put_held.ensures (writes_as c.put_token.ensures (own (goal.at.returns-in-Op c).In-Op))
