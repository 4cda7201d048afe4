-- `checker::check` meets its contract: a font that is refused, or one that is read.
use Rattle.std.proofs.Common.{arith, Err, ◌≡◌, ◌∙◌}
use Rattle.cff.specs.SetLaws.{opens_not}
use Rattle.checker.specs.CheckLaws.{check-unread}
use Rattle.checker.proofs.check.Goals as goal

pub returns-in_err-read : goal.returns-in_err-read
returns-in_err-read c =
    let e : c.from_residual.result ≡ Err c.in_err-read.field-0.0 = grind arith in
    e ∙ check-unread c.args.font.now c.args.keep.now c.args.rows.now _ (opens_not c.args.font.now _ c.read.ensures _ c.in_err-read.was)
