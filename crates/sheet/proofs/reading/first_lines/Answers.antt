-- `reading::first_lines` meets its contract: one line after the other, or too few.
use Rattle.std.proofs.Common.{ap, arith, List, length, sym, ℕ, ◌∙◌, ◌∷◌}
use Rattle.sheet.specs.Reading.{HeadIs}
use Rattle.sheet.specs.ReadingLaws.{head-none}
use Rattle.sheet.proofs.reading.first_lines.Goals as goal

pub returns-in_err-font : goal.returns-in_err-font
returns-in_err-font c = head-none _ _ c.from_residual.ensures (omega (arith, ap length c.of-lines.ensures, ap length c.in_err-font.ensures.steps.0))

pub returns-in_err-name : goal.returns-in_err-name
returns-in_err-name c =
    head-none _ _ c.from_residual-in_err-name.ensures (omega (arith, ap length c.of-lines.ensures, ap length c.in_ok-font.ensures.steps, ap length c.in_err-name.ensures.steps.0))

pub returns-in_err-keep : goal.returns-in_err-keep
returns-in_err-keep c =
    head-none _ _ c.from_residual-in_err-keep.ensures
    (omega (arith, ap length c.of-lines.ensures, ap length c.in_ok-font.ensures.steps, ap length c.in_ok-name.ensures.steps, ap length c.in_err-keep.ensures.steps.0))

pub returns-in_err-flag : goal.returns-in_err-flag
returns-in_err-flag c =
    head-none _ _ c.from_residual-in_err-flag.ensures
    (omega (arith, ap length c.of-lines.ensures, ap length c.in_ok-font.ensures.steps, ap length c.in_ok-name.ensures.steps, ap length c.in_ok-keep.ensures.steps, ap length c.in_err-flag.ensures.steps.0))

pub returns : goal.returns
unfolding HeadIs
returns c = sym c.of-lines.ensures ∙ rw (c.in_ok-font.ensures.steps, c.in_ok-name.ensures.steps, c.in_ok-keep.ensures.steps, c.in_ok-flag.ensures.steps)
