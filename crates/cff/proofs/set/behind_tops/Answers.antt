-- `cff::set::behind_tops` meets its contract: its INDEXes are read one behind the other, and then the counts are compared.
use Rattle.refusal.specs.HandedOn.{handed_on}
use Rattle.cff.specs.Reads.{ReadsFont}
use Rattle.cff.specs.SetLaws.{counts_same, strings-bad, globals-bad, counts_differ}
use Rattle.cff.proofs.set.behind_tops.Goals as goal

pub returns-in_err-strings : goal.returns-in_err-strings
returns-in_err-strings c = handed_on _ _ (ReadsFont _ _) c.from_residual.ensures.1 (strings-bad c.args.font.now c.args.names c.args.tops _ (rw c.font.view_is at c.in_err-strings.ensures.0))

pub returns-in_err-globals : goal.returns-in_err-globals
returns-in_err-globals c = handed_on _ _ (ReadsFont _ _) c.from_residual-in_err-globals.ensures.1 (globals-bad c.args.font.now c.args.names c.args.tops _ (rw c.font.view_is at c.in_ok-strings.ensures.0) _ (rw c.font.view_is at c.in_err-globals.ensures.0))

pub returns-then-names-tops : goal.returns-then-names-tops
returns-then-names-tops c = counts_same c.args.font.now c.args.names c.args.tops _ (rw c.font.view_is at c.in_ok-strings.ensures.0) _ (rw c.font.view_is at c.in_ok-globals.ensures.0) c.if-names-tops.true c.read_set.result (rw c.font.view_is at c.read_set.ensures)

pub returns : goal.returns
returns c = counts_differ c.args.font.now c.args.names c.args.tops _ (rw c.font.view_is at c.in_ok-strings.ensures.0) _ (rw c.font.view_is at c.in_ok-globals.ensures.0) c.if-names-tops.false
