-- `cff::set::set_at` meets its contract: the names and the top DICTs are read one behind the other.
use Rattle.refusal.specs.HandedOn.{handed_on}
use Rattle.cff.specs.Reads.{ReadsFont}
use Rattle.cff.specs.SetLaws.{names-bad, tops_bad, tops_read}
use Rattle.cff.proofs.set.set_at.Goals as goal

pub returns-in_err-names : goal.returns-in_err-names
returns-in_err-names c = handed_on _ _ (ReadsFont _ _) c.from_residual.ensures.1 (names-bad c.args.font.now c.args.at _ (rw c.font.view_is at c.in_err-names.ensures.0))

pub returns-in_err-tops : goal.returns-in_err-tops
returns-in_err-tops c = handed_on _ _ (ReadsFont _ _) c.from_residual-in_err-tops.ensures.1 (tops_bad c.args.font.now c.args.at _ (rw c.font.view_is at c.in_ok-names.ensures.0) _ (rw c.font.view_is at c.in_err-tops.ensures.0))

pub returns : goal.returns
returns c = tops_read c.args.font.now c.args.at _ (rw c.font.view_is at c.in_ok-names.ensures.0) _ (rw c.font.view_is at c.in_ok-tops.ensures.0) c.behind_tops.result c.behind_tops.ensures
