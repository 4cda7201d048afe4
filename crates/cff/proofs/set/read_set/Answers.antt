-- `cff::set::read_set` meets its contract: the first font is read, and a set of none is malformed.
use Rattle.std.proofs.Common.{arith}
use Rattle.index.specs.Index.{items_of}
use Rattle.index.specs.IndexLaws.{items-length}
use Rattle.refusal.specs.HandedOn.{handed_on}
use Rattle.cff.specs.Reads.{ReadsFont}
use Rattle.cff.specs.SetLaws.{reading-none, reading-first-bad}
use Rattle.cff.proofs.set.read_set.Goals as goal

pub returns-then-n-eq0 : goal.returns-then-n-eq0
returns-then-n-eq0 c = reading-none c.args.font.now c.args.strings c.args.globals (items_of c.args.font.now c.args.tops) (omega (arith, c.if-n-eq0.true, items-length c.args.font.now c.args.tops))

pub returns-in_err-first : goal.returns-in_err-first
returns-in_err-first c =
    handed_on _ _ (ReadsFont _ _) c.from_residual.ensures.1 (reading-first-bad c.args.font.now c.args.strings c.args.globals (items_of c.args.font.now c.args.tops) (omega (arith, c.if-n-eq0.false, items-length c.args.font.now c.args.tops)) _ c.in_err-first.ensures)
