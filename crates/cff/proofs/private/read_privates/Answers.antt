-- `cff::private::read_privates` meets its contract: the FDs behind the one that is next have as many local subroutines as the whole has more than the total so far;
-- and what the table has was read.
use Rattle.std.proofs.Common.{arith, length, ◌<◌, ◌∙◌}
use Rattle.index.specs.Index.{items_of}
use Rattle.index.specs.IndexLaws.{items-length}
use Rattle.refusal.specs.HandedOn.{handed_on}
use Rattle.cff.specs.Reads.{ReadsLocals}
use Rattle.cff.specs.ReadsLaws.{adding_start, adding_refused, adding_more, adding_over}
use Rattle.cff.proofs.private.read_privates.Goals as goal

pub loop-k-init : goal.loop-k-init
loop-k-init c = (adding_start _ _, c.new-seen.ensures)

pub returns-in_err-l : goal.returns-in_err-l
returns-in_err-l c =
    let l = c.loop-k in
    handed_on _ _ (ReadsLocals _) c.from_residual.ensures.1
    (adding_refused _ _ _ _ l.invariant.0 (omega (arith, c.loop-k-test.true, items-length c.args.font.now c.args.dicts)) _ (rw c.font.view_is at c.item-d.ensures.0) _ (rw l.invariant.1 at c.in_err-l.ensures))

pub loop-k-preserved : goal.loop-k-preserved
loop-k-preserved c =
    let l = c.loop-k in
    let some : l.k < length (items_of c.args.font.now c.args.dicts) = omega (arith, c.loop-k-test.true, items-length c.args.font.now c.args.dicts) in
    (adding_more _ _ _ _ l.invariant.0 some _ (rw c.font.view_is at c.item-d.ensures.0) _ (rw l.invariant.1 at c.in_ok-l.ensures), c.note.ensures ∙ l.invariant.1)

pub returns : goal.returns
returns c =
    let n = items-length c.args.font.now c.args.dicts in
    adding_over _ _ _ _ c.loop-k.invariant.0 (omega (arith, c.loop-k-test.false)) (omega (arith, c.requires.few))
