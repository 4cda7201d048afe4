-- `fds::mark_fds` meets its contract.
use Rattle.std.proofs.Common.{arith, ◌∙◌}
use Rattle.order_window.specs.Stays.{stays-then}
use Rattle.glyph_tables.specs.ReadLaws.{kept_fds_many, read-fd}
use Rattle.glyph_tables.specs.MarkLaws.{marked_next, marked_done}
use Rattle.glyph_tables.proofs.fds.mark_fds.Goals as goal

pub loop-i-preserved : goal.loop-i-preserved
loop-i-preserved c = (
  stays-then _ _ _ c.loop-i.invariant.0 c.word-g.ensures.2,
  marked_next _ _ _ _ c.loop-i.invariant.1 _ (omega (arith, kept_fds_many c.args.kept.now, c.loop-i-test.true))
      (c.fd_of-fd.ensures ∙ read-fd _ _ c.loop-i.invariant.0 _ c.loop-i-test.true _ c.word-g.ensures.0),
)

pub returns : goal.returns
returns c = (
  marked_done _ _ _ _ c.loop-i.invariant.1 (omega (arith, kept_fds_many c.args.kept.now, c.loop-i-test.false)),
  c.loop-i.invariant.0,
)
