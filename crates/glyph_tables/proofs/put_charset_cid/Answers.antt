-- `put_charset_cid` meets its contract.
use Rattle.std.proofs.Common.{arith}
use Rattle.order_window.specs.Stays.{stays-refl, stays-then}
use Rattle.glyph_tables.specs.Tables.{cids_kept}
use Rattle.glyph_tables.specs.ReadLaws.{kept-cids_many, read_cid}
use Rattle.glyph_tables.specs.PartLaws.{charset-first, charset-start, charset-space, charset-next, charset_done}
use Rattle.glyph_tables.proofs.put_charset_cid.Goals as goal

pub byte-requires : goal.byte-requires
byte-requires c = charset-first c.args.out.now (cids_kept c.args.kept.now) c.requires

pub loop-i-init : goal.loop-i-init
loop-i-init c = (stays-refl _, charset-start _ _ c.requires c.byte.ensures)

pub num-requires : goal.num-requires
num-requires c =
    charset-space _ _ c.requires c.loop-i.invariant.1 (omega (arith, kept-cids_many c.args.kept.now, c.loop-i-test.true))

pub loop-i-preserved : goal.loop-i-preserved
loop-i-preserved c = (
  stays-then _ _ _ c.loop-i.invariant.0 c.word-id.ensures.2,
  charset-next _ _ c.requires c.loop-i.invariant.1 (omega (arith, kept-cids_many c.args.kept.now, c.loop-i-test.true))
      (read_cid _ _ c.loop-i.invariant.0 _ c.loop-i-test.true _ c.word-id.ensures.0) c.num.ensures,
)

pub returns : goal.returns
returns c = (
  charset_done _ _ c.requires c.loop-i.invariant.1 (omega (arith, kept-cids_many c.args.kept.now, c.loop-i-test.false)),
  c.loop-i.invariant.0,
)
