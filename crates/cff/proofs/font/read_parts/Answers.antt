-- `cff::font::read_parts` meets its contract: each keying has its own steps.
use Rattle.dict.specs.Held.{entries}
use Rattle.cff.specs.FontLaws.{by-cid, by_name}
use Rattle.cff.proofs.font.read_parts.Goals as goal

pub returns-then-cid : goal.returns-then-cid
returns-then-cid c = by-cid c.args.font.now (entries c.args.d.now) c.args.n c.cid_parts.result c.args.cid c.if-cid.true c.cid_parts.ensures

pub returns : goal.returns
returns c = by_name c.args.font.now (entries c.args.d.now) c.args.n c.name_parts.result c.args.cid c.if-cid.false c.name_parts.ensures
