-- `private_dicts::fd_private` meets its contract: the font was read, and with it the Private DICT of each FD.
use Rattle.private_dicts.specs.PrivatesLaws.{fd-within, fd-read, fd-answer, fd-one}
use Rattle.private_dicts.proofs.fd_private.Goals as goal

pub item-requires : goal.item-requires
item-requires c = let at = c.args.at.now in (at.font.good.parts.dicts.good, fd-within _ _ at.font.good _ at.there c.if-cid.true)

pub read_fd-requires : goal.read_fd-requires
read_fd-requires c = let at = c.args.at.now in (at.font.good.begun.some, fd-read _ _ at.font.good _ at.there c.if-cid.true _ c.item.ensures.0)

pub returns-then-cid : goal.returns-then-cid
returns-then-cid c = let at = c.args.at.now in fd-answer _ _ at.font.good _ at.there c.if-cid.true _ c.item.ensures.0 _ c.read_fd.ensures

pub returns : goal.returns
returns c = let at = c.args.at.now in fd-one _ _ at.font.good _ at.there c.if-cid.false
