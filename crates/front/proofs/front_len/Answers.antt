-- `front::front_len` meets its contract: the length of each part, the header's 4 bytes among them.
use Rattle.std.proofs.Common.{rules}
use Rattle.own_strings.specs.IdsLaws.{given-long}
use Rattle.front.specs.FrontLaws.{small_font, ready_filled}
use Rattle.front.proofs.front_len.Goals as goal

pub read-top-requires : goal.read-top-requires
read-top-requires c = (search rules, given-long _ c.args.slots.now c.requires.1.given, ready_filled _ _ c.args.cid _ (small_font c.args.font.now c.requires.0) c.requires.1)
