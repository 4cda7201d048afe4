-- `top_dict::put_top_named` meets its contract: what is carried over, and then the offsets.
use Rattle.std.proofs.Common.{◌∙◌}
use Rattle.dict.specs.Held.{entries}
use Rattle.top_dict.specs.Writing.{split-room, writing_start, writing-turn, writing-left, writing-last}
use Rattle.top_dict.specs.TopParts.{top-named-parts}
use Rattle.top_dict.proofs.put_top_named.Goals as goal

pub carried-requires : goal.carried-requires
carried-requires c = split-room _ _ c.requires (top-named-parts (entries c.args.top.now.dict) c.args.top.now.slots.now c.args.to.charset c.args.to.encoding c.args.to.charstrings c.args.to.size c.args.to.private)

pub put_named_offsets-requires : goal.put_named_offsets-requires
put_named_offsets-requires c = writing-left c.requires (writing-turn c.requires (top-named-parts (entries c.args.top.now.dict) c.args.top.now.slots.now c.args.to.charset c.args.to.encoding c.args.to.charstrings c.args.to.size c.args.to.private) (writing_start _ _ _) c.carried.ensures.wrote)

pub returns : goal.returns
returns c = record { wrote = writing-last c.requires (writing-turn c.requires (top-named-parts (entries c.args.top.now.dict) c.args.top.now.slots.now c.args.to.charset c.args.to.encoding c.args.to.charstrings c.args.to.size c.args.to.private) (writing_start _ _ _) c.carried.ensures.wrote) c.put_named_offsets.ensures.wrote; same = c.put_named_offsets.ensures.same ∙ c.carried.ensures.same; size = c.put_named_offsets.ensures.size ∙ c.carried.ensures.size }
