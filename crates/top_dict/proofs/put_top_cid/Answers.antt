-- `top_dict::put_top_cid` meets its contract: what stands before the offsets, and then they.
use Rattle.std.proofs.Common.{◌∙◌}
use Rattle.dict.specs.Held.{entries}
use Rattle.top_dict.specs.Writing.{split-room, writing_start, writing-turn, writing-left, writing-last}
use Rattle.top_dict.specs.TopParts.{top_cid_parts}
use Rattle.top_dict.proofs.put_top_cid.Goals as goal

pub cid_front-requires : goal.cid_front-requires
cid_front-requires c = split-room _ _ c.requires (top_cid_parts (entries c.args.top.now.dict) c.args.top.now.slots.now c.args.to.charset c.args.to.select c.args.to.glyphs c.args.to.dicts)

pub put_cid_offsets-requires : goal.put_cid_offsets-requires
put_cid_offsets-requires c = writing-left c.requires (writing-turn c.requires (top_cid_parts (entries c.args.top.now.dict) c.args.top.now.slots.now c.args.to.charset c.args.to.select c.args.to.glyphs c.args.to.dicts) (writing_start _ _ _) c.cid_front.ensures.wrote)

pub returns : goal.returns
returns c = record { wrote = writing-last c.requires (writing-turn c.requires (top_cid_parts (entries c.args.top.now.dict) c.args.top.now.slots.now c.args.to.charset c.args.to.select c.args.to.glyphs c.args.to.dicts) (writing_start _ _ _) c.cid_front.ensures.wrote) c.put_cid_offsets.ensures.wrote; same = c.put_cid_offsets.ensures.same ∙ c.cid_front.ensures.same; size = c.put_cid_offsets.ensures.size ∙ c.cid_front.ensures.size }
