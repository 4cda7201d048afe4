-- `top_dict::put_glyph_offsets` meets its contract: the one offset behind the other.
use Rattle.std.proofs.Common.{refl, ◌∙◌}
use Rattle.top_dict.specs.Writing.{split-room, writing_start, writing-turn, writing-left, writing-last}
use Rattle.top_dict.specs.TopParts.{glyph_parts}
use Rattle.top_dict.proofs.put_glyph_offsets.Goals as goal

pub put_offset_entry-requires : goal.put_offset_entry-requires
put_offset_entry-requires c = (refl, c.args.to.few.first, split-room _ _ c.requires (glyph_parts c.args.to.charset c.args.to.select))

pub put_offset_entry-requires-2 : goal.put_offset_entry-requires-2
put_offset_entry-requires-2 c = (refl, c.args.to.few.second, writing-left c.requires (writing-turn c.requires (glyph_parts c.args.to.charset c.args.to.select) (writing_start _ _ _) c.put_offset_entry.ensures.wrote))

pub returns : goal.returns
returns c = record { wrote = writing-last c.requires (writing-turn c.requires (glyph_parts c.args.to.charset c.args.to.select) (writing_start _ _ _) c.put_offset_entry.ensures.wrote) c.put_offset_entry-2.ensures.wrote; same = c.put_offset_entry-2.ensures.same ∙ c.put_offset_entry.ensures.same; size = c.put_offset_entry-2.ensures.size ∙ c.put_offset_entry.ensures.size }
