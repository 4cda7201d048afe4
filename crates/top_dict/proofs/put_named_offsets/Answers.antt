-- `top_dict::put_named_offsets` meets its contract: the four entries, one behind the other.
use Rattle.std.proofs.Common.{refl, ◌∙◌}
use Rattle.top_dict.specs.Writing.{split-room, writing_start, writing-room, writing-turn, writing-left, writing-last}
use Rattle.top_dict.specs.TopParts.{named-parts, named-rest}
use Rattle.top_dict.proofs.put_named_offsets.Goals as goal

pub put_code_offsets-requires : goal.put_code_offsets-requires
put_code_offsets-requires c = split-room _ _ c.requires (named-parts c.args.to.charset c.args.to.encoding c.args.to.charstrings c.args.to.size c.args.to.private)

pub put_offset_entry-requires : goal.put_offset_entry-requires
put_offset_entry-requires c = (refl, c.args.to.few.second, writing-room c.requires (named-rest c.args.to.charstrings c.args.to.size c.args.to.private) (writing-turn c.requires (named-parts c.args.to.charset c.args.to.encoding c.args.to.charstrings c.args.to.size c.args.to.private) (writing_start _ _ _) c.put_code_offsets.ensures.wrote))

pub put_private_entry-requires : goal.put_private_entry-requires
put_private_entry-requires c = (c.args.to.few.third, c.args.to.few.fourth, writing-left c.requires (writing-turn c.requires (named-rest c.args.to.charstrings c.args.to.size c.args.to.private) (writing-turn c.requires (named-parts c.args.to.charset c.args.to.encoding c.args.to.charstrings c.args.to.size c.args.to.private) (writing_start _ _ _) c.put_code_offsets.ensures.wrote) c.put_offset_entry.ensures.wrote))

pub returns : goal.returns
returns c = record { wrote = writing-last c.requires (writing-turn c.requires (named-rest c.args.to.charstrings c.args.to.size c.args.to.private) (writing-turn c.requires (named-parts c.args.to.charset c.args.to.encoding c.args.to.charstrings c.args.to.size c.args.to.private) (writing_start _ _ _) c.put_code_offsets.ensures.wrote) c.put_offset_entry.ensures.wrote) c.put_private_entry.ensures.wrote; same = c.put_private_entry.ensures.same ∙ c.put_offset_entry.ensures.same ∙ c.put_code_offsets.ensures.same; size = c.put_private_entry.ensures.size ∙ c.put_offset_entry.ensures.size ∙ c.put_code_offsets.ensures.size }
