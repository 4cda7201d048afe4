-- `top_dict::put_code_offsets` meets its contract: the one entry behind the other.
use Rattle.std.proofs.Common.{refl, ◌∙◌}
use Rattle.top_dict.specs.Writing.{split-room, writing_start, writing-turn, writing-left, writing-last}
use Rattle.top_dict.specs.TopParts.{code-parts}
use Rattle.top_dict.proofs.put_code_offsets.Goals as goal

pub put_offset_entry-requires : goal.put_offset_entry-requires
put_offset_entry-requires c = (refl, c.args.to.few.first, split-room _ _ c.requires (code-parts c.args.to.charset c.args.to.encoding))

pub put_encoding_entry-requires : goal.put_encoding_entry-requires
put_encoding_entry-requires c = (c.args.to.coded, writing-left c.requires (writing-turn c.requires (code-parts c.args.to.charset c.args.to.encoding) (writing_start _ _ _) c.put_offset_entry.ensures.wrote))

pub returns : goal.returns
returns c = record { wrote = writing-last c.requires (writing-turn c.requires (code-parts c.args.to.charset c.args.to.encoding) (writing_start _ _ _) c.put_offset_entry.ensures.wrote) c.put_encoding_entry.ensures.wrote; same = c.put_encoding_entry.ensures.same ∙ c.put_offset_entry.ensures.same; size = c.put_encoding_entry.ensures.size ∙ c.put_offset_entry.ensures.size }
