-- `top_dict::put_cid_offsets` meets its contract: the four entries, one behind the other.
use Rattle.std.proofs.Common.{refl, ◌∙◌}
use Rattle.top_dict.specs.Writing.{split-room, writing_start, writing-room, writing-turn, writing-left, writing-last}
use Rattle.top_dict.specs.TopParts.{cid-parts, cid_rest}
use Rattle.top_dict.proofs.put_cid_offsets.Goals as goal

pub put_glyph_offsets-requires : goal.put_glyph_offsets-requires
put_glyph_offsets-requires c = split-room _ _ c.requires (cid-parts c.args.to.charset c.args.to.select c.args.to.glyphs c.args.to.dicts)

pub put_offset_entry-requires : goal.put_offset_entry-requires
put_offset_entry-requires c = (refl, c.args.to.few.third, writing-room c.requires (cid_rest c.args.to.glyphs c.args.to.dicts) (writing-turn c.requires (cid-parts c.args.to.charset c.args.to.select c.args.to.glyphs c.args.to.dicts) (writing_start _ _ _) c.put_glyph_offsets.ensures.wrote))

pub put_offset_entry-requires-2 : goal.put_offset_entry-requires-2
put_offset_entry-requires-2 c = (refl, c.args.to.few.fourth, writing-left c.requires (writing-turn c.requires (cid_rest c.args.to.glyphs c.args.to.dicts) (writing-turn c.requires (cid-parts c.args.to.charset c.args.to.select c.args.to.glyphs c.args.to.dicts) (writing_start _ _ _) c.put_glyph_offsets.ensures.wrote) c.put_offset_entry.ensures.wrote))

pub returns : goal.returns
returns c = record { wrote = writing-last c.requires (writing-turn c.requires (cid_rest c.args.to.glyphs c.args.to.dicts) (writing-turn c.requires (cid-parts c.args.to.charset c.args.to.select c.args.to.glyphs c.args.to.dicts) (writing_start _ _ _) c.put_glyph_offsets.ensures.wrote) c.put_offset_entry.ensures.wrote) c.put_offset_entry-2.ensures.wrote; same = c.put_offset_entry-2.ensures.same ∙ c.put_offset_entry.ensures.same ∙ c.put_glyph_offsets.ensures.same; size = c.put_offset_entry-2.ensures.size ∙ c.put_offset_entry.ensures.size ∙ c.put_glyph_offsets.ensures.size }
