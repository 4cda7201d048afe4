-- `top_dict::put_cid_index` meets its contract: what stands before the item, and then the top DICT, whose length was measured.
use Rattle.std.proofs.Common.{subst, sym, ℕ, ◌<◌, ◌∙◌}
use Rattle.dict.specs.Held.{entries}
use Rattle.top_dict.specs.Writing.{split-room, writing_start, writing-turn, writing-left, writing-last}
use Rattle.top_dict.specs.TopParts.{single-parts}
use Rattle.top_dict.specs.TopLaws.{cid_measured}
use Rattle.top_dict.specs.Top.{top_cid}
use Rattle.top_dict.proofs.put_cid_index.Goals as goal

pub put_single_head-requires : goal.put_single_head-requires
put_single_head-requires c = (subst (λ (n : ℕ). n < 4294967295) (sym c.top_len-n.ensures.0) c.requires.0, split-room _ _ c.requires.1 (single-parts _ (top_cid (entries c.args.top.now.dict) c.args.top.now.slots.now c.args.to.charset c.args.to.select c.args.to.glyphs c.args.to.dicts) (c.top_len-n.ensures.0 ∙ cid_measured (entries c.args.top.now.dict) c.args.top.now.slots.now 0 c.args.to.charset c.args.to.select c.args.to.glyphs c.args.to.dicts)))

pub put_top_cid-requires : goal.put_top_cid-requires
put_top_cid-requires c = writing-left c.requires.1 (writing-turn c.requires.1 (single-parts _ (top_cid (entries c.args.top.now.dict) c.args.top.now.slots.now c.args.to.charset c.args.to.select c.args.to.glyphs c.args.to.dicts) (c.top_len-n.ensures.0 ∙ cid_measured (entries c.args.top.now.dict) c.args.top.now.slots.now 0 c.args.to.charset c.args.to.select c.args.to.glyphs c.args.to.dicts)) (writing_start _ _ _) c.put_single_head.ensures.wrote)

pub returns : goal.returns
returns c = record { wrote = writing-last c.requires.1 (writing-turn c.requires.1 (single-parts _ (top_cid (entries c.args.top.now.dict) c.args.top.now.slots.now c.args.to.charset c.args.to.select c.args.to.glyphs c.args.to.dicts) (c.top_len-n.ensures.0 ∙ cid_measured (entries c.args.top.now.dict) c.args.top.now.slots.now 0 c.args.to.charset c.args.to.select c.args.to.glyphs c.args.to.dicts)) (writing_start _ _ _) c.put_single_head.ensures.wrote) c.put_top_cid.ensures.wrote; same = c.put_top_cid.ensures.same ∙ c.put_single_head.ensures.same; size = c.put_top_cid.ensures.size ∙ c.put_single_head.ensures.size }
