-- `top_dict::put_single_head` meets its contract: the head, and then the offset of the item's end.
use Rattle.std.proofs.Common.{ap, arith, length, ℕ, ◌+◌, ◌∙◌}
use Rattle.octets.specs.PutLaws.{wrote_as}
use Rattle.octets.specs.Octets.{bytes_of}
use Rattle.octets.specs.OctetsLaws.{length-bytes}
use Rattle.top_dict.specs.Writing.{split-room, writing_start, writing-turn, writing-left, writing-last}
use Rattle.top_dict.specs.TopParts.{head-parts}
use Rattle.top_dict.proofs.put_single_head.Goals as goal

pub put_head-requires : goal.put_head-requires
put_head-requires c = (c.requires.0, split-room _ _ c.requires.1 (head-parts c.args.n))

pub num-requires : goal.num-requires
num-requires c = let w = writing-left c.requires.1 (writing-turn c.requires.1 (head-parts c.args.n) (writing_start _ _ _) c.put_head.ensures.wrote) in omega (arith, w, c.offset_size.ensures, length-bytes c.offset_size.result (c.args.n + 1), ap (λ (z : ℕ). length (bytes_of z (c.args.n + 1))) c.offset_size.ensures)

pub returns : goal.returns
returns c = record { wrote = writing-last c.requires.1 (writing-turn c.requires.1 (head-parts c.args.n) (writing_start _ _ _) c.put_head.ensures.wrote) (wrote_as c.num.ensures.wrote (ap (λ (z : ℕ). bytes_of z (c.args.n + 1)) c.offset_size.ensures)); same = c.num.ensures.same ∙ c.put_head.ensures.same; size = c.num.ensures.size ∙ c.put_head.ensures.size }
