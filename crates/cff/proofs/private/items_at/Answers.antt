-- `cff::private::items_at` meets its contract: an INDEX that was read has fewer items than two bytes count.
use Rattle.cff.specs.ReadsLaws.{index-held}
use Rattle.cff.proofs.private.items_at.Goals as goal

pub returns : goal.returns
returns c = (c.read_index.ensures, index-held _ _ (λ i. (c.type_inv.font i).fits) _ c.read_index.ensures)
