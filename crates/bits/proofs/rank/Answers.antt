-- `bits::rank` meets its contract: whole words from where the sum ends, and one masked word.
use Rattle.std.proofs.Common.{ap, arith, get_or, ◌%◌, ◌+◌, ◌/◌, ◌^◌, ◌∙◌, ◌≡◌}
use lib.Count.{ones}
use Rattle.bits.specs.BitsLaws.{masked_is, below-from}
use Rattle.bits.proofs.rank.Goals as goal

pub returns : goal.returns
returns c =
    let a = c.args in
    let w = a.words.now in
    let m = masked_is (get_or w (a.at + a.k / 32) 0) (a.k % 32) (omega arith) in
    let e : c.ones_of.result ≡ ones (get_or w (a.at + a.k / 32) 0 % 2 ^ (a.k % 32)) = c.ones_of.ensures.0 ∙ ap ones m in
    below-from w a.at (λ i. (c.type_inv.words i).fits) a.k a.from _ _ _ (omega arith) c.requires.4 c.whole_ones-n.ensures.0 e
