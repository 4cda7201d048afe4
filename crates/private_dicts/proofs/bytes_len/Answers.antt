-- `private_dicts::bytes_len` meets its contract: the entries, and Subrs where a local subroutine is left.
use Rattle.std.proofs.Common.{arith, ◌∙◌}
use Rattle.dict.specs.Places.{entries_of}
use Rattle.dict_write.specs.ShortLaws.{private-short}
use Rattle.private_dicts.specs.PrivatesLaws.{none-length, some-length}
use Rattle.private_dicts.proofs.bytes_len.Goals as goal

pub returns-then-left-eq0 : goal.returns-then-left-eq0
returns-then-left-eq0 c =
    (c.private_len-n.ensures ∙ none-length _ _ c.if-left-eq0.true, omega (arith, c.private_len-n.ensures, private-short c.args.d.now (λ i. (c.type_inv.d i).fits), c.requires))

pub overflow_add-result : goal.overflow_add-result
overflow_add-result c = omega (arith, c.private_len-n.ensures, private-short c.args.d.now (λ i. (c.type_inv.d i).fits), c.requires)

pub returns : goal.returns
returns c = (
  omega (arith, c.private_len-n.ensures, some-length (entries_of c.args.d.now) c.args.left c.if-left-eq0.false),
  omega (arith, c.private_len-n.ensures, private-short c.args.d.now (λ i. (c.type_inv.d i).fits), c.requires),
)
