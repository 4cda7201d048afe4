-- `cff_cases::put_sizes` meets its contract: three numbers in a row.
use Rattle.std.proofs.Common.{append_assoc, arith}
use Rattle.cff_cases.specs.CffCases.{sizes_bytes}
use Rattle.cff_cases.proofs.put_sizes.Goals as goal

pub returns : goal.returns
unfolding sizes_bytes
returns c = (simp (c.num-3.ensures.0, c.num-2.ensures.0, c.num.ensures.0, append_assoc), omega (arith, c.num-3.ensures.1, c.num-2.ensures.1, c.num.ensures.1))
