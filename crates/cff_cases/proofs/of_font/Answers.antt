-- `cff_cases::of_font` meets its contract: no refusal, the sizes, the keying and W in a row.
use Rattle.std.proofs.Common.{append_assoc}
use Rattle.cff_cases.specs.CffCases.{font_bytes}
use Rattle.cff_cases.proofs.of_font.Goals as goal

pub returns : goal.returns
unfolding font_bytes
returns c = simp (c.num-2.ensures.0, c.num.ensures.0, c.put_sizes.ensures.0, c.one-answer.ensures, c.keying.ensures, append_assoc)
