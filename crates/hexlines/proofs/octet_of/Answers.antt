-- `hexlines::octet_of` meets its contract: a digit's value is below 16.
use Rattle.std.proofs.Common.{arith, ◌≤◌}
use Rattle.hexlines.specs.Hexlines.{octet_of}
use Rattle.hexlines.specs.HexlinesLaws.{digit_small}
use Rattle.hexlines.proofs.octet_of.Goals as goal
use Rattle.hexlines.proofs.octet_of.Goals.{After-unwrap_or}

small : (c : After-unwrap_or) → c.unwrap_or.result ≤ 15
small c = rw (c.unwrap_or.ensures, c.hex_value.ensures) (digit_small c.args.high)

pub overflow_mul-result : goal.overflow_mul-result
overflow_mul-result c = omega (arith, small (goal.at.overflow_mul-result c).After-unwrap_or)

pub overflow_add-result : goal.overflow_add-result
overflow_add-result c =
    let low : c.unwrap_or-2.result ≤ 15 = rw (c.unwrap_or-2.ensures, c.hex_value-2.ensures) (digit_small c.args.low) in
    omega (arith, small (goal.at.overflow_add-result c).After-unwrap_or, low)

pub returns : goal.returns
unfolding octet_of
returns c = rw (c.unwrap_or.ensures, c.unwrap_or-2.ensures, c.hex_value.ensures, c.hex_value-2.ensures)
