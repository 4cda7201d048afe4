-- `short_count::mix` meets its contract: the product has at most 57 bits.
use Rattle.std.proofs.Common.{arith, bit_xor, ◌<◌}
use lib.Bits.{xor_lt}
use Rattle.short_count.proofs.mix.Goals as goal
use Rattle.short_count.proofs.mix.Goals.{Start}

small : (c : Start) → bit_xor c.args.hash c.args.b < 4294967296
small c = xor_lt 32 c.args.hash c.args.b c.ranges.hash.fits (omega (arith, c.ranges.b.fits))

pub overflow_cast-result : goal.overflow_cast-result
overflow_cast-result c = let s = small c in omega (arith, s)

pub overflow_mul-result : goal.overflow_mul-result
overflow_mul-result c = let s = small c in omega (arith, s)
