-- `short_charstrings::place_of` meets its contract: the number before the last byte, behind all shorter ones.
use Rattle.std.proofs.Common.{arith}
use Rattle.short_charstrings.specs.CodeLaws.{place_1, place_2, place_3, place_4}
use Rattle.short_charstrings.proofs.place_of.Goals as goal

pub returns-then-n-lt2 : goal.returns-then-n-lt2
returns-then-n-lt2 c = (place_1 _ c.if-n-lt2.true, omega arith)

pub returns-then-n-lt3 : goal.returns-then-n-lt3
returns-then-n-lt3 c = let p = place_2 c.args.code.now c.if-n-lt2.false c.if-n-lt3.true in (omega (arith, p, c.u8_at.ensures.0), omega (arith, c.u8_at.ensures.1))

pub returns-then-n-lt4 : goal.returns-then-n-lt4
returns-then-n-lt4 c = let p = place_3 c.args.code.now c.if-n-lt2.false c.if-n-lt3.false c.if-n-lt4.true in (omega (arith, p, c.u8_at-then-n-lt4.ensures.0, c.u8_at-then-n-lt4-2.ensures.0), omega (arith, c.u8_at-then-n-lt4.ensures.1, c.u8_at-then-n-lt4-2.ensures.1))

pub returns : goal.returns
returns c = let p = place_4 c.args.code.now c.if-n-lt2.false c.if-n-lt3.false c.if-n-lt4.false in (omega (arith, p, c.u8_at-2.ensures.0, c.u8_at-3.ensures.0, c.u8_at-4.ensures.0), omega (arith, c.u8_at-2.ensures.1, c.u8_at-3.ensures.1, c.u8_at-4.ensures.1))
