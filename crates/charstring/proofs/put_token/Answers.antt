-- `charstring::put_token` meets its contract: each arm writes the bytes of its kind of token.
use Rattle.std.proofs.Common.{arith}
use Rattle.octets.specs.OutLaws.{writes_as}
use Rattle.charstring.specs.TokenLaws.{writable_as, room_as, writes_token}
use Rattle.charstring.specs.declared.Token.TheVariants.{Num, Op, Esc, Mask}
use Rattle.octets.specs.ListLaws.{span}
use Rattle.charstring.proofs.put_token.Goals as goal

pub of-requires : goal.of-requires
of-requires c = writable_as _ _ _ c.in-Num.is c.requires.0

pub put_number-requires : goal.put_number-requires
put_number-requires c = rw c.of.ensures (room_as _ _ _ c.in-Num.is _ _ c.requires.1)

pub byte-requires : goal.byte-requires
byte-requires c = let p = c.requires in omega (arith, room_as _ _ _ c.in-Op.is _ _ p.1)

pub pair-requires : goal.pair-requires
pair-requires c = let p = c.requires in room_as _ _ _ c.in-Esc.is _ _ p.1

pub overflow_add-end : goal.overflow_add-end
overflow_add-end c = omega (arith, writable_as _ _ _ c.in-Mask.is c.requires.0)

pub slice_bounds-copy-end : goal.slice_bounds-copy-end
slice_bounds-copy-end c = omega (arith, writable_as _ _ _ c.in-Mask.is c.requires.0)

pub copy-requires : goal.copy-requires
copy-requires c = rw span (room_as _ _ _ c.in-Mask.is _ _ c.requires.1)

pub returns-in-Num : goal.returns-in-Num
returns-in-Num c = writes_token _ _ (Num _) c.in-Num.is (rw c.of.ensures at c.put_number.ensures)

pub returns-in-Op : goal.returns-in-Op
returns-in-Op c = writes_token _ _ (Op _) c.in-Op.is c.byte.ensures

pub returns-in-Esc : goal.returns-in-Esc
returns-in-Esc c = writes_token _ _ (Esc _) c.in-Esc.is c.pair.ensures

pub returns-in-Mask : goal.returns-in-Mask
returns-in-Mask c = let a = c.args in writes_token _ _ (Mask _ _) c.in-Mask.is (writes_as c.copy.ensures (span a.code.now c.in-Mask.start c.in-Mask.len))
