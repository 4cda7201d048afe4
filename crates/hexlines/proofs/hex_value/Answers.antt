-- `hexlines::hex_value` meets its contract: its ranges are those of `hex_value_lem`, and the gaps between them.
use Rattle.std.proofs.Common.{arith, le-leb, le-ltb, lt-ltb}
use borrow.Author.Tests.{lt-leb}
use Rattle.hexlines.specs.Hexlines.{hex_value_lem}
use Rattle.hexlines.proofs.hex_value.Goals as goal

pub returns-in-48-to-57 : goal.returns-in-48-to-57
unfolding hex_value_lem
returns-in-48-to-57 c = simp (le-ltb c.args.b 48 (omega arith), le-leb c.args.b 57 (omega arith))

pub returns-in-97-to-102 : goal.returns-in-97-to-102
unfolding hex_value_lem
returns-in-97-to-102 c = let b = c.args.b in
    simp (le-ltb b 48 (omega arith), lt-leb b 57 (omega arith), le-ltb b 97 (omega arith), le-leb b 102 (omega arith))

pub returns-in_default : goal.returns-in_default
unfolding hex_value_lem
returns-in_default c = simp (lt-ltb c.args.b 48 (omega arith))

pub returns-in_default-2 : goal.returns-in_default-2
unfolding hex_value_lem
returns-in_default-2 c = let b = c.args.b in simp (le-ltb b 48 (omega arith), lt-leb b 57 (omega arith), lt-ltb b 97 (omega arith))

pub returns-in_default-3 : goal.returns-in_default-3
unfolding hex_value_lem
returns-in_default-3 c = let b = c.args.b in
    simp (le-ltb b 48 (omega arith), lt-leb b 57 (omega arith), le-ltb b 97 (omega arith), lt-leb b 102 (omega arith))
