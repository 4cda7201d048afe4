-- The invariant: the first bytes of the packed text are written.
use Rattle.std.proofs.Common.{take, ◌≡◌}
use Rattle.decimal.specs.Written.{real_text, packed}
use Rattle.decimal_write.proofs.put_packed.Given as goal

abbrev pub invariant-loop-i : goal.invariant-loop-i
invariant-loop-i l = take l.i l.b-items ≡ take l.i (packed (real_text l.t.value))
