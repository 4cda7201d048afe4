-- `decimal_write::number_len` meets its contract: the lengths of the cases of `number_bytes`.
use Rattle.std.proofs.Common.{ap, length, sym, ◌∙◌}
use Rattle.decimal_write.specs.WrittenLaws.{parted, sized_int, sized_big}
use Rattle.decimal_write.proofs.number_len.Goals as goal

pub returns-then-size-lt-LEAST_REAL : goal.returns-then-size-lt-LEAST_REAL
returns-then-size-lt-LEAST_REAL c = c.int_len.ensures ∙ sym (ap length (sized_int _ _ c.d.view_is _ c.trunc-size.ensures c.if-down-eq0.true c.if-size-lt-LEAST_REAL.true))

pub returns-then-down-eq0 : goal.returns-then-down-eq0
returns-then-down-eq0 c = c.real_len.ensures ∙ sym (ap length (sized_big _ _ c.d.view_is _ c.trunc-size.ensures c.if-down-eq0.true c.if-size-lt-LEAST_REAL.false))

pub returns : goal.returns
returns c = c.real_len-2.ensures ∙ sym (ap length (parted _ _ c.d.view_is c.if-down-eq0.false))
