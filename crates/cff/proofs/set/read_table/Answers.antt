-- `cff::set::read_table` meets its contract: its tests are those of `read_table`, in order.
use Rattle.std.proofs.Common.{ap}
use Rattle.reader.specs.declared.Header.{Header}
use Rattle.cff.specs.SetLaws.{font-short, font-set, font_other}
use Rattle.cff.proofs.set.read_table.Goals as goal

pub returns-then-n-lt4 : goal.returns-then-n-lt4
returns-then-n-lt4 c = font-short c.args.font.now c.if-n-lt4.true

pub returns-then-major-eq1 : goal.returns-then-major-eq1
returns-then-major-eq1 c =
    font-set c.args.font.now c.if-n-lt4.false _
    (ap (λ (h : Header). h.major) c.read_header-header.ensures) c.if-major-eq1.true _ (ap (λ (h : Header). h.size) c.read_header-header.ensures) c.set_at.result c.set_at.ensures

pub returns : goal.returns
returns c =
    font_other c.args.font.now c.if-n-lt4.false _
    (ap (λ (h : Header). h.major) c.read_header-header.ensures) c.if-major-eq1.false
