-- `charset::fd_select::check_ends` meets its contract.
use Rattle.std.proofs.Common.{arith, drop, ◌*◌, ◌+◌, ◌-◌, ◌∙◌, ◌≡◌}
use Rattle.charset.specs.FdLaws.{ends_lost, ends_fall, ends_on, ends_done}
use Rattle.charset.proofs.fd_select.check_ends.Goals as goal

pub returns-then-font-at-lt3 : goal.returns-then-font-at-lt3
returns-then-font-at-lt3 c =
    let a = c.args in
    let l = c.loop-i in
    ends_lost a.font.now (a.s.at + 3 * l.i) (a.s.count - l.i) l.first a.s (omega arith) (omega arith) ∙ l.invariant.1

pub returns-then-end-first : goal.returns-then-end-first
returns-then-end-first c =
    let a = c.args in
    let l = c.loop-i in
    ends_fall a.font.now (a.s.at + 3 * l.i) (a.s.count - l.i) l.first a.s (omega arith) _ (omega arith) c.u16_at-end.ensures.0 c.if-end-first.true ∙ l.invariant.1

pub loop-i-preserved : goal.loop-i-preserved
loop-i-preserved c =
    let a = c.args in
    let l = c.loop-i in
    let left : a.s.count - (l.i + 1) ≡ a.s.count - l.i - 1 = omega arith in
    let next : a.s.at + 3 * (l.i + 1) ≡ a.s.at + 3 * l.i + 3 = omega arith in (
      omega arith,
      rw (left, next) (ends_on a.font.now (a.s.at + 3 * l.i) (a.s.count - l.i) l.first a.s (omega arith) _ (omega arith) c.u16_at-end.ensures.0 c.if-end-first.false ∙ l.invariant.1),
    )

pub returns : goal.returns
returns c =
    let a = c.args in
    let l = c.loop-i in
    ends_done (a.s.count - l.i) l.first (drop (a.s.at + 3 * l.i) a.font.now) a.s (omega arith) ∙ l.invariant.1
