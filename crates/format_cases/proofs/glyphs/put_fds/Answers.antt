-- `glyphs::put_fds` meets its contract.
use Rattle.std.proofs.Common.{ap, arith, ◌++◌, length, subst, sym, ◌+◌, ◌<◌, ◌∙◌, ◌≡◌}
use Rattle.index.specs.Write.{table_bytes}
use Rattle.charset.specs.ListedLaws.{list_length}
use Rattle.charset.specs.FdPlaces.{fd_of, fds_of, StandsFd}
use Rattle.charset.specs.FdCursorLaws.{fd-start, fd-step, fd-next}
use Rattle.charset.specs.FdFound.{fd-at}
use Rattle.charset.specs.declared.fd_select.FdCursor.{FdCursor}
use Rattle.charset.specs.declared.fd_select.FdStep.{FdStep}
use Rattle.cases.specs.Adding.{adding_start, adding-turn, adding_end}
use Rattle.format_cases.specs.GlyphsLaws.{numbers-next, numbers-none}
use Rattle.format_cases.proofs.glyphs.put_fds.Goals as goal
use Rattle.format_cases.proofs.glyphs.put_fds.Invariants.{of}

pub loop-init : goal.loop-init
loop-init c =
    let a = c.args in (
      subst (λ (v : FdCursor). StandsFd a.font.now (of v) 0 v) (sym c.fd_select_start-u.ensures) (fd-start a.font.now a.s c.requires.0),
      omega arith,
      adding_start _ _,
    )

pub loop-preserved : goal.loop-preserved
loop-preserved c =
    let l = c.loop in
    let i = l.invariant in
    let a = c.args in
    let w = c.num.ensures in
    let s = of c.fd_select_start-u.result in
    let fds = fds_of a.font.now s a.n in
    let m : length fds ≡ a.n = list_length (fd_of a.font.now s) 0 a.n in
    let h : l.counter < length fds = omega (arith, m, c.loop-test.true) in
    let e = c.next_fd-step.ensures in
    let here = ap (λ (r : FdStep). r.fd) e ∙ fd-step _ _ _ _ i.0 ∙ sym (fd-at a.font.now s a.n l.counter c.loop-test.true) in (
      subst (λ (r : FdStep). StandsFd a.font.now s (l.counter + 1) r.next) (sym e) (fd-next _ _ _ _ i.0),
      omega (arith, w.1, i.1),
      adding-turn i.2 _ _ (numbers-next 1 fds l.counter _ h here) w.0,
    )

pub returns : goal.returns
returns c =
    let l = c.loop in
    let a = c.args in
    let e = c.fd_select_start-u.ensures in
    let s = of c.fd_select_start-u.result in
    let m : length (fds_of a.font.now s a.n) ≡ a.n = list_length (fd_of a.font.now s) 0 a.n in
    subst (λ (v : FdCursor). l.to ≡ a.to.now ++ table_bytes 1 (fds_of a.font.now (of v) a.n)) e
    (adding_end l.invariant.2 (numbers-none 1 _ l.counter (omega (arith, m, c.loop-test.false))))
