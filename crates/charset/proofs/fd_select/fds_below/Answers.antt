-- `charset::fd_select::fds_below` meets its contract.
use Rattle.std.proofs.Common.{ap, arith, subst, sym, ℕ, ◌+◌, ◌-◌, ◌∙◌, ◌≡◌}
use Rattle.octets.specs.Lists.{all_below}
use Rattle.charset.specs.Listed.{list_of}
use Rattle.charset.specs.FdPlaces.{fd_of, fds_of, StandsFd}
use Rattle.charset.specs.FdCursorLaws.{fd-start, fd-step, fd-next}
use Rattle.charset.specs.FdBelowLaws.{below_stops, below_goes_on, below_done}
use Rattle.charset.specs.declared.fd_select.FdCursor.{FdCursor}
use Rattle.charset.specs.declared.fd_select.FdStep.{FdStep}
use Rattle.charset.proofs.fd_select.fds_below.Goals as goal
use Rattle.charset.proofs.fd_select.fds_below.Goals.{After-next_fd-step}
use Rattle.charset.proofs.fd_select.fds_below.Invariants.{of}

-- the FD of a turn
here : (c : After-next_fd-step)
    → c.next_fd-step.result.fd
    ≡ fd_of c.args.font.now (of c.fd_select_start-u.result) c.loop-g._g
here c = ap (λ (r : FdStep). r.fd) c.next_fd-step.ensures ∙ fd-step _ _ _ _ c.loop-g.invariant.0

pub loop-g-init : goal.loop-g-init
loop-g-init c =
    let a = c.args in
    let z : a.n - 0 ≡ a.n = omega arith in (
      subst (λ (v : FdCursor). StandsFd a.font.now (of v) 0 v) (sym c.fd_select_start-u.ensures) (fd-start a.font.now a.s c.requires.0),
      ap (λ (k : ℕ). all_below a.count (list_of (fd_of a.font.now (of c.fd_select_start-u.result)) 0 k)) z,
    )

pub returns-then-count-from : goal.returns-then-count-from
returns-then-count-from c =
    let l = c.loop-g in
    below_stops _ _ _ _ _ (omega arith) (here (goal.at.returns-then-count-from c).After-next_fd-step) (omega arith) ∙ l.invariant.1
    ∙ ap (λ (v : FdCursor). all_below c.args.count (fds_of c.args.font.now (of v) c.args.n)) c.fd_select_start-u.ensures

pub loop-g-preserved : goal.loop-g-preserved
loop-g-preserved c =
    let l = c.loop-g in
    let a = c.args in (
      subst (λ (r : FdStep). StandsFd a.font.now (of c.fd_select_start-u.result) (l._g + 1) r.next) (sym c.next_fd-step.ensures) (fd-next _ _ _ _ l.invariant.0),
      below_goes_on _ _ _ _ _ (omega arith) (here (goal.at.loop-g-preserved c).After-next_fd-step) (omega arith) ∙ l.invariant.1,
    )

pub returns : goal.returns
returns c =
    let l = c.loop-g in
    let a = c.args in
    below_done (fd_of a.font.now (of c.fd_select_start-u.result)) a.count l._g a.n (omega arith) ∙ l.invariant.1
    ∙ ap (λ (v : FdCursor). all_below a.count (fds_of a.font.now (of v) a.n)) c.fd_select_start-u.ensures
