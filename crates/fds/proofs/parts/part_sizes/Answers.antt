-- `parts::part_sizes` meets its contract.
use Rattle.std.proofs.Common.{ap, arith, get_or, true, ℕ, ◌∙◌, ◌≡◌}
use Rattle.cff.specs.Loaded.{program}
use Rattle.fds.specs.Locals.{in_use_lem}
use Rattle.fds.specs.Parts.{part_by}
use Rattle.fds.specs.UsedLaws.{not_used, is_used}
use Rattle.fds.specs.PartsLaws.{measuring_start, measuring_pass, measuring_take}
use Rattle.fds.proofs.parts.part_sizes.Goals as goal
use Rattle.fds.proofs.parts.part_sizes.Goals.{Then-used-fd-ne0, then-used-fd-ne0, else-used-fd-ne0}

in_use : (e : Then-used-fd-ne0) → in_use_lem e.args.fds.now.used.now e.loop-fd.fd ≡ true
in_use e = is_used e.args.fds.now.used.now e.loop-fd.fd e.if-used-fd-ne0.true

pub loop-fd-init : goal.loop-fd-init
loop-fd-init c = (omega arith, measuring_start _ _ _ _ _ _)

pub part_of-part-requires : goal.part_of-part-requires
part_of-part-requires c =
    let t = c.loop-fd-test.true in
    let q = c.requires.1 c.loop-fd.fd t (in_use (goal.at.part_of-part-requires c).Then-used-fd-ne0) in
    (c.args.fds.now.held.size, omega (arith, c.kept_count-left.ensures, q.few), q.short)

pub loop-fd-preserved : goal.loop-fd-preserved
loop-fd-preserved c =
    let i = c.loop-fd.invariant in
    let t = c.loop-fd-test.true in
    let a = c.args in
    elim c.if-used-fd-ne0.branch [
      | then-used-fd-ne0 w ↦
          let e = w.part_of-part.ensures.0 ∙ ap (λ (n : ℕ). part_by (program a.fds.now.font) n (get_or a.totals.now c.loop-fd.fd 0) c.loop-fd.fd) w.kept_count-left.ensures in
          (omega (arith, i.0, w.j-is), rw (w.parts-is, w.all-is, w.j-is) (measuring_take _ _ _ _ _ _ _ _ _ _ i.1 (is_used c.args.fds.now.used.now c.loop-fd.fd w.if-used-fd-ne0.true) _ e w.part_of-part.ensures.1 (omega (arith, i.0, t, c.requires.2))))
      | else-used-fd-ne0 w ↦
          (omega (arith, i.0, w.j-is), rw (w.parts-is, w.all-is, w.j-is) (measuring_pass _ _ _ _ _ _ _ _ _ _ i.1 (not_used c.args.fds.now.used.now c.loop-fd.fd w.if-used-fd-ne0.false)))
    ]
