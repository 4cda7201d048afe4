-- `privates::put_privates` meets its contract.
use Rattle.std.proofs.Common.{refl, sym, true, ◌≡◌, ◌∙◌}
use Rattle.octets.specs.OutLaws.{writes_none, writes_as}
use Rattle.record.specs.Record.{rows_of}
use Rattle.cff.specs.Loaded.{program}
use Rattle.fds.specs.Locals.{in_use_lem}
use Rattle.fds.specs.UsedLaws.{not_used, is_used}
use Rattle.fds.specs.NewLocalsLaws.{fd_in}
use Rattle.fds.specs.NewPartsLaws.{parts-start, parts-pass, putting_room, putting_take}
use Rattle.fds.proofs.privates.put_privates.Goals as goal
use Rattle.fds.proofs.privates.put_privates.Goals.{Then-used-fd-ne0, then-used-fd-ne0, else-used-fd-ne0}

in_use : (e : Then-used-fd-ne0) → in_use_lem e.args.fds.now.used.now e.loop-fd.fd ≡ true
in_use e = is_used e.args.fds.now.used.now e.loop-fd.fd e.if-used-fd-ne0.true

pub loop-fd-init : goal.loop-fd-init
loop-fd-init c =
    let a = c.args in
    writes_as (writes_none _) (sym (parts-start a.how.way (program a.fds.now.font) (rows_of a.rows.now) a.words.now a.fds.now.table.now a.how.globals a.fds.now.used.now))

pub put_part-requires : goal.put_part-requires
put_part-requires c =
    let a = c.args in (
      fd_in _ _ _ _ _ _ _ _ a.fds.now.held c.requires.0 _ c.loop-fd-test.true (in_use (goal.at.put_part-requires c).Then-used-fd-ne0) _ refl,
      putting_room a.how.way (program a.fds.now.font) (rows_of a.rows.now) a.words.now a.fds.now.table.now a.how.globals a.fds.now.used.now
          a.out.now.bytes.now a.totals.now a.out.now.at c.requires.1 c.loop-fd.out.bytes.now c.loop-fd.out.at c.loop-fd.fd c.loop-fd.invariant.wrote c.loop-fd-test.true (in_use (goal.at.put_part-requires c).Then-used-fd-ne0) _ refl,
    )

pub loop-fd-preserved : goal.loop-fd-preserved
loop-fd-preserved c =
    let a = c.args in
    let i = c.loop-fd.invariant in
    elim c.if-used-fd-ne0.branch [
      | then-used-fd-ne0 w ↦
          rw w.out-is (record {
            wrote = putting_take a.how.way (program a.fds.now.font) (rows_of a.rows.now) a.words.now a.fds.now.table.now a.how.globals a.fds.now.used.now
                a.out.now.bytes.now a.totals.now a.out.now.at c.requires.1 c.loop-fd.out.bytes.now c.loop-fd.out.at c.loop-fd.fd i.wrote c.loop-fd-test.true (is_used c.args.fds.now.used.now c.loop-fd.fd w.if-used-fd-ne0.true) _ refl _ _ w.put_part.ensures.wrote;
            same = w.put_part.ensures.same ∙ i.same;
            size = w.put_part.ensures.size ∙ i.size;
          })
      | else-used-fd-ne0 w ↦
          rw w.out-is (writes_as i (sym (parts-pass a.how.way (program a.fds.now.font) (rows_of a.rows.now) a.words.now a.fds.now.table.now a.how.globals a.fds.now.used.now c.loop-fd.fd
          (not_used c.args.fds.now.used.now c.loop-fd.fd w.if-used-fd-ne0.false))))
    ]
