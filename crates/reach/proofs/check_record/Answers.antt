-- `reach::check_record` meets its contract, test by test.
use Rattle.std.proofs.Common.{arith, eq-eqb, length, ne_eqb, sym, ◌%◌, ◌∙◌}
use Rattle.record.specs.Record.{record_fine}
use Rattle.reach.proofs.check_record.Goals as goal

pub returns-then-len-gt0 : goal.returns-then-len-gt0
unfolding record_fine
returns-then-len-gt0 c = rw (ne_eqb (length c.args.rows.now % 10) 0 (λ e. omega arith))

pub returns-then-flag-eq0 : goal.returns-then-flag-eq0
unfolding record_fine
returns-then-flag-eq0 c =
    let e = sym c.rows_fine.ensures ∙ c.if-rows_fine.true in
    rw (eq-eqb (length c.args.rows.now % 10) 0 (omega arith), e, eq-eqb _ _ c.if-flag-eq0.true)

pub returns-then-rows_fine : goal.returns-then-rows_fine
unfolding record_fine
returns-then-rows_fine c =
    let e = sym c.rows_fine.ensures ∙ c.if-rows_fine.true in
    rw (eq-eqb (length c.args.rows.now % 10) 0 (omega arith), e, ne_eqb _ _ c.if-flag-eq0.false)

pub returns : goal.returns
unfolding record_fine
returns c =
    let e = sym c.rows_fine.ensures ∙ c.if-rows_fine.false in
    rw (eq-eqb (length c.args.rows.now % 10) 0 (omega arith), e)
