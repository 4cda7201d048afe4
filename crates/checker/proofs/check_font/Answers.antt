-- `checker::check_font` meets its contract: the tests in their order.
use Rattle.std.proofs.lemmas.Bool.{not_from_false, not_from_true}
use Rattle.checker.specs.CheckLaws.{check-number, check-below, check-found, check_form, check_refused, check-accepted}
use Rattle.checker.proofs.check_font.Goals as goal

pub returns-then-not-keep_below : goal.returns-then-not-keep_below
returns-then-not-keep_below c =
    check-number c.args.font.now.file.now _ _ c.of-table.ensures.0 c.args.keep.now c.args.rows.now _ c.keep_below.ensures (not_from_false _ c.if-not-keep_below.true)

pub all_found-requires : goal.all_found-requires
all_found-requires c =
    check-below c.args.font.now.file.now _ _ c.of-table.ensures.0 c.args.keep.now c.args.rows.now _ c.keep_below.ensures (not_from_true _ c.if-not-keep_below.false)

pub returns-then-not-all_found : goal.returns-then-not-all_found
returns-then-not-all_found c =
    check-found c.args.font.now.file.now _ _ c.of-table.ensures.0 c.args.keep.now c.args.rows.now _ c.keep_below.ensures (not_from_true _ c.if-not-keep_below.false) _ c.all_found.ensures (not_from_false _ c.if-not-all_found.true)

pub returns-then-not-check_record : goal.returns-then-not-check_record
returns-then-not-check_record c =
    check_form c.args.font.now.file.now _ _ c.of-table.ensures.0 c.args.keep.now c.args.rows.now _ c.keep_below.ensures (not_from_true _ c.if-not-keep_below.false) _ c.all_found.ensures (not_from_true _ c.if-not-all_found.false)
    _ c.check_record.ensures (not_from_false _ c.if-not-check_record.true)

pub accepts-requires : goal.accepts-requires
accepts-requires c =
    check-below c.args.font.now.file.now _ _ c.of-table.ensures.0 c.args.keep.now c.args.rows.now _ c.keep_below.ensures (not_from_true _ c.if-not-keep_below.false)

pub returns-then-not-accepts : goal.returns-then-not-accepts
returns-then-not-accepts c =
    check_refused c.args.font.now.file.now _ _ c.of-table.ensures.0 c.args.keep.now c.args.rows.now _ c.keep_below.ensures (not_from_true _ c.if-not-keep_below.false) _ c.all_found.ensures (not_from_true _ c.if-not-all_found.false)
    _ c.check_record.ensures (not_from_true _ c.if-not-check_record.false) _ c.accepts.ensures (not_from_false _ c.if-not-accepts.true)

pub returns : goal.returns
returns c =
    check-accepted c.args.font.now.file.now _ _ c.of-table.ensures.0 c.args.keep.now c.args.rows.now _ c.keep_below.ensures (not_from_true _ c.if-not-keep_below.false) _ c.all_found.ensures (not_from_true _ c.if-not-all_found.false)
    _ c.check_record.ensures (not_from_true _ c.if-not-check_record.false) _ c.accepts.ensures (not_from_true _ c.if-not-accepts.false)
