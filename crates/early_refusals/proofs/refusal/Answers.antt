-- `early_refusals::refusal` meets its contract: one law for each test, in document 01's order.
use Rattle.std.proofs.lemmas.Bool.{not_from_false, not_from_true}
use Rattle.early_refusals.specs.RefusalLaws.{read_unfit, read-ros, read_name, read_number, read_found, read-record, read-work, read-passed}
use Rattle.early_refusals.proofs.refusal.Goals as goal

pub returns-then-not-is_fit : goal.returns-then-not-is_fit
returns-then-not-is_fit c = read_unfit c.args.font.now.bytes.now c.args.font.now.f c.args.font.now.good c.args.small c.args.cid c.args.ask c.args.name c.args.keep.now c.args.rows.now c.args.traced c.args.words _ (rw c.read_top.ensures.0 at c.is_fit.ensures) (not_from_false _ c.if-not-is_fit.true)

pub returns-then-not-ros_fine : goal.returns-then-not-ros_fine
returns-then-not-ros_fine c = read-ros c.args.font.now.bytes.now c.args.font.now.f c.args.font.now.good c.args.small c.args.cid c.args.ask c.args.name c.args.keep.now c.args.rows.now c.args.traced c.args.words _ (rw c.read_top.ensures.0 at c.is_fit.ensures) (not_from_true _ c.if-not-is_fit.false) _ (rw c.read_top.ensures.0 at c.ros_fine.ensures) (not_from_false _ c.if-not-ros_fine.true)

pub returns-then-name-gt65535 : goal.returns-then-name-gt65535
returns-then-name-gt65535 c = read_name c.args.font.now.bytes.now c.args.font.now.f c.args.font.now.good c.args.small c.args.cid c.args.ask c.args.name c.args.keep.now c.args.rows.now c.args.traced c.args.words _ (rw c.read_top.ensures.0 at c.is_fit.ensures) (not_from_true _ c.if-not-is_fit.false) _ (rw c.read_top.ensures.0 at c.ros_fine.ensures) (not_from_true _ c.if-not-ros_fine.false) c.if-name-gt65535.true

pub returns-then-not-keep_below : goal.returns-then-not-keep_below
returns-then-not-keep_below c = read_number c.args.font.now.bytes.now c.args.font.now.f c.args.font.now.good c.args.small c.args.cid c.args.ask c.args.name c.args.keep.now c.args.rows.now c.args.traced c.args.words _ (rw c.read_top.ensures.0 at c.is_fit.ensures) (not_from_true _ c.if-not-is_fit.false) _ (rw c.read_top.ensures.0 at c.ros_fine.ensures) (not_from_true _ c.if-not-ros_fine.false) c.if-name-gt65535.false _ c.keep_below.ensures (not_from_false _ c.if-not-keep_below.true)

pub returns-then-not-all_found : goal.returns-then-not-all_found
returns-then-not-all_found c = read_found c.args.font.now.bytes.now c.args.font.now.f c.args.font.now.good c.args.small c.args.cid c.args.ask c.args.name c.args.keep.now c.args.rows.now c.args.traced c.args.words _ (rw c.read_top.ensures.0 at c.is_fit.ensures) (not_from_true _ c.if-not-is_fit.false) _ (rw c.read_top.ensures.0 at c.ros_fine.ensures) (not_from_true _ c.if-not-ros_fine.false) c.if-name-gt65535.false _ c.keep_below.ensures (not_from_true _ c.if-not-keep_below.false) _ c.all_found.ensures (not_from_false _ c.if-not-all_found.true)

pub returns-then-not-check_record : goal.returns-then-not-check_record
returns-then-not-check_record c = read-record c.args.font.now.bytes.now c.args.font.now.f c.args.font.now.good c.args.small c.args.cid c.args.ask c.args.name c.args.keep.now c.args.rows.now c.args.traced c.args.words _ (rw c.read_top.ensures.0 at c.is_fit.ensures) (not_from_true _ c.if-not-is_fit.false) _ (rw c.read_top.ensures.0 at c.ros_fine.ensures) (not_from_true _ c.if-not-ros_fine.false) c.if-name-gt65535.false _ c.keep_below.ensures (not_from_true _ c.if-not-keep_below.false) _ c.all_found.ensures (not_from_true _ c.if-not-all_found.false) _ c.check_record.ensures (not_from_false _ c.if-not-check_record.true)

pub returns-then-words-size_of : goal.returns-then-words-size_of
returns-then-words-size_of c = read-work c.args.font.now.bytes.now c.args.font.now.f c.args.font.now.good c.args.small c.args.cid c.args.ask c.args.name c.args.keep.now c.args.rows.now c.args.traced c.args.words _ (rw c.read_top.ensures.0 at c.is_fit.ensures) (not_from_true _ c.if-not-is_fit.false) _ (rw c.read_top.ensures.0 at c.ros_fine.ensures) (not_from_true _ c.if-not-ros_fine.false) c.if-name-gt65535.false _ c.keep_below.ensures (not_from_true _ c.if-not-keep_below.false) _ c.all_found.ensures (not_from_true _ c.if-not-all_found.false) _ c.check_record.ensures (not_from_true _ c.if-not-check_record.false) _ c.size_of.ensures c.if-words-size_of.true

pub returns : goal.returns
returns c = read-passed c.args.font.now.bytes.now c.args.font.now.f c.args.font.now.good c.args.small c.args.cid c.args.ask c.args.name c.args.keep.now c.args.rows.now c.args.traced c.args.words _ (rw c.read_top.ensures.0 at c.is_fit.ensures) (not_from_true _ c.if-not-is_fit.false) _ (rw c.read_top.ensures.0 at c.ros_fine.ensures) (not_from_true _ c.if-not-ros_fine.false) c.if-name-gt65535.false _ c.keep_below.ensures (not_from_true _ c.if-not-keep_below.false) _ c.all_found.ensures (not_from_true _ c.if-not-all_found.false) _ c.check_record.ensures (not_from_true _ c.if-not-check_record.false) _ c.size_of.ensures c.if-words-size_of.false
