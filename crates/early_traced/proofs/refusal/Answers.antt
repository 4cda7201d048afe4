-- `early_traced::refusal` meets its contract: the subset call's own refusals, and then whether the record and the work words have room.
use Rattle.std.proofs.lemmas.Bool.{not_from_false, not_from_true}
use Rattle.std.proofs.Common.{arith, length, Err, ◌≡◌, ◌∙◌}
use Rattle.early_traced.specs.EarlyLaws.{own-refusal, traced-asked, long_refusal, words-refusal, no_refusal}
use Rattle.early_traced.proofs.refusal.Goals as goal

pub returns-in_err-refusal : goal.returns-in_err-refusal
returns-in_err-refusal c =
    let e : c.from_residual.result ≡ Err c.in_err-refusal.field-0.0 = grind arith in
    let t = c.args.font.now.loaded in
    e ∙ own-refusal t.bytes.now t.f t.good c.args.name c.args.keep.now c.args.words (length c.args.lent.now) _ _ c.work_size-w.ensures c.refusal.ensures _ c.in_err-refusal.was

pub record_fits-requires : goal.record_fits-requires
record_fits-requires c =
    let t = c.args.font.now.loaded in
    rw c.of.ensures.1 (traced-asked t.bytes.now t.f t.good c.args.name c.args.keep.now c.args.words (length c.args.lent.now) _ _ c.work_size-w.ensures c.refusal.ensures c.in_ok-refusal.was)

pub returns-then-not-record_fits : goal.returns-then-not-record_fits
returns-then-not-record_fits c =
    let t = c.args.font.now.loaded in
    long_refusal t.bytes.now t.f t.good c.args.name c.args.keep.now c.args.words (length c.args.lent.now) _ _ c.work_size-w.ensures c.refusal.ensures c.in_ok-refusal.was _ (rw c.of.ensures.1 at c.record_fits.ensures) (not_from_false _ c.if-not-record_fits.true)

pub returns-then-words-w : goal.returns-then-words-w
returns-then-words-w c =
    let t = c.args.font.now.loaded in
    words-refusal t.bytes.now t.f t.good c.args.name c.args.keep.now c.args.words (length c.args.lent.now) _ _ c.work_size-w.ensures c.refusal.ensures c.in_ok-refusal.was _ (rw c.of.ensures.1 at c.record_fits.ensures) (not_from_true _ c.if-not-record_fits.false) c.if-words-w.true

pub returns : goal.returns
returns c =
    let t = c.args.font.now.loaded in
    no_refusal t.bytes.now t.f t.good c.args.name c.args.keep.now c.args.words (length c.args.lent.now) _ _ c.work_size-w.ensures c.refusal.ensures c.in_ok-refusal.was _ (rw c.of.ensures.1 at c.record_fits.ensures) (not_from_true _ c.if-not-record_fits.false) c.if-words-w.false
