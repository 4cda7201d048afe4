-- `bodies::subrs::subr_len` meets its contract: one that is not written has no bytes.
use Rattle.std.proofs.Common.{sym, ◌∙◌}
use Rattle.bodies.specs.CodeLaws.{len_kept, len_left}
use Rattle.bodies.specs.Written.{kept_of, subr_of}
use Rattle.bodies.proofs.subrs.subr_len.Goals as goal

pub returns-then-is_kept : goal.returns-then-is_kept
returns-then-is_kept c =
    let a = c.args.one.now.of.now in len_kept (kept_of a) (subr_of a) c.args.one.now.k 335544320 (sym c.is_kept.ensures ∙ c.if-is_kept.true) _ c.written_len.ensures

pub returns : goal.returns
returns c = let a = c.args.one.now.of.now in len_left (kept_of a) (subr_of a) c.args.one.now.k 335544320 (sym c.is_kept.ensures ∙ c.if-is_kept.false)
