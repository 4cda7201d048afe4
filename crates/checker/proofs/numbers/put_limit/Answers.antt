-- `numbers::put_limit` meets its contract: the FD has its count already, or it is put.
use Rattle.std.proofs.Common.{ap, not, ◌∙◌}
use Rattle.cff.specs.Loaded.{program}
use Rattle.tracer.specs.FillLaws.{fd_is, fd_asks}
use Rattle.checker.specs.NumberLaws.{not_none, limited_as, limit-known, limit-put, locals_many}
use Rattle.checker.proofs.numbers.put_limit.Goals as goal

pub invariant_of-at : goal.invariant_of-at
invariant_of-at c = record { there = (fd_asks c.args.font.now c.args.g _ c.requires.0 c.fd_of-fd.ensures).1 }

pub returns-then-is_none : goal.returns-then-is_none
returns-then-is_none c =
    let t = c.args.font.now in
    let p = program t.loaded in
    limited_as p _ _ _ _ (fd_is t c.args.g _ c.requires.0 c.fd_of-fd.ensures)
    (limit-put p _ _ c.requires.1 (fd_asks t c.args.g _ c.requires.0 c.fd_of-fd.ensures).0 _ (locals_many t.loaded.bytes.now p c.fd_of-fd.result _ c.fd_private.ensures))

pub returns-else-is_none : goal.returns-else-is_none
returns-else-is_none c =
    let t = c.args.font.now in
    limited_as _ _ _ _ _ (fd_is t c.args.g _ c.requires.0 c.fd_of-fd.ensures)
    (limit-known _ _ _ c.requires.1 (fd_asks t c.args.g _ c.requires.0 c.fd_of-fd.ensures).0 (not_none _ (c.is_none.ensures ∙ ap not c.if-is_none.false)))
