-- The invariant: the length of the entries of the FDs that were passed.
use Rattle.std.proofs.Common.{take, ◌*◌, ◌≡◌, ◌≤◌}
use Rattle.index.specs.Write.{total}
use Rattle.cff.specs.Loaded.{program}
use Rattle.private_dicts.specs.Privates.{matrices_by}
use Rattle.private_dicts.proofs.matrices_len.Given as goal

abbrev pub invariant-loop-k : goal.invariant-loop-k
invariant-loop-k l = (l.len ≤ 7000000000 * l.k) × (l.len ≡ total (matrices_by (program l.a.font) (take l.k l.a.fds.now)))
