-- The invariant: what the offsets that are left give is what all of them give.
use Rattle.std.proofs.Common.{drop, ◌*◌, ◌+◌, ◌-◌, ◌≡◌}
use Rattle.index.specs.Index.{offsets, run_of}
use Rattle.index.proofs.judge.Given as goal

abbrev pub invariant-loop-i : goal.invariant-loop-i
invariant-loop-i l =
    run_of l.room l.last (offsets (l.count - l.i) l.size (drop (l.place + l.i * l.size) l.font)) ≡ run_of l.room l.start (offsets l.count l.size (drop l.place l.font))
