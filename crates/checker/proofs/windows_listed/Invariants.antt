-- The invariant: the windows before this one were listed.
use Rattle.std.proofs.Common.{[], length}
use Rattle.row_window.specs.Window.{gathered, within}
use Rattle.tracer.specs.Tracing.{top, keys_of}
use Rattle.listed.specs.Listed.{row_keys}
use Rattle.checker.specs.AskLaws.{Asking}
use Rattle.checker.proofs.windows_listed.Given as goal

abbrev pub invariant-loop-n : goal.invariant-loop-n
invariant-loop-n l = Asking (keys_of l.glyphs) (row_keys l.rows) l.keys l.n l.low

abbrev pub decreases-loop-n : goal.decreases-loop-n
decreases-loop-n l = length (gathered [] (within l.low top (keys_of l.glyphs)))
