-- Unused letters leave no trace in the small call either (document 02, Wishes 8 and 10): its W goes by counts alone too.
use Rattle.std.proofs.Common.{arith}
use Rattle.small.specs.Small.{small_size}
use Rattle.alike.specs.Alike.{CountsAlone, NoTrace, NoTraceCopied}
use Rattle.alike.specs.CountsLaws.{work_counts}
use Rattle.alike.proofs.Theorem.{no_trace, no_trace_copied}

pub small_counts : CountsAlone small_size
small_counts p q c = omega (arith, work_counts p q c, c.charstrings)

pub small_no_trace : NoTrace small_size
small_no_trace = no_trace small_size small_counts

pub small_no_trace_copied : NoTraceCopied small_size
small_no_trace_copied = no_trace_copied small_size small_counts
