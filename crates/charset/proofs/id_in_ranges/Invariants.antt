-- The invariant: the glyph is the i-th from the range at q on.
use Rattle.std.proofs.Common.{drop}
use Rattle.charset.specs.Listed.{numbers_of}
use Rattle.charset.specs.Charset.{ids_from}
use Rattle.charset.specs.IdLaws.{Reaches}
use Rattle.charset.proofs.id_in_ranges.Given as goal

abbrev pub invariant-loop-left : goal.invariant-loop-left
invariant-loop-left l =
    Reaches l.font l.width l.n l.g (numbers_of (ids_from l.width l.n 0 0 (drop l.at l.font))) l.q l.i l.left

abbrev pub decreases-loop-left : goal.decreases-loop-left
decreases-loop-left l = l.i
