use Rattle.std.specs.Prelude.{◌+◌}
use Rattle.encoding.specs.Encoded.{Past}
use Rattle.encoding.proofs.last_coded.Given as goal

abbrev pub invariant-loop-glyph : goal.invariant-loop-glyph
invariant-loop-glyph l = Past l.named l.glyph-index (l.last + 1)
