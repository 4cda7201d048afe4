-- A reader (document 01, 'What must change shape') moved on: over the same bytes, so many bytes further.
use Rattle.std.specs.Prelude.{ℕ, ◌+◌}
use Rattle.reader.specs.declared.Reader.{Reader}

abbrev pub moved : Reader → ℕ → Reader
moved r n = record { src = r.src; at = r.at + n }
