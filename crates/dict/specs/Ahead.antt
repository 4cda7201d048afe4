-- The entries that an iterator has left.
use Rattle.std.specs.Prelude.{List, Result}
use Rattle.dict.specs.Entries.{told_at}
use Rattle.dict.specs.declared.EntryAt.{EntryAt}
use Rattle.dict.specs.declared.entries.Entries.{Entries}
use Rattle.refusal.specs.declared.Refusal.{Refusal}

abbrev pub entries_left : Entries → List (Result EntryAt Refusal)
entries_left x = told_at x.bytes.now x.at
