-- Laws of a record's bytes (document 01, 'Reach record'): rows whose fields fit their bytes read back; a record has the rows that it is made of,
-- rising; and it is what the keys of its rows give, sorted.
use Rattle.std.specs.Prelude.{◌<◌}
use Rattle.unfold.specs.Unfold.{Row}

-- a row whose fields fit their bytes: a font has at most 67,108,864 bytes, a mask at most 12
pub record RowFits (r : Row) : Type 0 where
  pub kind : r.kind < 5
  pub fd : r.fd < 256
  pub number : r.number < 65536
  pub offset : r.offset < 67108864
  pub len : r.len < 16
