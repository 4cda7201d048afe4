-- What holds of an INDEX (TN5176, section 5) that was read, or that is laid out to be written: what the functions over it require.
use Rattle.std.specs.Prelude.{ℕ, ◌+◌, ◌-◌, ◌*◌, ◌≤◌, ◌<◌, ◌≡◌, List, length, Ok}
use Rattle.octets.specs.Octets.{num_at}
use Rattle.index.specs.Index.{run_of, first_of, ends_of}
use Rattle.index.specs.declared.Index.{Index}

-- its offsets have 1 to 4 bytes each, its data stands behind them, and its end is within n bytes
pub record Lies (n : ℕ) (ix : Index) : Type 0 where
  pub low : 1 ≤ ix.size
  pub high : ix.size ≤ 4
  pub placed : ix.base + 1 ≡ ix.table + (ix.count + 1) * ix.size
  pub begins : ix.base < ix.end
  pub within : ix.end ≤ n

-- it lies within b, and its offsets there are a run that passes
pub record Good (b : List ℕ) (ix : Index) : Type 0 where
  pub lies : Lies (length b) ix
  pub last : ℕ
  pub run : run_of (length b - ix.base) (first_of b ix.table ix.size) (ends_of b ix.table ix.size ix.count) ≡ Ok last

-- the k-th offset: where item k starts, and item k - 1 ends
abbrev pub offset_of : List ℕ → Index → ℕ → ℕ
offset_of b ix k = num_at b (ix.table + k * ix.size) ix.size
