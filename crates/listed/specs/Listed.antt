-- The rows of a record as keys of a window (document 02, Wish 6): which keys of a window a record has, by marks beside the window.
use Rattle.std.specs.Prelude.{ℕ, zero, suc, ◌+◌, ◌<◌, ◌≡◌, Bool, true, false, List, map, ltb, length, get_or}
use Rattle.octets.specs.Pick.{pick}
use Rattle.unfold.specs.Unfold.{Row}
use Rattle.record.specs.Record.{rows_of}
use Rattle.subset.specs.Kept.{is_in}
use Rattle.kept.specs.Packed.{marked, all_of}
use Rattle.row_window.specs.Key.{key_of_lem}

-- what no window has: every key is below it
abbrev pub no_key : ℕ
no_key = 9223372036854775808

-- the key of a row; a kind above 4 and a length above 15 have none
abbrev pub key_in : Row → ℕ
key_in r = pick (ltb 4 r.kind) no_key (pick (ltb 15 r.len) no_key (key_of_lem r.kind r.fd r.number r.offset r.len))

-- those of a record's rows
abbrev pub row_keys : List ℕ → List ℕ
row_keys rec = map key_in (rows_of rec)

-- each of some keys is among others
abbrev pub all_in : List ℕ → List ℕ → Bool
all_in ks l = all_of (λ k. is_in k ks) l

-- the n numbers from j on pass a test
unfoldable pub each_of : (ℕ → Bool) → ℕ → ℕ → Bool
each_of test zero j = true
each_of test (suc n) j = pick (test j) (each_of test n (j + 1)) false

-- marks beside the keys l after the keys ks were looked for among them
pub record Seen (l ks old new : List ℕ) : Type 0 where
  pub size : length new ≡ length old
  pub marks : (j : ℕ) → j < length l → marked new j ≡ pick (marked old j) true (is_in (get_or l j 0) ks)
