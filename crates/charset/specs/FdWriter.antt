-- An FDSelect (TN5176, section 19) written glyph by glyph: a sink counts the ranges, or writes them; or a writer does that goes by the FDs: what it holds
-- after some glyphs, and what each step writes. The format and the count of ranges stand in front of the ranges, and the count of glyphs behind.
use Rattle.std.specs.Prelude.{ℕ, ◌+◌, ◌*◌, ◌<◌, ◌≡◌, List, [], ◌∷◌, ◌++◌, length, take, eqb, None, Option, Some}
use Rattle.octets.specs.Pick.{pick}
use Rattle.octets.specs.Octets.{bytes_of, put, Wrote}
use Rattle.charset.specs.FdSelectBytes.{changes, fd_ranges, entry_bytes}
use Rattle.charset.specs.FdSelectBytesLaws.{last_fd}
use Rattle.charset.specs.declared.fd_writer.Count.{Count}
use Rattle.charset.specs.declared.fd_writer.FdSelectWriter.{FdSelectWriter}

-- what has room for some ranges and one more, and took those, has room for that one, and takes it as well
pub record Follows {S : Type 0} (room : S → List (ℕ × ℕ) → Type 0) (takes : S → List (ℕ × ℕ) → S → Type 0) : Type 0 where
  pub none : (s : S) → takes s [] s
  pub next : (s t : S) (rs more : List (ℕ × ℕ)) (r : ℕ × ℕ) → room s (rs ++ (r ∷ more)) → takes s rs t → room t (r ∷ [])
  pub both : (s t u : S) (rs more : List (ℕ × ℕ)) (r : ℕ × ℕ) → room s (rs ++ (r ∷ more)) → takes s rs t → takes t (r ∷ []) u → takes s (rs ++ (r ∷ [])) u

-- so many more were counted
pub record Counts (s : Count) (rs : List (ℕ × ℕ)) (t : Count) : Type 0 where
  pub more : t.ranges ≡ s.ranges + length rs

-- the FDs of i glyphs were gone through: what the last of them is, and the ranges that were taken
pub record Taken {S : Type 0} (takes : S → List (ℕ × ℕ) → S → Type 0) (old : S) (fds : List ℕ) (i : ℕ) (last : Option ℕ) (new : S) : Type 0 where
  pub before : last ≡ last_fd None (take i fds)
  pub took : takes old (fd_ranges (take i fds)) new

-- ---- by the FDs, one after the other

-- the last of some FDs, and `last` where there are none
unfoldable pub last_pushed : ℕ → List ℕ → ℕ
last_pushed last [] = last
last_pushed last (fd ∷ fds) = last_pushed fd fds

-- the ranges of all glyphs, as the writer finds them: 256 is no FD, so that glyph 0 starts one
abbrev pub ranges_of : List ℕ → List (ℕ × ℕ)
ranges_of fds = changes (Some 256) 0 fds

-- the FDSelect that has these
unfoldable pub pushed_select : List ℕ → List ℕ
pushed_select fds = 3 ∷ (bytes_of 2 (length (ranges_of fds)) ++ (entry_bytes (ranges_of fds) ++ bytes_of 2 (length fds)))

-- a writer that starts at a place, after these FDs
abbrev pub writer_of : ℕ → List ℕ → FdSelectWriter
writer_of at fds =
    record { start = at; last = last_pushed 256 fds; ranges = length (ranges_of fds); next = at + 3 + 3 * length (ranges_of fds); glyphs = length fds }

-- the writer after one FD more
unfoldable pub pushed : FdSelectWriter → ℕ → FdSelectWriter
pushed w fd =
    pick (eqb fd w.last) (record { start = w.start; last = w.last; ranges = w.ranges; next = w.next; glyphs = w.glyphs + 1 })
    (record { start = w.start; last = fd; ranges = w.ranges + 1; next = w.next + 3; glyphs = w.glyphs + 1 })

-- the range that is written where the FD changes
unfoldable pub pushed_bytes : FdSelectWriter → ℕ → List ℕ
pushed_bytes w fd = pick (eqb fd w.last) [] (bytes_of 2 w.glyphs ++ (fd ∷ []))

-- the numbers of a writer can grow
pub record CanCount (w : FdSelectWriter) : Type 0 where
  pub few : w.glyphs < 65536
  pub fewer : w.ranges < 65536
  pub near : w.next < 4294967296

-- the FDs of some glyphs were pushed: what the writer holds, and what was written behind the three bytes
pub record Pushed (old : List ℕ) (at : ℕ) (fds new : List ℕ) (w : FdSelectWriter) : Type 0 where
  pub state : w ≡ writer_of at fds
  pub wrote : Wrote old (at + 3) (entry_bytes (ranges_of fds)) new w.next

-- the format and the count of ranges in front, and the count of glyphs behind
pub record Finished (old : List ℕ) (w : FdSelectWriter) (new : List ℕ) (next : ℕ) : Type 0 where
  pub is : new ≡ put (put old w.start (3 ∷ bytes_of 2 w.ranges)) w.next (bytes_of 2 w.glyphs)
  pub behind : next ≡ w.next + 2
