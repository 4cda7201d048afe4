-- A written FDSelect (TN5176, section 19, format 3; the Rust's `fd_select_format3`): the format, how many ranges, the first glyph and the FD
-- of each, and behind them the count of glyphs. A range starts wherever the FD changes.
use Rattle.std.specs.Prelude.{ℕ, ◌+◌, ◌*◌, Bool, false, List, [], ◌∷◌, ◌++◌, length, eqb, None, Option, Some}
use Rattle.octets.specs.Pick.{pick}
use Rattle.octets.specs.Octets.{bytes_of}

-- whether an FD is the last one
abbrev pub is_last : Option ℕ → ℕ → Bool
is_last (Some last) fd = eqb last fd
is_last None fd = false

-- the ranges, first glyph and FD, of glyphs from g on that stand behind one of FD last, if behind any
unfoldable pub changes : Option ℕ → ℕ → List ℕ → List (ℕ × ℕ)
changes last g [] = []
changes last g (fd ∷ fds) = pick (is_last last fd) (changes last (g + 1) fds) ((g, fd) ∷ changes (Some fd) (g + 1) fds)

-- the ranges of all glyphs: glyph 0 starts one
abbrev pub fd_ranges : List ℕ → List (ℕ × ℕ)
fd_ranges fds = changes None 0 fds

-- two bytes for the first glyph of a range and one for its FD
unfoldable pub entry_bytes : List (ℕ × ℕ) → List ℕ
entry_bytes [] = []
entry_bytes (r ∷ rs) = bytes_of 2 r.0 ++ (r.1 ∷ entry_bytes rs)

-- the FDSelect of glyphs with these FDs
unfoldable pub fd_select_bytes : List ℕ → List ℕ
fd_select_bytes fds = 3 ∷ (bytes_of 2 (length (fd_ranges fds)) ++ (entry_bytes (fd_ranges fds) ++ bytes_of 2 (length fds)))

-- how many bytes it has
abbrev pub fd_select_len : List ℕ → ℕ
fd_select_len fds = 5 + 3 * length (fd_ranges fds)
