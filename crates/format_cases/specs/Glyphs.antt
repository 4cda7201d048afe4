-- Stored cases of a charset and of an FDSelect (tools/oracle/README.md, 'format', kinds c and s), from the definitions that charset's
-- functions meet.
use Rattle.std.specs.Prelude.{ℕ, List, [], ◌∷◌, ltb, eqb, length, drop, None, Option, Some, Result, Ok, Err}
use Rattle.octets.specs.Pick.{pick}
use Rattle.octets.specs.Octets.{num_at}
use Rattle.index.specs.Write.{table_bytes}
use Rattle.charset.specs.Charset.{charset_at}
use Rattle.charset.specs.FdSelect.{fd_select_at}
use Rattle.refusal.specs.declared.Refusal.{Refusal}
use Rattle.refusal.specs.Refusal.{number_of}

-- the refusal's number, or 0 and the number of each glyph; none for more than 2,000 glyphs, whose answer has no room
abbrev pub listed_answer : ℕ → Result (List ℕ) Refusal → Option (List ℕ)
listed_answer w (Err e) = Some (number_of e ∷ [])
listed_answer w (Ok l) = pick (ltb 2000 (length l)) None (Some (0 ∷ table_bytes w l))

-- kind c: a position, how many glyphs, at least one, and a font; an id is two bytes
unfoldable pub charset_answer : List ℕ → Option (List ℕ)
charset_answer s =
    pick (ltb (length s) 4) None
    (pick (eqb (num_at s 2 2) 0) None (listed_answer 2 (charset_at (drop 4 s) (num_at s 0 2) (num_at s 2 2))))

-- kind s: a position, how many glyphs, and a font; an FD is one byte
unfoldable pub fd_select_answer : List ℕ → Option (List ℕ)
fd_select_answer s = pick (ltb (length s) 4) None (listed_answer 1 (fd_select_at (drop 4 s) (num_at s 0 2) (num_at s 2 2)))
