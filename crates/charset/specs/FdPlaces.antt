-- An FDSelect (TN5176, section 19) in place, as the code holds it: by its ranges, and by a cursor that goes from glyph to glyph.
use Rattle.std.specs.Prelude.{ℕ, zero, suc, ◌+◌, ◌-◌, ◌≤◌, ◌<◌, ◌≡◌, List, drop, get_or, ltb, eqb, Result, Ok, Err}
use Rattle.octets.specs.Pick.{pick}
use Rattle.octets.specs.Octets.{num_at}
use Rattle.charset.specs.Listed.{list_of}
use Rattle.charset.specs.FdSelect.{range_end, fd_in, ranges_refusal}
use Rattle.charset.specs.declared.fd_select.FdSelect.{FdSelect}
use Rattle.charset.specs.declared.fd_select.FdCursor.{FdCursor}
use Rattle.charset.specs.declared.fd_select.FdStep.{FdStep}
use Rattle.refusal.specs.declared.Refusal.{Refusal}

-- no FDSelect: no range, so that each glyph has FD 0
abbrev pub no_select : FdSelect
no_select = record { count = 0; first = 0; wide = 0; at = 0 }

-- format 0, whose FDs stand at a place: a range for each glyph
abbrev pub each_at_lem : ℕ → ℕ → FdSelect
each_at_lem n at = record { count = n; first = 0; wide = 0; at = at }

-- format 3, whose count of ranges stands at a place
abbrev pub ranges_at : List ℕ → ℕ → FdSelect
ranges_at b at = record { count = num_at b at 2; first = num_at b (at + 2) 2; wide = 2; at = at + 4 }

-- the FDSelect at a place, by its format
abbrev pub select_at : List ℕ → ℕ → ℕ → FdSelect
select_at b at n = pick (eqb (get_or b at 0) 0) (each_at_lem n (at + 1)) (ranges_at b (at + 1))

-- what reading answers: the FDSelect where the FDs are not refused
abbrev pub select_answer : FdSelect → Result (List ℕ) Refusal → Result FdSelect Refusal
select_answer s (Err e) = Err e
select_answer s (Ok l) = Ok s

-- the same by the refusal of the ranges
abbrev pub ranges_answer : FdSelect → Result Unit Refusal → Result FdSelect Refusal
ranges_answer s (Ok u) = Ok s
ranges_answer s (Err e) = Err e

-- the FD of a glyph
unfoldable pub fd_of : List ℕ → FdSelect → ℕ → ℕ
fd_of b s g = fd_in s.wide s.count s.first (drop s.at b) g

-- the FDs of n glyphs
abbrev pub fds_of : List ℕ → FdSelect → ℕ → List ℕ
fds_of b s n = list_of (fd_of b s) 0 n

-- an FDSelect that reading does not refuse
pub record GoodSelect (b : List ℕ) (s : FdSelect) : Type 0 where
  pub narrow : s.wide ≤ 2
  pub even : s.wide ≡ 1 → ⊥
  pub sound : ranges_refusal s.wide s.count s.first (drop s.at b) ≡ Ok tt

-- ---- glyph after glyph

-- before glyph 0
abbrev pub select_start : FdSelect → FdCursor
select_start s = record { gid = 0; fd = 0; end = s.first; count = s.count; wide = s.wide; at = s.at }

-- into the next range
abbrev pub into_next_lem : List ℕ → FdCursor → FdCursor
into_next_lem b u =
    record {
      gid = u.gid;
      fd = get_or b u.at 0;
      end = range_end u.wide u.end (drop u.at b);
      count = u.count - 1;
      wide = u.wide;
      at = u.at + 1 + u.wide;
    }

-- into the range of the cursor's glyph, or the last, at most m ranges on
unfoldable pub into_range_lem : List ℕ → ℕ → FdCursor → FdCursor
into_range_lem b zero u = u
into_range_lem b (suc m) u = pick (ltb u.gid u.end) u (into_range_lem b m (into_next_lem b u))

-- the FD of the glyph whose range a cursor is in, and the cursor behind the glyph
abbrev pub stepped : FdCursor → FdStep
stepped u =
    record {
      fd = pick (ltb u.gid u.end) u.fd 0;
      next = record { gid = u.gid + 1; fd = u.fd; end = u.end; count = u.count; wide = u.wide; at = u.at };
    }

-- the FD of the glyph that a cursor stands before, and the cursor behind it
unfoldable pub next_fd : List ℕ → FdCursor → FdStep
next_fd b u = stepped (into_range_lem b u.count u)

-- the FD of glyph g, as a cursor before it has it
unfoldable pub fd_from : List ℕ → FdCursor → ℕ → ℕ
fd_from b u g = pick (ltb g u.end) u.fd (fd_in u.wide u.count u.end (drop u.at b) g)

-- what the next step asks
pub record ReadyFd (b : List ℕ) (u : FdCursor) : Type 0 where
  pub narrow : u.wide ≤ 2
  pub low : u.gid < 65536
  pub sound : ranges_refusal u.wide u.count u.end (drop u.at b) ≡ Ok tt

-- a cursor that stands before glyph g of an FDSelect
pub record StandsFd (b : List ℕ) (s : FdSelect) (g : ℕ) (u : FdCursor) : Type 0 where
  pub place : u.gid ≡ g
  pub narrow : u.wide ≤ 2
  pub sound : ranges_refusal u.wide u.count u.end (drop u.at b) ≡ Ok tt
  pub rest : (i : ℕ) → g ≤ i → fd_from b u i ≡ fd_of b s i
