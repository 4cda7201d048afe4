-- What the functions of the tracer ask and leave (document 02, Wish 1): the rows that the marked glyphs meet, as keys, by windows of the least of
-- them one behind the other; and the answer.
use Rattle.std.specs.Prelude.{ℕ, ◌≤◌, ◌≡◌, List, [], ◌++◌, map, length, take, get_or, None, Option, Some, Result}
use Rattle.octets.specs.Pick.{pick}
use Rattle.unfold.specs.Unfold.{Row}
use Rattle.cff.specs.Font.{Program}
use Rattle.cff.specs.Loaded.{program}
use Rattle.subset.specs.Kept.{those, locals_of, kept_of}
use Rattle.subset.specs.Cut.{all_found_lem}
use Rattle.kept.specs.Packed.{marked}
use Rattle.row_window.specs.Window.{gathered, within, Gathers}
use Rattle.interpret.specs.Run.{globals_in, locals_in, Ready, key_for}
use Rattle.interpret.specs.declared.Subrs.{Subrs}
use Rattle.interpret.specs.declared.Range.{Range}
use Rattle.traced.specs.Traced.{met_all, Traced, refused, answered, traced_as, leaves_record}
use Rattle.traced.specs.declared.Recorded.{Recorded}
use Rattle.tracer.specs.Met.{met_in, or_none}
use Rattle.faithful.specs.declared.read.Held.{Held}
use Rattle.tracer.specs.declared.marked.Marked.{Marked}
use Rattle.tracer.specs.declared.marked.Plain.{Plain}
use Rattle.refusal.specs.declared.Refusal.{Refusal}
use Rattle.refusal.specs.declared.Refusal.TheVariants.{NotFound}

-- every key is below this one
abbrev pub top : ℕ
top = 9223372036854775808

-- ---- a font and its subroutines

-- the FD of a glyph
abbrev pub fd_for : Held → ℕ → ℕ
fd_for t g = get_or (program t.loaded).fds g 0

-- the subroutines that the glyphs of an FD can call
pub record SubrsOf (t : Held) (fd : ℕ) (q : Subrs) : Type 0 where
  pub ready : Ready t.loaded.bytes.now q
  pub is : q.fd ≡ fd
  pub globals : globals_in t.loaded.bytes.now q ≡ (program t.loaded).globals
  pub locals : locals_in t.loaded.bytes.now q ≡ locals_of (program t.loaded) fd

-- ---- rows

-- the marked glyphs
abbrev pub marked_in : Marked → List ℕ
marked_in m = those (marked m.marks.now) m.font.loaded.f.charstrings.count 0

-- the rows that they meet, where all are plain
abbrev pub met : Marked → Option (List Row)
met m = met_in m.font.loaded.bytes.now m.font.loaded.f m.marks.now

-- those of plain ones as keys, and these rising without repeats
abbrev pub keys_of : Plain → List ℕ
keys_of p = map key_for (or_none (met p.marked))

abbrev pub sorted : Plain → List ℕ
sorted p = gathered [] (keys_of p)

-- ---- windows

-- what filling a window answers and leaves
abbrev pub Filling : Option (List Row) → Range → List ℕ → List ℕ → Option ℕ → Type 0
Filling None range keys keys' r = r ≡ None
Filling (Some rows) range keys keys' r = (n : ℕ) × (r ≡ Some n) × Gathers (within range.low range.high (map key_for rows)) keys keys' n

pub record Fills (m : Option (List Row)) (range : Range) (keys keys' : List ℕ) (r : Option ℕ) : Type 0 where
  pub says : Filling m range keys keys' r

-- a window of n keys behind those that are done: the least of the keys from `low` on
pub record Shows (ks done keys : List ℕ) (n : ℕ) : Type 0 where
  pub size : length keys ≡ 65536
  pub fits : n ≤ 64512
  pub low : ℕ
  pub all : gathered [] ks ≡ done ++ gathered [] (within low top ks)
  pub holds : take n keys ≡ take 64512 (gathered [] (within low top ks))

-- the first window
abbrev pub Shown : List ℕ → List ℕ → ℕ → Type 0
Shown ks keys n = Shows ks [] keys n

-- counted whole, or past the room
pub record Counted (all : List ℕ) (room r : ℕ) : Type 0 where
  pub most : r ≤ length all
  pub whole : r ≤ room → r ≡ length all

-- ---- the answer

-- an outcome answered, and what it leaves in the slice
pub record Answers (t : Traced) (out out' : List ℕ) (r : Result Recorded Refusal) : Type 0 where
  pub answers : r ≡ traced_as t
  pub output : out' ≡ leaves_record t out

-- the outcome of the kept glyphs, behind refusal 6
abbrev pub kept_answer : Program → List ℕ → ℕ → Traced
kept_answer p keep room =
    let kept = kept_of (length p.charstrings) keep in
    pick (all_found_lem p kept) (answered room (met_all p kept)) (refused NotFound)
