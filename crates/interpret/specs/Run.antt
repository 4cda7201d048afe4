-- What running a body asks, and what it leaves: rows as keys, noted in a window of a range (crates/row_window), and the code's answers.
use Rattle.std.specs.Prelude.{ℕ, ◌≤◌, ◌<◌, ◌≡◌, Bool, true, false, List, map, length, Ok, Err, Result}
use Rattle.index.specs.Index.{items_of}
use Rattle.index.specs.Good.{Good}
use Rattle.unfold.specs.Unfold.{Row, Glyph, not_plain_lem, plain}
use Rattle.unfold.specs.Sites.{site_of}
use Rattle.row_window.specs.Key.{key_of_lem}
use Rattle.row_window.specs.Window.{within}
use Rattle.row_window.specs.Filled.{Adds, Keeps}
use Rattle.row_window.specs.declared.filling.Filling.{Filling}
use Rattle.interpret.specs.Trace.{Trace, broken, returned, ended, trace_body, trace_call}
use Rattle.turns.specs.declared.Counts.{Counts}
use Rattle.turns.specs.declared.Kind.{Kind}
use Rattle.turns.specs.declared.Kind.TheVariants as of
use Rattle.interpret.specs.declared.Subrs.{Subrs}
use Rattle.interpret.specs.declared.Range.{Range}
use Rattle.unfold.specs.declared.Site.{Site}
use Rattle.unfold.specs.declared.Site.TheVariants.{Local, Global}
use Rattle.interpret.specs.declared.NotPlain.{NotPlain}
use Rattle.interpret.specs.declared.End.{End}
use Rattle.interpret.specs.declared.End.TheVariants.{Returned, Ended}

-- the subroutine that a call enters
abbrev pub site_in : ℕ → Kind → ℕ → Site
site_in fd of.Local i = Local fd i
site_in fd of.Global i = Global i

-- the subroutines that a glyph can call
abbrev pub globals_in : List ℕ → Subrs → List (List ℕ)
globals_in font q = items_of font q.globals

abbrev pub locals_in : List ℕ → Subrs → List (List ℕ)
locals_in font q = items_of font q.locals

-- they are in the font, and rows can hold their numbers and the places in them
pub record Ready (font : List ℕ) (q : Subrs) : Type 0 where
  pub globals : Good font q.globals
  pub locals : Good font q.locals
  pub few_globals : q.globals.count < 65536
  pub few_locals : q.locals.count < 65536
  pub size : length font ≤ 67108864

-- the run of a body, and of a call, with these subroutines
abbrev pub whole_of : List ℕ → Subrs → ℕ → Site → List ℕ → Counts → Trace
whole_of font q depth site code x = trace_body (globals_in font q) (locals_in font q) q.fd depth (site_of site) code x

abbrev pub call_of : List ℕ → Subrs → ℕ → Kind → ℕ → Counts → Trace
call_of font q depth kind i x = trace_call (globals_in font q) (locals_in font q) q.fd depth kind i x

-- the key of a row
abbrev pub key_for : Row → ℕ
key_for r = key_of_lem r.kind r.fd r.number r.offset r.len

-- rows noted in a window of a range
abbrev pub Notes : Range → List Row → Filling → Filling → Type 0
Notes range rows old new = Adds (within range.low range.high (map key_for rows)) old new

-- what a body's run answers, and what it leaves in the window; the lent keys stay whatever it answers
abbrev pub Ran : Type 0
Ran = Result End NotPlain

abbrev pub Telling : Trace → Range → Filling → Filling → Ran → Type 0
Telling broken range old new r = r ≡ Err (record {})
Telling (returned x rows) range old new r = (r ≡ Ok (Returned x)) × Notes range rows old new
Telling (ended rows) range old new r = (r ≡ Ok Ended) × Notes range rows old new

pub record Tells (t : Trace) (range : Range) (old new : Filling) (r : Ran) : Type 0 where
  pub says : Telling t range old new r
  pub keeps : Keeps old new

-- the same of a glyph, over its unfolding
abbrev pub Meeting : Glyph → Range → Filling → Filling → Bool → Type 0
Meeting not_plain_lem range old new r = r ≡ false
Meeting (plain ts rows) range old new r = (r ≡ true) × Notes range rows old new

pub record Meets (g : Glyph) (range : Range) (old new : Filling) (r : Bool) : Type 0 where
  pub says : Meeting g range old new r
  pub keeps : Keeps old new
