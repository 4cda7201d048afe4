-- A body as a value with what its renumbering reads: what its calls become, the lengths of its masks, and what it is renumbered.
use Rattle.std.specs.Prelude.{ℕ, ◌≡◌, Bool, List, Option}
use Rattle.charstring.specs.declared.MaskLen.{MaskLen}
use Rattle.prune.specs.Renumber.{Calls, renumber_charstring}
use Rattle.record.specs.Record.{rows_of, given_in}
use Rattle.subset.specs.Pruned.{renumbered_body}
use Rattle.unfold.specs.Sites.{site_of}
use Rattle.renumber.specs.Ranks.{calls_by}
use Rattle.unfold.specs.declared.Site.{Site}
use Rattle.renumber.specs.declared.Ranks.{Ranks}
use Rattle.renumber.specs.declared.body.Body.{Body}

abbrev pub calls_of : Body → Calls
calls_of b = calls_by b.words.now b.locals b.globals

abbrev pub given_of : Body → ℕ → MaskLen
given_of b = given_in (rows_of b.rows.bytes.now) (site_of b.site)

-- renumbered, or that this fails; and where two lengths at one offset do not count
abbrev pub renumbered_of : Body → Option (List ℕ)
renumbered_of b = renumbered_body (rows_of b.rows.bytes.now) (calls_of b) (site_of b.site) b.code.now

abbrev pub turned_of : Body → Option (List ℕ)
turned_of b = renumber_charstring (calls_of b) (given_of b) b.code.now

-- it is put together from these
pub record Reads (b : Body) (s ws : List ℕ) (locals globals : Ranks) (rows : List ℕ) (rising : Bool) (site : Site) : Type 0 where
  pub code_is : b.code.now ≡ s
  pub words_are : b.words.now ≡ ws
  pub locals_are : b.locals ≡ locals
  pub globals_are : b.globals ≡ globals
  pub rows_are : b.rows.bytes.now ≡ rows
  pub rises_so : b.rows.rising ≡ rising
  pub site_is : b.site ≡ site
