-- What a search goes by, and that it stays: the lent memory is written, and is the same memory.
use Rattle.std.specs.Prelude.{ℕ, ◌≡◌, Bool, List, length, Option}
use Rattle.cff.specs.Font.{Program}
use Rattle.cff.specs.Loaded.{program}
use Rattle.subset.specs.Cut.{Outcome}
use Rattle.culprit.specs.Culprit.{traced_cut, least_culprit}
use Rattle.blocking.specs.Search.{frees}
use Rattle.blocking.specs.declared.search.Search.{Search}

-- of the font, the new name, and how many words and bytes are lent
abbrev pub over : {A : Type 0} → (Program → List ℕ → ℕ → ℕ → A) → Search → A
over of s = of (program s.font.loaded) s.name.now (length s.words.now) (length s.slice.now)

-- the cut of a list
abbrev pub cut_by : List ℕ → Program → List ℕ → ℕ → ℕ → Outcome
cut_by keep p name words lent = traced_cut p name keep words lent

-- whether a list without a glyph has way 0
abbrev pub frees_by : List ℕ → Program → List ℕ → ℕ → ℕ → ℕ → Bool
frees_by list p name words lent = frees p name list words lent

-- the smallest that frees a keep list
abbrev pub least_by : List ℕ → Program → List ℕ → ℕ → ℕ → Option ℕ
least_by keep p name words lent = least_culprit p name keep words lent

pub record Stays (old new : Search) : Type 0 where
  pub font : new.font ≡ old.font
  pub name : new.name ≡ old.name
  pub words : new.words.ghost_name ≡ old.words.ghost_name
  pub words_long : length new.words.now ≡ length old.words.now
  pub slice : new.slice.ghost_name ≡ old.slice.ghost_name
  pub slice_long : length new.slice.now ≡ length old.slice.now
