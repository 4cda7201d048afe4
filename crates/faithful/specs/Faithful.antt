-- Demand 3 (document 01, 'Plain glyphs'): for every plain kept glyph the subset holds a glyph that unfolds to the same numbers, operators and
-- hint masks. What the subset gives for a kept glyph is the answer of finding, run on its bytes, for the name or CID in the font's charset.
use Rattle.std.specs.Prelude.{ℕ, ◌<◌, ◌≡◌, ◌⊎◌, true, List, [], length, get_or, Option, Some, Result, Ok}
use Rattle.octets.specs.Pick.{pick}
use Rattle.unfold.specs.Unfold.{Tok, Row, Glyph, plain, unfold_glyph}
use Rattle.prune.specs.Bodies.{All}
use Rattle.record.specs.Record.{rows_of, lists}
use Rattle.dict.specs.Lookup.{cid_keyed}
use Rattle.cff.specs.Font.{Program, read_font}
use Rattle.cff.specs.Find.{name_as, cid_as}
use Rattle.subset.specs.Kept.{is_in, locals_of}
use Rattle.subset.specs.Texts.{name_of}
use Rattle.subset.specs.Cut.{Outcome, refused, subset}
use Rattle.refusal.specs.declared.Refusal.{Refusal}

-- what glyph g of a font unfolds to: over the global subroutines, and the local ones of its FD
abbrev pub unfolded : Program → ℕ → Glyph
unfolded p g =
    let fd = get_or p.fds g 0 in
    unfold_glyph p.globals (locals_of p fd) fd g (get_or p.charstrings g [])

-- glyph 0, and the glyphs of the keep list
pub record IsKept (p : Program) (keep : List ℕ) (g : ℕ) : Type 0 where
  pub there : g < length p.charstrings
  pub asked : (g ≡ 0) ⊎ (is_in g keep ≡ true)

-- the flag is 0, or the record lists each row that the glyph meets
abbrev pub Recorded : List ℕ → ℕ → List Row → Type 0
Recorded rec flag met = (flag ≡ 0) ⊎ All (λ r. lists (rows_of rec) r ≡ true) met

-- what finding gives in a subset for the name of glyph g of a font, or for its CID
abbrev pub found_for : Program → ℕ → List ℕ → Result (Option ℕ) Refusal
found_for p g bs = pick (cid_keyed p.top) (cid_as (read_font bs) (get_or p.ids g 0)) (name_as (read_font bs) (name_of p g))

-- a subset holds glyph g of a font: finding gives a glyph, which unfolds to the tokens ts
pub record Holds (p : Program) (g : ℕ) (ts : List Tok) (bs : List ℕ) : Type 0 where
  pub program : Program
  pub reads : read_font bs ≡ Ok program
  pub new : ℕ
  pub found : found_for p g bs ≡ Ok (Some new)
  pub met : List Row
  pub unfolds : unfolded program new ≡ plain ts met

-- demand 3, of a font's bytes, a keep list, a record, a flag, and the outcome of the call
abbrev pub Faithful : List ℕ → List ℕ → List ℕ → ℕ → Outcome → Type 0
Faithful font keep rec flag (refused n) = Unit
Faithful font keep rec flag (subset way bs) =
    (p : Program) → read_font font ≡ Ok p → (g : ℕ) → IsKept p keep g
    → (ts : List Tok) (met : List Row) → unfolded p g ≡ plain ts met → Recorded rec flag met → Holds p g ts bs
