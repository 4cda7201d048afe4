-- The sizes of all bodies by the way (document 01, 'Corners in write.rs'), over what the work words and the tables hold.
use Rattle.std.specs.Prelude.{ℕ, ◌≤◌, ◌<◌, ◌≡◌, Bool, true, false, eqb, List, [], ◌∷◌, length, get_or, Option, Some}
use Rattle.octets.specs.Pick.{pick}
use Rattle.index.specs.Write.{total}
use Rattle.unfold.specs.Unfold.{Row, global}
use Rattle.cff.specs.Font.{Program}
use Rattle.subset.specs.Pruned.{local_set, global_set}
use Rattle.renumber.specs.Ranks.{calls_by}
use Rattle.renumber.specs.declared.Ranks.{Ranks}
use Rattle.cff.specs.Reads.{GoodFont, program_of}
use Rattle.bodies.specs.Ways.{many_of, holds, subrs_by, reached_in, no_ranks, ranks_in, SubrsIn}
use Rattle.bodies.specs.declared.Manner.{Manner}
use Rattle.reach.specs.declared.Subrs.TheVariants.{Global}
use Rattle.bodies.specs.Pruning.{all_hold}
use Rattle.order_window.specs.declared.Order.{Order}
use Rattle.glyph_bodies.specs.Charstrings.{charstrings_of, CharstringsIn}
use Rattle.fds.specs.Locals.{in_use_lem, fds_in}
use Rattle.fds.specs.NewLocals.{locals_by, new_locals, Tables, LocalsIn}
use Rattle.plan.specs.declared.sizes.Totals.{Totals}
use Rattle.plan.specs.declared.Plan.{Plan}
use Rattle.subset.specs.declared.Way.{Way}
use Rattle.subset.specs.declared.Way.TheVariants.{Renumbered, Stubbed, Copied}

-- the bits by which a global subroutine calls local ones: those of the FD in use where it is the only one
abbrev pub across_by : List Ranks → List ℕ → Ranks
across_by table [] = no_ranks
across_by table (f ∷ []) = ranks_in table f
across_by table (f ∷ g ∷ fs) = no_ranks

-- the last of some FDs
unfoldable pub last_of : List ℕ → ℕ
last_of [] = 0
last_of (f ∷ []) = f
last_of (f ∷ g ∷ fs) = last_of (g ∷ fs)

-- the FDs of some glyphs are in use
abbrev pub FdsUsed : Program → List ℕ → List ℕ → Type 0
FdsUsed p used order = (i : ℕ) → i < length order → in_use_lem used (get_or p.fds (get_or order i 0) 0) ≡ true

module _ (way : Way) (p : Program) (rows : List Row) (ws used : List ℕ) (table : List Ranks) (globals : Ranks) (order : List ℕ) where
  -- the globals by the way, and the charstrings, or that their renumbering fails
  abbrev pub globals_by : Option (List (List ℕ))
  globals_by = subrs_by way rows (reached_in ws globals) (calls_by ws (across_by table (fds_in used)) globals) global p.globals

  abbrev pub glyphs_by : Option (List (List ℕ))
  glyphs_by = charstrings_of way rows p.fds ws table globals p.charstrings order

  -- whether no part fails
  abbrev pub all_made : Bool
  all_made = pick (holds globals_by) (pick (all_hold (locals_by way p rows ws table globals) (fds_in used)) (holds glyphs_by) false) false

  -- no part fails; the bytes of the globals, of the charstrings, and of the locals of each FD in use: as many as numbers hold
  pub record Totaled (totals : List ℕ) (t : Totals) : Type 0 where
    pub made : all_made ≡ true
    pub of_globals : t.globals ≡ total (many_of globals_by)
    pub of_locals : (f : ℕ) → f < 256 → in_use_lem used f ≡ true → get_or totals f 0 ≡ total (new_locals way p rows ws table globals f)
    pub of_glyphs : t.glyphs ≡ total (many_of glyphs_by)
    pub few_globals : t.globals ≤ 21989897011200
    pub few_locals : (f : ℕ) → f < 256 → in_use_lem used f ≡ true → get_or totals f 0 ≤ 21989897011200
    pub few_glyphs : t.glyphs ≤ 21989897011200

  -- whether no part fails, and then these bytes
  pub record MeasuresAll (totals : List ℕ) (r : Option Totals) : Type 0 where
    pub told : holds r ≡ all_made
    pub sums : (t : Totals) → r ≡ Some t → Totaled totals t

-- the way that is found: by the flag, by whether each number has a subroutine, and by whether no part fails
abbrev pub way_by : ℕ → Bool → Bool → Way
way_by traced all made = pick (eqb traced 0) Copied (pick all (pick made Renumbered Stubbed) Stubbed)

-- the way that is tried first
abbrev pub first_way : ℕ → Bool → Way
first_way traced all = pick (eqb traced 0) Copied (pick all Renumbered Stubbed)

-- a plan: the way, which is the one that is tried first or, where a part fails by it, stubbed; and the bytes of all bodies by it
module _ (p : Program) (rows : List Row) (ws used : List ℕ) (table : List Ranks) (globals : Ranks) (order : List ℕ) where
  pub record Plans (first : Way) (totals : List ℕ) (r : Plan) : Type 0 where
    pub is : r.way ≡ pick (all_made first p rows ws used table globals order) first Stubbed
    pub sizes : Totaled r.way p rows ws used table globals order totals (record { globals = r.globals_total; glyphs = r.glyphs_total })

-- what measuring asks: the parts that the words and the tables hold, as their own measures ask for them
pub record MeasureIn (b : List ℕ) (o : Order) (used ws : List ℕ) (how : Manner) (table : List Ranks) (rows : List Row) : Type 0 where
  pub font : GoodFont b o.f
  pub tables : Tables b (program_of b o.f) used table
  pub locals : LocalsIn (program_of b o.f) used ws table how.globals rows how.rising
  pub subrs : SubrsIn b ws o.f.globals how.globals (across_by table (fds_in used)) how.globals rows how.rising Global
  pub glyphs : CharstringsIn b ws table o how rows

-- how bodies are written by another way
abbrev pub by_way_lem : Way → Manner → Manner
by_way_lem way how = record { way = way; globals = how.globals; rising = how.rising }

-- a row's number has two bytes
pub record Narrow (rows : List Row) : Type 0 where
  pub globals : (i : ℕ) → 65536 ≤ i → global_set rows i ≡ false
  pub locals : (f i : ℕ) → 65536 ≤ i → local_set rows f i ≡ false
