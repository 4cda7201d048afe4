-- What the theorem of demand 3 (document 01, 'Plain glyphs') is put together from: what is true of every font that is read, bodies that a subset can hold, and a subset that reads back.
use Rattle.std.specs.Prelude.{ℕ, ◌<◌, ◌≡◌, Bool, true, false, List, [], ◌∷◌, length, get_or, Ok}
use Rattle.octets.specs.Octets.{Octets}
use Rattle.octets.specs.Lists.{all_below}
use Rattle.dict.specs.Lookup.{Operands, absent, cid_keyed}
use Rattle.dict.specs.Proper.{AllProper}
use Rattle.charset.specs.CharsetBytes.{Ids}
use Rattle.cff.specs.Font.{Coding, Program, read_font}
use Rattle.subset.specs.Kept.{private_of, locals_of}
use Rattle.subset.specs.Pruned.{Bodies}
use Rattle.subset.specs.Subset.{matrix_of}

-- bodies that are bytes, and few enough for an INDEX
pub record GoodBodies (l : List (List ℕ)) : Type 0 where
  pub count : length l < 65536
  pub octets : (i : ℕ) → Octets (get_or l i [])

-- what holds of a font that was read
pub record GoodProgram (p : Program) : Type 0 where
  pub some : 0 < length p.charstrings
  pub charstrings : GoodBodies p.charstrings
  pub globals : GoodBodies p.globals
  pub locals : (f : ℕ) → GoodBodies (locals_of p f)
  pub ids_count : length p.ids ≡ length p.charstrings
  pub ids : Ids p.ids
  pub notdef : get_or p.ids 0 0 ≡ 0
  pub fds_count : length p.fds ≡ length p.charstrings
  pub fds : Octets p.fds
  pub fds_there : all_below (length p.privates) p.fds ≡ true
  pub one_private : cid_keyed p.top ≡ false → length p.privates ≡ 1
  pub top : AllProper p.top
  pub privates : (f : ℕ) → AllProper (private_of p f).entries
  pub dicts : (f : ℕ) → AllProper (get_or p.dicts f [])

-- bodies for n glyphs and for the FDs in use, few enough for their INDEXes
pub record Fitting (n : ℕ) (used : List ℕ) (b : Bodies) : Type 0 where
  pub glyphs : length b.charstrings ≡ n
  pub globals : length b.globals < 65536
  pub fds : length b.locals ≡ length used
  pub locals : (k : ℕ) → length (get_or b.locals k []) < 65536

-- the FontMatrix of each of these FDs
unfoldable pub matrices_of : Program → List ℕ → List Operands
matrices_of p [] = []
matrices_of p (f ∷ fs) = matrix_of p f ∷ matrices_of p fs

-- bytes that read back as a font of the same keying with these strings, ids, FDs, matrices by FD, encoding, and bodies
pub record ReadsAs (cid : Bool) (own : List (List ℕ)) (new_ids new_fds : List ℕ) (matrices : List Operands) (coding : Coding) (b : Bodies) (bs : List ℕ) : Type 0 where
  pub program : Program
  pub reads : read_font bs ≡ Ok program
  pub keying : cid_keyed program.top ≡ cid
  pub strings : program.strings ≡ own
  pub globals : program.globals ≡ b.globals
  pub charstrings : program.charstrings ≡ b.charstrings
  pub ids : program.ids ≡ new_ids
  pub fds : program.fds ≡ new_fds
  pub codes : program.coding ≡ coding
  pub matrix : (k : ℕ) → matrix_of program k ≡ get_or matrices k absent
  pub locals : (k : ℕ) → k < length b.locals → locals_of program k ≡ get_or b.locals k []
