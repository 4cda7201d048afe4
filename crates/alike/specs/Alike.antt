-- Unused letters leave no trace (document 02, Wish 8): two accepted fonts, equal in all they hold except the charstrings of unkept glyphs and the
-- bodies of subroutines absent from the record, give the same reply to a subset call with flag 1; with flag 0 so do fonts that also have all
-- subroutine bodies equal, those of unused FDs aside. What the fonts hold is what reading gives, so they may place their parts differently, bare
-- or in an OpenType file. Proved in Theorem.
use Rattle.std.specs.Prelude.{ℕ, ◌<◌, ◌≡◌, Bool, true, false, List, [], ◌∷◌, length, get_or, Result, Ok}
use Rattle.octets.specs.Pick.{pick}
use Rattle.dict.specs.Op.{private, subrs}
use Rattle.dict.specs.Dict.{Entry}
use Rattle.dict_write.specs.Written.{without}
use Rattle.record.specs.Record.{rows_of}
use Rattle.cff.specs.Font.{Private, Program, read_font, charset, encoding, char_strings, fd_array, fd_select_lem}
use Rattle.subset.specs.Kept.{is_in, keeps, kept_of, used_fds, private_of, locals_of}
use Rattle.subset.specs.Pruned.{local_set, global_set}
use Rattle.subset.specs.Cut.{cut_with}
use Rattle.outcome.specs.Entry.{CutsWith}
use Rattle.outcome.specs.declared.Subsetted.{Subsetted}
use Rattle.refusal.specs.declared.Refusal.{Refusal}

-- ---- equal in all they hold

-- the entries of a top DICT that say where a part stands; the parts themselves are asked below
abbrev pub places : List ℕ
places = charset ∷ encoding ∷ char_strings ∷ private ∷ fd_array ∷ fd_select_lem ∷ []

-- the entries of other operators than these
unfoldable pub without_all : List ℕ → List Entry → List Entry
without_all [] es = es
without_all (op ∷ ops) es = without op (without_all ops es)

-- as many bodies, and the same ones where they are asked
pub record SameFor (asked : ℕ → Bool) (xs ys : List (List ℕ)) : Type 0 where
  pub many : length xs ≡ length ys
  pub same : (k : ℕ) → asked k ≡ true → get_or xs k [] ≡ get_or ys k []

-- the same entries of a Private DICT in their order, but for Subrs, which is a place
pub record SamePrivate (asked : ℕ → Bool) (x y : Private) : Type 0 where
  pub entries : without subrs x.entries ≡ without subrs y.entries
  pub locals : SameFor asked x.locals y.locals

-- two programs, by a keep list, the global subroutines that are asked, and the local ones of each FD. Of a Font DICT Private is left out, which is a
-- place; a name-keyed font has one FD, 0, and no Font DICT
pub record Alike (keep : List ℕ) (global : ℕ → Bool) (local : ℕ → ℕ → Bool) (p q : Program) : Type 0 where
  pub top : without_all places p.top ≡ without_all places q.top
  pub strings : p.strings ≡ q.strings
  pub ids : p.ids ≡ q.ids
  pub coding : p.coding ≡ q.coding
  pub fds : p.fds ≡ q.fds
  pub dicts : (f : ℕ) → without private (get_or p.dicts f []) ≡ without private (get_or q.dicts f [])
  pub charstrings : SameFor (keeps keep) p.charstrings q.charstrings
  pub globals : SameFor global p.globals q.globals
  pub many_privates : length p.privates ≡ length q.privates
  pub privates : (f : ℕ) → SamePrivate (local f) (private_of p f) (private_of q f)

-- an FD of a kept glyph, 0 among them
abbrev pub in_use_lem : Program → List ℕ → ℕ → Bool
in_use_lem p keep f = is_in f (used_fds p (kept_of (length p.charstrings) keep))

-- flag 1: asked are the subroutines that the record lists as reached, in FDs in use; a row of a mask does not ask for the body that it is in
abbrev pub ListedAlike : List ℕ → List ℕ → Program → Program → Type 0
ListedAlike keep rec p q = Alike keep (global_set (rows_of rec)) (λ f k. pick (in_use_lem p keep f) (local_set (rows_of rec) f k) false) p q

-- flag 0: all, those of unused FDs aside
abbrev pub AllAlike : List ℕ → Program → Program → Type 0
AllAlike keep p q = Alike keep (λ k. true) (λ f k. in_use_lem p keep f) p q

-- ---- how many work words a call asks for

pub record SameCounts (p q : Program) : Type 0 where
  pub charstrings : length p.charstrings ≡ length q.charstrings
  pub globals : length p.globals ≡ length q.globals
  pub privates : length p.privates ≡ length q.privates
  pub locals : (f : ℕ) → length (locals_of p f) ≡ length (locals_of q f)

-- by the counts of charstrings and subroutines alone
abbrev pub CountsAlone : (Program → ℕ) → Type 0
CountsAlone size = (p q : Program) → SameCounts p q → size p ≡ size q

-- ---- the statements

-- the same reply, a refusal or the way and the bytes, for fonts that are read as these programs, whatever else is asked and lent
abbrev pub SameReply : (Program → ℕ) → Program → Program → List ℕ → List ℕ → ℕ → Type 0
SameReply size p q keep rec flag =
    (cid ask : Bool) (font font' name : List ℕ) (words room : ℕ) → read_font font ≡ Ok p → read_font font' ≡ Ok q
    → cut_with size cid ask font name keep rec flag words room ≡ cut_with size cid ask font' name keep rec flag words room

-- with flag 1, and every flag but 0: above 1 both calls are refused
abbrev pub NoTrace : (Program → ℕ) → Type 0
NoTrace size = (p q : Program) (keep rec : List ℕ) (flag : ℕ) → 0 < flag → ListedAlike keep rec p q → SameReply size p q keep rec flag

-- with flag 0
abbrev pub NoTraceCopied : (Program → ℕ) → Type 0
NoTraceCopied size = (p q : Program) (keep rec : List ℕ) → AllAlike keep p q → SameReply size p q keep rec 0

-- two calls that ask for so many words, by their contracts: the same answer, output and work words, where the lent memory was the same before
abbrev pub SameCalls : (Program → ℕ) → Program → Program → List ℕ → List ℕ → ℕ → Type 0
SameCalls size p q keep rec flag =
    (cid ask : Bool) (font font' name work out work₁ out₁ work₂ out₂ : List ℕ) (r s : Result Subsetted Refusal) → read_font font ≡ Ok p → read_font font' ≡ Ok q
    → CutsWith size cid ask font name keep rec flag work out work₁ out₁ r → CutsWith size cid ask font' name keep rec flag work out work₂ out₂ s
    → (r ≡ s) × (out₁ ≡ out₂) × (work₁ ≡ work₂)
