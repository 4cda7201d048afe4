-- The glyphs of many names or CIDs, with one reading of the font: each is what finding it alone gives (cff `find_name`, `find_cid`), 65536 where it is
-- absent. A refusal writes nothing: reading's comes first, then that of names that are longer together than their bytes, then that of too little room.
use Rattle.std.specs.Prelude.{ℕ, ◌<◌, ◌≡◌, List, [], ◌∷◌, map, ltb, length, take, drop, get_or, Result, Ok, Err, Option, Some, None}
use Rattle.octets.specs.Pick.{pick}
use Rattle.octets.specs.Lists.{sum_of}
use Rattle.octets.specs.Octets.{put}
use Rattle.cff.specs.Font.{Program}
use Rattle.cff.specs.Find.{find_name, find_cid}
use Rattle.refusal.specs.declared.Refusal.{Refusal}
use Rattle.refusal.specs.declared.Refusal.TheVariants.{Truncated, Output}

-- what a call finds: a refusal, or a glyph for each name or CID
pub data Glyphs : Type 0 where
  refused : Refusal → Glyphs
  found : List ℕ → Glyphs

-- the number for one that was looked for: 65536 where no glyph was found
abbrev pub number_for : Option ℕ → ℕ
number_for None = 65536
number_for (Some g) = g

abbrev pub of_name : Program → List ℕ → ℕ
of_name p name = number_for (find_name p name)

abbrev pub of_cid : Program → ℕ → ℕ
of_cid p cid = number_for (find_cid p cid)

-- names that stand one behind the other, by their lengths
unfoldable pub names_by : List ℕ → List ℕ → List (List ℕ)
names_by [] bytes = []
names_by (n ∷ ns) bytes = take n bytes ∷ names_by ns (drop n bytes)

unfoldable pub names_in : Program → List ℕ → List ℕ → Glyphs
names_in p bytes lens = pick (ltb (length bytes) (sum_of lens)) (refused Truncated) (found (map (of_name p) (names_by lens bytes)))

abbrev pub names_found : Result Program Refusal → List ℕ → List ℕ → Glyphs
names_found (Err n) bytes lens = refused n
names_found (Ok p) bytes lens = names_in p bytes lens

abbrev pub cids_found : Result Program Refusal → List ℕ → Glyphs
cids_found (Err n) cids = refused n
cids_found (Ok p) cids = found (map (of_cid p) cids)

-- the result that the call returns, and what is lent after it
abbrev pub result_of : Glyphs → ℕ → Result Unit Refusal
result_of (refused n) room = Err n
result_of (found gs) room = pick (ltb room (length gs)) (Err Output) (Ok tt)

abbrev pub leaves : Glyphs → List ℕ → List ℕ
leaves (refused n) old = old
leaves (found gs) old = pick (ltb (length old) (length gs)) old (put old 0 gs)

-- a call's result, and the lent words before and after
pub record Finds (f : Glyphs) (old new : List ℕ) (r : Result Unit Refusal) : Type 0 where
  pub result : r ≡ result_of f (length old)
  pub glyphs : new ≡ leaves f old

-- a slot for each CID, which has the number for it
pub record Slots (number : ℕ → ℕ) (slots : List ℕ) : Type 0 where
  pub size : length slots ≡ 65536
  pub is : (id : ℕ) → id < 65536 → get_or slots id 0 ≡ number id

-- no glyph was met
abbrev pub none : ℕ → ℕ
none id = 65536
