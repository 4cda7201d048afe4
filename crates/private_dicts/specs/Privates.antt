-- The Private DICTs and the Font DICTs of a subset over what the code holds (document 01, 'Layout'; crates/subset, private_dict and font_dicts):
-- the entries of a Private DICT with the count of the local subroutines that are left; the parts that a Private DICT and its local subroutines make.
use Rattle.std.specs.Prelude.{ℕ, ◌+◌, ◌≤◌, ◌<◌, ◌≡◌, List, [], ◌∷◌, ◌++◌, eqb, length, take, get_or, Ok}
use Rattle.octets.specs.Pick.{pick}
use Rattle.index.specs.Write.{total}
use Rattle.dict.specs.Op.{subrs, font_matrix}
use Rattle.dict.specs.Dict.{Entry}
use Rattle.dict_write.specs.Written.{copied_entry, offset_entry, private_entry, private_bytes}
use Rattle.cff.specs.Font.{Private, Program}
use Rattle.cff.specs.Reads.{fd_private}
use Rattle.subset.specs.Kept.{private_of}
use Rattle.subset.specs.Subset.{matrix_of, private_dict, private_part}
use Rattle.private_dicts.specs.declared.part.Part.{Part}

-- the Private DICT of the FD with these bytes was read
pub record FdRead (b d : List ℕ) : Type 0 where
  pub private : Private
  pub is : fd_private b d ≡ Ok private

-- Subrs, where local subroutines are left, behind a Private DICT of so many bytes
unfoldable pub subrs_entry : ℕ → ℕ → List ℕ
subrs_entry left n = pick (eqb left 0) [] (offset_entry subrs (n + 6))

-- the Private DICT of these entries behind which so many local subroutines stand
unfoldable pub private_dict_by : List Entry → ℕ → List ℕ
private_dict_by es left = private_bytes es ++ subrs_entry left (length (private_bytes es))

-- the FontMatrix entries of FDs, as they are copied
unfoldable pub matrices_by : Program → List ℕ → List (List ℕ)
matrices_by p [] = []
matrices_by p (f ∷ fs) = copied_entry font_matrix (matrix_of p f) ∷ matrices_by p fs

-- the lengths of some parts together
unfoldable pub parts_len : List Part → ℕ
parts_len [] = 0
parts_len (q ∷ qs) = q.len + parts_len qs

-- the Font DICTs with these FontMatrix entries, for parts that stand one behind the other from a place on
unfoldable pub dicts_by : List (List ℕ) → List Part → ℕ → List (List ℕ)
dicts_by [] qs from = []
dicts_by (m ∷ ms) [] from = []
dicts_by (m ∷ ms) (q ∷ qs) from = (m ++ private_entry q.size from) ∷ dicts_by ms qs (from + q.len)

-- of some FDs
abbrev pub font_dicts_by : Program → List ℕ → List Part → ℕ → List (List ℕ)
font_dicts_by p fds parts from = dicts_by (matrices_by p fds) (take (length fds) parts) from

-- no part
abbrev pub no_part : Part
no_part = record { size = 0; len = 0 }

-- their INDEX is not too long, and the five-byte form holds the sizes and the places
pub record Placed (p : Program) (fds : List ℕ) (parts : List Part) (from : ℕ) : Type 0 where
  pub short : total (font_dicts_by p fds parts from) < 4294967295
  pub long : length fds ≤ length parts
  pub small : (k : ℕ) → k < length fds → (get_or parts k no_part).size < 2147483648
  pub ends : from + parts_len (take (length fds) parts) < 2147483648

-- the part of a Private DICT with these local subroutines; those of the FDs in use
abbrev pub part_for : Private → List (List ℕ) → Part
part_for q ls = record { size = length (private_dict q ls); len = length (private_part q ls) }

unfoldable pub parts_of : Program → List ℕ → List (List (List ℕ)) → List Part
parts_of p [] lss = []
parts_of p (f ∷ fs) [] = []
parts_of p (f ∷ fs) (ls ∷ lss) = part_for (private_of p f) ls ∷ parts_of p fs lss
