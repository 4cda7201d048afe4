-- The Private parts of the FDs in use (document 01, 'Layout': each Private with its local subroutines), measured by tables: how many new local
-- subroutines an FD has and how many bytes they have together (crates/subset, private_dict, private_part and private_parts).
use Rattle.std.specs.Prelude.{ℕ, ◌+◌, ◌≤◌, ◌<◌, ◌≡◌, true, List, ◌++◌, eqb, length, drop, get_or}
use Rattle.octets.specs.Pick.{pick}
use Rattle.index.specs.Write.{index_len_lem}
use Rattle.cff.specs.Font.{Program}
use Rattle.subset.specs.Kept.{private_of}
use Rattle.subset.specs.Pruned.{mapped}
use Rattle.renumber.specs.declared.Ranks.{Ranks}
use Rattle.bodies.specs.Ways.{ranks_in}
use Rattle.private_dicts.specs.Privates.{private_dict_by, parts_len}
use Rattle.private_dicts.specs.declared.part.Part.{Part}
use Rattle.fds.specs.Locals.{in_use_lem, fds_in}
use Rattle.subset.specs.Way.{is_renumbered}
use Rattle.subset.specs.declared.Way.{Way}

-- how many new local subroutines an FD has: those reached where they are renumbered, else all
abbrev pub left_in : Way → List Ranks → ℕ → ℕ
left_in way table f = pick (is_renumbered way) (ranks_in table f).reached (ranks_in table f).count

-- how long the INDEX of so many local subroutines is that have t bytes together; none is written where there are none
unfoldable pub subrs_len : ℕ → ℕ → ℕ
subrs_len left t = pick (eqb left 0) 0 (index_len_lem left t)

-- the Private DICT of an FD, and the part that holds it and its local subroutines
abbrev pub dict_len : Program → ℕ → ℕ → ℕ
dict_len p left f = length (private_dict_by (private_of p f).entries left)

abbrev pub part_by : Program → ℕ → ℕ → ℕ → Part
part_by p left t f = record { size = dict_len p left f; len = dict_len p left f + subrs_len left t }

module _ (p : Program) (way : Way) (table : List Ranks) (totals : List ℕ) where
  -- by the tables
  abbrev pub part_at : ℕ → Part
  part_at f = part_by p (left_in way table f) (get_or totals f 0) f

  -- how many, and how many bytes, of an FD in use: as many as numbers hold
  pub record PartFits (f : ℕ) : Type 0 where
    pub few : left_in way table f < 65536
    pub short : get_or totals f 0 ≤ 281474976710656

  abbrev pub PartsFit : List ℕ → Type 0
  PartsFit used = (f : ℕ) → f < 256 → in_use_lem used f ≡ true → PartFits f

  -- the parts of the FDs in use by new number, in front of what else the slice held; how long they are together
  pub record SizesParts (used : List ℕ) (old new : List Part) (all : ℕ) : Type 0 where
    pub parts : new ≡ mapped part_at (fds_in used) ++ drop (length (fds_in used)) old
    pub together : all ≡ parts_len (mapped part_at (fds_in used))
    pub small : all ≤ 72059392000000000
