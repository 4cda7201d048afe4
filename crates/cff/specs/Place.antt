-- Where an item of a font lies (document 01, 'INDEX item': the part of the caller's bytes itself, "the sub-slice of the font that the offsets
-- name"): an item that holds the same bytes elsewhere is another part. A refused lookup gives an empty part, of which no more is said.
use Rattle.std.specs.Prelude.{ℕ, ◌+◌, ◌<◌, ◌≡◌, List, length, Result, Ok, Err}
use Rattle.std.specs.Borrow.{Bor}
use Rattle.index.specs.Index.{items_of}
use Rattle.index.specs.Good.{Good}
use Rattle.index.specs.Place.{StartsAt, item_place}
use Rattle.index.specs.declared.Index.{Index}
use Rattle.octets.specs.Lists.{part_of}
use Rattle.cff.specs.Font.{Program, read_table}
use Rattle.cff.specs.Find.{items_in}
use Rattle.cff.specs.declared.ItemKind.{ItemKind}
use Rattle.opentype.specs.declared.TableAt.{TableAt}
use Rattle.refusal.specs.declared.Refusal.{Refusal}

-- the part r of the slice s, in which the bytes b of a table stand from a place on, begins where the offsets of an INDEX of these items put the k-th
pub record ItemAt (b : List ℕ) (from : ℕ) (items : List (List ℕ)) (k : ℕ) (r s : Bor (List ℕ)) : Type 0 where
  pub index : Index
  pub good : Good b index
  pub holds : items_of b index ≡ items
  pub starts : StartsAt r s (from + item_place b index k)

-- where a lookup's answer begins, by the font and by where it stands in the file s (document 02, Wish 9)
abbrev pub LiesAt : List ℕ → ℕ → Result Program Refusal → ItemKind → ℕ → Bor (List ℕ) → Bor (List ℕ) → Type 0
LiesAt b from (Err n) kind k r s = Unit
LiesAt b from (Ok p) kind k r s = k < length (items_in kind p) → ItemAt b from (items_in kind p) k r s

abbrev pub LiesIn : List ℕ → Result TableAt Refusal → ItemKind → ℕ → Bor (List ℕ) → Bor (List ℕ) → Type 0
LiesIn file (Err n) kind k r s = Unit
LiesIn file (Ok t) kind k r s = LiesAt (part_of file t.start t.len) t.start (read_table (part_of file t.start t.len)) kind k r s
