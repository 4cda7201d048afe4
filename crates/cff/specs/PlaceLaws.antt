-- Laws of where an item lies: one for each way out of a lookup.
use Rattle.std.specs.Prelude.{ℕ, ◌≤◌, ◌≡◌, List, Result, Ok, Err}
use Rattle.std.proofs.Math.Path.{sym, ap}
use Rattle.std.proofs.Common.{◌∙◌, subst, arith}
use Rattle.std.specs.Borrow.{Bor}
use Rattle.octets.specs.Lists.{part_of}
use Rattle.index.specs.Place.{StartsAt, item_place}
use Rattle.index.specs.declared.Index.{Index}
use Rattle.opentype.specs.Opentype.{place_of}
use Rattle.cff.specs.Font.{Program, read_table, read_at, read_font}
use Rattle.cff.specs.Reads.{program_of, index_in_lem}
use Rattle.cff.specs.File.{InFile}
use Rattle.cff.specs.SetLaws.{items-good, items_is, many}
use Rattle.cff.specs.Place.{LiesAt, LiesIn}
use Rattle.cff.specs.declared.ItemKind.{ItemKind}
use Rattle.cff.specs.declared.font.Font.{Font}
use Rattle.opentype.specs.declared.TableAt.{TableAt}
use Rattle.refusal.specs.declared.Refusal.{Refusal}

-- nothing is said of a font that was refused
pub lies_refused : (file : List ℕ) (kind : ItemKind) (k : ℕ) (x s : Bor (List ℕ)) (n : Refusal) → read_font file ≡ Err n → LiesIn file (place_of file) kind k x s
unfolding read_font
lies_refused file kind k x s n = go (place_of file)
  where
    go : (y : Result TableAt Refusal) → read_at file y ≡ Err n → LiesIn file y kind k x s
    go (Err m) e = tt
    go (Ok t) e = subst (λ (g : Result Program Refusal). LiesAt (part_of file t.start t.len) t.start g kind k x s) (sym e) tt

module _ (file : List ℕ) (f : Font) (b : List ℕ) (found : InFile file f b) (kind : ItemKind) (k : ℕ) (x s : Bor (List ℕ)) (ix : Index) (i : ix ≡ index_in_lem kind f) where
  -- the table of the file is read
  table_is : read_table b ≡ Ok (program_of b f)
  unfolding read_font
  table_is = ap read_table found.bytes ∙ sym (ap (read_at file) found.place) ∙ found.is

  by-table : LiesAt b f.start (Ok (program_of b f)) kind k x s → LiesIn file (place_of file) kind k x s
  by-table h =
      subst (λ (y : Result TableAt Refusal). LiesIn file y kind k x s) (sym found.place)
      (subst (λ (t : List ℕ). LiesAt t f.start (read_table t) kind k x s) found.bytes
      (subst (λ (g : Result Program Refusal). LiesAt b f.start g kind k x s) (sym table_is) h))

  pub lies_none : ix.count ≤ k → LiesIn file (place_of file) kind k x s
  lies_none h = by-table (λ below. absurd (omega (arith, below, h, many file f b found kind ix i)))

  -- the item is a part of the table, which is a part t of the file
  pub lies_found : (t : Bor (List ℕ)) → StartsAt t s f.start → StartsAt x t (item_place b ix k) → LiesIn file (place_of file) kind k x s
  lies_found t whole starts =
      by-table (λ below. record {
        index = ix;
        good = items-good file f b found kind ix i;
        holds = sym (items_is file f b found kind ix i);
        starts = (starts.0 ∙ whole.0, omega (arith, starts.1, whole.1));
      })
