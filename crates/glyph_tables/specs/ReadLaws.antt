-- Laws of what a loop over the order reads (document 02, Wish 10): the i-th CID and the i-th FD of the glyphs that are written.
use Rattle.std.specs.Prelude.{ℕ, zero, suc, ◌/◌, ◌%◌, ◌<◌, ◌≡◌, refl, List, [], ◌∷◌, length, get_or}
use Rattle.std.proofs.Common.{sym, ap, ◌∙◌, subst, arith}
use Rattle.charset.specs.FdPlaces.{fd_of}
use Rattle.charset.specs.FdFound.{fd-at}
use Rattle.cff.specs.Font.{Program}
use Rattle.cff.specs.Reads.{program_of}
use Rattle.subset.specs.Kept.{fds_of}
use Rattle.subset.specs.Subset.{cids_of}
use Rattle.order_window.specs.declared.window.Kept.{Kept}
use Rattle.order_window.specs.GatheredLaws.{glyphs_many}
use Rattle.order_window.specs.Stays.{order_of, kept_glyphs, Stays, stays-glyph, stays-below, stays-id}
use Rattle.glyph_tables.specs.Tables.{cids_kept, fds_kept, new_fd_by, new_fds_by, HasNumber, Numbered}
use Rattle.glyph_tables.specs.SelectLaws.{select-at}

-- ---- lists of CIDs and FDs

pub cids_many : (p : Program) (gs : List ℕ) → length (cids_of p gs) ≡ length gs
unfolding cids_of
cids_many p [] = refl
cids_many p (g ∷ gs) = ap suc (cids_many p gs)

pub cids-at : (p : Program) (gs : List ℕ) (i : ℕ) → i < length gs → get_or (cids_of p gs) i 0 ≡ get_or p.ids (get_or gs i 0) 0
unfolding cids_of
cids-at p [] i h = absurd (omega arith)
cids-at p (g ∷ gs) zero h = refl
cids-at p (g ∷ gs) (suc i) h = cids-at p gs i (omega arith)

pub fds_many : (p : Program) (gs : List ℕ) → length (fds_of p gs) ≡ length gs
unfolding fds_of
fds_many p [] = refl
fds_many p (g ∷ gs) = ap suc (fds_many p gs)

pub fds_at : (p : Program) (gs : List ℕ) (i : ℕ) → i < length gs → get_or (fds_of p gs) i 0 ≡ get_or p.fds (get_or gs i 0) 0
unfolding fds_of
fds_at p [] i h = absurd (omega arith)
fds_at p (g ∷ gs) zero h = refl
fds_at p (g ∷ gs) (suc i) h = fds_at p gs i (omega arith)

-- ---- those of the kept glyphs

glyphs-count : (k : Kept) → length (kept_glyphs k) ≡ k.o.count
glyphs-count k = sym (glyphs_many k.font.now k.o.f k.words.now) ∙ sym k.gathered.many

-- as many as there are glyphs
pub kept-cids_many : (k : Kept) → length (cids_kept k) ≡ k.o.count
kept-cids_many k = cids_many (program_of k.font.now k.o.f) (kept_glyphs k) ∙ glyphs-count k

pub kept_fds_many : (k : Kept) → length (fds_kept k) ≡ k.o.count
kept_fds_many k = fds_many (program_of k.font.now k.o.f) (kept_glyphs k) ∙ glyphs-count k

-- the word of place i, whatever the window holds now
module _ (old now : Kept) (s : Stays old now) (i : ℕ) (more : i < old.o.count) (w : ℕ) (is : w ≡ get_or (order_of now) i 0) where
  abbrev p : Program
  p = program_of old.font.now old.o.f

  inside : i < length (kept_glyphs old)
  inside = omega (arith, glyphs-count old)

  pub read_cid : w / 65536 ≡ get_or (cids_kept old) i 0
  read_cid = stays-id old now s i more w is ∙ sym (cids-at p (kept_glyphs old) i inside)

  pub read-fd : fd_of old.font.now old.o.f.select (w % 65536) ≡ get_or (fds_kept old) i 0
  read-fd =
      sym (fd-at old.font.now old.o.f.select old.o.f.charstrings.count (w % 65536) (stays-below old now s i more w is))
      ∙ ap (λ (g : ℕ). get_or p.fds g 0) (stays-glyph old now s i more w is)
      ∙ sym (fds_at p (kept_glyphs old) i inside)

  fd-inside : i < length (fds_kept old)
  fd-inside = omega (arith, kept_fds_many old)

  -- it has a new number, which is that of the place
  pub read-numbered : (table : List ℕ) → Numbered table (fds_kept old) → HasNumber table (fd_of old.font.now old.o.f.select (w % 65536))
  read-numbered table n = subst (HasNumber table) (sym read-fd) (n i fd-inside)

  pub read-new : (table : List ℕ) (r : ℕ) → r ≡ new_fd_by table (fd_of old.font.now old.o.f.select (w % 65536)) → r ≡ get_or (new_fds_by table (fds_kept old)) i 0
  read-new table r e = e ∙ ap (new_fd_by table) read-fd ∙ select-at table (fds_kept old) i fd-inside
