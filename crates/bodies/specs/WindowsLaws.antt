-- A body by a window of the record that has its rows is the body by the whole record.
use Rattle.std.specs.Prelude.{ℕ, ◌+◌, ◌≤◌, ◌<◌, ◌≡◌, refl, Bool, true, List, [], ◌∷◌, length, take, get_or, Option, Some}
use Rattle.std.proofs.Common.{sym, ap, ◌∙◌, subst, arith}
use Rattle.octets.specs.Pick.{pick}
use Rattle.octets.specs.declared.out.Out.{Out}
use Rattle.octets.specs.Out.{Writes}
use Rattle.octets.specs.OutLaws.{writes_as}
use Rattle.index.specs.Index.{items_of}
use Rattle.unfold.specs.Unfold.{Row, Site, masked}
use Rattle.record.specs.Record.{rows_of}
use Rattle.prune.specs.Renumber.{Calls}
use Rattle.unfold.specs.Sites.{site_of}
use Rattle.unfold.specs.declared.Site as code
use Rattle.renumber.specs.Turn.{sized_of, body_of_lem}
use Rattle.renumber.specs.Ranks.{calls_by}
use Rattle.mask_rows.specs.MaskRows.{SameMasks, Fillable, Covers, CoversOrNone}
use Rattle.mask_rows.specs.SameLaws.{same_body}
use Rattle.mask_rows.specs.declared.Window.{Window}
use Rattle.long_bodies.specs.Offsets.{body_in, Sited}
use Rattle.long_bodies.specs.TwoLaws.{site_mask}
use Rattle.bodies.specs.Ways.{holds, body_by, reached_in, site_in, is_stub}
use Rattle.bodies.specs.Sources.{Sourced, kept_from, subr_from}
use Rattle.bodies.specs.Sizes.{AtMost, len_at}
use Rattle.bodies.specs.Windows.{source_in_order, kind_of, fd_of}
use Rattle.bodies.specs.declared.subrs.Source.{Source}
use Rattle.reach.specs.Reach.{SubrsFit}
use Rattle.reach.specs.declared.Subrs.{Subrs}
use Rattle.reach.specs.declared.Subrs.TheVariants.{Global, Local}
use Rattle.subset.specs.Way.{is_renumbered}
use Rattle.subset.specs.declared.Way.{Way}

-- a body by records that list the same rows of its masks
pub by-same : (way : Way) (rows rows' : List Row) (calls : Calls) (site : Site) (s : List ℕ) → SameMasks rows rows' site
    → body_by way rows calls site s ≡ body_by way rows' calls site s
by-same way rows rows' calls site s same = ap (λ (m : Option (List ℕ)). pick (is_renumbered way) m (Some s)) (same_body rows rows' site same calls s)

-- ---- subroutines

-- the rows of masks of the k-th
same_site : (of : Subrs) (rec bytes : List ℕ) (w : Window) → Covers rec bytes (kind_of of) (fd_of of) w → (k : ℕ) → w.from ≤ k → k < w.end
    → SameMasks (rows_of rec) (rows_of (take w.len bytes)) (site_in of k)
same_site Global rec bytes w covers k from to = λ offset len. covers.same k from to offset len
same_site (Local fd) rec bytes w covers k from to = λ offset len. covers.same k from to offset len

module _ (rec bytes : List ℕ) (w : Window) (source : Source) (covers : Covers rec bytes (kind_of source.of) (fd_of source.of) w) (ws b : List ℕ)
    (part : List ℕ) (shown : part ≡ take w.len bytes) where
  module _ (source' : Source) (e : source' ≡ source_in_order source) (k : ℕ) where
    module _ (from : w.from ≤ k) (to : k < w.end) where
      window_subr : subr_from source' (rows_of part) ws b k ≡ subr_from source (rows_of rec) ws b k
      window_subr =
          ap (λ (x : Source). subr_from x (rows_of part) ws b k) e
          ∙ ap (λ (m : Option (List ℕ)). pick (is_stub source.way (reached_in ws source.own) k) (Some (11 ∷ [])) m)
          (sym (by-same source.way (rows_of rec) (rows_of part) (calls_by ws source.locals source.globals) (site_in source.of k) (get_or (items_of b source.ix) k [])
          (subst (λ (l : List ℕ). SameMasks (rows_of rec) (rows_of l) (site_in source.of k)) (sym shown) (same_site source.of rec bytes w covers k from to))))

      kept_same : kept_from source' ws k ≡ kept_from source ws k
      kept_same = ap (λ (x : Source). kept_from x ws k) e

      pub subr_window_len : (r : Option ℕ) → (r ≡ len_at (kept_from source' ws) (subr_from source' (rows_of part) ws b) k) × AtMost 335544320 r
          → (r ≡ len_at (kept_from source ws) (subr_from source (rows_of rec) ws b) k) × AtMost 335544320 r
      subr_window_len r h = (
        h.0 ∙ ap (λ (t : Bool). pick t (sized_of (subr_from source' (rows_of part) ws b k)) (Some 0)) kept_same
            ∙ ap (λ (m : Option (List ℕ)). pick (kept_from source ws k) (sized_of m) (Some 0)) window_subr,
        h.1,
      )

      pub subr_window-room : (at n : ℕ) → holds (subr_from source (rows_of rec) ws b k) ≡ true → at + length (body_of_lem (subr_from source (rows_of rec) ws b k)) ≤ n
          → (holds (subr_from source' (rows_of part) ws b k) ≡ true) × (at + length (body_of_lem (subr_from source' (rows_of part) ws b k)) ≤ n)
      subr_window-room at n h l = (ap holds window_subr ∙ h, subst (λ (m : Option (List ℕ)). at + length (body_of_lem m) ≤ n) (sym window_subr) l)

      pub subr_window-writes : {old new : Out} → Writes old (body_of_lem (subr_from source' (rows_of part) ws b k)) new
          → Writes old (body_of_lem (subr_from source (rows_of rec) ws b k)) new
      subr_window-writes v = writes_as v (ap body_of_lem window_subr)

fd-small : (of : Subrs) → SubrsFit of → fd_of of < 256
fd-small Global f = omega arith
fd-small (Local fd) f = f

kind-small : (of : Subrs) → kind_of of < 256
kind-small Global = omega arith
kind-small (Local fd) = omega arith

-- a subroutine's window can be filled
pub fills_subr : (source : Source) {rows : List Row} {ws b : List ℕ} → Sourced source rows ws b → (k : ℕ) → k < source.ix.count → Fillable (kind_of source.of) (fd_of source.of) k
fills_subr source a k h = record { kind_fits = kind-small source.of; fd_fits = fd-small source.of a.fits; few = omega (arith, a.few) }

-- what a window of some subroutines has, by whose they are
pub fills_global : {of : Subrs} {k : ℕ} → of ≡ Global → Fillable (kind_of of) (fd_of of) k → Fillable 4 0 k
fills_global {of} {k} e p = subst (λ (x : Subrs). Fillable (kind_of x) (fd_of x) k) e p

pub covers_global : {of : Subrs} → of ≡ Global → (rec bytes : List ℕ) (w : Option Window) → CoversOrNone rec bytes (kind_of of) (fd_of of) w → CoversOrNone rec bytes 4 0 w
covers_global e rec bytes w p = subst (λ (x : Subrs). CoversOrNone rec bytes (kind_of x) (fd_of x) w) e p

pub global_covers : {of : Subrs} → of ≡ Global → (rec bytes : List ℕ) (w : Option Window) → CoversOrNone rec bytes 4 0 w → CoversOrNone rec bytes (kind_of of) (fd_of of) w
global_covers e rec bytes w p = subst (λ (x : Subrs). CoversOrNone rec bytes (kind_of x) (fd_of x) w) (sym e) p

pub fills_local : {of : Subrs} {fd k : ℕ} → of ≡ Local fd → Fillable (kind_of of) (fd_of of) k → Fillable 3 fd k
fills_local {of} {fd} {k} e p = subst (λ (x : Subrs). Fillable (kind_of x) (fd_of x) k) e p

pub covers_local : {of : Subrs} {fd : ℕ} → of ≡ Local fd → (rec bytes : List ℕ) (w : Option Window) → CoversOrNone rec bytes (kind_of of) (fd_of of) w → CoversOrNone rec bytes 3 fd w
covers_local e rec bytes w p = subst (λ (x : Subrs). CoversOrNone rec bytes (kind_of x) (fd_of x) w) e p

pub local_covers : {of : Subrs} {fd : ℕ} → of ≡ Local fd → (rec bytes : List ℕ) (w : Option Window) → CoversOrNone rec bytes 3 fd w → CoversOrNone rec bytes (kind_of of) (fd_of of) w
local_covers e rec bytes w p = subst (λ (x : Subrs). CoversOrNone rec bytes (kind_of x) (fd_of x) w) (sym e) p

-- ---- a body with more rows than a window holds

site_number : (site : code.Site) (of : Subrs) (k : ℕ) → site_of site ≡ site_in of k → (body_in site).number ≡ k
site_number site of k e = sym (ap (λ (r : Row). r.number) (site_mask site 0 0)) ∙ ap (λ (x : Site). (masked x 0 0).number) e ∙ own of
  where
    own : (x : Subrs) → (masked (site_in x k) 0 0).number ≡ k
    own Global = refl
    own (Local fd) = refl

-- its rows can be taken by windows
pub sited_subr : (site : code.Site) (of : Subrs) (k : ℕ) → site_of site ≡ site_in of k → k < 65535 → Sited site
sited_subr site of k e h = record { few = omega (arith, site_number site of k e) }
