-- Bodies by numbers of any size, as the definitions name them: a local subroutine's FD may be one that no row has.
use Rattle.std.specs.Prelude.{ℕ, ◌*◌, ◌<◌, ◌≡◌, refl, List}
use Rattle.octets.specs.Octets.{Octets}
use Rattle.unfold.specs.Unfold.{Site, glyph, local, global, masked}
use Rattle.record.specs.Record.{rows_of, two_lengths_lem}
use Rattle.unfold.specs.Sites.{site_of}
use Rattle.unfold.specs.declared.Site as code
use Rattle.unfold.specs.declared.Site.TheVariants as plain
use Rattle.mask_rows.specs.KeyLaws.{mask}
use Rattle.long_bodies.specs.Offsets.{body_in, keys_from, two_in_lem}
use Rattle.long_bodies.specs.TwoLaws.{two-sorted}
use Rattle.long_bodies.specs.declared.offsets.Body.{Body}
use Rattle.long_bodies.specs.declared.any_site.AnySite.{AnySite}
use Rattle.long_bodies.specs.declared.any_site.AnySite.TheVariants.{Glyph, Local, Global}

-- what the rows of masks of a body have in common
abbrev pub body_with : ℕ → ℕ → ℕ → Body
body_with kind fd number = record { kind = kind; fd = fd; number = number }

abbrev pub any_body : AnySite → Body
any_body (Glyph g) = body_with 2 0 g
any_body (Local fd k) = body_with 3 fd k
any_body (Global k) = body_with 4 0 k

-- a body as the definitions name it
abbrev pub any_site : AnySite → Site
any_site (Glyph g) = glyph g
any_site (Local fd k) = local fd k
any_site (Global k) = global k

-- a body that runs is one of them
abbrev pub any_in : code.Site → AnySite
any_in (plain.Glyph g) = Glyph g
any_in (plain.Local fd k) = Local fd k
any_in (plain.Global k) = Global k

pub same_site : (s : code.Site) → any_site (any_in s) ≡ site_of s
same_site (plain.Glyph g) = refl
same_site (plain.Local fd k) = refl
same_site (plain.Global k) = refl

pub same_body : (s : code.Site) → any_body (any_in s) ≡ body_in s
same_body (plain.Glyph g) = refl
same_body (plain.Local fd k) = refl
same_body (plain.Global k) = refl

-- its rows
any_mask : (s : AnySite) (offset len : ℕ) → masked (any_site s) offset len ≡ mask (any_body s).kind (any_body s).fd (any_body s).number offset len
any_mask (Glyph g) offset len = refl
any_mask (Local fd k) offset len = refl
any_mask (Global k) offset len = refl

-- two lengths are neighbours among all its keys
pub any-start : (rec : List ℕ) → Octets rec → (s : AnySite) → (any_body s).number < 65535
    → two_in_lem (keys_from rec (any_body s) ((any_body s).number * 281474976710656)) ≡ two_lengths_lem (rows_of rec) (any_site s)
any-start rec octets s few = two-sorted rec octets (any_body s) few (any_site s) (any_mask s)
