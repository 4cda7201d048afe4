-- Laws of keys: rows that fit are at one place exactly where their keys are equal, and of one body exactly where their bodies are.
use Rattle.std.specs.Prelude.{ℕ, ◌+◌, ◌*◌, ◌/◌, ◌%◌, ◌<◌, ◌≡◌, refl, Bool, true, false, ◌&&◌, not, List, [], ◌∷◌, eqb}
use Rattle.std.proofs.Common.{sym, ap, ◌∙◌, eq-eqb, ne_eqb}
use Rattle.std.proofs.Math.Arith.{digits_div, digits_mod}
use Rattle.octets.specs.Octets.{Octets}
use Rattle.octets.specs.Pick.{pick}
use Rattle.charstring.specs.declared.MaskLen.{MaskLen}
use Rattle.charstring.specs.declared.MaskLen.TheVariants.{Given}
use Rattle.unfold.specs.Unfold.{Row, Site, masked}
use Rattle.record.specs.Record.{at_place, of_body, disagrees, given_in, two_lengths_lem, rows_of}
use Rattle.unfold.specs.declared.Site as code
use Rattle.unfold.specs.declared.Site.TheVariants.{Glyph, Local, Global}
use Rattle.unfold.specs.Sites.{site_of}
use Rattle.reach.specs.Reach.{Fits, key_of_lem}
use Rattle.reach.specs.Masks.{body_of_lem, len_at, other_len_lem, two_of}
use Rattle.reach.specs.RowLaws.{AllFit, all_fit}
use Rattle.reach.specs.Cases.{by_number}

-- two digits to a base are equal exactly where the numbers are
both-digits : (n a b x y : ℕ) → b < n → y < n → eqb a x && eqb b y ≡ eqb (a * n + b) (x * n + y)
both-digits n a b x y h k =
    by_number (a * n + b) (x * n + y)
    (λ e. let p : a ≡ x = sym (digits_div a h) ∙ ap (λ (i : ℕ). i / n) e ∙ digits_div x k in
    let q : b ≡ y = sym (digits_mod a h) ∙ ap (λ (i : ℕ). i % n) e ∙ digits_mod x k in
    rw (eq-eqb a x p, eq-eqb b y q) (sym (eq-eqb _ _ e)))
    (λ d. by_number a x
    (λ e. let f : eqb b y ≡ false = ne_eqb b y (λ g. d (rw (e, g))) in rw (eq-eqb a x e, f) (sym (ne_eqb _ _ d)))
    (λ e. rw (ne_eqb a x e) (sym (ne_eqb _ _ d))))

-- rows of one body
pub same_body : (r q : Row) → Fits r → Fits q
    → eqb r.kind q.kind && eqb r.fd q.fd && eqb r.number q.number ≡ eqb (body_of_lem r) (body_of_lem q)
same_body r q f g =
    let e = both-digits 256 r.kind r.fd q.kind q.fd f.fd g.fd in
    ap (λ (t : Bool). t && eqb r.number q.number) e
    ∙ both-digits 65536 (r.kind * 256 + r.fd) r.number (q.kind * 256 + q.fd) q.number f.number g.number

-- rows at one place of a body
pub same_place : (r q : Row) → Fits r → Fits q → at_place r q ≡ eqb (key_of_lem r) (key_of_lem q)
same_place r q f g =
    ap (λ (t : Bool). t && eqb r.offset q.offset) (same_body r q f g)
    ∙ both-digits 4294967296 (body_of_lem r) r.offset (body_of_lem q) q.offset f.offset g.offset

-- the row of a mask of a site fits
pub mask_fits : (site : code.Site) (offset : ℕ) → Fits (masked (site_of site) 0 0) → offset < 4294967296 → Fits (masked (site_of site) offset 0)
mask_fits (Glyph g) offset f h = record { kind = f.kind; fd = f.fd; number = f.number; offset = h; len = f.len }
mask_fits (Local fd k) offset f h = record { kind = f.kind; fd = f.fd; number = f.number; offset = h; len = f.len }
mask_fits (Global k) offset f h = record { kind = f.kind; fd = f.fd; number = f.number; offset = h; len = f.len }

-- a site's key: its body and the offset
pub site_key : (site : code.Site) (offset : ℕ) → key_of_lem (masked (site_of site) offset 0) ≡ body_of_lem (masked (site_of site) 0 0) * 4294967296 + offset
site_key (Glyph g) offset = refl
site_key (Local fd k) offset = refl
site_key (Global k) offset = refl

-- the length that a record gives, by keys
pub given-by-key : (rows : List Row) (site : Site) (offset : ℕ) → AllFit rows → Fits (masked site offset 0)
    → len_at (key_of_lem (masked site offset 0)) rows ≡ given_in rows site offset
unfolding AllFit len_at given_in
given-by-key [] site offset a f = refl
given-by-key (r ∷ rs) site offset a f =
    let q = masked site offset 0 in
    let e : eqb (key_of_lem r) (key_of_lem q) ≡ at_place r q = sym (same_place r q a.0 f) in
    let i : len_at (key_of_lem q) rs ≡ given_in rs site offset = given-by-key rs site offset a.1 f in
    ap (λ (t : Bool). pick t (Given r.len) (len_at (key_of_lem q) rs)) e ∙ ap (λ (l : MaskLen). pick (at_place r q) (Given r.len) l) i

-- two lengths, by keys
other_by-key : (r : Row) (rs : List Row) → Fits r → AllFit rs → other_len_lem (key_of_lem r) r.len rs ≡ disagrees r rs
unfolding AllFit other_len_lem disagrees
other_by-key r [] f a = refl
other_by-key r (q ∷ rs) f a =
    let e : eqb (key_of_lem r) (key_of_lem q) ≡ at_place r q = sym (same_place r q f a.0) in
    let n = not (eqb r.len q.len) in
    ap (λ (t : Bool). pick (t && n) true (other_len_lem (key_of_lem r) r.len rs)) e ∙ ap (λ (t : Bool). pick (at_place r q && n) true t) (other_by-key r rs f a.1)

pub two-by-key : (rows : List Row) (site : Site) → AllFit rows → Fits (masked site 0 0) → two_of (body_of_lem (masked site 0 0)) rows ≡ two_lengths_lem rows site
unfolding AllFit two_of two_lengths_lem
two-by-key [] site a f = refl
two-by-key (r ∷ rs) site a f =
    let q = masked site 0 0 in
    let e : eqb (body_of_lem r) (body_of_lem q) ≡ of_body r site = sym (same_body r q a.0 f) in
    let o : other_len_lem (key_of_lem r) r.len rs ≡ disagrees r rs = other_by-key r rs a.0 a.1 in
    let i : two_of (body_of_lem q) rs ≡ two_lengths_lem rs site = two-by-key rs site a.1 f in
    ap (λ (t : Bool). pick (t && other_len_lem (key_of_lem r) r.len rs) true (two_of (body_of_lem q) rs)) e
    ∙ ap (λ (t : Bool). pick (of_body r site && t) true (two_of (body_of_lem q) rs)) o ∙ ap (λ (t : Bool). pick (of_body r site && disagrees r rs) true t) i

-- ---- the answers

pub given-right : (b : List ℕ) → Octets b → (site : code.Site) (offset body key : ℕ) → Fits (masked (site_of site) 0 0) → offset < 4294967296
    → body ≡ body_of_lem (masked (site_of site) 0 0) → key ≡ body * 4294967296 + offset → (r : MaskLen) → r ≡ len_at key (rows_of b)
    → r ≡ given_in (rows_of b) (site_of site) offset
given-right b o site offset body key s h e k r q =
    let f : key ≡ key_of_lem (masked (site_of site) offset 0) = k ∙ ap (λ (i : ℕ). i * 4294967296 + offset) e ∙ sym (site_key site offset) in
    q ∙ ap (λ (i : ℕ). len_at i (rows_of b)) f ∙ given-by-key (rows_of b) (site_of site) offset (all_fit b o) (mask_fits site offset s h)

pub two-right : (b : List ℕ) → Octets b → (site : code.Site) (body : ℕ) → Fits (masked (site_of site) 0 0) → body ≡ body_of_lem (masked (site_of site) 0 0) → (r : Bool)
    → r ≡ two_of body (rows_of b) → r ≡ two_lengths_lem (rows_of b) (site_of site)
two-right b o site body s e r q =
    q ∙ ap (λ (i : ℕ). two_of i (rows_of b)) e ∙ two-by-key (rows_of b) (site_of site) (all_fit b o) s
