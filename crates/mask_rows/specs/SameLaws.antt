-- THE LAW of rows in any order (document 01, 'Reach record': order and repeats are free): what renumbering a body gives depends only on which rows of its
-- masks a record lists.
use Prim.Native.Nat.{ℕ}
use Rattle.std.specs.Prelude.{◌≡◌, Bool, ◌&&◌, not, List, [], ◌∷◌, eqb, None}
use Rattle.std.proofs.Math.Path.{refl, sym, fun_ext}
use Rattle.std.proofs.Common.{ap, ◌∙◌, subst, arith, eq-eqb, ne_eqb, eqb-true}
use Rattle.std.proofs.Math.Bool.{true, false}
use Rattle.std.proofs.lemmas.Bool.{false≢true}
use Rattle.octets.specs.Pick.{pick}
use Rattle.charstring.specs.declared.MaskLen.{MaskLen}
use Rattle.charstring.specs.declared.MaskLen.TheVariants.{Own, Given}
use Rattle.unfold.specs.Unfold.{Row, Site, masked, glyph, local, global}
use Rattle.record.specs.Record.{same_row_lem, lists, at_place, of_body, disagrees, given_in, two_lengths_lem}
use Rattle.reach.specs.Cases.{by_number}
use Rattle.prune.specs.Renumber.{Calls, renumber_charstring}
use Rattle.subset.specs.Pruned.{renumbered_body}
use Rattle.mask_rows.specs.MaskRows.{SameMasks}

-- ---- tests

pub and_left : (t u : Bool) → t && u ≡ true → t ≡ true
and_left true u e = refl
and_left false u e = absurd (false≢true e)

pub and_right : (t u : Bool) → t && u ≡ true → u ≡ true
and_right true u e = e
and_right false u e = absurd (false≢true e)

and_both : (t u : Bool) → t ≡ true → u ≡ true → t && u ≡ true
and_both true u e f = f
and_both false u e f = absurd (false≢true e)

pub either_left : (t u : Bool) → t ≡ true → pick t true u ≡ true
either_left true u e = refl
either_left false u e = absurd (false≢true e)

pub either-right : (t u : Bool) → u ≡ true → pick t true u ≡ true
either-right true u e = refl
either-right false u e = e

-- tests that hold alike are the same
pub same_truth : (t u : Bool) → (t ≡ true → u ≡ true) → (u ≡ true → t ≡ true) → t ≡ u
same_truth true u f g = sym (f refl)
same_truth false true f g = g refl
same_truth false false f g = refl

-- ---- two lengths

-- a record lists two lengths of a mask
pub record Two (rows : List Row) (site : Site) : Type 0 where
  pub offset : ℕ
  pub one : ℕ
  pub two : ℕ
  pub other : one ≡ two → ⊥
  pub first : lists rows (masked site offset one) ≡ true
  pub second : lists rows (masked site offset two) ≡ true

-- the row of a mask at a place of a body
placed_row : (r : Row) (site : Site) (offset : ℕ) → at_place r (masked site offset 0) ≡ true → same_row_lem r (masked site offset r.len) ≡ true
placed_row r (glyph g) offset e = and_both (at_place r (masked (glyph g) offset 0)) (eqb r.len r.len) e (eq-eqb r.len r.len refl)
placed_row r (local fd k) offset e = and_both (at_place r (masked (local fd k) offset 0)) (eqb r.len r.len) e (eq-eqb r.len r.len refl)
placed_row r (global k) offset e = and_both (at_place r (masked (global k) offset 0)) (eqb r.len r.len) e (eq-eqb r.len r.len refl)

same-placed : (r : Row) (site : Site) (offset len : ℕ) → same_row_lem r (masked site offset len) ≡ true → (at_place r (masked site offset 0) ≡ true) × (r.len ≡ len)
same-placed r (glyph g) offset len e = (and_left _ (eqb r.len len) e, eqb-true r.len len (and_right (at_place r (masked (glyph g) offset 0)) (eqb r.len len) e))
same-placed r (local fd k) offset len e = (and_left _ (eqb r.len len) e, eqb-true r.len len (and_right (at_place r (masked (local fd k) offset 0)) (eqb r.len len) e))
same-placed r (global k) offset len e = (and_left _ (eqb r.len len) e, eqb-true r.len len (and_right (at_place r (masked (global k) offset 0)) (eqb r.len len) e))

-- a row of a body is at its own offset
body-place : (r : Row) (site : Site) → of_body r site ≡ true → at_place r (masked site r.offset 0) ≡ true
body-place r (glyph g) e = and_both (of_body r (glyph g)) (eqb r.offset r.offset) e (eq-eqb r.offset r.offset refl)
body-place r (local fd k) e = and_both (of_body r (local fd k)) (eqb r.offset r.offset) e (eq-eqb r.offset r.offset refl)
body-place r (global k) e = and_both (of_body r (global k)) (eqb r.offset r.offset) e (eq-eqb r.offset r.offset refl)

place-body : (r : Row) (site : Site) (offset : ℕ) → at_place r (masked site offset 0) ≡ true → (of_body r site ≡ true) × (r.offset ≡ offset)
place-body r (glyph g) offset e = (and_left _ (eqb r.offset offset) e, eqb-true r.offset offset (and_right (of_body r (glyph g)) (eqb r.offset offset) e))
place-body r (local fd k) offset e = (and_left _ (eqb r.offset offset) e, eqb-true r.offset offset (and_right (of_body r (local fd k)) (eqb r.offset offset) e))
place-body r (global k) offset e = (and_left _ (eqb r.offset offset) e, eqb-true r.offset offset (and_right (of_body r (global k)) (eqb r.offset offset) e))

-- two rows at one place
abbrev pub Together : Row → Row → Type 0
Together r q = (r.kind ≡ q.kind) × (r.fd ≡ q.fd) × (r.number ≡ q.number) × (r.offset ≡ q.offset)

pub together : (r q : Row) → at_place r q ≡ true → Together r q
together r q e =
    let a = eqb r.kind q.kind in
    let b = eqb r.fd q.fd in
    let c = eqb r.number q.number in
    let d = eqb r.offset q.offset in
    let abc = and_left (a && b && c) d e in
    let ab = and_left (a && b) c abc in (
      eqb-true _ _ (and_left a b ab),
      eqb-true _ _ (and_right a b ab),
      eqb-true _ _ (and_right (a && b) c abc),
      eqb-true _ _ (and_right (a && b && c) d e),
    )

at-place : (r q : Row) → Together r q → at_place r q ≡ true
at-place r q t = rw (eq-eqb r.kind q.kind t.0, eq-eqb r.fd q.fd t.1, eq-eqb r.number q.number t.2, eq-eqb r.offset q.offset t.3)

-- a row at the place of another is at the same place of a body
at_same : (r q m : Row) → at_place r q ≡ true → at_place r m ≡ true → at_place q m ≡ true
at_same r q m e f =
    let t = together r q e in
    let u = together r m f in
    at-place q m (sym t.0 ∙ u.0, sym t.1 ∙ u.1, sym t.2 ∙ u.2, sym t.3 ∙ u.3)

at_both : (r q m : Row) → at_place r m ≡ true → at_place q m ≡ true → at_place r q ≡ true
at_both r q m e f =
    let t = together r m e in
    let u = together q m f in
    at-place r q (t.0 ∙ sym u.0, t.1 ∙ sym u.1, t.2 ∙ sym u.2, t.3 ∙ sym u.3)

differs : (a b : ℕ) → not (eqb a b) ≡ true → a ≡ b → ⊥
differs a b e h = false≢true (sym (ap not (eq-eqb a b h)) ∙ e)

disagrees-found : (r : Row) (rs : List Row) (site : Site) → of_body r site ≡ true → disagrees r rs ≡ true
    → (len : ℕ) × (r.len ≡ len → ⊥) × (lists rs (masked site r.offset len) ≡ true)
unfolding disagrees lists
disagrees-found r [] site b e = absurd (false≢true e)
disagrees-found r (q ∷ rs) site b e = by (at_place r q && not (eqb r.len q.len)) refl e (disagrees-found r rs site b)
  where
    by : (t : Bool) → at_place r q && not (eqb r.len q.len) ≡ t → pick t true (disagrees r rs) ≡ true
        → (disagrees r rs ≡ true → (len : ℕ) × (r.len ≡ len → ⊥) × (lists rs (masked site r.offset len) ≡ true))
        → (len : ℕ) × (r.len ≡ len → ⊥) × (lists (q ∷ rs) (masked site r.offset len) ≡ true)
    by true t d again =
        let p = at_same r q (masked site r.offset 0) (and_left (at_place r q) _ t) (body-place r site b) in (
          q.len,
          differs r.len q.len (and_right (at_place r q) _ t),
          either_left (same_row_lem q (masked site r.offset q.len)) _ (placed_row q site r.offset p),
        )
    by false t d again =
        let f = again d in
        (f.0, f.1, either-right (same_row_lem q (masked site r.offset f.0)) _ f.2)

pub two-found : (rows : List Row) (site : Site) → two_lengths_lem rows site ≡ true → Two rows site
unfolding two_lengths_lem lists
two-found [] site e = absurd (false≢true e)
two-found (r ∷ rs) site e = by (of_body r site && disagrees r rs) refl e (two-found rs site)
  where
    by : (t : Bool) → of_body r site && disagrees r rs ≡ t → pick t true (two_lengths_lem rs site) ≡ true → (two_lengths_lem rs site ≡ true → Two rs site) → Two (r ∷ rs) site
    by true t d again =
        let b = and_left (of_body r site) (disagrees r rs) t in
        let f = disagrees-found r rs site b (and_right (of_body r site) (disagrees r rs) t) in
        record {
          offset = r.offset;
          one = r.len;
          two = f.0;
          other = f.1;
          first = either_left (same_row_lem r (masked site r.offset r.len)) _ (placed_row r site r.offset (body-place r site b));
          second = either-right (same_row_lem r (masked site r.offset f.0)) _ f.2;
        }
    by false t d again =
        let w = again d in
        record {
          offset = w.offset;
          one = w.one;
          two = w.two;
          other = w.other;
          first = either-right (same_row_lem r (masked site w.offset w.one)) _ w.first;
          second = either-right (same_row_lem r (masked site w.offset w.two)) _ w.second;
        }

disagrees-back : (r : Row) (rs : List Row) (site : Site) (offset len : ℕ) → at_place r (masked site offset 0) ≡ true → (r.len ≡ len → ⊥)
    → lists rs (masked site offset len) ≡ true → disagrees r rs ≡ true
unfolding disagrees lists
disagrees-back r [] site offset len p n e = absurd (false≢true e)
disagrees-back r (q ∷ rs) site offset len p n e = by (same_row_lem q (masked site offset len)) refl e (disagrees-back r rs site offset len p n)
  where
    by : (t : Bool) → same_row_lem q (masked site offset len) ≡ t → pick t true (lists rs (masked site offset len)) ≡ true
        → (lists rs (masked site offset len) ≡ true → disagrees r rs ≡ true) → disagrees r (q ∷ rs) ≡ true
    by true t d again =
        let s = same-placed q site offset len t in
        let f : eqb r.len q.len ≡ false = ne_eqb r.len q.len (λ h. n (h ∙ s.1)) in
        either_left (at_place r q && not (eqb r.len q.len)) _ (and_both (at_place r q) _ (at_both r q (masked site offset 0) p s.0) (ap not f))
    by false t d again = either-right (at_place r q && not (eqb r.len q.len)) _ (again d)

pub two_back : (rows : List Row) (site : Site) (offset one two : ℕ) → (one ≡ two → ⊥) → lists rows (masked site offset one) ≡ true
    → lists rows (masked site offset two) ≡ true → two_lengths_lem rows site ≡ true
unfolding two_lengths_lem lists
two_back [] site offset one two n e f = absurd (false≢true e)
two_back (r ∷ rs) site offset one two n e f = by (same_row_lem r (masked site offset one)) (same_row_lem r (masked site offset two)) refl refl e f (two_back rs site offset one two n)
  where
    found : (l m : ℕ) → (l ≡ m → ⊥) → same_row_lem r (masked site offset l) ≡ true → lists rs (masked site offset m) ≡ true → two_lengths_lem (r ∷ rs) site ≡ true
    found l m d s g =
        let p = same-placed r site offset l s in
        either_left (of_body r site && disagrees r rs) _
        (and_both (of_body r site) _ (place-body r site offset p.0).0 (disagrees-back r rs site offset m p.0 (λ h. d (sym p.1 ∙ h)) g))

    by : (t u : Bool) → same_row_lem r (masked site offset one) ≡ t → same_row_lem r (masked site offset two) ≡ u → pick t true (lists rs (masked site offset one)) ≡ true
        → pick u true (lists rs (masked site offset two)) ≡ true
        → (lists rs (masked site offset one) ≡ true → lists rs (masked site offset two) ≡ true → two_lengths_lem rs site ≡ true) → two_lengths_lem (r ∷ rs) site ≡ true
    by true true s v g h again = absurd (n (sym (same-placed r site offset one s).1 ∙ (same-placed r site offset two v).1))
    by true false s v g h again = found one two n s h
    by false true s v g h again = found two one (λ d. n (sym d)) v g
    by false false s v g h again = either-right (of_body r site && disagrees r rs) _ (again g h)

-- ---- the length that is given

zero_one : ◌≡◌ {A = ℕ} 0 1 → ⊥
zero_one h = omega arith

given-listed : (rows : List Row) (site : Site) (offset len : ℕ) → given_in rows site offset ≡ Given len → lists rows (masked site offset len) ≡ true
unfolding given_in lists
given-listed [] site offset len e = absurd (zero_one cc)
given-listed (r ∷ rs) site offset len e = by (at_place r (masked site offset 0)) refl e (given-listed rs site offset len)
  where
    by : (t : Bool) → at_place r (masked site offset 0) ≡ t → pick t (Given r.len) (given_in rs site offset) ≡ Given len
        → (given_in rs site offset ≡ Given len → lists rs (masked site offset len) ≡ true) → lists (r ∷ rs) (masked site offset len) ≡ true
    by true t d again =
        let q : r.len ≡ len = cc in
        either_left (same_row_lem r (masked site offset len)) _ (subst (λ (l : ℕ). same_row_lem r (masked site offset l) ≡ true) q (placed_row r site offset t))
    by false t d again = either-right (same_row_lem r (masked site offset len)) _ (again d)

given-some : (rows : List Row) (site : Site) (offset len : ℕ) → lists rows (masked site offset len) ≡ true → given_in rows site offset ≡ Own → ⊥
unfolding given_in lists
given-some [] site offset len e g = false≢true e
given-some (r ∷ rs) site offset len e g = by (at_place r (masked site offset 0)) (same_row_lem r (masked site offset len)) refl refl e g (given-some rs site offset len)
  where
    by : (t u : Bool) → at_place r (masked site offset 0) ≡ t → same_row_lem r (masked site offset len) ≡ u → pick u true (lists rs (masked site offset len)) ≡ true
        → pick t (Given r.len) (given_in rs site offset) ≡ Own
        → (lists rs (masked site offset len) ≡ true → given_in rs site offset ≡ Own → ⊥) → ⊥
    by true u s v d f again = zero_one cc
    by false true s v d f again = false≢true (sym s ∙ (same-placed r site offset len v).0)
    by false false s v d f again = again d f

-- where a record has one length at each offset, the length that is given at one goes by what is listed there
pub given-alike : (rows rows' : List Row) (site : Site) → two_lengths_lem rows site ≡ false → (offset : ℕ)
    → ((len : ℕ) → lists rows (masked site offset len) ≡ lists rows' (masked site offset len)) → given_in rows site offset ≡ given_in rows' site offset
given-alike rows rows' site once offset same = by (given_in rows site offset) (given_in rows' site offset) refl refl
  where
    by : (x y : MaskLen) → given_in rows site offset ≡ x → given_in rows' site offset ≡ y → x ≡ y
    by Own Own e f = refl
    by Own (Given m) e f = absurd (given-some rows site offset m (same m ∙ given-listed rows' site offset m f) e)
    by (Given l) Own e f = absurd (given-some rows' site offset l (sym (same l) ∙ given-listed rows site offset l e) f)
    by (Given l) (Given m) e f =
        by_number l m (λ h. ap Given h)
        (λ n. absurd (false≢true (sym once
        ∙ two_back rows site offset l m n (given-listed rows site offset l e) (same m ∙ given-listed rows' site offset m f))))

-- ---- the law

module _ (rows rows' : List Row) (site : Site) (same : SameMasks rows rows' site) where
  -- whether there are two lengths
  pub same-two : two_lengths_lem rows site ≡ two_lengths_lem rows' site
  same-two =
      same_truth (two_lengths_lem rows site) (two_lengths_lem rows' site)
      (λ e. let w = two-found rows site e in
      two_back rows' site w.offset w.one w.two w.other (sym (same w.offset w.one) ∙ w.first) (sym (same w.offset w.two) ∙ w.second))
      (λ e. let w = two-found rows' site e in
      two_back rows site w.offset w.one w.two w.other (same w.offset w.one ∙ w.first) (same w.offset w.two ∙ w.second))

  -- where there are not, the length that is given
  same-given : two_lengths_lem rows site ≡ false → (offset : ℕ) → given_in rows site offset ≡ given_in rows' site offset
  same-given once offset = given-alike rows rows' site once offset (same offset)

  -- the body renumbered
  pub same_body : (calls : Calls) (s : List ℕ) → renumbered_body rows calls site s ≡ renumbered_body rows' calls site s
  unfolding renumbered_body
  same_body calls s = by (two_lengths_lem rows site) refl
    where
      by : (t : Bool) → two_lengths_lem rows site ≡ t
          → pick (two_lengths_lem rows site) None (renumber_charstring calls (given_in rows site) s)
          ≡ pick (two_lengths_lem rows' site) None (renumber_charstring calls (given_in rows' site) s)
      by true e = rw (e, sym same-two ∙ e)
      by false e =
          let g : given_in rows site ≡ given_in rows' site = fun_ext (same-given e) in
          let f : two_lengths_lem rows' site ≡ false = sym same-two ∙ e in
          rw (e, f) (ap (λ (given : ℕ → MaskLen). renumber_charstring calls given s) g)
