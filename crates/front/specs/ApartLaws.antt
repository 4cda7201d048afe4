-- Laws of the kept glyphs of a name-keyed subset: their names differ.
use Rattle.std.specs.Prelude.{ℕ, zero, suc, ◌<◌, ◌≡◌, refl, Bool, true, false, List, [], ◌∷◌, length, take, get_or}
use Rattle.std.proofs.Common.{sym, ap, ◌∙◌, subst, le_of_suc-le-suc, not-suc-le-zero, arith}
use Rattle.octets.specs.Pick.{pick}
use Rattle.bits.specs.Bits.{bit_in}
use Rattle.dict.specs.Lookup.{cid_keyed}
use Rattle.strings.specs.TextLaws.{same_not}
use Rattle.cff.specs.Font.{Program}
use Rattle.cff.specs.Reads.{GoodFont, program_of}
use Rattle.cff.specs.declared.font.Font.{Font}
use Rattle.subset.specs.Kept.{is_in, sorted_by}
use Rattle.subset.specs.Texts.{has_text, name_of, names_of}
use Rattle.subset.specs.Cut.{all_found_lem}
use Rattle.subset.specs.KeptListLaws.{in_head, in_more, in_at, Distinct, one, those-distinct}
use Rattle.subset.proofs.TextsLaws.{names-length}
use Rattle.faithful.specs.FoundLaws.{names-differ}
use Rattle.order.specs.Order.{kept_in}
use Rattle.order.specs.Walks.{many_in}
use Rattle.order_window.specs.Window.{glyphs_of}
use Rattle.own_strings.specs.Slots.{Different}
use Rattle.name_strings.specs.Names.{NamesApart}
use Rattle.name_strings.specs.NamesLaws.{order-names}

name-at : (p : Program) (gs : List ℕ) (i : ℕ) → i < length gs → get_or (names_of p gs) i [] ≡ name_of p (get_or gs i 0)
unfolding names_of
name-at p [] i h = absurd (not-suc-le-zero h)
name-at p (g ∷ gs) zero h = refl
name-at p (g ∷ gs) (suc i) h = name-at p gs i (le_of_suc-le-suc h)

name-apart : (p : Program) (gs : List ℕ) (i : ℕ) → Distinct gs → ((g h : ℕ) → is_in g gs ≡ true → is_in h gs ≡ true → name_of p g ≡ name_of p h → g ≡ h) → i < length gs
    → has_text (name_of p (get_or gs i 0)) (take i (names_of p gs)) ≡ false
unfolding has_text names_of
name-apart p [] i d f h = absurd (not-suc-le-zero h)
name-apart p (x ∷ xs) zero d f h = refl
name-apart p (x ∷ xs) (suc i) (one n d) f h =
    let y = get_or xs i 0 in
    let b : is_in y xs ≡ true = in_at xs i (le_of_suc-le-suc h) in
    let m : name_of p x ≡ name_of p y → ⊥ = λ e. n (ap (λ (k : ℕ). is_in k xs) (f x y (in_head x x xs refl) (in_more x y xs b) e) ∙ b) in
    simp (same_not (name_of p x) (name_of p y) m) (name-apart p xs i d (λ g h a c e. f g h (in_more x g xs a) (in_more x h xs c) e) (le_of_suc-le-suc h))

names_different : (p : Program) (gs : List ℕ) → Distinct gs → ((g h : ℕ) → is_in g gs ≡ true → is_in h gs ≡ true → name_of p g ≡ name_of p h → g ≡ h)
    → Different (names_of p gs)
names_different p gs d f =
    record {
      apart =
          λ i h. let k : i < length gs = omega (arith, names-length p gs) in
          ap (λ (t : List ℕ). has_text t (take i (names_of p gs))) (name-at p gs i k) ∙ name-apart p gs i d f k;
    }

module _ (b : List ℕ) (f : Font) (ws : List ℕ) (good : GoodFont b f) where
  abbrev p : Program
  p = program_of b f

  -- the names of glyphs of which finding gives each differ
  pub names_apart : cid_keyed p.top ≡ false → all_found_lem p (kept_in (many_in f) ws) ≡ true → NamesApart b f ws
  names_apart keyed found =
      let kept = kept_in (many_in f) ws in
      let e : glyphs_of b f ws ≡ kept = ap (λ (t : Bool). pick t (sorted_by (λ g. get_or p.ids g 0) kept) kept) keyed in
      record {
        apart =
            subst Different (sym (order-names b f ws good.glyphs.held.few ∙ ap (names_of p) e))
            (names_different p kept (those-distinct (bit_in ws 0) (many_in f) 0) (names-differ p kept found keyed));
      }
