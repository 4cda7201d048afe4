-- Laws of finding (document 01, refusal 7): a glyph is found where no glyph before it has its id or name.
use Rattle.std.specs.Prelude.{ℕ, zero, suc, ◌+◌, ◌-◌, ◌≤◌, ◌<◌, ◌≡◌, refl, Bool, true, false, List, [], ◌∷◌, eqb, length, get_or, Option, Some}
use Rattle.std.proofs.Math.Path.{sym, ap}
use Rattle.std.proofs.Common.{◌∙◌, not-suc-le-zero, arith, eq-eqb, ne_eqb, eqb-true}
use Rattle.std.proofs.lemmas.Bool.{eqb-false}
use Rattle.octets.specs.Pick.{pick, pick_ind}
use Rattle.prune.specs.StepLaws.{zero_one}
use Rattle.strings.specs.Strings.{string_text}
use Rattle.find.specs.Find.{glyph_with_id}
use Rattle.subset.specs.Kept.{those}
use Rattle.subset.specs.Cut.{is_glyph}
use Rattle.kept.specs.Packed.{all_of, cid_found, text_found, name_found}
use Rattle.kept.specs.GatherLaws.{those-taken, those-passed, those_done, those-whole}

-- ---- a test of all

module _ (test t : ℕ → Bool) (n : ℕ) where
  pub all_start : all_of test (those t (n - 0) 0) ≡ all_of test (those t n 0)
  all_start = ap (all_of test) (those-whole t n)

  -- one that counts and passes, one that counts and fails, and one that does not count
  pub all-taken : (g : ℕ) → g < n → t g ≡ true → test g ≡ true → all_of test (those t (n - (g + 1)) (g + 1)) ≡ all_of test (those t (n - g) g)
  unfolding all_of
  all-taken g h c p = sym (ap (all_of test) (those-taken t n g h c) ∙ ap (λ (b : Bool). pick b (all_of test (those t (n - (g + 1)) (g + 1))) false) p)

  pub all_stops : (g : ℕ) → g < n → t g ≡ true → test g ≡ false → false ≡ all_of test (those t (n - g) g)
  unfolding all_of
  all_stops g h c p = sym (ap (all_of test) (those-taken t n g h c) ∙ ap (λ (b : Bool). pick b (all_of test (those t (n - (g + 1)) (g + 1))) false) p)

  pub all-passed : (g : ℕ) → g < n → t g ≡ false → all_of test (those t (n - (g + 1)) (g + 1)) ≡ all_of test (those t (n - g) g)
  all-passed g h c = ap (all_of test) (sym (those-passed t n g h c))

  -- one that passes, whether it counts or not
  pub all_either : (g : ℕ) → g < n → test g ≡ true → (b : Bool) → t g ≡ b → all_of test (those t (n - (g + 1)) (g + 1)) ≡ all_of test (those t (n - g) g)
  all_either g h p true c = all-taken g h c p
  all_either g h p false c = all-passed g h c

  pub all_done : (g : ℕ) → n ≤ g → true ≡ all_of test (those t (n - g) g)
  unfolding all_of
  all_done g h = ap (all_of test) (sym (those_done t n g h))

  -- there are no glyphs
  pub none_found : n ≡ 0 → true ≡ all_of test (those t n 0)
  unfolding those all_of
  none_found e = sym (ap (λ (m : ℕ). all_of test (those t m 0)) e)

-- ---- a glyph that was looked for

pub glyph_as : (g : ℕ) (x y : Option ℕ) → x ≡ y → is_glyph g x ≡ is_glyph g y
glyph_as g x y e = ap (λ (z : Option ℕ). is_glyph g z) e

-- by the text of its id
pub name_by : (strings : List (List ℕ)) (ids : List ℕ) (g id : ℕ) (name : List ℕ) (r : Bool) → id ≡ get_or ids g 0 → name ≡ string_text strings id
    → r ≡ text_found strings ids name g → r ≡ name_found strings ids g
name_by strings ids g id name r i n e = e ∙ ap (λ (x : List ℕ). text_found strings ids x g) (n ∙ ap (string_text strings) i)

-- the first glyph with an id is found
first_is : (id s : ℕ) (l : List ℕ) (g : ℕ) → g < length l → get_or l g 0 ≡ id → ((h : ℕ) → h < g → get_or l h 0 ≡ id → ⊥) → glyph_with_id id s l ≡ Some (s + g)
unfolding glyph_with_id
first_is id s [] g h e f = absurd (not-suc-le-zero h)
first_is id s (x ∷ l) zero h e f = let z : s ≡ s + 0 = omega arith in simp (eq-eqb x id e) (ap Some z)
first_is id s (x ∷ l) (suc g) h e f =
    let z : s + 1 + g ≡ s + suc g = omega arith in
    simp (ne_eqb x id (f 0 (omega arith))) (first_is id (s + 1) l g (omega arith) e (λ k m. f (suc k) (omega arith)) ∙ ap Some z)

-- one at place h or before it is found where the one at place h has the id
pub first-before : (id s : ℕ) (l : List ℕ) (h : ℕ) → h < length l → get_or l h 0 ≡ id
    → (k : ℕ) × (k ≤ h) × (get_or l k 0 ≡ id) × (glyph_with_id id s l ≡ Some (s + k))
unfolding glyph_with_id
first-before id s [] h m e = absurd (not-suc-le-zero m)
first-before id s (x ∷ l) zero m e = let z : s ≡ s + 0 = omega arith in (0, omega arith, e, simp (eq-eqb x id e) (ap Some z))
first-before id s (x ∷ l) (suc h) m e =
    let r = first-before id (s + 1) l h (omega arith) e in
    let y : s ≡ s + 0 = omega arith in
    let z : s + 1 + r.0 ≡ s + suc r.0 = omega arith in
    pick_ind (λ (f : Option ℕ). (k : ℕ) × (k ≤ suc h) × (get_or (x ∷ l) k 0 ≡ id) × (f ≡ Some (s + k))) (eqb x id) (Some s) (glyph_with_id id (s + 1) l)
    (λ t. (0, omega arith, eqb-true x id t, ap Some y))
    (λ t. (suc r.0, omega (arith, r.1), r.2, r.3 ∙ ap Some z))

-- ---- ids that were seen

-- the ids of the first g glyphs are in a set, and no others
pub record Seen (ids : List ℕ) (g : ℕ) (seen : ℕ → Bool) : Type 0 where
  pub all : (h : ℕ) → h < g → seen (get_or ids h 0) ≡ true
  pub only : (c : ℕ) → seen c ≡ true → (h : ℕ) × (h < g) × (get_or ids h 0 ≡ c)

pub seen_none : (ids : List ℕ) (seen : ℕ → Bool) → ((c : ℕ) → seen c ≡ false) → Seen ids 0 seen
seen_none ids seen e =
    record {
      all = λ h m. absurd (not-suc-le-zero m);
      only = λ c t. let f : seen c ≡ false = e c in absurd (zero_one cc);
    }

module _ (ids : List ℕ) (g : ℕ) (seen : ℕ → Bool) (s : Seen ids g seen) (id : ℕ) (is : id ≡ get_or ids g 0) where
  -- an id that was seen: another glyph is found
  pub seen_not : g < length ids → seen id ≡ true → cid_found ids g ≡ false
  seen_not h m =
      let o = s.only id m in
      let r = first-before (get_or ids g 0) 0 ids o.0 (omega (arith, o.1)) (o.2 ∙ is) in
      glyph_as g _ _ r.3 ∙ ne_eqb (0 + r.0) g (λ e. omega (arith, r.1, o.1))

  -- a new id: the glyph is found
  pub seen-found : g < length ids → seen id ≡ false → cid_found ids g ≡ true
  seen-found h m =
      let f = first_is (get_or ids g 0) 0 ids g h refl (λ k l e. let t : seen id ≡ true = ap seen (is ∙ sym e) ∙ s.all k l in zero_one cc) in
      glyph_as g _ _ f ∙ eq-eqb (0 + g) g (omega arith)

  -- its id is in the set, and was there or not
  module _ (then : ℕ → Bool) (grows : (c : ℕ) → then c ≡ pick (eqb c id) true (seen c)) where
    seen_stays : (c : ℕ) → seen c ≡ true → (t : Bool) → pick t true (seen c) ≡ true
    seen_stays c m true = refl
    seen_stays c m false = m

    seen_all : (k : ℕ) → k < g + 1 → (t : Bool) → eqb (get_or ids k 0) id ≡ t → then (get_or ids k 0) ≡ true
    seen_all k l true t = grows (get_or ids k 0) ∙ ap (λ (b : Bool). pick b true (seen (get_or ids k 0))) t
    seen_all k l false t =
        let d = eqb-false (get_or ids k 0) id t in
        let n : k ≡ g → ⊥ = λ e. d (ap (λ (j : ℕ). get_or ids j 0) e ∙ sym is) in
        grows (get_or ids k 0) ∙ seen_stays (get_or ids k 0) (s.all k (omega arith)) (eqb (get_or ids k 0) id)

    seen-only : (c : ℕ) → then c ≡ true → (t : Bool) → eqb c id ≡ t → (k : ℕ) × (k < g + 1) × (get_or ids k 0 ≡ c)
    seen-only c q true t = (g, omega arith, sym is ∙ sym (eqb-true c id t))
    seen-only c q false t =
        let o = s.only c (sym (grows c ∙ ap (λ (b : Bool). pick b true (seen c)) t) ∙ q) in
        (o.0, omega (arith, o.1), o.2)

    pub seen_next : Seen ids (g + 1) then
    seen_next = record { all = λ k l. seen_all k l (eqb (get_or ids k 0) id) refl; only = λ c q. seen-only c q (eqb c id) refl }

-- a test that is asked where a flag is set
pub flag-unset : (flag : Bool) (r : Bool) → flag ≡ false → true ≡ pick flag r true
flag-unset flag r e = sym (ap (λ (b : Bool). pick b r true) e)

pub flag-set : (flag : Bool) (r s : Bool) → flag ≡ true → s ≡ r → s ≡ pick flag r true
flag-set flag r s e h = h ∙ sym (ap (λ (b : Bool). pick b r true) e)

pub flag-either : (flag : Bool) (r : Bool) → r ≡ true → true ≡ pick flag r true
flag-either true r e = sym e
flag-either false r e = refl
