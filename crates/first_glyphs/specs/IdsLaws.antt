-- Laws of the ids of a font's glyphs (document 01, refusal 7): gathered, each once, and sorted by their texts, they are still among them.
use Rattle.std.specs.Prelude.{ℕ, ◌+◌, ◌≤◌, ◌<◌, ◌≡◌, refl, Bool, true, false, List, [], ◌∷◌, ◌++◌, eqb, length, take, drop, get_or, set, replicate}
use Rattle.std.proofs.Common.{sym, ap, ◌∙◌, subst, not-suc-le-zero, add-one, arith, eqb-true, length-append, take_at, take-suc-set, length-take-le}
use Rattle.std.proofs.lemmas.Bool.{eqb-false}
use Rattle.std.proofs.lemmas.List.{length-replicate}
use Rattle.octets.specs.Pick.{pick}
use Rattle.subset.specs.Kept.{is_in}
use Rattle.subset.specs.KeptListLaws.{in_head, in_some}
use Rattle.name_order.specs.Sorted.{sorted}
use Rattle.name_order.specs.SortedLaws.{Rises, in_joined, sorted-length, sorted_in, sorted_rises}
use Rattle.first_glyphs.specs.FoundLaws.{Seen}
use Rattle.first_glyphs.specs.Lead.{leading, HasIds, Leads}
use Rattle.first_glyphs.specs.LeadLaws.{leads_are}

-- ---- gathered

pub has-none : (ids l : List ℕ) → HasIds ids 0 l
has-none ids l = record { has = λ h m. absurd (not-suc-le-zero m) }

-- one glyph more, whose id is among some of which the others are
has_more : (ids l m : List ℕ) (g : ℕ) → HasIds ids g l → ((y : ℕ) → is_in y l ≡ true → is_in y m ≡ true) → is_in (get_or ids g 0) m ≡ true → HasIds ids (g + 1) m
has_more ids l m g q f i = record { has = λ h b. by-glyph h b (eqb h g) refl }
  where
    by-glyph : (h : ℕ) → h < g + 1 → (t : Bool) → eqb h g ≡ t → is_in (get_or ids h 0) m ≡ true
    by-glyph h b true t = subst (λ (k : ℕ). is_in (get_or ids k 0) m ≡ true) (sym (eqb-true h g t)) i
    by-glyph h b false t = let d = eqb-false h g t in f (get_or ids h 0) (q.has h (omega arith))

module _ (ids l : List ℕ) (g id : ℕ) (is : id ≡ get_or ids g 0) where
  -- its id was seen
  pub has-seen : (seen : ℕ → Bool) → HasIds ids g l → Seen ids g seen → seen id ≡ true → HasIds ids (g + 1) l
  has-seen seen q s m =
      let o = s.only id m in
      has_more ids l l g q (λ y i. i) (subst (λ (x : ℕ). is_in x l ≡ true) (o.2 ∙ is) (q.has o.0 o.1))

  -- it is new, and put behind the others
  module _ (k : ℕ) (h : k < length l) where
    next-front : take (k + 1) (set l k id) ≡ take k l ++ (id ∷ [])
    next-front = rw add-one (take-suc-set l k id h)

    pub has_new : HasIds ids g (take k l) → HasIds ids (g + 1) (take (k + 1) (set l k id))
    has_new q =
        has_more ids (take k l) (take (k + 1) (set l k id)) g q
        (λ y i. ap (is_in y) next-front ∙ in_joined y (take k l) (id ∷ []) ∙ ap (λ (t : Bool). pick t true (is_in y (id ∷ []))) i)
        (ap (is_in (get_or ids g 0)) next-front ∙ in_joined (get_or ids g 0) (take k l) (id ∷ [])
        ∙ ap (λ (t : Bool). pick (is_in (get_or ids g 0) (take k l)) true t) (in_head id (get_or ids g 0) [] is) ∙ either (is_in (get_or ids g 0) (take k l)))
      where
        either : (t : Bool) → pick t true true ≡ true
        either true = refl
        either false = refl

-- ---- sorted

module _ (strings : List (List ℕ)) (old out : List ℕ) (k : ℕ) (fits : k ≤ length old) (few : k ≤ 65536) (is : out ≡ sorted strings 16 (take k old)) where
  out_length : length out ≡ k
  out_length = ap length is ∙ sorted-length strings 16 (take k old) ∙ length-take-le k old fits

  pub front_fits : k ≤ length (out ++ drop k old)
  front_fits = omega (arith, length-append out (drop k old), out_length)

  front : take k (out ++ drop k old) ≡ sorted strings 16 (take k old)
  front = take_at out (drop k old) k out_length ∙ is

  pub front_length : length (take k (out ++ drop k old)) ≡ k
  front_length = ap length front ∙ sorted-length strings 16 (take k old) ∙ length-take-le k old fits

  front-rises : Rises strings (take k (out ++ drop k old))
  front-rises = subst (Rises strings) (sym front) (sorted_rises strings 16 (take k old) (omega (arith, length-take-le k old fits)))

  pub front-leads : (ids leads new : List ℕ) (n : ℕ) → length ids ≡ n → HasIds ids n (take k old) → ((i : ℕ) → get_or (take k (out ++ drop k old)) i 0 < 65536)
      → length leads ≡ 65536 → new ≡ leading strings (get_or (take k (out ++ drop k old)) 0 0) (take k (out ++ drop k old)) leads → Leads strings ids new
  front-leads ids leads new n size q small s e =
      leads_are strings ids (take k (out ++ drop k old)) leads new
      (record { has = λ h m. ap (is_in (get_or ids h 0)) front ∙ sorted_in strings 16 (take k old) (get_or ids h 0) ∙ q.has h (omega arith) })
      front-rises small s e

-- some are gathered where there are glyphs
pub some-ids : (ids l : List ℕ) (n : ℕ) → 0 < n → HasIds ids n l → 0 < length l
some-ids ids l n h q = in_some l (get_or ids 0 0) (q.has 0 h)

-- ---- arrays

pub ids_long : (l : List ℕ) (x : ℕ) → l ≡ replicate 65536 x → length l ≡ 65536
ids_long l x e = ap length e ∙ length-replicate {A = ℕ} 65536 x
